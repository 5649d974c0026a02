-- `find_on` walks on from the home place. The loop holds that the lookup from here gives what it gives from the place after the home.
use Rattle.std.proofs.Common.{◌≡◌, ℕ, ◌-◌, ◌<◌, List}
use Rattle.index.specs.declared.Index.{Index}
use Rattle.index.specs.Walk.{onward, find_from}
use Rattle.index.specs.Layout.{places_of, keyed}
use Rattle.index.proofs.find_on.Given as goal

-- The place is one of the index, and the lookup from here gives what it gives from the place after the home.
pub record Walking (ws : List ℕ) (index : Index) (n hash key home q left : ℕ) : Type 0 where
  pub below : q < index.size
  pub same : find_from n (keyed index ws hash key) (places_of index ws) q left
      ≡ find_from n (keyed index ws hash key) (places_of index ws) (onward index.size home) (index.size - 1)

abbrev pub invariant-loop : goal.invariant-loop
invariant-loop l = Walking l.ws l.index l.n l.hash l.key l.home l.q (l.index.size - 1 - l.counter)
