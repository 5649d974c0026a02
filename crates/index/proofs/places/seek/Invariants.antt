-- `places::seek` walks to the first place that holds the word. The loop holds that the walk from here stops where the whole walk stops.
use Rattle.std.proofs.Common.{◌≡◌, ℕ, ◌-◌, ◌<◌, eqb, List, length}
use Rattle.index.specs.Walk.{walk_from, seek}
use Rattle.index.proofs.places.seek.Given as goal

-- The place is one of the index, and the walk from here stops where the whole walk stops.
pub record Walking (ix : List ℕ) (hash word q left : ℕ) : Type 0 where
  pub below : q < length ix
  pub same : walk_from ix (λ v. eqb v word) q left ≡ seek ix hash word

abbrev pub invariant-loop : goal.invariant-loop
invariant-loop l = Walking l.ix l.hash l.word l.q (length l.ix - l.counter)
