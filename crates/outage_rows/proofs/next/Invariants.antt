-- `next` looks at row after row. The loop holds that the walk from here, over the places left, is the walk from the start.
use Rattle.std.proofs.Common.{Option}
use Rattle.outage_rows.specs.Layout.{rows_in}
use Rattle.outage_rows.specs.Model.{next_from, Below}
use Rattle.outage_rows.specs.Model as Model
use mathlib.Core.List.{List}
use mathlib.Core.Path.{◌≡◌}
use Prim.Native.Nat.{ℕ, ◌-◌}
use Rattle.outage_rows.proofs.next.Given as goal

-- The walk from here, over the places that are left, is the walk from the start.
pub record Looking (rs : List ℕ) (n : ℕ) (best : Option ℕ) (i : ℕ) : Type 0 where
  pub known : Below n best
  pub same : next_from (rows_in n rs) i (n - i) best ≡ Model.next (rows_in n rs)

abbrev pub invariant-loop-i : goal.invariant-loop-i
invariant-loop-i l = Looking l.rs l.n l.best l.i
