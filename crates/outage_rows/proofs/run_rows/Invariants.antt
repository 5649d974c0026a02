-- `run_rows` tries row after row. The loop holds that the run from here comes to where it comes from the start; each try takes one of the tries left.
use Rattle.outage_rows.proofs.RunLaws.{tries_left, RunsTo}
use Rattle.outage_rows.specs.Layout.{row_width, rows_in, state_in}
use Rattle.outage_rows.specs.Model.{outage}
use Rattle.settings.specs.declared.Settings.{Settings}
use lib.ListN.{length}
use mathlib.Core.List.{List}
use mathlib.Core.Path.{◌≡◌}
use Prim.Native.Nat.{ℕ, ◌*◌, ◌≤◌}
use Rattle.outage_rows.proofs.run_rows.Given as goal

-- From here the run comes to where it comes from the start, and the words are as long as then.
pub record Running (s : Settings) (n : ℕ) (rs₀ ws₀ rs ws : List ℕ) : Type 0 where
  pub long : length rs ≡ length rs₀
  pub wide : length ws ≡ length ws₀
  pub room : row_width * n ≤ length rs
  pub same : RunsTo s (state_in n rs ws) (outage s (state_in n rs₀ ws₀))

abbrev pub invariant-loop-p : goal.invariant-loop-p
invariant-loop-p l = Running l.settings l.n l.initial.rs l.initial.ws l.rs l.ws

abbrev pub decreases-loop-p : goal.decreases-loop-p
decreases-loop-p l = tries_left (rows_in l.n l.rs)
