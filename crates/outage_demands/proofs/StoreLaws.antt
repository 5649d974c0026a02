-- The program runs its rows on a fresh store: the words that it lends the run are those that the set_up_lem of line 1 left.
use Prim.Native.Nat.{ℕ}
use native.Mathlib.Omega.{arith}
use mathlib.Core.Path.{◌≡◌, refl, sym, ap, ◌∙◌}
use mathlib.Core.List.{List, []}
use lib.ListN.{length, take, drop, length-append, length-drop, length-replicate}
use lib.Seq.{length-take-le, take_at}
use Rattle.arith.proofs.Cases.{by_eq}
use Rattle.rows.specs.Outcome.{Outcome}
use Rattle.settings.specs.declared.Settings.{Settings}
use Rattle.store.specs.Refusals.{set_up_refusal}
use Rattle.rules.specs.declared.Reply.{Reply}
use Rattle.rules.specs.Rules.{set_up}
use Rattle.rules.specs.Asks.{with_table}
use Rattle.rules.proofs.RefusedLaws.{set_up_zeroes, set_up_refusal_is_told}
use Rattle.desk_answers.specs.declared.Served.{Served}
use Rattle.desk_answers.specs.Desk.{store_size}
use Rattle.desk_answers.specs.Desk as Desk
use Rattle.desk_answers.proofs.DeskLaws.{size_fits}
use Rattle.outage_rows.specs.declared.Row.{Row}
use Rattle.outage_rows.specs.Model.{outage}
use Rattle.outage_rows.specs.Printed.{printed_rows}
use Rattle.outage_run.specs.Run.{Village, comes_up}
use Rattle.outage_demands.specs.Village.{fresh}

-- Set-up leaves as many words as it was lent, accepted or not.
set_up_length : (s : Settings) (ws : List ℕ) → length (set_up s ws).after ≡ length ws
set_up_length s ws =
    by_eq (set_up_refusal (with_table [] s) ws) 0
    (λ none. ap (λ (o : Outcome Reply (List ℕ)). length o.after) (sym (set_up_zeroes s ws refl none)) ∙ length-replicate (length ws) 0)
    (λ some. ap (λ (o : Outcome Reply (List ℕ)). length o.after) (sym (set_up_refusal_is_told s ws refl some)))

module _ (s : Settings) (memory : List ℕ) where
  abbrev size : ℕ
  size = store_size s (length memory)

  -- The memory after line 1.
  abbrev after : List ℕ
  after = (Desk.set_up s memory).after

  front : length (set_up s (take size memory)).after ≡ size
  front = set_up_length s (take size memory) ∙ length-take-le size memory (size_fits s (length memory))

  as_long : length after ≡ length memory
  as_long = omega (arith, front, length-append (set_up s (take size memory)).after (drop size memory), length-drop size memory, size_fits s (length memory))

  store_is_fresh : take (store_size s (length after)) after ≡ (set_up s (take size memory)).after
  store_is_fresh = rw as_long (take_at (set_up s (take size memory)).after (drop size memory) size front)

  -- What is printed for the rows is what is printed for their run on a fresh store.
  pub village_runs_fresh : (v : Village) → v.memory ≡ after → (comes_up s v).answer ≡ printed_rows (outage s (fresh s (take size memory) v.rows [])).rows
  unfolding comes_up
  village_runs_fresh v is = rw (is, store_is_fresh)
