-- Laws of the plan of a call that lists debts: what its refusals come to, that its records can be written, and that they are the call's.
use Prim.Native.Nat.{ℕ, ◌≤◌, ◌<◌}
use native.Mathlib.Omega.{arith}
use mathlib.Core.Path.{◌≡◌, refl, sym, ap, ◌∙◌}
use mathlib.Core.List.{List}
use lib.ListN.{length, take}
use lib.Seq.{take-length}
use Rattle.std.proofs.Common.{Result}
use Rattle.units.specs.declared.Nanos.{Nanos}
use Rattle.rows.specs.Outcome.{outcome}
use Rattle.settings.specs.declared.Settings.{Settings}
use Rattle.settings.specs.declared.refusal.Refusal.{Refusal}
use Rattle.settings.specs.Refusal.{number_of, GivenUnless}
use Rattle.settings.specs.Settings.{first_refusal, shape_of, shard_count, most_counted, ShapeOfAccepted}
use Rattle.settings.proofs.RefusalLaws.{has_a_number, stands}
use Rattle.settings.proofs.SettingsLaws.{no_refusal_hands_on, neither_refuses}
use Rattle.ledger.specs.declared.Debt.{Debt}
use Rattle.ledger.specs.Model.{Ledger}
use Rattle.store.specs.declared.Part.{Part}
use Rattle.store.specs.Memory.{Placed, part_at}
use Rattle.store.specs.Refusals.{set_up_refusal, moment_refusal}
use Rattle.store.proofs.MemoryLaws.{shard_ends}
use Rattle.store.proofs.LendingLaws.{accepted_shape}
use Rattle.store.proofs.RefusalLaws.{SetUp, set_up_not_refused, refusals_in_a_row}
use Rattle.rules.specs.declared.Reply.TheVariants.{Count, Refused}
use Rattle.rules.specs.Debts.{listed, written, shard_refusal, ledger_refusal, debts_refusal_in, lent, list_debts, list_debts_in}
use Rattle.rules.proofs.DebtLaws.{shard_not_refused, debt_count_not_refused, debts_not_refused}
use Rattle.rules.proofs.RefusedLaws.{unless_refused_accepts, number_is_told}
use Rattle.debt_calls.specs.declared.Plan.{Plan}
use Rattle.debt_calls.specs.code.Listing.{ledger_in, Fillable, call_refusal, plan_in, plan_of}

-- Where nothing is refused before the ledger is looked at: the shape is of an accepted size, the number is that of a shard, and its part lies in the memory.
pub record Called (s : Settings) (i : ℕ) (ws : List ℕ) : Type 0 where
  pub shaped : s.classes ≤ most_counted → ShapeOfAccepted (shape_of s)
  pub below : i < (shape_of s).shards
  pub placed : Placed (part_at (shape_of s) i) ws

-- The part of a shard by its number lies in memory of the right length.
shard_placed : (s : Settings) (i : ℕ) (ws : List ℕ) → SetUp s ws → i < shard_count s → Placed (part_at (shape_of s) i) ws
shard_placed s i ws set_up_lem below = record { begins = omega arith; ends = refl; within = shard_ends s i ws set_up_lem.size below }

module _ (s : Settings) (at : Nanos) (i : ℕ) (ws : List ℕ) where
  pub call_not_refused : call_refusal s at i ws ≡ 0 → Called s i ws
  call_not_refused none =
      let first = neither_refuses (set_up_refusal s ws) _ none in
      let set_up_lem : SetUp s ws = set_up_not_refused s ws first.0 in
      let number = shard_not_refused (shape_of s) i (neither_refuses (moment_refusal at) _ first.1).1 in
      record {
        shaped = λ few. accepted_shape s set_up_lem.settings few refl;
        below = number;
        placed = shard_placed s i ws set_up_lem number;
      }

  -- The call is refused first by these, then for its ledger.
  module _ (room : ℕ) where
    abbrev ledger : Ledger
    ledger = ledger_in (part_at (shape_of s) i) ws

    pub refusals_of_the_call : debts_refusal_in (shape_of s) s at i room ws
        ≡ first_refusal (call_refusal s at i ws) (ledger_refusal (shape_of s).cap at room ledger)
    refusals_of_the_call =
        let last : ℕ = ledger_refusal (shape_of s).cap at room ledger in
        sym
        (refusals_in_a_row (set_up_refusal s ws) (first_refusal (moment_refusal at) (shard_refusal (shape_of s) i)) last
        ∙ ap (first_refusal (set_up_refusal s ws)) (refusals_in_a_row (moment_refusal at) (shard_refusal (shape_of s) i) last))

    pub call_refuses : (r : Refusal) → number_of r ≡ call_refusal s at i ws → number_of r ≡ debts_refusal_in (shape_of s) s at i room ws
    call_refuses r number = stands r _ number ∙ sym refusals_of_the_call

    pub ledger_decides : {part' : Part} (result : Result Plan Refusal) → call_refusal s at i ws ≡ 0 → part' ≡ part_at (shape_of s) i
        → GivenUnless (ledger_refusal part'.cap at room (ledger_in part' ws)) (plan_in part' at ws) result
        → GivenUnless (debts_refusal_in (shape_of s) s at i room ws) (plan_of s at i ws) result
    ledger_decides result none is gave = rw (refusals_of_the_call, no_refusal_hands_on _ _ none) (rw is at gave)

-- A call that is not refused can write its plan, and the reply and the records are then the call's.
module _ (s : Settings) (at : Nanos) (i : ℕ) (records : List Debt) (ws : List ℕ) where
  abbrev chosen : Part
  chosen = part_at (shape_of s) i

  abbrev number : ℕ
  number = debts_refusal_in (shape_of s) s at i (length records) ws

  abbrev debts : List Debt
  debts = listed at (ledger_in chosen ws)

  -- What `fill` asks of the plan.
  pub plan_is_ready : {plan : Plan} → number ≡ 0 → plan ≡ plan_of s at i ws → Fillable plan.part ws at plan.count × (plan.count ≤ length records)
  plan_is_ready none is =
      let call = debts_not_refused s at i (length records) ws none in
      rw is (
        record {
          readable = λ some. record {
            placed = shard_placed s i ws (set_up_not_refused s ws call.set_up_lem) call.shard;
            few = debt_count_not_refused chosen.cap (ledger_in chosen ws) call.count_fits;
          };
          enough = omega arith;
        },
        call.records_fit_lem,
      )

  pub plan_leads : {plan : Plan} {after : List Debt} → number ≡ 0 → plan ≡ plan_of s at i ws
      → after ≡ written (take plan.count (listed at (ledger_in plan.part ws))) records
      → outcome (Count plan.count) (lent ws after) ≡ list_debts s at i (lent ws records)
  unfolding list_debts_in
  plan_leads none is wrote = rw (wrote, is, take-length debts) (sym (unless_refused_accepts number (lent ws records) _ none))

  pub refusal_leads : (r : Refusal) → number_of r ≡ number → outcome (Refused (number_of r)) (lent ws records) ≡ list_debts s at i (lent ws records)
  unfolding list_debts_in
  refusal_leads r is = number_is_told number (lent ws records) _ is (has_a_number r)
