-- What every operation of the ledger leaves fits 64 bits, free places too, where what it is given fits.
use Rattle.std.proofs.Common.{Option, Some, None, Ok, Err}
use Prim.Native.Nat.{ℕ, zero, suc, ◌+◌, ◌≤◌, ◌<◌}
use mathlib.Core.Path.{◌≡◌, refl, sym}
use mathlib.Core.Bool.{Bool}
use native.Mathlib.Omega.{arith}
use lib.Dec.{ltb}
use borrow.Author.Tests.{ltb-true, ltb-false}
use Rattle.arith.proofs.Cases.{by_test}
use Rattle.units.specs.declared.Nanos.{Nanos}
use Rattle.bucket.specs.declared.BucketConfig.{BucketConfig}
use Rattle.rows.specs.Outcome.{Outcome}
use Rattle.ledger.specs.declared.Debt.{Debt}
use Rattle.ledger.specs.declared.Choice.{Choice}
use Rattle.ledger.specs.declared.Choice.TheVariants.{Settled, Soonest}
use Rattle.ledger.specs.Model.{Recorded}
use Rattle.ledger.specs.Model.{Ledger, Sound, no_debt, debt_items, cap_of, debt_at, settled_by, has_settled, cursor_of, with_cursor, with_debt, place_of}
use Rattle.ledger.specs.Model.{remove_at}
use Rattle.ledger.specs.Model.{append, taken, round_of, sweep}
use Rattle.ledger.specs.Model.{sooner, scan_from, scan, drop_chosen, make_room, joined, recorded_at, recorded, paid_down}
use Rattle.ledger.proofs.StepLaws.{removal_count, found_owes, taken_cases, paid_cases}
use Rattle.ledger.proofs.RecordLaws.{chosen, scan_chooses_held, done_is_no_refusal}
use Rattle.rules.specs.Calls.{Every}
use Rattle.demands.proofs.EveryLaws.{of_either}
use Rattle.demands.proofs.WordFits.{Word, next_place_fits, HeldFits, item_fits, stored_fits, appended_fits, removed_fits, swept_fits}

-- A debt and a ledger whose words fit.
pub record DebtFits (d : Debt) : Type 0 where
  pub hash : Word d.hash
  pub settles : Word d.settles.0

pub record LedgerFits (l : Ledger) : Type 0 where
  pub debts : HeldFits DebtFits l.debts
  pub cursor : Word l.cursor
  pub others : Every Word l.others

no_debt_fits : DebtFits no_debt
no_debt_fits = record { hash = omega arith; settles = omega arith }

-- The single steps.
module _ (l : Ledger) (f : LedgerFits l) where
  debt_at_fits : (i : ℕ) → DebtFits (debt_at l i)
  debt_at_fits i = item_fits DebtFits l.debts f.debts debt_items no_debt_fits i

  moved_cursor_fits : (c : ℕ) → Word c → LedgerFits (with_cursor l c)
  moved_cursor_fits c fits = record { debts = f.debts; cursor = fits; others = f.others }

  changed_debt_fits : (i : ℕ) (d : Debt) → DebtFits d → LedgerFits (with_debt l i d)
  changed_debt_fits i d fits = record { debts = stored_fits DebtFits l.debts f.debts i d fits; cursor = f.cursor; others = f.others }

  debt_removed_fits : (p : ℕ) → p < l.debts.count → LedgerFits (remove_at l p)
  unfolding remove_at
  debt_removed_fits p below = record {
    debts = removed_fits DebtFits l.debts f.debts debt_items no_debt_fits p below;
    cursor = f.cursor;
    others = f.others;
  }

  debt_appended_fits : (d : Debt) → DebtFits d → Word (l.debts.count + 1) → LedgerFits (append l d)
  unfolding append
  debt_appended_fits d fits next = record { debts = appended_fits DebtFits l.debts f.debts debt_items d fits next; cursor = f.cursor; others = f.others }

  next_cursor_fits : LedgerFits (with_cursor l (cursor_of l + 1))
  next_cursor_fits = moved_cursor_fits _ (next_place_fits l.cursor l.debts.count f.debts.count)

  resting_cursor_fits : LedgerFits (with_cursor l (cursor_of l))
  resting_cursor_fits = moved_cursor_fits _ (omega (arith, next_place_fits l.cursor l.debts.count f.debts.count))

-- The sweep.
pub sweep_fits : (at : Nanos) (n : ℕ) (l : Ledger) → LedgerFits l → LedgerFits (sweep at n l)
unfolding sweep
sweep_fits at n l f =
    let swept = swept_fits DebtFits debt_items no_debt_fits (settled_by at) n (round_of l) (record { items = f.debts; next = f.cursor }) in
    record { debts = swept.items; cursor = swept.next; others = f.others }

-- Taking out and paying down.
pub taken_fits : (l : Ledger) (h : ℕ) → LedgerFits l → LedgerFits (taken l h).after
taken_fits l h f = taken_cases l h (λ o. LedgerFits o.after) (λ p e. debt_removed_fits l f p (found_owes l h p e).below) (λ e. f)

pub paid_fits : (l : Ledger) (h cost : ℕ) (c : BucketConfig) → LedgerFits l → LedgerFits (paid_down l h cost c).after
paid_fits l h cost c f =
    paid_cases l h cost c (λ o. LedgerFits o.after)
    (λ p e.
    let old : DebtFits (debt_at l p) = debt_at_fits l f p in
    changed_debt_fits l f p _ (record { hash = old.hash; settles = omega (arith, old.settles) }))
    (λ e. f)

-- The looks at a full ledger, and the debt that is dropped: where one is, another can be counted.
scan_from_fits : (at : Nanos) (left : ℕ) (l : Ledger) (best : ℕ) → LedgerFits l → LedgerFits (scan_from at left l best).after
unfolding scan_from
scan_from_fits at zero l best f = f
scan_from_fits at (suc left) l best f =
    of_either (λ (o : Outcome Choice Ledger). LedgerFits o.after) (has_settled at l (cursor_of l)) _
    (scan_from at left (with_cursor l (cursor_of l + 1)) (sooner l best (cursor_of l)))
    (resting_cursor_fits l f) (scan_from_fits at left _ _ (next_cursor_fits l f))

record RoomFits (o : Outcome Recorded Ledger) : Type 0 where
  after : LedgerFits o.after
  next : o.answer ≡ Ok tt → Word (o.after.debts.count + 1)

dropped_fits : (at : Nanos) (forget : Bool) (l : Ledger) (choice : Choice) → chosen choice < l.debts.count → LedgerFits l
    → RoomFits (drop_chosen at forget l choice)
unfolding drop_chosen
dropped_fits at forget l choice held f = go choice held
  where
    leaves : (p : ℕ) → p < l.debts.count → RoomFits (record { answer = Ok tt; after = remove_at l p })
    leaves p below = record { after = debt_removed_fits l f p below; next = λ done. omega (arith, removal_count l p, f.debts.count) }

    go : (choice : Choice) → chosen choice < l.debts.count → RoomFits (drop_chosen at forget l choice)
    go (Settled p) below = leaves p below
    go (Soonest p) below = of_either RoomFits forget _ _ (leaves p below) (record { after = f; next = λ done. done_is_no_refusal (sym done) })

make_room_fits : (at : Nanos) (forget : Bool) (l : Ledger) → 0 < l.debts.count → LedgerFits l → RoomFits (make_room at forget l)
unfolding make_room scan
make_room_fits at forget l some f =
    dropped_fits at forget (scan at l).after (scan at l).answer (scan_chooses_held at l some) (scan_from_fits at _ l (cursor_of l) f)

joined_fits : (d : Debt) (l : Ledger) (answer : Recorded) → DebtFits d → LedgerFits l → (answer ≡ Ok tt → Word (l.debts.count + 1))
    → LedgerFits (joined d l answer).after
joined_fits d l (Ok _) fits f next = debt_appended_fits l f d fits (next refl)
joined_fits d l (Err full) fits f next = f

-- A recording.
pub recorded_fits : (l : Ledger) (d : Debt) (at : Nanos) (forget : Bool) → Sound l → DebtFits d → LedgerFits l → LedgerFits (recorded l d at forget).after
unfolding recorded recorded_at
recorded_fits l d at forget s fits f = go (place_of l d.hash)
  where
    made : cap_of l ≤ l.debts.count → RoomFits (make_room at forget l)
    made full = make_room_fits at forget l (omega (arith, s.room)) f

    go : (place : Option ℕ) → LedgerFits (recorded_at l d at forget place).after
    go (Some p) =
        let old : DebtFits (debt_at l p) = debt_at_fits l f p in
        changed_debt_fits l f p _ (record { hash = old.hash; settles = omega (arith, old.settles, fits.settles) })
    go None =
        by_test (ltb l.debts.count (cap_of l))
        (λ t. rw (t, recorded_at) (joined_fits d l (Ok tt) fits f (λ done. omega (arith, ltb-true l.debts.count (cap_of l) t, f.debts.room))))
        (λ t. let room = made (ltb-false _ _ t) in rw (t, recorded_at) (joined_fits d _ _ fits room.after room.next))
