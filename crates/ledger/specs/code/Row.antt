-- No promise rests on this page: it serves the inner contracts of the code.
-- Where the next looks meet unsettled debts alone and do not go round, a sweep and a scan move the cursor past them, and change nothing else
-- (`unsettled_are_swept`, `unsettled_are_scanned`).
use Rattle.std.specs.Prelude.{ℕ, zero, suc, ◌+◌, ◌-◌, Bool, true, false, cond, ltb, eqb}
use Rattle.units.specs.declared.Nanos.{Nanos}
use Rattle.ledger.specs.Model.{Ledger, has_settled, cursor_of, sooner}

-- Whether the last so many debts before the place `end` are unsettled.
unfoldable pub unsettled_before : Nanos → Ledger → ℕ → ℕ → Bool
unsettled_before at l end zero = true
unsettled_before at l end (suc left) = cond (has_settled at l (end - suc left)) false (unsettled_before at l end left)

-- Whether the next so many looks, of which there is one, meet unsettled debts alone and do not go round.
unfoldable pub meets_unsettled : Nanos → Ledger → ℕ → Bool
meets_unsettled at l looks =
    cond (eqb looks 0) false (cond (ltb (l.debts.count - cursor_of l) looks) false (unsettled_before at l (cursor_of l + looks) looks))

-- Of a debt and the last so many debts before the place `end`, the place of the first that settles soonest.
unfoldable pub soonest_before : Ledger → ℕ → ℕ → ℕ → ℕ
soonest_before l end zero best = best
soonest_before l end (suc left) best = soonest_before l end left (sooner l best (end - suc left))
