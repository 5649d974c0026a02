-- No promise rests on this page: it serves the inner contracts of the code.
-- A debt is recorded in two steps: the ledger is made ready for the debt of a hash, and the debt is written. So when the debt settles is worked out only where
-- it is written (`prepared_is_recorded`).
use Rattle.std.specs.Prelude.{ℕ, ◌<◌, Bool, cond, ltb, Option, Some, None, Result, Ok, Err}
use Rattle.units.specs.declared.Nanos.{Nanos}
use Rattle.rows.specs.Outcome.{Outcome, outcome}
use Rattle.ledger.specs.declared.Debt.{Debt}
use Rattle.ledger.specs.declared.NoRoom.{NoRoom}
use Rattle.ledger.specs.Model.{Ledger, Recorded, cap_of, debt_at, with_debt, place_of, append, make_room, later}

-- What making ready answers: the place of the debt of the hash, if there is one; or that there is no room for it.
abbrev pub Prepared : Type 0
Prepared = Result (Option ℕ) NoRoom

-- Once room was made, or not.
abbrev pub readied : Ledger → Recorded → Outcome Prepared Ledger
readied l (Ok _) = outcome (Ok None) l
readied l (Err full) = outcome (Err full) l

-- The ledger is made ready for the debt of a hash whose place is known, or that has none.
unfoldable pub prepared_at : Ledger → Nanos → Bool → Option ℕ → Outcome Prepared Ledger
prepared_at l at forget (Some p) = outcome (Ok (Some p)) l
prepared_at l at forget None =
    cond (ltb l.debts.count (cap_of l)) (outcome (Ok None) l) (readied (make_room at forget l).after (make_room at forget l).answer)

unfoldable pub prepared : Ledger → ℕ → Nanos → Bool → Outcome Prepared Ledger
prepared l hash at forget = prepared_at l at forget (place_of l hash)

-- A debt can be written: there is a debt in the place, or there is room for one more.
abbrev pub writable : Ledger → Option ℕ → Type 0
writable l (Some p) = p < l.debts.count
writable l None = l.debts.count < cap_of l

-- The debt is written.
abbrev pub written : Ledger → Option ℕ → Debt → Ledger
written l (Some p) d = with_debt l p (later (debt_at l p) d.settles)
written l None d = append l d

-- What a ledger that is ready, or is not, makes of a debt.
abbrev pub finished : Debt → Ledger → Prepared → Outcome Recorded Ledger
finished d l (Ok place) = outcome (Ok tt) (written l place d)
finished d l (Err full) = outcome (Err full) l

-- A ledger that is ready can have the debt written.
abbrev pub ReadyFor : Ledger → Prepared → Type 0
ReadyFor l (Ok place) = writable l place
ReadyFor l (Err full) = Unit {0}
