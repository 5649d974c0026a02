-- The list of debts as it is told to callers in C: its settings and its reply by the functions between.
use Prim.Native.Nat.{ℕ}
use mathlib.Core.Path.{◌≡◌, ap, ◌∙◌}
use mathlib.Core.List.{List}
use Rattle.units.specs.declared.Nanos.{Nanos}
use Rattle.rows.specs.Outcome.{outcome}
use Rattle.settings.specs.declared.Settings.{Settings}
use Rattle.ledger.specs.declared.Debt.{Debt}
use Rattle.rules.specs.declared.Reply.{Reply}
use Rattle.rules.specs.declared.codes.Told.{Told}
use Rattle.rules.specs.Debts.{lent, list_debts}
use Rattle.rules.specs.Replies.{told_of, told}

pub list_is_told : (at : Nanos) (i : ℕ) (ws : List ℕ) (records : List Debt) {s read : Settings} {r : Reply} {t : Told} {after : List Debt}
    → read ≡ s → outcome r (lent ws after) ≡ list_debts read at i (lent ws records) → t ≡ told_of r
    → outcome t (lent ws after) ≡ told (list_debts s at i (lent ws records))
list_is_told at i ws records {after = after} same gave is =
    ap (λ (t : Told). outcome t (lent ws after)) is ∙ ap told gave ∙ ap (λ (s : Settings). told (list_debts s at i (lent ws records))) same
