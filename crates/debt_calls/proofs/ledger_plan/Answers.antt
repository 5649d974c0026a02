-- `ledger_plan` looks at the debt count first; where it is not refused the debts can be counted, and their number is held against the records.
use mathlib.Core.Path.{refl, sym}
use Rattle.settings.proofs.RefusalLaws.{stands, second_decides, gives_nothing}
use Rattle.rules.proofs.DebtLaws.{debt_count_not_refused}
use Rattle.debt_calls.proofs.ledger_plan.Goals as goal

pub returns-in_err-check_debt_count : goal.returns-in_err-check_debt_count
returns-in_err-check_debt_count c = gives_nothing c.from_residual.result _ _ c.from_residual.ensures.1 (stands _ _ c.in_err-check_debt_count.ensures)

pub count_unsettled-count-requires : goal.count_unsettled-count-requires
count_unsettled-count-requires c = record {
  placed = c.requires;
  few = debt_count_not_refused _ _ (sym c.in_ok-check_debt_count.ensures);
}

pub returns-in_err-check_records : goal.returns-in_err-check_records
returns-in_err-check_records c = let handed = c.from_residual-in_err-check_records in
    let number = rw c.count_unsettled-count.ensures at c.in_err-check_records.ensures in
    gives_nothing handed.result _ _ handed.ensures.1 (second_decides c.in_ok-check_debt_count.ensures number)

pub returns : goal.returns
returns c = let none = rw c.count_unsettled-count.ensures at c.in_ok-check_records.ensures in
    (sym (second_decides c.in_ok-check_debt_count.ensures none), rw c.count_unsettled-count.ensures refl)
