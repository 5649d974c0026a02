-- `check_table` makes the four checks in turn.
use Rattle.settings.proofs.RefusalLaws.{first_refuses, second_decides}
use mathlib.Core.Path.{sym}
use Rattle.classes.proofs.RefusalLaws.{few_counted, parents_pass}
use Rattle.classes.proofs.check_table.Goals as goal

pub returns-in_err-check_count : goal.returns-in_err-check_count
returns-in_err-check_count c = first_refuses c.from_residual.result _ _ c.from_residual.ensures.1 c.in_err-check_count.ensures

pub returns-in_err-check_classes : goal.returns-in_err-check_classes
returns-in_err-check_classes c = let handed = c.from_residual-in_err-check_classes in
    second_decides c.in_ok-check_count.ensures (first_refuses handed.result _ _ handed.ensures.1 c.in_err-check_classes.ensures)

pub returns-in_err-check_classes-2 : goal.returns-in_err-check_classes-2
returns-in_err-check_classes-2 c = let handed = c.from_residual-in_err-check_classes-2 in
    second_decides c.in_ok-check_count.ensures
    (second_decides c.in_ok-check_classes.ensures (first_refuses handed.result _ _ handed.ensures.1 c.in_err-check_classes-2.ensures))

pub check_chains-requires : goal.check_chains-requires
check_chains-requires c = record { few = few_counted _ (sym c.in_ok-check_count.ensures); parents = parents_pass _ (sym c.in_ok-check_classes-2.ensures) }

pub returns : goal.returns
returns c = second_decides c.in_ok-check_count.ensures
    (second_decides c.in_ok-check_classes.ensures (second_decides c.in_ok-check_classes-2.ensures c.check_chains.ensures))
