-- `unless_refused` answers the first number that there is, else what it is given.
use mathlib.Core.Path.{ap}
use Rattle.store.specs.Lending.{number_in}
use Rattle.store.proofs.LendingLaws.{lent_part_to_caller, refused_number_to_caller}
use Rattle.rules.proofs.RefusedLaws.{first_number_is_told, second_number_is_told, neither_refuses_is_told}
use Rattle.rules.proofs.unless_refused.Goals as goal

pub returns-in-Err : goal.returns-in-Err
returns-in-Err g c = rw (c.number.ensures.value, c.in-Err.is) (first_number_is_told _ _ _ _ c.number.ensures.some)

pub returns-in-Err-lend : goal.returns-in-Err-lend
returns-in-Err-lend g c = let number = refused_number_to_caller g.E.Numbered.number _ _ c.lend.ensures c.in-Err-lend.is in
    rw c.number-in-Err-lend.ensures.value
    (second_number_is_told _ _ _ _ (ap (number_in g.E.Numbered.number) c.in_default.is) number c.number-in-Err-lend.ensures.some)

pub returns-in-Ok : goal.returns-in-Ok
returns-in-Ok g c =
    neither_refuses_is_told _ _ _ _ (ap (number_in g.E.Numbered.number) c.in_default.is)
    (lent_part_to_caller g.E.Numbered.number _ _ c.lend.ensures c.in-Ok.is).0
