-- `answer` has a case for each line, and each is the rule's outcome, told.
use Rattle.rules.proofs.RuleLaws.{outcome_is_told}
use borrow.Author.Rules.{rules}
use Rattle.desk_answers.proofs.answer.Goals as goal

pub returns-in-SetUp : goal.returns-in-SetUp
returns-in-SetUp c = rw (c.in-SetUp.is, c.malformed.ensures)

pub returns-in-Try : goal.returns-in-Try
returns-in-Try c = rw c.in-Try.is c.tried.ensures

pub returns-in-Peek : goal.returns-in-Peek
returns-in-Peek c = rw c.in-Peek.is c.peeked.ensures

pub returns-in-Reserve : goal.returns-in-Reserve
returns-in-Reserve c = rw c.in-Reserve.is c.reserved.ensures

pub returns-in-Refund : goal.returns-in-Refund
returns-in-Refund c = rw c.in-Refund.is
    (outcome_is_told (rw c.identity.ensures at c.refund.ensures) c.told.ensures)

pub returns-in-Remove : goal.returns-in-Remove
returns-in-Remove c = rw c.in-Remove.is
    (outcome_is_told (rw c.identity-in-Remove.ensures at c.remove.ensures) c.told-in-Remove.ensures)

pub returns-in-Malformed : goal.returns-in-Malformed
returns-in-Malformed c = rw (c.in-Malformed.is, c.malformed-in-Malformed.ensures)
