-- `position` looks the hash up in the index: the debts lie before it, and a debt has its hash for a key. Where there are no debts it finds none.
use mathlib.Core.Path.{sym, ◌∙◌}
use Rattle.ledger.proofs.ModelLaws.{debts_fit, found_in_index, none_found}
use Rattle.ledger.proofs.position.Goals as goal

pub returns-then-count-eq0 : goal.returns-then-count-eq0
returns-then-count-eq0 c = none_found c.requires _ (sym c.count-count.ensures ∙ c.if-count-eq0.true)

pub find-requires : goal.find-requires
find-requires c = rw (c.index.ensures, c.count-count.ensures) (debts_fit c.requires)

pub returns : goal.returns
returns c = rw (c.find.ensures, c.index.ensures, c.count-count.ensures) (found_in_index c.requires _)
