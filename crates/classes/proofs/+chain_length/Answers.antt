-- `chain_length` goes up the table as `ends` does, up to a length that is known.
use Rattle.std.proofs.Common.{sym}
use Rattle.classes.proofs.LayoutLaws.{class_has_words}
use Rattle.classes.proofs.LengthLaws.{none_is_allowed, top_is_found, one_longer_is_found}
use Rattle.classes.proofs.+chain_length.Goals as goal

pub returns-then-allowed-eq0 : goal.returns-then-allowed-eq0
returns-then-allowed-eq0 t c = none_is_allowed _ _ _ _ c.requires.kept c.if-allowed-eq0.true

pub load_parent-parent-requires : goal.load_parent-parent-requires
load_parent-parent-requires t c = class_has_words _ _ c.requires.named

pub returns-in-None : goal.returns-in-None
returns-in-None t c = top_is_found _ _ _ _ c.requires.kept (sym c.in-None.ensures)

pub returns-in-Some : goal.returns-in-Some
returns-in-Some t c =
    rw c.one_longer-length.ensures
    (one_longer_is_found _ _ (sym c.in-Some.ensures) _ _ _ c.if-allowed-eq0.false c.requires.within c.chain_length.ensures)
