-- `Walk::choose` goes by the first of the two places at which a full slot was seen, as its definition does.
use mathlib.Core.Path.{sym, ◌∙◌}
use Rattle.evict.proofs.WalkLaws.{or_is_or_else, unwrap_or_is_place_or}
use Rattle.evict.proofs.Walk.choose.Goals as goal

pub returns-in-Some : goal.returns-in-Some
returns-in-Some c = let a = c.args in
    rw (sym (or_is_or_else a.ended a.self.full) ∙ sym c.or.ensures ∙ c.in-Some.is)

pub returns-in-None : goal.returns-in-None
returns-in-None c = let a = c.args in
    rw (c.unwrap_or.ensures, unwrap_or_is_place_or _ _, sym (or_is_or_else a.ended a.self.full) ∙ sym c.or.ensures ∙ c.in-None.is)
