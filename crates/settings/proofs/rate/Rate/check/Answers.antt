-- `Rate::check` makes the three checks in turn.
use Rattle.settings.proofs.RateLaws.{checks_in_turn}
use Rattle.settings.proofs.RefusalLaws.{first_refuses, second_decides}
use mathlib.Core.Path.{sym, ◌∙◌}
use Rattle.settings.proofs.rate.Rate.check.Goals as goal

pub returns-in_err-check_range : goal.returns-in_err-check_range
returns-in_err-check_range c =
    first_refuses c.from_residual.result _ _ c.from_residual.ensures.1 c.in_err-check_range.ensures ∙ sym (checks_in_turn c.args.self)

pub returns-in_err-check_range-2 : goal.returns-in_err-check_range-2
returns-in_err-check_range-2 c = let handed = c.from_residual-in_err-check_range-2 in
    second_decides c.in_ok-check_range.ensures (first_refuses handed.result _ _ handed.ensures.1 c.in_err-check_range-2.ensures)
    ∙ sym (checks_in_turn c.args.self)

pub returns : goal.returns
returns c = second_decides c.in_ok-check_range.ensures (second_decides c.in_ok-check_range-2.ensures (c.check_range-3.ensures ∙ rw c.capacity.ensures))
    ∙ sym (checks_in_turn c.args.self)
