-- `check_counts` compares the total with the slots, the slots with the cap, the total with the room, and the debts with the cap.
use native.Mathlib.Omega.{arith}
use mathlib.Core.Path.{sym, ◌∙◌}
use Rattle.settings.proofs.RefusalLaws.{has_a_number, handed_on}
use Rattle.store.proofs.RefusalLaws.{slots_over_are_refused, debts_over_are_refused, total_under_is_refused, total_alone_refused}
use Rattle.store.proofs.RefusalLaws.{counts_are_accepted, total_not_refused}
use Rattle.store.proofs.refusals.check_counts.Goals as goal

pub returns-then-total-slots : goal.returns-then-total-slots
returns-then-total-slots c = sym (total_under_is_refused _ _ _ _ (omega (arith, c.if-total-slots.true, c.len-slots.ensures)))

pub returns-then-cap-slots : goal.returns-then-cap-slots
returns-then-cap-slots c = sym (slots_over_are_refused _ _ _ _ (omega (arith, c.if-cap-slots.true, c.len-slots.ensures)))

pub returns-in_err-check_total : goal.returns-in_err-check_total
returns-in_err-check_total c = let refused = c.in_err-check_total.ensures in
    handed_on c.from_residual.result _ c.from_residual.ensures.1 ∙ refused ∙ total_alone_refused _ _ _ _ (λ none. has_a_number _ (refused ∙ none))

pub returns-then-cap-len : goal.returns-then-cap-len
returns-then-cap-len c = sym (debts_over_are_refused _ _ _ _ (omega (arith, c.if-cap-len.true, c.len.ensures)))

pub returns : goal.returns
returns c = sym (counts_are_accepted _ _ _ _ (record {
  slots = omega (arith, c.if-cap-slots.false, c.len-slots.ensures);
  debts = omega (arith, c.if-cap-len.false, c.len.ensures);
  covers = omega (arith, c.if-total-slots.false, c.len-slots.ensures);
  within = total_not_refused _ _ (sym c.in_ok-check_total.ensures);
}))
