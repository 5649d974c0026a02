-- `read_all` never fills the buffer, since a description that does so is over.
use Rattle.std.proofs.Common.{◌≡◌, length, sym, ◌∙◌, arith}
use Rattle.described.proofs.StepLaws.{step_is_inside}
use Rattle.described.proofs.read_all.Goals as goal

pub returns-in-Whole : goal.returns-in-Whole
returns-in-Whole g c =
    let r = c.read_more-got in
    let same : length r.new.input ≡ length c.args.text.now = omega (arith, r.auto.input, c.loop-turn.invariant.1) in
    rw (c.in-Whole.is, same) at (step_is_inside r.result c.loop-turn.size (length r.new.input) (omega (arith, r.auto.input, c.loop-turn.invariant.0))
    (sym c.after.ensures ∙ c.in_ok-end.was))

pub loop-turn-preserved : goal.loop-turn-preserved
loop-turn-preserved g c =
    let r = c.read_more-got in (
      rw c.in-More.is at (step_is_inside r.result c.loop-turn.size (length r.new.input) (omega (arith, r.auto.input, c.loop-turn.invariant.0))
          (sym c.after.ensures ∙ c.in_ok-end.was)),
      omega (arith, r.auto.input, c.loop-turn.invariant.1),
    )
