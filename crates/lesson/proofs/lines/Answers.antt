-- `lines` has handed out what comes next in the output of the lesson with each turn, and counts what it left out.
use Rattle.std.proofs.Common.{refl, arith}
use Rattle.lesson_run.proofs.StandsLaws.{stands_at_start, stands_after, lines_at_most, wrong_at_most}
use Rattle.lesson.proofs.lines.Goals as goal

pub loop-turn-init : goal.loop-turn-init
loop-turn-init g c = (refl, stands_at_start _ c.start-progress.ensures, omega arith, omega arith)

pub loop-turn-preserved : goal.loop-turn-preserved
loop-turn-preserved g c =
    let inv = c.loop-turn.invariant in
    let step = c.in-Some.step in
    let lines-in' = c.lines_in-written in
    let wrong-in' = c.wrong_in-wrong in (
      omega (arith, c.next.auto.out, inv.0),
      rw (lines-in'.ensures, wrong-in'.ensures) (stands_after _ _ _ _ step c.next.new.out inv.1 c.in-Some.ensures),
      omega (arith, inv.2, lines-in'.ensures, lines_at_most step.size),
      omega (arith, inv.3, wrong-in'.ensures, wrong_at_most step.note),
    )
