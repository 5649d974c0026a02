use Rattle.std.proofs.Common.{◌≡◌, ◌≤◌, length}
use Rattle.lesson_run.specs.Run.{Stands}
use Rattle.lesson.proofs.lines.Given as goal

abbrev pub invariant-loop-turn : goal.invariant-loop-turn
invariant-loop-turn g l =
    (length l.out ≡ length l.initial.out) × Stands l.text l.progress l.written l.wrong × (l.written ≤ l._turn) × (l.wrong ≤ l._turn)
