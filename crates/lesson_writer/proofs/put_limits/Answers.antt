-- From one place of the run back to another.
use Rattle.lesson_writer.proofs.WritingLaws.{four_short, put_is_the_line}
use Rattle.lesson_writer.specs.Lines.{four_printed, room_printed}
use Rattle.rows.proofs.OutcomeLaws.{answer_is}
use Rattle.desk_lines.specs.Fields.{space}
use Rattle.desk_lines.specs.Printed.{written_over}
use Rattle.desk_lines.proofs.PrintLaws.{written_after}
use Prim.Native.Nat.{ℕ}
use mathlib.Core.Path.{ap, ◌∙◌}
use mathlib.Core.List.{List, [], ◌∷◌, ◌++◌}
use native.Mathlib.Omega.{arith}
use Rattle.lesson_writer.proofs.put_limits.Goals as goal

pub put_four-at-requires : goal.put_four-at-requires
put_four-at-requires c = let put-letter' = c.put_letter-at in
    omega (arith, answer_is put-letter'.ensures, put-letter'.auto.out, c.requires)

pub put_room-requires : goal.put_room-requires
put_room-requires c = let put-letter' = c.put_letter-at in
    let put-four' = c.put_four-at in
    let l = c.args.limits in
    omega (
      arith,
      answer_is put-letter'.ensures,
      put-letter'.auto.out,
      answer_is put-four'.ensures,
      four_short l.amount l.period l.burst l.initial,
      put-four'.auto.out,
      c.requires,
    )

pub returns : goal.returns
returns c = let args' = c.args in
    let l = args'.limits in
    let four = four_printed l.amount l.period l.burst l.initial in
    let room = room_printed l.modems l.shards l.idle l.when_full in
    written_after (115 ∷ space ∷ []) (four ++ room) 0 args'.out.now c.put_letter-at.ensures
    (written_after four room _ _ c.put_four-at.ensures c.put_room.ensures) ∙ ap (λ (bs : List ℕ). written_over bs 0 args'.out.now) (put_is_the_line l)
