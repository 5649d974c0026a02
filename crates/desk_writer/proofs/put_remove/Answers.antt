-- `put_remove` stores the letter and the key.
use mathlib.Core.List.{[]}
use lib.ListN.{length-set}
use Rattle.desk_writer.proofs.WritingLaws.{letter_is_written, room_for_next, next_is_written}
use Rattle.desk_writer.proofs.put_remove.Goals as goal

pub put_field-requires : goal.put_field-requires
put_field-requires c = let a = c.args in
    room_for_next 100 [] a.key a.out.now (letter_is_written 100 a.out.now) [] c.requires

pub shape_of-out : goal.shape_of-out
shape_of-out c = rw length-set at c.put_field.auto.out

pub returns : goal.returns
returns c = let a = c.args in
    next_is_written 100 [] a.key a.out.now (letter_is_written 100 a.out.now) c.put_field.ensures
