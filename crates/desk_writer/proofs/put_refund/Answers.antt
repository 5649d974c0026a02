-- `put_refund` stores the letter, the key and the cost.
use native.Mathlib.Omega.{arith}
use mathlib.Core.List.{[], ◌∷◌}
use lib.ListN.{length-set}
use Rattle.desk_writer.proofs.WritingLaws.{letter_is_written, room_for_next, next_is_written}
use Rattle.desk_writer.proofs.put_refund.Goals as goal

pub put_field-cost_at-requires : goal.put_field-cost_at-requires
put_field-cost_at-requires c = let a = c.args in
    room_for_next 102 [] a.key a.out.now (letter_is_written 102 a.out.now) (a.cost ∷ []) c.requires

pub put_field-requires : goal.put_field-requires
put_field-requires c = let a = c.args in
    let one = next_is_written 102 [] a.key a.out.now (letter_is_written 102 a.out.now) c.put_field-cost_at.ensures in
    room_for_next 102 (a.key ∷ []) a.cost a.out.now one [] c.requires

pub shape_of-out : goal.shape_of-out
shape_of-out c = omega (arith, c.put_field.auto.out, c.put_field-cost_at.auto.out, length-set c.args.out.now 0 102)

pub returns : goal.returns
returns c = let a = c.args in
    let one = next_is_written 102 [] a.key a.out.now (letter_is_written 102 a.out.now) c.put_field-cost_at.ensures in
    next_is_written 102 (a.key ∷ []) a.cost a.out.now one c.put_field.ensures
