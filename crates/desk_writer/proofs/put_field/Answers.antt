-- `put_field` stores the space and then the digits.
use native.Mathlib.Omega.{arith}
use lib.ListN.{length-set}
use Rattle.desk_writer.proofs.WritingLaws.{field_is_written}
use Rattle.desk_writer.proofs.put_field.Goals as goal

pub put-requires : goal.put-requires
put-requires c = simp length-set (omega arith)

pub shape_of-out : goal.shape_of-out
shape_of-out c = rw length-set at c.put.auto.out

pub returns : goal.returns
returns c = let a = c.args in
    field_is_written a.at a.n a.out.now c.put.ensures
