-- `put_reserve` stores three numbers, and then the longest wait.
use Rattle.desk_writer.proofs.SizeLaws.{spaced_append_size}
use Rattle.desk_writer.proofs.WritingLaws.{room_for_next, next_is_written}
use Rattle.desk_writer.specs.Writer.{request_numbers}
use mathlib.Core.List.{[], ◌∷◌}
use native.Mathlib.Omega.{arith}
use Rattle.desk_writer.proofs.put_reserve.Goals as goal

pub put_three-wait_at-requires : goal.put_three-wait_at-requires
put_three-wait_at-requires c = let args' = c.args in
    omega (arith, spaced_append_size (request_numbers args'.request) (args'.max_wait.0 ∷ []), c.requires)

pub put_field-requires : goal.put_field-requires
put_field-requires c = let a = c.args in
    room_for_next 114 (request_numbers a.request) a.max_wait.0 a.out.now c.put_three-wait_at.ensures [] c.requires

pub returns : goal.returns
returns c = let a = c.args in
    next_is_written 114 (request_numbers a.request) a.max_wait.0 a.out.now c.put_three-wait_at.ensures c.put_field.ensures
