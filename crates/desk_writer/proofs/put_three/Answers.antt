-- `put_three` stores the letter, and then one number after another.
use native.Mathlib.Omega.{arith}
use mathlib.Core.List.{[], ◌∷◌}
use mathlib.Core.Path.{◌≡◌}
use lib.ListN.{length-set}
use Rattle.rows.specs.Outcome.{outcome}
use Rattle.desk_lines.specs.Printed.{written_over}
use Rattle.desk_writer.specs.Writer.{spaced}
use Rattle.desk_writer.proofs.WritingLaws.{letter_is_written, room_for_next, next_is_written}
use Rattle.desk_writer.proofs.put_three.Goals as goal

-- What is stored after one number and after two.
one : (c : goal.After-put_field-arg-2-1) → let a = c.args in
    outcome c.put_field-second_at.result c.put_field-second_at.new.out ≡ written_over (a.letter ∷ spaced (a.first ∷ [])) 0 a.out.now
one c = let a = c.args in
    next_is_written a.letter [] a.first a.out.now (letter_is_written a.letter a.out.now) c.put_field-second_at.ensures

-- What is stored after one number and after two.
one_2 : (c : goal.After-put_field-arg-3-1) → let a = c.args in
    outcome c.put_field-second_at.result c.put_field-second_at.new.out ≡ written_over (a.letter ∷ spaced (a.first ∷ [])) 0 a.out.now
one_2 c = let a = c.args in
    next_is_written a.letter [] a.first a.out.now (letter_is_written a.letter a.out.now) c.put_field-second_at.ensures

-- What is stored after one number and after two.
one_3 : (c : goal.After-slice_known-4-1) → let a = c.args in
    outcome c.put_field-second_at.result c.put_field-second_at.new.out ≡ written_over (a.letter ∷ spaced (a.first ∷ [])) 0 a.out.now
one_3 c = let a = c.args in
    next_is_written a.letter [] a.first a.out.now (letter_is_written a.letter a.out.now) c.put_field-second_at.ensures

two : (c : goal.After-put_field-arg-3-1) → let a = c.args in
    outcome c.put_field-third_at.result c.put_field-third_at.new.out ≡ written_over (a.letter ∷ spaced (a.first ∷ a.second ∷ [])) 0 a.out.now
two c = let a = c.args in
    next_is_written a.letter (a.first ∷ []) a.second a.out.now (one_2 c) c.put_field-third_at.ensures

two_2 : (c : goal.After-slice_known-4-1) → let a = c.args in
    outcome c.put_field-third_at.result c.put_field-third_at.new.out ≡ written_over (a.letter ∷ spaced (a.first ∷ a.second ∷ [])) 0 a.out.now
two_2 c = let a = c.args in
    next_is_written a.letter (a.first ∷ []) a.second a.out.now (one_3 c) c.put_field-third_at.ensures

pub put_field-second_at-requires : goal.put_field-second_at-requires
put_field-second_at-requires c = let a = c.args in
    room_for_next a.letter [] a.first a.out.now (letter_is_written a.letter a.out.now) (a.second ∷ a.third ∷ []) c.requires

pub put_field-third_at-requires : goal.put_field-third_at-requires
put_field-third_at-requires c = let a = c.args in
    room_for_next a.letter (a.first ∷ []) a.second a.out.now (one c) (a.third ∷ []) c.requires

pub put_field-requires : goal.put_field-requires
put_field-requires c = let a = c.args in
    room_for_next a.letter (a.first ∷ a.second ∷ []) a.third a.out.now (two c) [] c.requires

pub shape_of-out : goal.shape_of-out
shape_of-out c = let a = c.args in
    omega (arith, c.put_field.auto.out, c.put_field-third_at.auto.out, c.put_field-second_at.auto.out, length-set a.out.now 0 a.letter)

pub returns : goal.returns
returns c = let a = c.args in
    next_is_written a.letter (a.first ∷ a.second ∷ []) a.third a.out.now (two_2 c) c.put_field.ensures
