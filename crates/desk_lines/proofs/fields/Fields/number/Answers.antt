-- `Fields::number` reads the front of the field; where the field does not end with it, the field's end is looked for, and the whole field read.
use native.Mathlib.Omega.{arith}
use mathlib.Core.Path.{sym, ap, ◌∙◌}
use mathlib.Core.Path.{◌≡◌}
use Prim.Native.Nat.{◌+◌}
use Rattle.decimal.proofs.ReadLaws.{front_inside}
use Rattle.desk_lines.specs.Fields.{field_end}
use Rattle.desk_lines.proofs.FieldLaws.{field_ends_inside, ends_with_front, front_is_the_field}
use Rattle.desk_lines.proofs.ReadingLaws.{no_field_is_told, number_is_told}
use borrow.Author.Tests.{eqb-true}
use Rattle.desk_lines.proofs.fields.Fields.number.Goals as goal

pub returns-then-line-at : goal.returns-then-line-at
returns-then-line-at c = no_field_is_told _ _ c.self.view_is c.args.most c.if-line-at.true

pub ends_at-requires : goal.ends_at-requires
ends_at-requires c = (front_inside _ _ c.if-line-at.false c.front-front.ensures).1

pub overflow_add-self : goal.overflow_add-self
overflow_add-self c = record { fits = omega (arith, (front_inside _ _ c.if-line-at.false c.front-front.ensures).1) }

pub returns-then-ends_at : goal.returns-then-ends_at
returns-then-ends_at c =
    let line = c.self.inside.line.now in
    let at = c.self.inside.at in
    let is_front = c.front-front.ensures in
    let ends = eqb-true _ _ (sym c.ends_at.ensures ∙ c.if-ends_at.true) in
    let is_number = c.at_most.ensures ∙ front_is_the_field line at is_front ends c.args.most c.if-at-front.true in
    let next : c.front-front.result.end + 1 ≡ field_end line at + 1 = omega (arith, ends_with_front line at is_front ends) in
    number_is_told line at c.self.view_is c.args.most c.if-line-at.false is_number next

pub overflow_add-self-2 : goal.overflow_add-self-2
overflow_add-self-2 c = record { fits = omega (arith, c.end-end.ensures, field_ends_inside c.self.inside.line.now c.self.inside.at c.if-line-at.false) }

pub slice_bounds-number-end : goal.slice_bounds-number-end
slice_bounds-number-end c = omega (arith, field_ends_inside c.self.inside.line.now c.self.inside.at c.if-line-at.false, c.end-end.ensures)

pub returns : goal.returns
returns c =
    let line = c.self.inside.line.now in
    let at = c.self.inside.at in
    number_is_told line at c.self.view_is c.args.most c.if-line-at.false (rw c.end-end.ensures at c.number.ensures) (ap (λ n. n + 1) c.end-end.ensures)
