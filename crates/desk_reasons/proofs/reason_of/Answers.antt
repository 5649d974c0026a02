-- `reason_of` looks at the length of the line, at its first field, and then at the others.
use Rattle.desk_lines.proofs.FieldLaws.{found_from}
use Rattle.desk_lines.specs.Fields.{space}
use mathlib.Core.Path.{sym, ◌∙◌}
use borrow.Author.Tests.{eqb-true, eqb-false}
use Rattle.desk_reasons.proofs.WalkLaws.{line_is_blank, line_is_long, no_letter_first, letter_first}
use Rattle.desk_reasons.proofs.reason_of.Goals as goal

pub returns-then-is_empty : goal.returns-then-is_empty
returns-then-is_empty c = line_is_blank _ (eqb-true _ _ (sym c.is_empty.ensures ∙ c.if-is_empty.true))

pub returns-then-line-gt-LONGEST_LINE : goal.returns-then-line-gt-LONGEST_LINE
returns-then-line-gt-LONGEST_LINE c = line_is_long _ (eqb-false _ _ (sym c.is_empty.ensures ∙ c.if-is_empty.false)) c.if-line-gt-LONGEST_LINE.true

pub returns-in-None : goal.returns-in-None
returns-in-None c = let line = c.args.line.now in
    no_letter_first line (eqb-false _ _ (sym c.is_empty.ensures ∙ c.if-is_empty.false)) c.if-line-gt-LONGEST_LINE.false
    (found_from space line 0 c.find-end.ensures.first) c.letter_in.ensures c.in-None.is c.of_letter.ensures

pub returns-in-Some : goal.returns-in-Some
returns-in-Some c = let line = c.args.line.now in
    c.of_fields.ensures ∙ letter_first line (eqb-false _ _ (sym c.is_empty.ensures ∙ c.if-is_empty.false)) c.if-line-gt-LONGEST_LINE.false
    (found_from space line 0 c.find-end.ensures.first) c.letter_in.ensures c.in-Some.is
