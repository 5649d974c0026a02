-- `read` asks for at most 100 bytes and a first field of one byte, and goes by that byte.
use mathlib.Core.Path.{sym, ◌∙◌}
use Rattle.desk_lines.proofs.LineLaws.{too_long, no_letter_lem, letter_inside, by_letter_lem}
use Rattle.desk_lines.proofs.read.Goals as goal

pub returns-then-line-gt-LONGEST_LINE : goal.returns-then-line-gt-LONGEST_LINE
returns-then-line-gt-LONGEST_LINE c = too_long c.args.line.now c.if-line-gt-LONGEST_LINE.true

pub returns-then-end-ne1 : goal.returns-then-end-ne1
returns-then-end-ne1 c = no_letter_lem c.args.line.now c.if-line-gt-LONGEST_LINE.false (λ one. c.if-end-ne1.true (c.end.ensures ∙ one))

pub bounds-line-0 : goal.bounds-line-0
bounds-line-0 c = letter_inside c.args.line.now c.if-line-gt-LONGEST_LINE.false (sym c.end.ensures ∙ c.if-end-ne1.false)

pub returns : goal.returns
returns c =
    c.unwrap_or.ensures ∙ rw c.new.ensures at c.of_letter.ensures
    ∙ by_letter_lem c.args.line.now c.if-line-gt-LONGEST_LINE.false (sym c.end.ensures ∙ c.if-end-ne1.false)
