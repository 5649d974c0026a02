use Rattle.lesson_words.proofs.WordLaws.{no_blank_at_end, blank_goes_on, blanks_stop}
use mathlib.Core.Path.{sym, ◌∙◌}
use native.Mathlib.Omega.{arith}
use Rattle.lesson_words.proofs.word_start.Goals as goal

pub loop-at-preserved : goal.loop-at-preserved
loop-at-preserved c = sym (blank_goes_on _ _ (omega arith) (sym c.is_blank.ensures ∙ c.if-not-is_blank.false)) ∙ c.loop-at.invariant

pub returns-then-not-is_blank : goal.returns-then-not-is_blank
returns-then-not-is_blank c = let loop' = c.loop-at in
    omega (
      arith,
      loop'.invariant,
      blanks_stop c.args.line.now loop'.at (omega arith)
          (sym c.is_blank.ensures ∙ c.if-not-is_blank.true),
    )

pub returns : goal.returns
returns c = let loop' = c.loop-at in
    omega (arith, loop'.invariant, no_blank_at_end c.args.line.now loop'.at (omega arith))
