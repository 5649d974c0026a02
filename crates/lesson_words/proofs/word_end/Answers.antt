use Rattle.lesson_words.proofs.WordLaws.{no_word_at_end, word_goes_on, word_stops}
use mathlib.Core.Path.{sym, ◌∙◌}
use native.Mathlib.Omega.{arith}
use Rattle.lesson_words.proofs.word_end.Goals as goal

pub loop-at-preserved : goal.loop-at-preserved
loop-at-preserved c = sym (word_goes_on _ _ (omega arith) (sym c.is_blank.ensures ∙ c.if-is_blank.false)) ∙ c.loop-at.invariant

pub returns-then-is_blank : goal.returns-then-is_blank
returns-then-is_blank c = let loop' = c.loop-at in
    omega (
      arith,
      loop'.invariant,
      word_stops c.args.line.now loop'.at (omega arith)
          (sym c.is_blank.ensures ∙ c.if-is_blank.true),
    )

pub returns : goal.returns
returns c = let loop' = c.loop-at in
    omega (arith, loop'.invariant, no_word_at_end c.args.line.now loop'.at (omega arith))
