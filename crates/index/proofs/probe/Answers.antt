-- `probe` makes of the word at a place what the definition makes of it. The word less 1 is below the count exactly where the word names an item.
use Rattle.std.proofs.Common.{sym, ◌∙◌, arith}
use Rattle.index.proofs.StepLaws.{probed_hit, probed_miss, probed_empty, probed_no_item, worked_out_names, worked_out_over}
use Rattle.index.proofs.probe.Goals as goal

pub returns-then-has_key : goal.returns-then-has_key
returns-then-has_key c = let names = sym c.word_at-word.ensures ∙ worked_out_names _ _ (omega arith) c.if-item-n.true (omega arith) in
    probed_hit _ _ _ _ names c.if-item-n.true (sym c.has_key.ensures ∙ c.if-has_key.true)

pub returns-then-item-n : goal.returns-then-item-n
returns-then-item-n c = let names = sym c.word_at-word.ensures ∙ worked_out_names _ _ (omega arith) c.if-item-n.true (omega arith) in
    probed_miss _ _ _ _ names c.if-item-n.true (sym c.has_key.ensures ∙ c.if-has_key.false)

pub returns-then-word-eq0 : goal.returns-then-word-eq0
returns-then-word-eq0 c = probed_empty _ _ _ (sym c.word_at-word.ensures ∙ c.if-word-eq0.true)

pub returns : goal.returns
returns c = let over = worked_out_over _ _ (omega arith) c.if-item-n.false c.if-word-eq0.false in
    probed_no_item _ _ _ (rw c.word_at-word.ensures at over)
