-- src/words.rt:43:9
use Rattle.lesson_lines.proofs.ReadingLaws.{no_word_from}
use Rattle.lesson_lines.proofs.words.word_from.Goals as goal

pub returns-then-line-at : goal.returns-then-line-at
returns-then-line-at c = no_word_from _ _ c.if-line-at.true
