-- src/words.rt:53:9
use Rattle.lesson_lines.proofs.ReadingLaws.{no_word_end}
use Rattle.lesson_lines.proofs.words.word_end.Goals as goal

pub returns-then-line-from : goal.returns-then-line-from
returns-then-line-from c = no_word_end _ _ c.if-line-from.true
