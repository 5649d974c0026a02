-- src/lib.rt:56:9
use Rattle.lesson_lines.proofs.LetterLaws.{before_the_comment}
use Rattle.lesson_lines.proofs.read.Goals as goal

pub returns : goal.returns
returns c = rw (before_the_comment c.args.line.now c.find-stop.ensures.first) at c.of_words.ensures
