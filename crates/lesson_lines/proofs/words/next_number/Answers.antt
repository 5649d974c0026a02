use Rattle.lesson_lines.proofs.ReadingLaws.{word_between}
use Rattle.lesson_lines.proofs.words.next_number.Goals as goal

pub number_at-requires : goal.number_at-requires
number_at-requires c = word_between _ _ c.word_end.ensures
