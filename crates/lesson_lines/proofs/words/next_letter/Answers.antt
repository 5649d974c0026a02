use Rattle.lesson_lines.proofs.ReadingLaws.{word_between}
use Rattle.lesson_lines.proofs.words.next_letter.Goals as goal

pub letter_at-requires : goal.letter_at-requires
letter_at-requires c = word_between _ _ c.word_end.ensures
