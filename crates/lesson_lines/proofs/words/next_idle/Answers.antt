use Rattle.lesson_lines.proofs.ReadingLaws.{word_between}
use Rattle.lesson_lines.proofs.words.next_idle.Goals as goal

pub idle_at-requires : goal.idle_at-requires
idle_at-requires c = word_between _ _ c.word_end.ensures
