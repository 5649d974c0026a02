-- What was handed out of a description.
use Rattle.std.specs.Prelude.{ℕ, List, Option, IfSome}
use Rattle.lesson_run.specs.Run.{Counted}
use Rattle.lesson.specs.declared.Counts.{Counts}

-- Where all was handed out, the counts are those of the whole output of the lesson.
abbrev pub Finished : List ℕ → Option Counts → Type 0
Finished text counted = IfSome counted (λ c. Counted text c.written c.wrong)
