-- What was read of a description.
use Rattle.std.specs.Prelude.{ℕ, ◌<◌, ◌≤◌, cond, nat_lt, Result, Ok, Err, IfOk}
use Rattle.desk_reads.specs.declared.Got.{Got}
use Rattle.desk_reads.specs.declared.Got.TheVariants as got
use Rattle.described.specs.declared.Unread.{Unread}
use Rattle.described.specs.declared.Unread.TheVariants.{TooLong, Failed}
use Rattle.described.specs.declared.Step.{Step}
use Rattle.described.specs.declared.Step.TheVariants.{More, Whole}

-- Where the reading stands after a read. The end of the input alone ends a description that is whole: a read that failed does not, nor does a full buffer.
unfoldable pub step_after : Got → ℕ → ℕ → Result Step Unread
step_after (got.More end) size room = cond (nat_lt end room) (Ok (More end)) (Err TooLong)
step_after got.End size room = Ok (Whole size)
step_after got.Failed size room = Err Failed

-- A whole description has no more bytes than there is room for. While more may come, there is room for a byte.
abbrev pub Inside : ℕ → Result ℕ Unread → Type 0
Inside room described = IfOk described (λ size. size ≤ room)

abbrev pub StepInside : ℕ → Step → Type 0
StepInside room (More size) = size < room
StepInside room (Whole size) = size ≤ room
