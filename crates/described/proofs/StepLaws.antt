-- The reading of a description stays within the buffer.
use Rattle.std.proofs.Common.{◌≡◌, ℕ, ◌<◌, ◌≤◌, ltb, ltb-true, Result, Ok, Err, IfOk}
use Rattle.arith.proofs.Cases.{by_test}
use Rattle.desk_reads.specs.declared.Got.{Got}
use Rattle.desk_reads.specs.declared.Got.TheVariants as got
use Rattle.described.specs.declared.Unread.{Unread}
use Rattle.described.specs.declared.Step.{Step}
use Rattle.described.specs.declared.Step.TheVariants.{More, Whole}
use Rattle.described.specs.Described.{step_after, Inside, StepInside}

step_inside : (g : Got) (size room : ℕ) → size ≤ room → IfOk (step_after g size room) (StepInside room)
unfolding step_after
step_inside (got.More end) size room within = by_test (ltb end room) (λ t. rw t (ltb-true end room t)) (λ t. rw t tt)
step_inside got.End size room within = within
step_inside got.Failed size room within = tt

-- The same of a step that is known.
pub step_is_inside : (g : Got) (size room : ℕ) {s : Step} → size ≤ room → step_after g size room ≡ Ok s → StepInside room s
step_is_inside g size room within is = rw is at (step_inside g size room within)

-- The step after which the reading is over, with a whole description or without one.
abbrev pub over : Result ℕ Unread → Result Step Unread
over (Ok size) = Ok (Whole size)
over (Err u) = Err u

over_inside : (room : ℕ) (d : Result ℕ Unread) → IfOk (over d) (StepInside room) → Inside room d
over_inside room (Ok size) within = within
over_inside room (Err u) within = tt

module _ (g : Got) (size room : ℕ) {s : Result Step Unread} (within : size ≤ room) (is : s ≡ step_after g size room) where
  stays_inside : IfOk s (StepInside room)
  stays_inside = rw is (step_inside g size room within)

  pub more_leaves_room : {end : ℕ} → s ≡ Ok (More end) → end < room
  more_leaves_room known = rw known at stays_inside

  -- A description that is over lies inside its room.
  pub over_is_inside : (d : Result ℕ Unread) {room' : ℕ} → s ≡ over d → room ≡ room' → Inside room' d
  over_is_inside d known same = rw same at (over_inside room d (rw known at stays_inside))
