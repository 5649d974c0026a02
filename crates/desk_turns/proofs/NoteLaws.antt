-- A line is answered with 9 exactly if it has a reason, so a note is written for a line exactly if it has one.
use Rattle.std.proofs.Common.{◌≡◌, ℕ, ◌+◌, Bool, false, cond, not, eqb, List, length, take, refl, true≢false, arith, ne_eqb}
use Rattle.arith.proofs.Cases.{by_test}
use Rattle.settings.specs.declared.decision.Decision.TheVariants.{Acquired, Retry, Impossible}
use Rattle.rules.specs.declared.Reply.{Reply}
use Rattle.rules.specs.declared.Reply.TheVariants.{Tried, Reserved, Nothing, Done, Count, Refused}
use Rattle.rules.specs.Replies as Replies
use Rattle.rules.specs.Rules as Rules
use Rattle.desk_lines.specs.declared.Line.{Line}
use Rattle.desk_lines.specs.declared.Line.TheVariants.{SetUp, Try, Peek, Reserve, Refund, Remove, Malformed}
use Rattle.desk_lines.specs.Lines.{line_of}
use Rattle.desk_reasons.specs.Reasons.{is_fine, is_set_up, out_of_place, reason_of, reason_at}
use Rattle.desk_reasons.proofs.ReasonLaws.{is_well_formed, has_reason_exactly_if_malformed}
use Rattle.desk_answers.specs.declared.Stage.{Stage}
use Rattle.desk_answers.specs.declared.Stage.TheVariants.{First, Open, Ended}
use Rattle.desk_answers.specs.Desk.{identity_of, store_size, served}
use Rattle.desk_turns.specs.Run.{is_first, has_ended}

-- No reply of the limiter has the code 9.
no_reply_is_9 : (r : Reply) → eqb (Replies.code_of r) 9 ≡ false
no_reply_is_9 (Tried (Acquired due)) = refl
no_reply_is_9 (Tried (Retry due)) = refl
no_reply_is_9 (Tried Impossible) = refl
no_reply_is_9 (Reserved due) = refl
no_reply_is_9 Nothing = refl
no_reply_is_9 Done = refl
no_reply_is_9 (Count n) = refl
no_reply_is_9 (Refused n) = ne_eqb (10 + n) 9 (λ is. omega arith)

-- By the call that a line is: 9 is told of a line that is malformed or out of its place, and of no other.
abbrev told9 : Stage → Line → List ℕ → Bool
told9 stage line memory = eqb (served stage line memory).answer.told.code 9

by_line : (stage : Stage) (line : Line) (memory : List ℕ) → has_ended stage ≡ false
    → told9 stage line memory ≡ not (cond (is_well_formed line) (is_fine (out_of_place (is_first stage) (is_set_up line))) false)
by_line First (SetUp s) memory goes_on = no_reply_is_9 (Rules.set_up s (take (store_size s (length memory)) memory)).answer
by_line First (Try q) memory goes_on = refl
by_line First (Peek q) memory goes_on = refl
by_line First (Reserve q longest) memory goes_on = refl
by_line First (Refund key cost) memory goes_on = refl
by_line First (Remove key) memory goes_on = refl
by_line First Malformed memory goes_on = refl
by_line (Open s) (SetUp t) memory goes_on = refl
by_line (Open s) (Try q) memory goes_on =
    no_reply_is_9 (Rules.try_acquire s q.at (identity_of q.key) q.cost (take (store_size s (length memory)) memory)).answer
by_line (Open s) (Peek q) memory goes_on =
    no_reply_is_9 (Rules.peek s q.at (identity_of q.key) q.cost (take (store_size s (length memory)) memory)).answer
by_line (Open s) (Reserve q longest) memory goes_on =
    no_reply_is_9 (Rules.reserve s q.at (identity_of q.key) q.cost longest (take (store_size s (length memory)) memory)).answer
by_line (Open s) (Refund key cost) memory goes_on = no_reply_is_9 (Rules.refund s (identity_of key) cost (take (store_size s (length memory)) memory)).answer
by_line (Open s) (Remove key) memory goes_on = no_reply_is_9 (Rules.remove s (identity_of key) (take (store_size s (length memory)) memory)).answer
by_line (Open s) Malformed memory goes_on = refl
by_line (Ended code) line memory goes_on = absurd (true≢false goes_on)

fine_by_parts : (first : Bool) (bytes : List ℕ)
    → is_fine (reason_at first bytes) ≡ cond (is_fine (reason_of bytes)) (is_fine (out_of_place first (is_set_up (line_of bytes)))) false
unfolding reason_at
fine_by_parts first bytes = by_test (is_fine (reason_of bytes)) (λ fine. rw fine) (λ faulty. rw (faulty, faulty))

pub nine_exactly_if_a_reason : (stage : Stage) (bytes memory : List ℕ) → has_ended stage ≡ false
    → told9 stage (line_of bytes) memory ≡ not (is_fine (reason_at (is_first stage) bytes))
nine_exactly_if_a_reason stage bytes memory goes_on =
    rw (fine_by_parts (is_first stage) bytes, has_reason_exactly_if_malformed bytes) (by_line stage (line_of bytes) memory goes_on)
