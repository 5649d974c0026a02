-- The loop over the whole lines, with what it keeps of the buffers; a turn and the end of the input.
use Rattle.std.proofs.Common.{◌≡◌, ℕ, ◌+◌, ◌-◌, ◌≤◌, false, List, [], ◌++◌, length, take, refl, ap, ◌∙◌, arith}
use Rattle.rows.specs.Outcome.{Outcome, outcome}
use Rattle.rows.proofs.OutcomeLaws.{answer_is, after_is}
use Rattle.desk_answers.specs.Desk.{has_ended}
use Rattle.desk_cutting.specs.Cutting.{cut, last_line}
use Rattle.desk_cutting.specs.Answering.{and_then, lines_answered}
use Rattle.desk_cutting.proofs.UnderwayLaws as Cutting
use Rattle.outage_run.specs.declared.Feed.{Feed}
use Rattle.outage_run.specs.Feeding.{village_of, unprinted, fed, rows_to_print, bytes_for, SameFrom, Took}
use Rattle.outage_run.specs.Run.{Village, village, finished}

-- The whole lines of some bytes, taken up to a place: the buffers are as long as they were, and there is room for what is still to be printed.
pub record Underway (f₀ : Feed) (bytes rs₀ memory₀ output₀ : List ℕ) (f : Feed) (at : ℕ) (rs memory output : List ℕ) : Type 0 where
  pub same_output : length output ≡ length output₀
  pub same_rs : length rs ≡ length rs₀
  pub same_memory : length memory ≡ length memory₀
  pub inside : at ≤ length bytes
  pub rows : rows_to_print f ≤ rows_to_print f₀
  pub fits : bytes_for (length bytes - at) f ≤ length output₀
  pub goes_on : has_ended f.stage ≡ false
  pub far : Cutting.Underway village (fed f₀ rs₀ memory₀ output₀) bytes at (fed f rs memory output)
  pub beyond : SameFrom f.put output₀ output

pub none_yet : (f : Feed) (bytes rs memory output : List ℕ) → bytes_for (length bytes) f ≤ length output → has_ended f.stage ≡ false
    → Underway f bytes rs memory output f 0 rs memory output
none_yet f bytes rs memory output room goes_on = record {
  same_output = refl;
  same_rs = refl;
  same_memory = refl;
  inside = omega arith;
  rows = omega arith;
  fits = omega (arith, room);
  goes_on = goes_on;
  far = Cutting.none_yet village (fed f rs memory output) bytes;
  beyond = refl;
}

-- A turn: nothing stood printed before it.
pub turn_answers : (end : ℕ) (input : List ℕ) (f : Feed) (rs memory output : List ℕ) {o : Outcome (List ℕ) Village}
    → o ≡ and_then (fed (unprinted f) rs memory output) (lines_answered village (cut (take (end - 0) input)).lines)
    → o ≡ lines_answered village (cut (take end input)).lines (village_of f rs memory)
turn_answers end input f rs memory output answers = let same : end - 0 ≡ end = omega arith in rw same at answers

-- The end of the input: the rows are run once the last line is taken, or at once where no line has begun.
pub last_then_run : {g : Feed} {rs₁ memory₁ output₁ : List ℕ} {r : Feed} {rs' memory' output' : List ℕ} {last : Outcome (List ℕ) Village}
    → fed g rs₁ memory₁ output₁ ≡ last → Took 0 finished g rs₁ memory₁ output₁ r rs' memory' output'
    → fed r rs' memory' output' ≡ and_then last finished
last_then_run is took = took.answers ∙ ap (λ (o : Outcome (List ℕ) Village). and_then o finished) is
