-- The promises of specs/Promises.antt.
use Rattle.std.proofs.Common.{Result, Ok, Err}
use Rattle.std.specs.Result.{IfOk}
use Prim.Native.Nat.{ℕ, zero, suc, ◌≤◌}
use native.Mathlib.Omega.{arith}
use mathlib.Core.Path.{◌≡◌, refl, ap, ◌∙◌}
use mathlib.Core.List.{List, [], ◌∷◌, ◌++◌}
use Rattle.desk_lines.specs.Printed.{line_feed}
use Rattle.desk_lines.specs.Lines.{line_of}
use Rattle.desk_writer.specs.declared.DeskCall.{DeskCall}
use Rattle.desk_writer.specs.Writer.{written_line}
use Rattle.exercise_lines.specs.Repeats.{call_on}
use Rattle.lesson_words.specs.declared.Fault.{Fault}
use Rattle.lesson_lines.specs.declared.Wrong.{Wrong}
use Rattle.lesson_lines.specs.declared.Meaning.{Meaning}
use Rattle.lesson_lines.specs.declared.Meaning.TheVariants as meaning
use Rattle.lesson_lines.specs.Lesson.{meaning_of, clock_after, wrong_at}
use Rattle.lesson_writer.specs.Lines.{calls_from, all_bytes, lines_of}
use Rattle.lesson_writer.proofs.ReadBackLaws.{read_all, MeaningFits, written_lines_read_back}
use Rattle.lesson_run.specs.declared.Note.TheVariants as note
use Rattle.lesson_run.specs.Run.{all_written, written, told, next_number, output_of, lesson_of}
use Rattle.lesson_demands.specs.Promises.{Fate, is_written, is_empty, is_told, EachHasItsFate, lines_in, bytes_for, named_for, ended}
use Rattle.lesson_demands.proofs.FitLaws.{Sound, meaning_sound}

-- A line is written, is empty or is told.
fate_of : (number clock : ℕ) (line : List ℕ) (m : Result Meaning Wrong) → meaning_of clock line ≡ m → IfOk m Sound → Fate number clock line
unfolding all_written calls_from
fate_of number clock line (Ok meaning.Blank) is sound = is_empty is
fate_of number clock line (Ok (meaning.SetUp l)) is sound = is_written _ [] (ap written is)
fate_of number clock line (Ok (meaning.Calls call zero spacing)) is sound = let none : 1 ≤ 0 = sound.some in absurd (omega arith)
fate_of number clock line (Ok (meaning.Calls call (suc more) spacing)) is sound = is_written _ _ (ap written is)
fate_of number clock line (Err w) is sound = is_told w.at w.fault (ap (told number clock) is)

lines_have_fates : (number clock : ℕ) (lines : List (List ℕ)) → EachHasItsFate number clock lines
unfolding EachHasItsFate
lines_have_fates number clock [] = tt
lines_have_fates number clock (line ∷ lines) = (
  fate_of (next_number number) clock line (meaning_of clock line) refl (meaning_sound clock line),
  lines_have_fates (next_number number) (clock_after clock (meaning_of clock line)) lines,
)

pub each_line_has_its_fate : (input : List ℕ) → EachHasItsFate 0 0 (lines_in input)
each_line_has_its_fate input = lines_have_fates 0 0 (lines_in input)

-- A wrong line writes nothing, and leaves the clock.
pub a_wrong_line_writes_nothing : (number clock place : ℕ) (fault : Fault) (line : List ℕ) → meaning_of clock line ≡ wrong_at place fault
    → (written (meaning_of clock line) ≡ []) × (told number clock (meaning_of clock line) ≡ note.Wrong number place fault ∷ [])
    × (clock_after clock (meaning_of clock line) ≡ clock)
a_wrong_line_writes_nothing number clock place fault line is = (ap written is, ap (told number clock) is, ap (clock_after clock) is)

-- What is written is the desk's lines, each with its LF.
calls_ended : (call : DeskCall) (spacing place count : ℕ)
    → all_written (calls_from call spacing place count) ≡ ended (all_bytes (calls_from call spacing place count))
unfolding all_written all_bytes ended calls_from
calls_ended call spacing place zero = refl
calls_ended call spacing place (suc count) = ap (λ rest. written_line (call_on spacing place call) ∷ rest) (calls_ended call spacing (suc place) count)

written_is_ended : (m : Result Meaning Wrong) → written m ≡ ended (lines_of m)
unfolding ended
written_is_ended (Ok meaning.Blank) = refl
written_is_ended (Ok (meaning.SetUp l)) = refl
written_is_ended (Ok (meaning.Calls call count spacing)) = calls_ended call spacing 0 count
written_is_ended (Err w) = refl

ended_joined : (xs ys : List (List ℕ)) → ended (xs ++ ys) ≡ ended xs ++ ended ys
unfolding ended
ended_joined [] ys = refl
ended_joined (x ∷ xs) ys = ap (λ rest. (x ++ (line_feed ∷ [])) ∷ rest) (ended_joined xs ys)

output_is_ended : (number clock : ℕ) (lines : List (List ℕ)) → (output_of number clock lines).lines ≡ ended (bytes_for clock lines)
unfolding output_of bytes_for ended
output_is_ended number clock [] = refl
output_is_ended number clock (line ∷ lines) =
    let m : Result Meaning Wrong = meaning_of clock line in
    rw (ended_joined (lines_of m) (bytes_for (clock_after clock m) lines), written_is_ended m, output_is_ended (next_number number) (clock_after clock m) lines)

-- The desk reads them as what is named.
read_joined : (xs ys : List (List ℕ)) → read_all (xs ++ ys) ≡ read_all xs ++ read_all ys
unfolding read_all
read_joined [] ys = refl
read_joined (x ∷ xs) ys = ap (λ rest. line_of x ∷ rest) (read_joined xs ys)

fits_if_sound : (m : Result Meaning Wrong) → IfOk m Sound → IfOk m MeaningFits
fits_if_sound (Ok m) sound = sound.fits
fits_if_sound (Err w) sound = tt

lines_are_read : (clock : ℕ) (lines : List (List ℕ)) → read_all (bytes_for clock lines) ≡ named_for clock lines
unfolding bytes_for named_for read_all
lines_are_read clock [] = refl
lines_are_read clock (line ∷ lines) =
    let m : Result Meaning Wrong = meaning_of clock line in
    read_joined (lines_of m) (bytes_for (clock_after clock m) lines)
    ∙ rw (written_lines_read_back m (fits_if_sound m (meaning_sound clock line)), lines_are_read (clock_after clock m) lines)

pub written_lines_are_read_as_named : (input : List ℕ) → ((lesson_of input).lines ≡ ended (bytes_for 0 (lines_in input)))
    × (read_all (bytes_for 0 (lines_in input)) ≡ named_for 0 (lines_in input))
written_lines_are_read_as_named input = (output_is_ended 0 0 (lines_in input), lines_are_read 0 (lines_in input))
