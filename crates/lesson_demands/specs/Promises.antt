-- What is promised of every lesson, whatever bytes it has.
--
-- Theorems, in proofs/Theorem.antt:
-- * `each_line_has_its_fate`: a line of a lesson is written, is empty or is told as wrong. Nothing is lost without a word.
-- * `written_lines_are_read_as_named`: the desk reads every line that is written for a lesson as the settings or the call that the lesson's line names, in
-- order.
-- * `a_wrong_line_writes_nothing`: for a wrong line nothing is written, it is told, and the clock stays.
use Rattle.std.specs.Prelude.{ℕ, ◌≡◌, List, [], ◌∷◌, ◌++◌, drop, Ok}
use Rattle.desk_cutting.specs.Cutting as Cutting
use Rattle.desk_lines.specs.Printed.{line_feed}
use Rattle.desk_lines.specs.declared.Line.{Line}
use Rattle.lesson_words.specs.declared.Fault.{Fault}
use Rattle.lesson_lines.specs.declared.Meaning.TheVariants as meaning
use Rattle.lesson_lines.specs.Lesson.{meaning_of, clock_after}
use Rattle.lesson_writer.specs.Lines.{lines_of, named_by}
use Rattle.lesson_run.specs.declared.Note.TheVariants as note
use Rattle.lesson_run.specs.Run.{start_of, written, told, next_number}

-- What becomes of a line with a number, at a clock: at least one line is written for it; or it has no word before a comment; or it is told that it is wrong,
-- and where.
pub data Fate (number clock : ℕ) (line : List ℕ) : Type 0 where
  is_written : (first : List ℕ) (more : List (List ℕ)) → written (meaning_of clock line) ≡ first ∷ more → Fate number clock line
  is_empty : meaning_of clock line ≡ Ok meaning.Blank → Fate number clock line
  is_told : (place : ℕ) (fault : Fault) → told number clock (meaning_of clock line) ≡ note.Wrong number place fault ∷ [] → Fate number clock line

-- Each of some lines has its fate, by the number of the line before and the clock.
unfoldable pub EachHasItsFate : ℕ → ℕ → List (List ℕ) → Type 0
EachHasItsFate number clock [] = Unit {0}
EachHasItsFate number clock (line ∷ lines) =
    Fate (next_number number) clock line × EachHasItsFate (next_number number) (clock_after clock (meaning_of clock line)) lines

-- The lines of an input, without a byte order mark in front.
abbrev pub lines_in : List ℕ → List (List ℕ)
lines_in input = Cutting.lines_of (drop (start_of input) input)

-- The desk's lines for some lines of a lesson, each without its LF, and the settings and calls that they name.
unfoldable pub bytes_for : ℕ → List (List ℕ) → List (List ℕ)
bytes_for clock [] = []
bytes_for clock (line ∷ lines) = let m = meaning_of clock line in lines_of m ++ bytes_for (clock_after clock m) lines

unfoldable pub named_for : ℕ → List (List ℕ) → List Line
named_for clock [] = []
named_for clock (line ∷ lines) = let m = meaning_of clock line in named_by m ++ named_for (clock_after clock m) lines

-- Some lines, each with an LF.
unfoldable pub ended : List (List ℕ) → List (List ℕ)
ended [] = []
ended (line ∷ lines) = (line ++ (line_feed ∷ [])) ∷ ended lines
