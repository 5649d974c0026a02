-- A run from the start to the end: where it stands, step after step.
use Rattle.std.proofs.Common.{◌≡◌, ℕ, ◌+◌, ◌≤◌, eqb, List, [], ◌∷◌, ◌++◌, length, sym, refl, ap, ◌∙◌, append_assoc, append-nil, arith, length-append}
use Rattle.arith.proofs.Cases.{by_test}
use Rattle.lesson_run.specs.declared.Note.{Note}
use Rattle.lesson_run.specs.declared.Note.TheVariants as note
use Rattle.lesson_run.specs.declared.Progress.{Progress}
use Rattle.lesson_run.specs.declared.Step.{Step}
use Rattle.lesson_run.specs.Run.{and_then, left_of, lesson_of, start_of, start_at, line_in, notes_in, wrong_one, wrong_in, lines_in, Stands}
use Rattle.lesson_run.specs.Run.{Stepped, Counted}
use Rattle.lesson_run.proofs.RunLaws.{at_line_left}

-- At the start nothing was handed out, and all is left.
pub stands_at_start : (text : List ℕ) {p : Progress} → p ≡ start_at (start_of text) → Stands text p 0 0
unfolding wrong_in
stands_at_start text is =
    rw is (record {
      handed = record { lines = []; notes = [] };
      splits = sym (at_line_left text (start_of text) 0 0);
      counted = refl;
      missed = refl;
      good = λ more. absurd (omega arith);
    })

-- The counts of one step.
one_line : (size : ℕ) (out : List ℕ) → lines_in size ≡ length (line_in size out)
one_line size out = by_test (eqb size 0) (λ t. rw t) (λ t. rw t)

one_wrong : (n : Note) → wrong_one n ≡ wrong_in (notes_in n)
unfolding wrong_in
one_wrong note.Nothing = refl
one_wrong (note.Wrong number at f) = refl
one_wrong (note.Falls number moment clock) = refl

wrong_append : (ns ms : List Note) → wrong_in (ns ++ ms) ≡ wrong_in ns + wrong_in ms
unfolding wrong_in
wrong_append [] ms = omega arith
wrong_append (n ∷ ns) ms = omega (arith, wrong_append ns ms)

-- A step further.
pub stands_after : (text : List ℕ) (p : Progress) (lines wrong : ℕ) (r : Step) (out : List ℕ) → Stands text p lines wrong → Stepped text p r out
    → Stands text r.progress (lines + lines_in r.size) (wrong + wrong_one r.note)
stands_after text p lines wrong r out s step =
    let ls = s.handed.lines in
    let ns = s.handed.notes in
    let more = line_in r.size out in
    let told = notes_in r.note in
    let next = left_of text r.progress in
    let all : and_then ls ns (and_then more told next) ≡ and_then (ls ++ more) (ns ++ told) next =
    (λ i. record { lines = sym (append_assoc ls more next.lines) i; notes = sym (append_assoc ns told next.notes) i }) in
    record {
      handed = record { lines = ls ++ more; notes = ns ++ told };
      splits = s.splits ∙ ap (and_then ls ns) step.splits ∙ all;
      counted = omega (arith, s.counted, one_line r.size out, length-append ls more);
      missed = omega (arith, s.missed, one_wrong r.note, wrong_append ns told);
      good = step.good;
    }

-- The end: the counts are those of the whole output.
pub counted_at_end : (text : List ℕ) (p : Progress) (lines wrong : ℕ) → Stands text p lines wrong → left_of text p ≡ record { lines = []; notes = [] }
    → Counted text lines wrong
counted_at_end text p lines wrong s none =
    let whole : lesson_of text ≡ and_then s.handed.lines s.handed.notes (record { lines = []; notes = [] }) =
    s.splits ∙ ap (and_then s.handed.lines s.handed.notes) none in
    record {
      all_lines = s.counted ∙ rw whole (ap length (sym (append-nil s.handed.lines)));
      all_wrong = s.missed ∙ rw whole (ap wrong_in (sym (append-nil s.handed.notes)));
    }

-- A step hands out at most one line, and leaves out at most one.
pub lines_at_most : (size : ℕ) → lines_in size ≤ 1
lines_at_most size = by_test (eqb size 0) (λ t. rw t (omega arith)) (λ t. rw t (omega arith))

pub wrong_at_most : (n : Note) → wrong_one n ≤ 1
wrong_at_most note.Nothing = omega arith
wrong_at_most (note.Wrong number at f) = omega arith
wrong_at_most (note.Falls number moment clock) = omega arith
