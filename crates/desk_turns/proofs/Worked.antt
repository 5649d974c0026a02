-- Worked examples: inputs with a NUL and with bytes from 128 on.
use Rattle.std.proofs.Common.{◌≡◌, ℕ, List, [], ◌∷◌, refl}
use Rattle.decimal.specs.Decimal.{digits_from}
use Rattle.desk_lines.specs.Fields.{fields}
use Rattle.desk_lines.specs.Lines.{line_of_letter, line_of}
use Rattle.desk_answers.specs.declared.Stage.TheVariants.{First, Ended}
use Rattle.desk_cutting.specs.Answering as Answering
use Rattle.desk_turns.specs.Run.{line_answered, cut, lines_of, printed_all, turned_over}

-- A NUL ends no line, and 138, an LF with 128 added, ends none.
pub two_lines : lines_of (0 ∷ 138 ∷ 10 ∷ 255 ∷ []) ≡ (0 ∷ 138 ∷ []) ∷ (255 ∷ []) ∷ []
unfolding lines_of cut
two_lines = refl

-- A NUL is a line of its own. As line 1 it is malformed, and no further line is answered.
pub nul_is_line_1 : (memory : List ℕ) → printed_all First 0 (lines_of (0 ∷ 10 ∷ 200 ∷ [])) memory ≡ (49 ∷ 32 ∷ 57 ∷ 32 ∷ 48 ∷ 10 ∷ [])
unfolding lines_of cut Answering.lines_answered line_answered line_of line_of_letter fields digits_from
nul_is_line_1 memory = refl

-- The same in two reads, the first of them the NUL: the run has ended with code 9, and the memory is as it was.
pub nul_in_two_reads : (memory : List ℕ) → turned_over ((0 ∷ []) ∷ (10 ∷ 200 ∷ []) ∷ []) (record {
  pending = [];
  state = record {
    stage = First;
    number = 0;
    memory = memory;
  };
})
    ≡ record { pending = 200 ∷ []; state = record { stage = Ended 9; number = 1; memory = memory } }
unfolding Answering.turned_over Answering.turned cut Answering.lines_answered line_answered line_of line_of_letter fields
nul_in_two_reads memory = refl
