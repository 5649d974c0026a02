-- The pieces that an input is read in do not matter to the desk: what the turns print is what is printed for the lines of the whole input.
use Rattle.std.proofs.Common.{◌≡◌, ℕ, ◌+◌, ◌-◌, ◌≤◌, false, List, [], ◌∷◌, ◌++◌, take, sym, ap, ◌∙◌, arith, take-add}
use Rattle.rows.specs.Segments.{segment}
use Rattle.rows.proofs.OutcomeLaws.{answer_is, after_is}
use Rattle.desk_answers.specs.declared.Stage.TheVariants.{First}
use Rattle.desk_cutting.specs.Answering as Answering
use Rattle.desk_cutting.proofs.CutLaws.{NoFeed}
use Rattle.desk_cutting.proofs.AnsweringLaws as Laws
use Rattle.desk_turns.specs.declared.Feed.{Feed}
use Rattle.desk_turns.specs.declared.Turned.{Turned}
use Rattle.desk_turns.specs.Feeding.{state_of, OneTurn}
use Rattle.desk_turns.specs.Run.{State, has_ended, lines_answered, last_line, lines_of, printed_all, kept_of, desk}
use Rattle.desk_turns.specs.Run.{Standing, turned, turned_over, printed_in_turns, joined}
use Rattle.desk_turns.proofs.RunLaws.{desk_by_line}

-- For every cutting of an input into reads the turns print what is printed for the input's lines.
pub every_cutting_prints_the_same : (reads : List (List ℕ)) (memory : List ℕ)
    → printed_in_turns reads (record { pending = []; state = record { stage = First; number = 0; memory = memory } })
    ≡ printed_all First 0 (lines_of (joined reads)) memory
every_cutting_prints_the_same reads memory = Laws.every_cutting_prints_the_same desk desk_by_line reads (record { stage = First; number = 0; memory = memory })

-- What the contract of `turn` says of the buffers is a turn: the bytes that were pending, and after them those that were read.
pub turn_is_turned : {f : Feed} {end : ℕ} {input memory output : List ℕ} {r : Turned} {input' memory' output' : List ℕ} (pending : ℕ) → pending ≤ end
    → OneTurn f end input memory output r input' memory' output' → let t =
    turned (segment pending (end - pending) input) (record { pending = take pending input; state = state_of f memory }) in
    (take r.feed.put output' ≡ t.answer) × (state_of r.feed memory' ≡ t.after.state)
    × (has_ended r.feed.stage ≡ false → take r.pending input' ≡ t.after.pending)
unfolding Answering.turned
turn_is_turned {end = end} {input = input} pending within one =
    let place : pending + (end - pending) ≡ end = omega (arith, within) in
    let whole : take pending input ++ segment pending (end - pending) input ≡ take end input =
    sym (take-add pending (end - pending) input) ∙ ap (λ (k : ℕ). take k input) place in
    rw whole (answer_is one.answers, after_is one.answers, one.keeps)

-- One read more.
pub one_turn_more : (reads : List (List ℕ)) (read : List ℕ) (s : Standing) → turned_over (reads ++ (read ∷ [])) s ≡ (turned read (turned_over reads s)).after
one_turn_more reads read s = Laws.one_turn_more desk reads read s

-- How the run stands after bytes, and after reads with a line begun before them.
abbrev pub stands_after : List ℕ → State → Standing
stands_after bytes s = Laws.stands_after desk bytes s

pub stands_from : (rest : List ℕ) → NoFeed rest → (reads : List (List ℕ)) (s : State)
    → turned_over reads (record { pending = kept_of rest; state = s }) ≡ stands_after (rest ++ joined reads) s
stands_from rest none reads s = Laws.stands_from desk desk_by_line rest none reads s

-- For every cutting of an input into reads the run stands, after the last line, where the input's lines bring it.
pub every_cutting_stands_the_same : (reads : List (List ℕ)) (s : State) → let t = turned_over reads (record { pending = []; state = s }) in
    (lines_answered (last_line t.pending) t.state).after ≡ (lines_answered (lines_of (joined reads)) s).after
every_cutting_stands_the_same reads s = Laws.every_cutting_stands_the_same desk desk_by_line reads s
