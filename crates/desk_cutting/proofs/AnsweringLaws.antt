-- The pieces that an input is read in do not matter: what the turns of a program print is what it prints for the lines of the whole input, and so it is with
-- how the run stands. For every program that goes by what its lines are read as.
use Prim.Native.Nat.{ℕ, ◌+◌}
use mathlib.Core.Path.{◌≡◌, refl, sym, ap, ◌∙◌}
use mathlib.Core.Bool.{true, false}
use mathlib.Core.List.{List, [], ◌∷◌, ◌++◌, append-nil, append_assoc}
use Rattle.arith.proofs.Cases.{by_test}
use Rattle.rows.specs.Outcome.{Outcome, outcome}
use Rattle.desk_lines.specs.Lines.{longest_line, line_of}
use Rattle.desk_lines.proofs.LineLaws.{kept_is_enough}
use Rattle.desk_cutting.specs.Cutting.{cut, last_line, lines_of, kept_of, joined}
use Rattle.desk_cutting.specs.Answering.{Machine, ByLine, and_then, lines_answered, Standing, turned, turned_over, printed_in_turns}
use Rattle.desk_cutting.proofs.CutLaws.{NoFeed, no_feed_in_part, no_feed_in_rest, onto, cut_onto, lines_in_parts, turn_keeps_enough, rest_is_last}
use Rattle.desk_cutting.proofs.CutLaws.{cut_in_parts}

module _ {S : Type 0} (m : Machine S) where
  -- Once the run has ended no line is answered.
  pub none_once_ended : (lines : List (List ℕ)) (s : S) → m.ended s ≡ true → lines_answered m lines s ≡ outcome [] s
  unfolding lines_answered
  none_once_ended [] s ended = refl
  none_once_ended (line ∷ lines) s ended = rw ended

  module _ (o : Outcome (List ℕ) S) where
    pub nothing_follows : and_then o (lines_answered m []) ≡ o
    unfolding lines_answered
    nothing_follows = ap (λ (l : List ℕ). outcome l o.after) (append-nil o.answer)

    pub ended_is_all : (lines : List (List ℕ)) → m.ended o.after ≡ true → and_then o (lines_answered m lines) ≡ o
    ended_is_all lines ended =
        ap (λ (p : Outcome (List ℕ) S). outcome (o.answer ++ p.answer) p.after) (none_once_ended lines o.after ended)
        ∙ ap (λ (l : List ℕ). outcome l o.after) (append-nil o.answer)

    -- A line and the others after it.
    pub one_and_others : (line : List ℕ) (lines : List (List ℕ)) → m.ended o.after ≡ false
        → and_then o (lines_answered m (line ∷ lines)) ≡ and_then (and_then o (m.answers line)) (lines_answered m lines)
    unfolding lines_answered
    one_and_others line lines goes_on = rw (goes_on, append_assoc o.answer (m.answers line o.after).answer)

  -- Lines and others after them.
  abbrev after : List ℕ → Outcome (List ℕ) S → Outcome (List ℕ) S
  after printed o = outcome (printed ++ o.answer) o.after

  pub answered_in_parts : (lines others : List (List ℕ)) (s : S)
      → lines_answered m (lines ++ others) s ≡ and_then (lines_answered m lines s) (lines_answered m others)
  unfolding lines_answered
  answered_in_parts [] others s = refl
  answered_in_parts (line ∷ lines) others s =
      let o = m.answers line s in
      let p = lines_answered m lines o.after in
      let q = lines_answered m others p.after in
      by_test (m.ended s) (λ ended. rw ended (sym (none_once_ended others s ended)))
      (λ goes_on. rw goes_on (ap (after o.answer) (answered_in_parts lines others o.after)
      ∙ ap (λ (l : List ℕ). outcome l q.after) (sym (append_assoc o.answer p.answer q.answer))))

  -- One read more.
  pub one_turn_more : (reads : List (List ℕ)) (read : List ℕ) (s : Standing S)
      → turned_over m (reads ++ (read ∷ [])) s ≡ (turned m read (turned_over m reads s)).after
  unfolding turned_over
  one_turn_more [] read s = refl
  one_turn_more (first ∷ reads) read s = one_turn_more reads read (turned m first s).after

  -- How the run stands after bytes: the whole lines among them are answered, and what is kept of the last one is pending.
  abbrev pub stands_after : List ℕ → S → Standing S
  stands_after bytes s = record { pending = kept_of (cut bytes).rest; state = (lines_answered m (cut bytes).lines s).after }

module _ {S : Type 0} (m : Machine S) (by_line : ByLine m) where
  -- What is kept of a line's beginning is as good as all of it for the answer of the line.
  module _ (line other : List ℕ) (same : line_of line ≡ line_of other) where
    same_first_same_answers : (lines : List (List ℕ)) (s : S) → lines_answered m (line ∷ lines) s ≡ lines_answered m (other ∷ lines) s
    unfolding lines_answered
    same_first_same_answers lines s = rw (by_line line other same s)

  last_by_kept : (rest : List ℕ) (s : S) → lines_answered m (last_line (kept_of rest)) s ≡ lines_answered m (last_line rest) s
  last_by_kept [] s = refl
  last_by_kept (b ∷ bs) s =
      same_first_same_answers (kept_of (b ∷ bs)) (b ∷ bs) (rw (append-nil (kept_of (b ∷ bs)), append-nil (b ∷ bs)) at (kept_is_enough (b ∷ bs) [])) [] s

  answers_by_kept : (rest : List ℕ) (lines : List (List ℕ)) (end : List ℕ) (s : S)
      → lines_answered m (onto (kept_of rest) lines end).lines s ≡ lines_answered m (onto rest lines end).lines s
  answers_by_kept rest [] end s = refl
  answers_by_kept rest (line ∷ lines) end s = same_first_same_answers (kept_of rest ++ line) (rest ++ line) (kept_is_enough rest line) lines s

  module _ (rest : List ℕ) (none : NoFeed rest) (read : List ℕ) where
    turn_answers_all : (s : S) → lines_answered m (cut (kept_of rest ++ read)).lines s ≡ lines_answered m (cut (rest ++ read)).lines s
    turn_answers_all s =
        rw (cut_onto (kept_of rest) read (no_feed_in_part (longest_line + 1) rest none), cut_onto rest read none)
        (answers_by_kept rest (cut read).lines (cut read).rest s)

  -- From a line's beginning on, with what is kept of it pending.
  module _ (rest : List ℕ) (none : NoFeed rest) (read : List ℕ) (reads : List (List ℕ)) (s : S) where
    parts_follow : let o = lines_answered m (cut (rest ++ read)).lines s in
        o.answer ++ (lines_answered m (lines_of ((cut (rest ++ read)).rest ++ joined reads)) o.after).answer
        ≡ (lines_answered m (lines_of (rest ++ (read ++ joined reads))) s).answer
    parts_follow =
        let whole = sym (lines_in_parts (rest ++ read) (joined reads)) ∙ ap lines_of (append_assoc rest read (joined reads)) in
        sym (ap (λ (o : Outcome (List ℕ) S). o.answer)
        (answered_in_parts m (cut (rest ++ read)).lines (lines_of ((cut (rest ++ read)).rest ++ joined reads)) s))
        ∙ ap (λ (lines : List (List ℕ)). (lines_answered m lines s).answer) whole

  printed_from_lem : (rest : List ℕ) → NoFeed rest → (reads : List (List ℕ)) (s : S)
      → printed_in_turns m reads (record { pending = kept_of rest; state = s }) ≡ (lines_answered m (lines_of (rest ++ joined reads)) s).answer
  unfolding printed_in_turns joined turned
  printed_from_lem rest none [] s = ap (λ (o : Outcome (List ℕ) S). o.answer) (last_by_kept rest s) ∙ rw (rest_is_last rest none)
  printed_from_lem rest none (read ∷ reads) s =
      let o = lines_answered m (cut (rest ++ read)).lines s in
      by_test (m.ended s) (λ ended. rw (ended, none_once_ended m (lines_of (rest ++ (read ++ joined reads))) s ended))
      (λ goes_on. rw (goes_on, turn_answers_all rest none read s, turn_keeps_enough rest none read)
      (ap (λ (l : List ℕ). o.answer ++ l) (printed_from_lem (cut (rest ++ read)).rest (no_feed_in_rest (rest ++ read)) reads o.after)
      ∙ parts_follow rest none read reads s))

  -- For every cutting of an input into reads the turns print what is printed for the input's lines.
  pub every_cutting_prints_the_same : (reads : List (List ℕ)) (s : S)
      → printed_in_turns m reads (record { pending = []; state = s }) ≡ (lines_answered m (lines_of (joined reads)) s).answer
  every_cutting_prints_the_same reads s = printed_from_lem [] tt reads s

  stands_in_parts : (bs more : List ℕ) (s : S)
      → stands_after m ((cut bs).rest ++ more) (lines_answered m (cut bs).lines s).after ≡ stands_after m (bs ++ more) s
  stands_in_parts bs more s =
      let rest = cut ((cut bs).rest ++ more) in
      rw (cut_in_parts bs more)
      (ap (λ (o : Outcome (List ℕ) S). record { pending = kept_of rest.rest; state = o.after }) (sym (answered_in_parts m (cut bs).lines rest.lines s)))

  begun_stands : (rest : List ℕ) → NoFeed rest → (s : S) → record { pending = kept_of rest; state = s } ≡ stands_after m (rest ++ []) s
  unfolding cut lines_answered
  begun_stands rest none s = rw (cut_onto rest [] none, append-nil rest)

  pub stands_from : (rest : List ℕ) → NoFeed rest → (reads : List (List ℕ)) (s : S)
      → turned_over m reads (record { pending = kept_of rest; state = s }) ≡ stands_after m (rest ++ joined reads) s
  unfolding turned_over turned joined
  stands_from rest none [] s = begun_stands rest none s
  stands_from rest none (read ∷ reads) s =
      rw (turn_answers_all rest none read s, turn_keeps_enough rest none read)
      (stands_from (cut (rest ++ read)).rest (no_feed_in_rest (rest ++ read)) reads (lines_answered m (cut (rest ++ read)).lines s).after
      ∙ stands_in_parts (rest ++ read) (joined reads) s ∙ ap (λ (bytes : List ℕ). stands_after m bytes s) (append_assoc rest read (joined reads)))

  -- For every cutting of an input into reads the run stands, after the last line, where the input's lines bring it.
  pub every_cutting_stands_the_same : (reads : List (List ℕ)) (s : S) → let t = turned_over m reads (record { pending = []; state = s }) in
      (lines_answered m (last_line t.pending) t.state).after ≡ (lines_answered m (lines_of (joined reads)) s).after
  unfolding lines_of
  every_cutting_stands_the_same reads s =
      let c = cut (joined reads) in
      let o = lines_answered m c.lines s in
      rw (stands_from [] tt reads s) (ap (λ (p : Outcome (List ℕ) S). p.after)
      (last_by_kept c.rest o.after) ∙ sym (ap (λ (p : Outcome (List ℕ) S). p.after) (answered_in_parts m c.lines (last_line c.rest) s)))
