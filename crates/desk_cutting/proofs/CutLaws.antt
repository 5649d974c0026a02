-- Bytes cut into lines: at the first line feed, in parts, and with a beginning of which enough is kept.
use Prim.Native.Nat.{ℕ, zero, suc, ◌+◌, ◌≤◌, ◌<◌}
use native.Mathlib.Omega.{arith}
use mathlib.Core.Path.{◌≡◌, refl, sym, ap, ◌∙◌}
use mathlib.Core.Bool.{Bool, true, false, cond}
use mathlib.Core.List.{List, [], ◌∷◌, ◌++◌, append-nil}
use lib.Dec.{eqb}
use lib.ListN.{length, take, drop}
use Rattle.arith.proofs.Cases.{by_test}
use Rattle.scan.specs.Bytes.{index_after, index_of}
use Rattle.desk_lines.specs.Fields as Fields
use Rattle.desk_lines.specs.Lines.{longest_line}
use Rattle.desk_lines.specs.Printed.{line_feed}
use Rattle.desk_cutting.specs.Cutting.{Cut, on_first, cut, last_line, lines_of, kept_of}

-- Bytes without a line feed are the beginning of a line.
abbrev pub begun : List ℕ → Cut
begun bs = record { lines = []; rest = bs }

-- A line, and the lines cut from what follows it.
abbrev pub line_then : List ℕ → Cut → Cut
line_then line c = record { lines = line ∷ c.lines; rest = c.rest }

abbrev cut_byte : Bool → ℕ → Cut → Cut
cut_byte is_feed b c = cond is_feed (line_then [] c) (on_first b c.lines c.rest)

begun_further : (is_feed : Bool) (b : ℕ) (bs : List ℕ) → suc (length bs) ≤ index_after is_feed (index_of line_feed bs)
    → (length bs ≤ index_of line_feed bs → cut bs ≡ begun bs)
    → cut_byte is_feed b (cut bs) ≡ begun (b ∷ bs)
unfolding index_after
begun_further true b bs none tail = absurd (omega (arith, none))
begun_further false b bs none tail = ap (λ (c : Cut). cut_byte false b c) (tail (omega (arith, none)))

pub no_feed : (bs : List ℕ) → length bs ≤ index_of line_feed bs → cut bs ≡ begun bs
unfolding cut index_of
no_feed [] none = refl
no_feed (b ∷ bs) none = begun_further (eqb b line_feed) b bs none (no_feed bs)

-- Bytes with a line feed are a line that ends at the first, and those after it.
cut_further : (is_feed : Bool) (b : ℕ) (bs : List ℕ) → index_after is_feed (index_of line_feed bs) < suc (length bs)
    → (index_of line_feed bs < length bs → cut bs ≡ line_then (take (index_of line_feed bs) bs) (cut (drop (suc (index_of line_feed bs)) bs)))
    → cut_byte is_feed b (cut bs)
    ≡ line_then (take (index_after is_feed (index_of line_feed bs)) (b ∷ bs)) (cut (drop (suc (index_after is_feed (index_of line_feed bs))) (b ∷ bs)))
unfolding index_after
cut_further true b bs inside tail = refl
cut_further false b bs inside tail = ap (λ (c : Cut). cut_byte false b c) (tail (omega (arith, inside)))

pub at_feed : (bs : List ℕ) → index_of line_feed bs < length bs
    → cut bs ≡ line_then (take (index_of line_feed bs) bs) (cut (drop (suc (index_of line_feed bs)) bs))
unfolding cut index_of
at_feed [] inside = absurd (omega (arith, inside))
at_feed (b ∷ bs) inside = cut_further (eqb b line_feed) b bs inside (at_feed bs)

-- Bytes among which there is no line feed.
abbrev pub NoFeed : List ℕ → Type 0
NoFeed [] = Unit {0}
NoFeed (b ∷ bs) = (eqb b line_feed ≡ false) × NoFeed bs

pub no_feed_in_part : (n : ℕ) (bs : List ℕ) → NoFeed bs → NoFeed (take n bs)
no_feed_in_part zero bs none = tt
no_feed_in_part (suc n) [] none = tt
no_feed_in_part (suc n) (b ∷ bs) none = (none.0, no_feed_in_part n bs none.1)

-- What is left of the last line has none.
no_feed_on : (b : ℕ) (lines : List (List ℕ)) (rest : List ℕ) → eqb b line_feed ≡ false → NoFeed rest → NoFeed (on_first b lines rest).rest
no_feed_on b [] rest other none = (other, none)
no_feed_on b (line ∷ lines) rest other none = none

pub no_feed_in_rest : (bs : List ℕ) → NoFeed (cut bs).rest
unfolding cut
no_feed_in_rest [] = tt
no_feed_in_rest (b ∷ bs) =
    by_test (eqb b line_feed) (λ feed. rw feed (no_feed_in_rest bs)) (λ other. rw other (no_feed_on b (cut bs).lines (cut bs).rest other (no_feed_in_rest bs)))

-- Bytes without a line feed in front of others come before the first line of those.
abbrev pub onto : List ℕ → List (List ℕ) → List ℕ → Cut
onto front [] rest = record { lines = []; rest = front ++ rest }
onto front (line ∷ lines) rest = record { lines = (front ++ line) ∷ lines; rest = rest }

onto_nothing : (lines : List (List ℕ)) (rest : List ℕ) → record { lines = lines; rest = rest } ≡ onto [] lines rest
onto_nothing [] rest = refl
onto_nothing (line ∷ lines) rest = refl

onto_further : (b : ℕ) (front : List ℕ) (lines : List (List ℕ)) (rest : List ℕ)
    → on_first b (onto front lines rest).lines (onto front lines rest).rest ≡ onto (b ∷ front) lines rest
onto_further b front [] rest = refl
onto_further b front (line ∷ lines) rest = refl

pub cut_onto : (front bs : List ℕ) → NoFeed front → cut (front ++ bs) ≡ onto front (cut bs).lines (cut bs).rest
unfolding cut
cut_onto [] bs none = onto_nothing (cut bs).lines (cut bs).rest
cut_onto (b ∷ front) bs none =
    rw none.0 (ap (λ (c : Cut). on_first b c.lines c.rest) (cut_onto front bs none.1) ∙ onto_further b front (cut bs).lines (cut bs).rest)

-- The lines of bytes with others after them: those that end among the first, and those of what is left and the others.
first_is_longer : (b : ℕ) (lines : List (List ℕ)) (rest : List ℕ)
    → (on_first b lines rest).lines ++ last_line (on_first b lines rest).rest ≡ Fields.on_first b (lines ++ last_line rest)
first_is_longer b [] [] = refl
first_is_longer b [] (c ∷ rest) = refl
first_is_longer b (line ∷ lines) rest = refl

one_byte_more : (b : ℕ) (bs : List ℕ) → eqb b line_feed ≡ false → lines_of (b ∷ bs) ≡ Fields.on_first b (lines_of bs)
unfolding lines_of cut
one_byte_more b bs other = rw other (first_is_longer b (cut bs).lines (cut bs).rest)

one_feed_more : (b : ℕ) (bs : List ℕ) → eqb b line_feed ≡ true → lines_of (b ∷ bs) ≡ [] ∷ lines_of bs
unfolding lines_of cut
one_feed_more b bs feed = rw feed

byte_on_both : (b : ℕ) (lines : List (List ℕ)) (rest more : List ℕ) → eqb b line_feed ≡ false
    → Fields.on_first b (lines ++ lines_of (rest ++ more)) ≡ (on_first b lines rest).lines ++ lines_of ((on_first b lines rest).rest ++ more)
byte_on_both b [] rest more other = sym (one_byte_more b (rest ++ more) other)
byte_on_both b (line ∷ lines) rest more other = refl

pub lines_in_parts : (bs more : List ℕ) → lines_of (bs ++ more) ≡ (cut bs).lines ++ lines_of ((cut bs).rest ++ more)
unfolding cut
lines_in_parts [] more = refl
lines_in_parts (b ∷ bs) more =
    by_test (eqb b line_feed)
    (λ feed. one_feed_more b (bs ++ more) feed ∙ rw feed (ap (λ (l : List (List ℕ)). [] ∷ l) (lines_in_parts bs more)))
    (λ other. one_byte_more b (bs ++ more) other
    ∙ rw other (ap (Fields.on_first b) (lines_in_parts bs more) ∙ byte_on_both b (cut bs).lines (cut bs).rest more other))

-- What is kept of a line's beginning is as good as all of it for what is kept next.
kept_again : (n : ℕ) (bs more : List ℕ) → take n (take n bs ++ more) ≡ take n (bs ++ more)
kept_again zero bs more = refl
kept_again (suc n) [] more = refl
kept_again (suc n) (b ∷ bs) more = ap (λ (l : List ℕ). b ∷ l) (kept_again n bs more)

kept_by_kept : (rest : List ℕ) (lines : List (List ℕ)) (end : List ℕ) → kept_of (onto (kept_of rest) lines end).rest ≡ kept_of (onto rest lines end).rest
kept_by_kept rest [] end = kept_again (longest_line + 1) rest end
kept_by_kept rest (line ∷ lines) end = refl

pub turn_keeps_enough : (rest : List ℕ) → NoFeed rest → (read : List ℕ) → kept_of (cut (kept_of rest ++ read)).rest ≡ kept_of (cut (rest ++ read)).rest
turn_keeps_enough rest none read =
    rw (cut_onto (kept_of rest) read (no_feed_in_part (longest_line + 1) rest none), cut_onto rest read none)
    (kept_by_kept rest (cut read).lines (cut read).rest)

-- What is left at the end of the input is the last line.
pub rest_is_last : (rest : List ℕ) → NoFeed rest → lines_of (rest ++ []) ≡ last_line rest
unfolding lines_of cut
rest_is_last rest none = rw (cut_onto rest [] none, append-nil rest)

-- Bytes cut in two parts: what is left of the first is cut with the second.
abbrev pub cut_after : Cut → List ℕ → Cut
cut_after c more = record { lines = c.lines ++ (cut (c.rest ++ more)).lines; rest = (cut (c.rest ++ more)).rest }

byte_before : (b : ℕ) (lines : List (List ℕ)) (rest more : List ℕ) → eqb b line_feed ≡ false
    → on_first b (lines ++ (cut (rest ++ more)).lines) (cut (rest ++ more)).rest ≡ cut_after (on_first b lines rest) more
unfolding cut
byte_before b [] rest more other = rw other
byte_before b (line ∷ lines) rest more other = refl

pub cut_in_parts : (bs more : List ℕ) → cut (bs ++ more) ≡ cut_after (cut bs) more
unfolding cut
cut_in_parts [] more = refl
cut_in_parts (b ∷ bs) more =
    by_test (eqb b line_feed)
    (λ feed. rw feed (ap (λ (c : Cut). record { lines = [] ∷ c.lines; rest = c.rest }) (cut_in_parts bs more)))
    (λ other. rw other (ap (λ (c : Cut). on_first b c.lines c.rest) (cut_in_parts bs more) ∙ byte_before b (cut bs).lines (cut bs).rest more other))
