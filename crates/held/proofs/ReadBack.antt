-- Items written as rows of words and read back: the table comes out as it was. Over any item and width.
use Prim.Native.Nat.{ℕ, ◌+◌, ◌*◌}
use native.Mathlib.Omega.{arith}
use mathlib.Core.Path.{◌≡◌}
use mathlib.Core.List.{List, ◌++◌, map}
use lib.ListN.{length, get_or, drop, length-append}
use lib.Seq.{take_at, drop_at, drop-drop}
use Rattle.rows.specs.Segments.{segment}
use Rattle.rows.specs.Rows.{rows, unrow}
use Rattle.rows.proofs.RowLaws.{written_length, rows_of_written}
use Rattle.held.specs.Layout.{table_in}

-- `write` gives the words of an item, w of them.
module _ {A : Type 0} (write : A → List ℕ) (w : ℕ) (long : (x : A) → length (write x) ≡ w) where
  -- Items written between a head and a rest.
  module _ (items : List A) (head rest : List ℕ) {cap first : ℕ} (full : length items ≡ cap) (headed : length head ≡ first) where
    rows_there : length (unrow (map write items)) ≡ w * cap
    rows_there = rw (written_length write w long items, full)

    -- How long these words are.
    pub between_length : length (head ++ (unrow (map write items) ++ rest)) ≡ first + w * cap + length rest
    between_length = rw (length-append, length-append) (omega (arith, rows_there))

    -- The table in them: what was written.
    pub table_of_words : (read : List ℕ → A) → ((x : A) → read (write x) ≡ x)
        → table_in read w cap first (head ++ (unrow (map write items) ++ rest)) ≡ record { head = λ k. get_or head k 0; places = items; rest = rest }
    unfolding table_in
    table_of_words read back =
        let own : List ℕ = unrow (map write items) in
        let front_there = take_at head (own ++ rest) first headed in
        let past_head = drop_at head (own ++ rest) first headed in
        let items_there : map read (rows w cap (segment first (w * cap) (head ++ (own ++ rest)))) ≡ items =
        rw (past_head, take_at own rest (w * cap) rows_there, ← full) (rows_of_written write w long read back items) in
        let rest_there : drop (first + w * cap) (head ++ (own ++ rest)) ≡ rest =
        rw (← drop-drop (w * cap) first (head ++ (own ++ rest)), past_head) (drop_at own rest (w * cap) rows_there) in
        λ j. record { head = λ k. get_or (front_there j) k 0; places = items_there j; rest = rest_there j }
