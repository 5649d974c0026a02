-- How a table of items lies in words: some words before the items, then cap rows of one width, then the rest of the words. So lie the slots, and so the debts.
use Rattle.std.specs.Prelude.{ℕ, ◌+◌, ◌*◌, cond, List, [], map, eqb, get_or, set, take, drop}
use Rattle.rows.specs.Segments.{segment}
use Rattle.rows.specs.Rows.{rows}
use Rattle.held.specs.Held.{Finding, in_order, by_index, Held}

-- The words before the rows by their places, the item of each row, and the words past the rows.
pub record Table (A : Type 0) : Type 0 where
  pub head : ℕ → ℕ
  pub places : List A
  pub rest : List ℕ

-- `read` makes an item of its row, and `first` is the first word of the rows.
unfoldable pub table_in : {A : Type 0} → (List ℕ → A) → (width cap first : ℕ) → List ℕ → Table A
table_in read width cap first ws = record {
  head = λ k. get_or (take first ws) k 0;
  places = map read (rows width cap (segment first (width * cap) ws));
  rest = drop (first + width * cap) ws;
}

-- The words of the index by which items are found. Where they are found in place order there are none.
abbrev pub index_words : Finding → List ℕ
index_words in_order = []
index_words (by_index ix) = ix

module _ {A : Type 0} where
  -- The items that a table holds, where its word at `at` counts them. They are found by the index whose places are given.
  abbrev pub held_of : ℕ → List ℕ → Table A → Held A
  held_of at ix t = record { count = t.head at; places = t.places; finding = by_index ix }

  -- What one write changes: a word before the rows, or the item of a row. Words that come back from a loan change the rest.
  abbrev pub with_word : Table A → ℕ → ℕ → Table A
  with_word t k v = record { head = λ j. cond (eqb j k) v (t.head j); places = t.places; rest = t.rest }

  abbrev pub with_item : Table A → ℕ → A → Table A
  with_item t i x = record { head = t.head; places = set t.places i x; rest = t.rest }

  abbrev pub with_rest : Table A → List ℕ → Table A
  with_rest t ws = record { head = t.head; places = t.places; rest = ws }
