-- A table in words: what a read gives, what a store or the lending of its rest changes, and its words. Over any item, width and place.
use Prim.Native.Nat.{ℕ, ◌+◌, ◌-◌, ◌*◌, ◌≤◌, ◌<◌}
use mathlib.Core.Bool.{cond}
use mathlib.Core.Path.{◌≡◌, refl, ap, ◌∙◌}
use mathlib.Core.List.{List, [], ◌++◌, map}
use native.Mathlib.Omega.{arith}
use lib.Dec.{eqb}
use lib.ListN.{length, get_or, set, take, drop, length-map, take-append-drop, get_or-eq_default}
use lib.Seq.{sets, get_or-set_same, get_or-set_other, get_or-take, get_or-drop, take-set-lt, take-set-le, drop-set-lt, length-take-le, take-add, drop-drop}
use lib.Seq.{drop_at}
use lib.Seq.{drop-append-le}
use borrow.Author.Tests.{lt-ltb, le-ltb, eq-eqb, ne_eqb}
use borrow.Rule.Slice.PartMut.{put_mid}
use Rattle.arith.proofs.Cases.{by_eq, by_le}
use Rattle.rows.specs.Segments.{segment}
use Rattle.rows.specs.Rows.{rows, unrow}
use Rattle.held.specs.Held.{wrapped}
use Rattle.held.specs.Layout.{table_in, with_word, with_item, with_rest}
use Rattle.rows.proofs.SegmentLaws.{segment_set, segment_set_below, segment_sets, segment_length, segment_and_rest, segment_of_segment, segment_kept_below}
use Rattle.rows.proofs.SegmentLaws.{rest_back, take_sets_above, drop_sets_below}
use Rattle.rows.proofs.ZeroLaws.{zeros_segment}
use Rattle.rows.proofs.RowLaws.{rows_length, record_at, record_put, record_put_word, row_end, tabulate, listed, rows_round, unrow_rows}

-- A store to one of the first n words, read among these.
front_set : (n : ℕ) (ws : List ℕ) (k v : ℕ) → k < n → n ≤ length ws → (m : ℕ) → get_or (take n (set ws k v)) m 0 ≡ cond (eqb m k) v (get_or (take n ws) m 0)
front_set n ws k v before long m =
    let front_long = length-take-le n ws long in
    rw (take-set-lt n ws k v before)
    (by_eq m k
    (λ same. rw (same, eq-eqb k k refl) (get_or-set_same (take n ws) k v 0 (omega (arith, front_long))))
    (λ other. rw (ne_eqb m k other) (get_or-set_other (take n ws) k m v 0 other)))

-- A part from word s + o on comes back as other words: from word s on, that is the part from word o on.
past_put : (s o n : ℕ) (ws ys : List ℕ) → s + o ≤ length ws → drop s (put_mid (s + o) n ws ys) ≡ put_mid o n (drop s ws) ys
past_put s o n ws ys inside =
    let front_long = length-take-le (s + o) ws inside in
    drop-append-le s (take (s + o) ws) (ys ++ drop n (drop (s + o) ws)) (omega (arith, front_long))
    ∙ rw (take-add s o ws, drop_at (take s ws) (take o (drop s ws)) s (length-take-le s ws (omega arith)), drop-drop o s ws)

module _ {A : Type 0} (read : List ℕ → A) (w cap first : ℕ) where
  -- There are cap items, whatever the words.
  pub table_length : (ws : List ℕ) → length (table_in read w cap first ws).places ≡ cap
  unfolding table_in
  table_length ws = length-map (rows w cap (segment first (w * cap) ws)) read ∙ rows_length w cap (segment first (w * cap) ws)

  module _ (ws : List ℕ) where
    -- A word before the rows.
    pub table_word : (k : ℕ) → k < first → (table_in read w cap first ws).head k ≡ get_or ws k 0
    unfolding table_in
    table_word k before = get_or-take first ws k 0 before

    -- Such a word, read as a place: where it is below another, the count, it stands for itself, and elsewhere for the first place.
    module _ (at k : ℕ) (a : at < first) (b : k < first) where
      pub place_below : get_or ws k 0 < get_or ws at 0
          → get_or ws k 0 ≡ wrapped ((table_in read w cap first ws).head k) ((table_in read w cap first ws).head at)
      place_below below = rw (table_word at a, table_word k b, lt-ltb _ _ below)

      pub place_past : get_or ws at 0 ≤ get_or ws k 0 → 0 ≡ wrapped ((table_in read w cap first ws).head k) ((table_in read w cap first ws).head at)
      place_past past = rw (table_word at a, table_word k b, le-ltb _ _ past)

    -- The item at place i is read from the words of row i.
    pub table_item : (i : ℕ) → i < cap → get_or (table_in read w cap first ws).places i (read []) ≡ read (segment (first + w * i) w ws)
    unfolding table_in
    table_item i b =
        record_at read w cap (segment first (w * cap) ws) i b
        ∙ ap read (segment_of_segment first (w * cap) (w * i) w ws (row_end w cap i b))

    module _ (room : first + w * cap ≤ length ws) where
      -- A word before the rows is stored.
      pub table_set_word : (k v : ℕ) → k < first → table_in read w cap first (set ws k v) ≡ with_word (table_in read w cap first ws) k v
      unfolding table_in
      table_set_word k v before = λ j. record {
        head = λ m. front_set first ws k v before (omega arith) m j;
        places = map read (rows w cap (segment_set_below first (w * cap) ws k v before j));
        rest = drop-set-lt (first + w * cap) ws k v (omega arith) j;
      }

      -- A whole row is stored, or one word of a row.
      pub table_put : (i : ℕ) (vs : List ℕ) → i < cap → length vs ≡ w
          → table_in read w cap first (sets ws (first + w * i) vs) ≡ with_item (table_in read w cap first ws) i (read vs)
      unfolding table_in
      table_put i vs b k =
          let e = row_end w cap i b in
          let row_put : map read (rows w cap (segment first (w * cap) (sets ws (first + w * i) vs)))
          ≡ set (map read (rows w cap (segment first (w * cap) ws))) i (read vs) =
          rw (segment_sets first (w * cap) ws (w * i) vs (omega arith))
          (record_put read w cap (segment first (w * cap) ws) i b vs k (omega (arith, segment_length first (w * cap) ws room))) in
          let front_kept = take_sets_above first ws (first + w * i) vs (omega arith) in
          let rest_kept = drop_sets_below (first + w * cap) ws (first + w * i) vs (omega arith) in
          λ j. record { head = λ m. get_or (front_kept j) m 0; places = row_put j; rest = rest_kept j }

      pub table_put_word : (i f v : ℕ) → i < cap → f < w
          → table_in read w cap first (set ws (first + (w * i + f)) v)
          ≡ with_item (table_in read w cap first ws) i (read (set (segment (first + w * i) w ws) f v))
      unfolding table_in
      table_put_word i f v b c =
          let e = row_end w cap i b in
          let word_put : map read (rows w cap (segment first (w * cap) (set ws (first + (w * i + f)) v)))
          ≡ set (map read (rows w cap (segment first (w * cap) ws))) i (read (set (segment (first + w * i) w ws) f v)) =
          rw (segment_set first (w * cap) ws (w * i + f) v (omega arith), ← segment_of_segment first (w * cap) (w * i) w ws e)
          (record_put_word read w cap (segment first (w * cap) ws) i b f v c) in
          let front_kept = take-set-le first ws (first + (w * i + f)) v (omega arith) in
          let rest_kept = drop-set-lt (first + w * cap) ws (first + (w * i + f)) v (omega arith) in
          λ j. record { head = λ m. get_or (front_kept j) m 0; places = word_put j; rest = rest_kept j }

      -- The rest was lent to the end, and came back as other words.
      pub table_lent : (ys : List ℕ) → length ys ≡ length ws - (first + w * cap)
          → table_in read w cap first (put_mid (first + w * cap) (length ws - (first + w * cap)) ws ys) ≡ with_rest (table_in read w cap first ws) ys
      unfolding table_in
      table_lent ys same =
          let start : ℕ = first + w * cap in
          let lent : ℕ = length ws - (first + w * cap) in
          let front_kept = segment_kept_below start lent ws ys (omega arith) same 0 first (omega arith) in
          let rows_kept = segment_kept_below start lent ws ys (omega arith) same first (w * cap) (omega arith) in
          let rest_new = rest_back start ws ys room same in
          λ j. record { head = λ m. get_or (front_kept j) m 0; places = map read (rows w cap (rows_kept j)); rest = rest_new j }

      -- A part of the rest came back as other words, from word o of the rest on.
      pub table_part_put : (o n : ℕ) (ys : List ℕ) → first + w * cap + o + n ≤ length ws → length ys ≡ n
          → table_in read w cap first (put_mid (first + w * cap + o) n ws ys)
          ≡ with_rest (table_in read w cap first ws) (put_mid o n (table_in read w cap first ws).rest ys)
      unfolding table_in
      table_part_put o n ys inside same =
          let start : ℕ = first + w * cap + o in
          let front_kept = segment_kept_below start n ws ys inside same 0 first (omega arith) in
          let rows_kept = segment_kept_below start n ws ys inside same first (w * cap) (omega arith) in
          let rest_put = past_put (first + w * cap) o n ws ys (omega arith) in
          λ j. record { head = λ m. get_or (front_kept j) m 0; places = map read (rows w cap (rows_kept j)); rest = rest_put j }

      -- The words before the rows, the items written as rows, and the rest are the words again. `write` gives an item's row back.
      pub table_words_lem : (write : A → List ℕ) → ((row : List ℕ) → length row ≡ w → write (read row) ≡ row)
          → tabulate first (table_in read w cap first ws).head ++
          (unrow (map write (table_in read w cap first ws).places) ++ (table_in read w cap first ws).rest)
          ≡ ws
      unfolding table_in
      table_words_lem write round =
          let all = segment_length first (w * cap) ws room in
          rw (
            listed first (take first ws) (length-take-le first ws (omega arith)),
            rows_round read write w cap (segment first (w * cap) ws) round (omega (arith, all)),
            unrow_rows w cap (segment first (w * cap) ws) all,
            segment_and_rest first (w * cap) ws,
          )
          (take-append-drop first ws)

-- A table in words that are all 0: the words before its rows are 0, and so are those past them. Its items are what is read from no words, where reading takes
-- zeros for that.
module _ {A : Type 0} (read : List ℕ → A) (w cap first : ℕ) (ws : List ℕ) (zeros : (i : ℕ) → get_or ws i 0 ≡ 0) where
  pub zeros_head : (k : ℕ) → (table_in read w cap first ws).head k ≡ 0
  unfolding table_in
  zeros_head k = zeros_segment 0 first ws zeros k

  pub zeros_item : ((row : List ℕ) → ((k : ℕ) → get_or row k 0 ≡ 0) → read row ≡ read []) → (i : ℕ)
      → get_or (table_in read w cap first ws).places i (read []) ≡ read []
  zeros_item blank i =
      by_le cap i
      (λ past. get_or-eq_default (table_in read w cap first ws).places (read []) (rw (table_length read w cap first ws) past))
      (λ inside. table_item read w cap first ws i inside ∙ blank (segment (first + w * i) w ws) (zeros_segment (first + w * i) w ws zeros))

  pub zeros_rest : (i : ℕ) → get_or (table_in read w cap first ws).rest i 0 ≡ 0
  unfolding table_in
  zeros_rest i = get_or-drop (first + w * cap) ws i 0 ∙ zeros (first + w * cap + i)
