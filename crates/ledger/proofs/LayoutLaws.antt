-- What a read or a store of a word means for the ledger that lies in the words. In this crate only this file and ReadBack open the layout.
use Prim.Native.Nat.{ℕ, ◌+◌, ◌-◌, ◌*◌, ◌≤◌, ◌<◌}
use native.Mathlib.Omega.{arith}
use native.Mathlib.Nat.{add-zero}
use lib.Dec.{lit<}
use mathlib.Core.Path.{◌≡◌, refl, ap, sym, ◌∙◌}
use mathlib.Core.List.{List, [], ◌∷◌}
use lib.ListN.{length, get_or, set, drop, length-drop, take-append-drop}
use lib.Seq.{sets, take_all, take_at, drop_at, drop-drop}
use borrow.Rule.Slice.PartMut.{put_mid}
use Rattle.rows.specs.Segments.{segment}
use Rattle.index.specs.Layout.{places_for, places_of, with_places}
use Rattle.held.specs.Held.{by_index}
use Rattle.held.specs.Layout.{Table, table_in, with_rest}
use Rattle.rows.proofs.SegmentLaws.{segment_kept_below, rest_back}
use Rattle.rows.proofs.RowLaws.{segment_word, by_listed}
use Rattle.held.proofs.LayoutLaws.{table_length, table_word, place_below, place_past, table_item, table_set_word, table_put, table_part_put, table_words_lem}
use Rattle.held.proofs.IndexLaws.{table_with_places, Indexed}
use Rattle.ledger.specs.declared.Debt.{Debt}
use Rattle.ledger.specs.Model.{debt_items, cap_of, debt_at, cursor_of, with_count, with_cursor, with_debt, with_finding, with_others}
use Rattle.ledger.specs.Layout.{count_at, cursor_at, debts_at, debt_width, others_at, index_at, ledger_words, debt_index, debt_of, debt_words, ledger_of}
use Rattle.ledger.specs.Layout.{ledger}
use Rattle.ledger.specs.Layout.{words_of, Intact}

-- Whatever the words, the ledger in them has room for cap debts.
pub cap_is : (cap : ℕ) (ws : List ℕ) → cap_of (ledger cap ws) ≡ cap
unfolding ledger
cap_is cap ws = table_length debt_of debt_width cap debts_at ws

-- The rest of a table of debts has two halves, the words that are not the ledger's own and the index. One half is put, and the other stays.
module _ (cap : ℕ) (t : Table Debt) where
  first_half_put : (ix : List ℕ) → length ix ≡ places_for cap
      → ledger_of cap (with_rest t (put_mid 0 (places_for cap) t.rest ix)) ≡ with_others (ledger_of cap t) ix
  first_half_put ix long =
      rw (take_at ix (drop (places_for cap) t.rest) (places_for cap) long, drop_at ix (drop (places_for cap) t.rest) (places_for cap) long)

  second_half_put : length t.rest ≡ places_for cap + places_for cap → (ix : List ℕ) → length ix ≡ places_for cap
      → ledger_of cap (with_rest t (put_mid (places_for cap) (places_for cap) t.rest ix)) ≡ with_finding (ledger_of cap t) (by_index ix)
  second_half_put size ix long =
      let half : ℕ = places_for cap in
      let rest_size : length t.rest - half ≡ half = omega arith in
      rw (
        rw rest_size at (rest_back half t.rest ix (omega arith) (omega arith)),
        segment_kept_below half half t.rest ix (omega arith) long 0 half (omega arith),
      )

rest_length : (cap : ℕ) (ws : List ℕ) → length ws ≡ ledger_words cap
    → length (table_in debt_of debt_width cap debts_at ws).rest ≡ places_for cap + places_for cap
unfolding table_in
rest_length cap ws size = omega (arith, length-drop (others_at cap) ws)

-- Reads: the first word is the count; the second is the cursor, as it is read, where it is below the count, and 0 stands for it where it is not;
-- two words from the third on are a debt.
module _ (cap : ℕ) (ws : List ℕ) where
  pub count_read : get_or ws count_at 0 ≡ (ledger cap ws).debts.count
  unfolding ledger
  count_read = sym (table_word debt_of debt_width cap debts_at ws count_at (lit< tt))

  pub cursor_read_below : get_or ws cursor_at 0 < get_or ws count_at 0 → get_or ws cursor_at 0 ≡ cursor_of (ledger cap ws)
  unfolding ledger
  cursor_read_below below = place_below debt_of debt_width cap debts_at ws count_at cursor_at (lit< tt) (lit< tt) below

  pub cursor_read_past : get_or ws count_at 0 ≤ get_or ws cursor_at 0 → 0 ≡ cursor_of (ledger cap ws)
  unfolding ledger
  cursor_read_past past = place_past debt_of debt_width cap debts_at ws count_at cursor_at (lit< tt) (lit< tt) past

  pub debt_read : (i : ℕ) → i < cap
      → debt_of (get_or ws (debts_at + debt_width * i) 0 ∷ get_or ws (debts_at + debt_width * i + 1) 0 ∷ []) ≡ debt_at (ledger cap ws) i
  unfolding ledger
  debt_read i below =
      let hash_word = rw add-zero at (segment_word (debts_at + debt_width * i) debt_width ws 0 (lit< tt)) in
      let settles_word = segment_word (debts_at + debt_width * i) debt_width ws 1 (lit< tt) in
      sym (table_item debt_of debt_width cap debts_at ws i below ∙ (λ j. record { hash = hash_word j; settles = record { 0 = settles_word j } }))

  -- The words past the debts: first those that are not the ledger's own, then the index by which the debts are found.
  pub others_read : (ledger cap ws).others ≡ segment (others_at cap) (places_for cap) ws
  unfolding ledger table_in
  others_read = refl

  pub finding_read : length ws ≡ ledger_words cap → (ledger cap ws).debts.finding ≡ by_index (places_of (debt_index cap) ws)
  unfolding ledger table_in places_of
  finding_read size =
      let n = length-drop (index_at cap) ws in
      ap by_index (drop-drop (places_for cap) (others_at cap) ws ∙ sym (take_all (places_for cap) (drop (index_at cap) ws) (omega arith)))

-- Stores: each changes one field of the ledger, and nothing else.
module _ (cap : ℕ) (ws : List ℕ) (size : length ws ≡ ledger_words cap) where
  rows_inside : others_at cap ≤ length ws
  rows_inside = omega arith

  pub count_put : (n : ℕ) → ledger cap (set ws count_at n) ≡ with_count (ledger cap ws) n
  unfolding ledger
  count_put n = ap (ledger_of cap) (table_set_word debt_of debt_width cap debts_at ws rows_inside count_at n (lit< tt))

  pub cursor_put : (n : ℕ) → ledger cap (set ws cursor_at n) ≡ with_cursor (ledger cap ws) n
  unfolding ledger
  cursor_put n = ap (ledger_of cap) (table_set_word debt_of debt_width cap debts_at ws rows_inside cursor_at n (lit< tt))

  pub debt_put : (i : ℕ) (d : Debt) → i < cap → ledger cap (sets ws (debts_at + debt_width * i) (debt_words d)) ≡ with_debt (ledger cap ws) i d
  unfolding ledger
  debt_put i d below = ap (ledger_of cap) (table_put debt_of debt_width cap debts_at ws rows_inside i (debt_words d) below refl)

  -- Other places come into the index of the debts, and other words into those that are not the ledger's own.
  pub index_put : (ix : List ℕ) → length ix ≡ places_for cap → ledger cap (with_places (debt_index cap) ws ix) ≡ with_finding (ledger cap ws) (by_index ix)
  unfolding ledger
  index_put ix long =
      ap (ledger_of cap) (table_with_places debt_of debt_width cap debts_at (places_for cap) (debt_index cap) ws ix refl (omega arith) long)
      ∙ second_half_put cap (table_in debt_of debt_width cap debts_at ws) (rest_length cap ws size) ix long

  pub others_put : (ix : List ℕ) → length ix ≡ places_for cap → ledger cap (put_mid (others_at cap) (places_for cap) ws ix) ≡ with_others (ledger cap ws) ix
  unfolding ledger
  others_put ix long =
      ap (ledger_of cap) (rw add-zero at (table_part_put debt_of debt_width cap debts_at ws rows_inside 0 (places_for cap) ix (omega arith) long))
      ∙ first_half_put cap (table_in debt_of debt_width cap debts_at ws) ix long

-- The words of the ledger in as many words as a ledger has are those words.
pub words_ledger : (cap : ℕ) (ws : List ℕ) → length ws ≡ ledger_words cap → words_of (ledger cap ws) ≡ ws
unfolding ledger words_of
words_ledger cap ws size =
    rw take-append-drop
    (table_words_lem debt_of debt_width cap debts_at ws (omega arith) debt_words (by_listed debt_width (λ r. debt_words (debt_of r) ≡ r) (λ f. refl)))

-- So such words that have equal ledgers are equal: a contract that gives the ledger at exit gives every word at exit.
pub same_words_lem : (cap : ℕ) (xs ys : List ℕ) → length xs ≡ ledger_words cap → length ys ≡ ledger_words cap → ledger cap xs ≡ ledger cap ys → xs ≡ ys
same_words_lem cap xs ys a b e = sym (words_ledger cap xs a) ∙ ap words_of e ∙ words_ledger cap ys b

-- The debts in words that are lent are found by the index in these words. A debt has its hash for a key.
pub debts_indexed : {cap : ℕ} {ws : List ℕ} → Intact cap ws → Indexed debt_items (λ d. d.hash) debt_of (debt_index cap) cap ws (ledger cap ws).debts
unfolding ledger
debts_indexed {cap} {ws} intact =
    let room = cap_is cap ws in
    record {
      fits = record { room = omega (arith, intact.sound.room, room); inside = omega (arith, intact.size); items = omega arith; within = lit< tt };
      count_fits = omega (arith, intact.sound.count_fits, room);
      places = refl;
      finding = finding_read cap ws intact.size;
      free = refl;
      hash = λ row. refl;
      keys = λ row. refl;
    }
