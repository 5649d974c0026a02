-- What a read of a word, a store of a word, and the lending of the ledger's part mean for the shard that lies in the words. In this crate only
-- this file and ReadBack open the layout.
use Prim.Native.Nat.{ℕ, suc, ◌+◌, ◌-◌, ◌*◌, ◌≤◌, ◌<◌}
use native.Mathlib.Omega.{arith}
use native.Mathlib.Nat.{add-zero}
use lib.Dec.{lit<}
use borrow.Rule.Slice.PartMut.{put_mid}
use mathlib.Core.Path.{◌≡◌, refl, ap, sym, ◌∙◌}
use mathlib.Core.List.{List, [], ◌∷◌}
use lib.ListN.{length, get_or, set, take, drop, length-drop}
use lib.Seq.{sets, take_all, drop-drop}
use Rattle.rows.specs.Segments.{segment}
use Rattle.index.specs.Layout.{places_for, places_of, with_places}
use Rattle.held.specs.Held.{by_index}
use Rattle.held.specs.Layout.{Table, table_in, with_item}
use Rattle.rows.specs.Outcome.{Outcome, outcome}
use Rattle.rows.proofs.SegmentLaws.{segment_length}
use Rattle.rows.proofs.RowLaws.{segment_word, row_end, by_listed}
use Rattle.held.proofs.LayoutLaws.{table_length, table_word, place_below, place_past, table_item, table_set_word, table_put, table_put_word, table_lent}
use Rattle.held.proofs.LayoutLaws.{table_words_lem}
use Rattle.held.proofs.IndexLaws.{table_with_places, Indexed}
use Rattle.slot.specs.declared.Slot.{Slot}
use Rattle.slot.specs.Slot.{with_mark}
use Rattle.ledger.specs.Model as Debts
use Rattle.ledger.specs.Layout as Ledger
use Rattle.ledger.proofs.LayoutLaws.{words_ledger, others_read, others_put}
use Rattle.ledger.proofs.OthersLaws.{left_with_others}
use Rattle.shard_map.specs.Model.{slot_items, cap_of, slot_at, with_count, with_finding, with_slot, with_hand, with_sweep, with_ledger, in_ledger, hand_of}
use Rattle.shard_map.specs.Model.{sweep_of}
use Rattle.shard_map.specs.Layout.{count_at, hand_at, sweep_at, slots_at, slot_width, slot_start, mark_in}
use Rattle.shard_map.specs.Layout.{slot_of, slot_words, ledger_start, shard_words, slot_index, shard_with, lent_ledger, shard_of, shard, words_of, Intact}

-- Whatever the words, the shard in them has room for cap slots.
pub cap_is : (cap : ℕ) (ws : List ℕ) → cap_of (shard cap ws) ≡ cap
unfolding shard
cap_is cap ws = table_length slot_of slot_width cap slots_at ws

-- Reads: the first word is the count; the second and the third are the hand and the sweep, as they are read, where they are below the count, and 0
-- stands for them where they are not; seven words from the fourth on are a slot.
module _ (cap : ℕ) (ws : List ℕ) where
  pub count_read : get_or ws count_at 0 ≡ (shard cap ws).slots.count
  unfolding shard
  count_read = sym (table_word slot_of slot_width cap slots_at ws count_at (lit< tt))

  pub hand_read_below : get_or ws hand_at 0 < get_or ws count_at 0 → get_or ws hand_at 0 ≡ hand_of (shard cap ws)
  unfolding shard
  hand_read_below below = place_below slot_of slot_width cap slots_at ws count_at hand_at (lit< tt) (lit< tt) below

  pub hand_read_past : get_or ws count_at 0 ≤ get_or ws hand_at 0 → 0 ≡ hand_of (shard cap ws)
  unfolding shard
  hand_read_past past = place_past slot_of slot_width cap slots_at ws count_at hand_at (lit< tt) (lit< tt) past

  pub sweep_read_below : get_or ws sweep_at 0 < get_or ws count_at 0 → get_or ws sweep_at 0 ≡ sweep_of (shard cap ws)
  unfolding shard
  sweep_read_below below = place_below slot_of slot_width cap slots_at ws count_at sweep_at (lit< tt) (lit< tt) below

  pub sweep_read_past : get_or ws count_at 0 ≤ get_or ws sweep_at 0 → 0 ≡ sweep_of (shard cap ws)
  unfolding shard
  sweep_read_past past = place_past slot_of slot_width cap slots_at ws count_at sweep_at (lit< tt) (lit< tt) past

  -- Word f of the slot at i.
  slot_word : (i f : ℕ) → f < slot_width → get_or (segment (slot_start i) slot_width ws) f 0 ≡ get_or ws (slot_start i + f) 0
  slot_word i f below = segment_word (slot_start i) slot_width ws f below

  pub slot_read : (i : ℕ) → i < cap
      → slot_of (get_or ws (slot_start i) 0 ∷ get_or ws (slot_start i + 1) 0 ∷ get_or ws (slot_start i + 2) 0 ∷ get_or ws (slot_start i + 3) 0
      ∷ get_or ws (slot_start i + 4) 0
      ∷ get_or ws (slot_start i + 5) 0 ∷ get_or ws (slot_start i + 6) 0 ∷ [])
      ≡ slot_at (shard cap ws) i
  unfolding shard
  slot_read i below =
      let hash_word = rw add-zero at (slot_word i 0 (lit< tt)) in
      sym (table_item slot_of slot_width cap slots_at ws i below ∙ (λ j. record {
        hash = hash_word j;
        key = slot_word i 1 (lit< tt) j;
        bucket = record { shortfall = slot_word i 2 (lit< tt) j; stamp = record { 0 = slot_word i 3 (lit< tt) j } };
        mark = slot_word i 4 (lit< tt) j;
        seen = record { 0 = slot_word i 5 (lit< tt) j };
        turned_away = slot_word i 6 (lit< tt) j;
      }))

-- Stores: each changes one field of the shard, and nothing else.
module _ (cap : ℕ) (ws : List ℕ) (size : length ws ≡ shard_words cap) where
  slots_room : slots_at + slot_width * cap ≤ length ws
  slots_room = omega arith

  pub count_put : (n : ℕ) → shard cap (set ws count_at n) ≡ with_count (shard cap ws) n
  unfolding shard
  count_put n = ap (shard_of cap) (table_set_word slot_of slot_width cap slots_at ws slots_room count_at n (lit< tt))

  pub hand_put : (n : ℕ) → shard cap (set ws hand_at n) ≡ with_hand (shard cap ws) n
  unfolding shard
  hand_put n = ap (shard_of cap) (table_set_word slot_of slot_width cap slots_at ws slots_room hand_at n (lit< tt))

  pub sweep_put : (n : ℕ) → shard cap (set ws sweep_at n) ≡ with_sweep (shard cap ws) n
  unfolding shard
  sweep_put n = ap (shard_of cap) (table_set_word slot_of slot_width cap slots_at ws slots_room sweep_at n (lit< tt))

  -- A whole slot, as a run of words, and as the code stores them one by one.
  run_put : (i : ℕ) (slot : Slot) → i < cap → shard cap (sets ws (slot_start i) (slot_words slot)) ≡ with_slot (shard cap ws) i slot
  unfolding shard
  run_put i slot below = ap (shard_of cap) (table_put slot_of slot_width cap slots_at ws slots_room i (slot_words slot) below refl)

  pub slot_put : (i : ℕ) (slot : Slot) → i < cap
      → shard cap (set (set (set (set (set (set (set ws (slot_start i) slot.hash) (slot_start i + 1) slot.key) (slot_start i + 2) slot.bucket.shortfall)
      (slot_start i + 3) slot.bucket.stamp.0) (slot_start i + 4) slot.mark) (slot_start i + 5) slot.seen.0) (slot_start i + 6) slot.turned_away)
      ≡ with_slot (shard cap ws) i slot
  slot_put i slot below =
      let second : slot_start i + 1 ≡ suc (slot_start i) = omega arith in
      let third : slot_start i + 2 ≡ suc (suc (slot_start i)) = omega arith in
      let fourth : slot_start i + 3 ≡ suc (suc (suc (slot_start i))) = omega arith in
      let fifth : slot_start i + 4 ≡ suc (suc (suc (suc (slot_start i)))) = omega arith in
      let sixth : slot_start i + 5 ≡ suc (suc (suc (suc (suc (slot_start i))))) = omega arith in
      let seventh : slot_start i + 6 ≡ suc (suc (suc (suc (suc (suc (slot_start i)))))) = omega arith in
      rw (second, third, fourth, fifth, sixth, seventh) (run_put i slot below)

  -- The mark of a slot alone.
  pub mark_put : (i mark : ℕ) → i < cap
      → shard cap (set ws (slot_start i + mark_in) mark) ≡ with_slot (shard cap ws) i (with_mark (slot_at (shard cap ws) i) mark)
  unfolding shard
  mark_put i mark below =
      let index : slot_start i + mark_in ≡ slots_at + (slot_width * i + mark_in) = omega arith in
      let table : Table Slot = table_in slot_of slot_width cap slots_at ws in
      let long = segment_length (slot_start i) slot_width ws (omega (arith, row_end slot_width cap i below)) in
      let marked : slot_of (set (segment (slot_start i) slot_width ws) mark_in mark) ≡ with_mark (slot_of (segment (slot_start i) slot_width ws)) mark =
      by_listed slot_width (λ row. slot_of (set row mark_in mark) ≡ with_mark (slot_of row) mark) (λ f. refl) (segment (slot_start i) slot_width ws) long in
      let read = sym (table_item slot_of slot_width cap slots_at ws i below) in
      rw index
      (ap (shard_of cap)
      (table_put_word slot_of slot_width cap slots_at ws slots_room i mark_in mark below (lit< tt)
      ∙ ap (λ (slot : Slot). with_item table i slot) (marked ∙ ap (λ (slot : Slot). with_mark slot mark) read)))

-- The index of the slots: the places that lookup goes by are those in the words, and other places in the words are other places to go by.
module _ (cap : ℕ) (ws : List ℕ) (size : length ws ≡ shard_words cap) where
  pub rest_length : length (drop (ledger_start cap) ws) ≡ Ledger.ledger_words cap
  rest_length = omega (arith, length-drop (ledger_start cap) ws)

  pub finding_read : (shard cap ws).slots.finding ≡ by_index (places_of (slot_index cap) ws)
  unfolding shard table_in places_of
  finding_read =
      ap by_index (others_read cap (drop (ledger_start cap) ws) ∙ ap (take (places_for cap)) (drop-drop (Ledger.others_at cap) (ledger_start cap) ws))

  pub index_put : (ix : List ℕ) → length ix ≡ places_for cap → shard cap (with_places (slot_index cap) ws ix) ≡ with_finding (shard cap ws) (by_index ix)
  unfolding shard table_in
  index_put ix long =
      let table : Table Slot = table_in slot_of slot_width cap slots_at ws in
      ap (shard_of cap) (table_with_places slot_of slot_width cap slots_at (Ledger.others_at cap) (slot_index cap) ws ix refl (omega arith) long)
      ∙ ap (shard_with table) (others_put cap table.rest rest_length ix long)

-- The slots in words that are lent are found by the index in these words.
pub slots_indexed : {cap : ℕ} {ws : List ℕ} → Intact cap ws → Indexed slot_items (λ slot. slot.key) slot_of (slot_index cap) cap ws (shard cap ws).slots
unfolding shard
slots_indexed {cap} {ws} intact =
    let room = cap_is cap ws in
    record {
      fits = record { room = omega (arith, intact.sound.room, room); inside = omega (arith, intact.size); items = omega arith; within = lit< tt };
      count_fits = omega (arith, intact.sound.count_fits, room);
      places = refl;
      finding = finding_read cap ws intact.size;
      free = refl;
      hash = λ row. refl;
      keys = λ row. refl;
    }

-- What holds of an operation of the ledger, whatever the words that are not the ledger's own: it tells the same; it leaves the same with those words, alone or
-- with an answer.
abbrev Overlooks : {A : Type 0} → (Debts.Ledger → A) → Type 0
Overlooks op = (l : Debts.Ledger) (ws : List ℕ) → op (Debts.with_others l ws) ≡ op l

abbrev Spares : (Debts.Ledger → Debts.Ledger) → Type 0
Spares op = (l : Debts.Ledger) (ws : List ℕ) → op (Debts.with_others l ws) ≡ Debts.with_others (op l) ws

abbrev SparesAnswering : {A : Type 0} → (Debts.Ledger → Outcome A Debts.Ledger) → Type 0
SparesAnswering op = (l : Debts.Ledger) (ws : List ℕ) → op (Debts.with_others l ws) ≡ left_with_others (op l) ws

-- The ledger's part of the words, in the form in which it is lent from its start on, and come back as other words. In it lies the index of the slots.
module _ (cap : ℕ) (ws : List ℕ) (size : length ws ≡ shard_words cap) {start : ℕ} (is : start ≡ ledger_start cap) where
  pub ledger_lent : Ledger.ledger cap (segment start (length ws - start) ws) ≡ lent_ledger (shard cap ws)
  unfolding shard table_in
  ledger_lent =
      rw is (ap (Ledger.ledger cap) (take_all (length ws - ledger_start cap) (drop (ledger_start cap) ws) (omega (arith, length-drop (ledger_start cap) ws))))

  pub ledger_long : length (segment start (length ws - start) ws) ≡ Ledger.ledger_words cap
  ledger_long = omega (arith, segment_length start (length ws - start) ws (omega arith))

  -- What a function of the ledger tells of its part, it tells of the shard's ledger. `op` is what the function makes of a ledger, whatever the other words.
  pub ledger_tells : {A : Type 0} {a : A} (op : Debts.Ledger → A) → Overlooks op
      → a ≡ op (Ledger.ledger cap (segment start (length ws - start) ws)) → a ≡ op (shard cap ws).ledger
  ledger_tells op overlooks told = (rw ledger_lent at told) ∙ overlooks (shard cap ws).ledger _

  -- What it leaves in its part it leaves in the shard, and the rest stays as it is, the index of the slots too; so with an answer.
  module _ (ys : List ℕ) (same : length ys ≡ length (segment start (length ws - start) ws)) where
    ledger_back : shard cap (put_mid start (length ws - start) ws ys) ≡ shard_with (table_in slot_of slot_width cap slots_at ws) (Ledger.ledger cap ys)
    unfolding shard
    ledger_back = rw is (ap (shard_of cap) (table_lent slot_of slot_width cap slots_at ws (omega arith) ys (omega (arith, same, ledger_long))))

    pub ledger_leaves : (op : Debts.Ledger → Debts.Ledger) → Spares op → Ledger.ledger cap ys ≡ op (Ledger.ledger cap (segment start (length ws - start) ws))
        → shard cap (put_mid start (length ws - start) ws ys) ≡ with_ledger (shard cap ws) (op (shard cap ws).ledger)
    unfolding shard
    ledger_leaves op spares left =
        let own = (shard cap ws).ledger in
        let kept = (rw ledger_lent at left) ∙ spares own _ in
        ledger_back ∙ ap (shard_with (table_in slot_of slot_width cap slots_at ws)) kept ∙ ap (with_ledger (shard cap ws)) (sym (spares own []))

    pub ledger_answers : {A : Type 0} {a : A} (op : Debts.Ledger → Outcome A Debts.Ledger) → SparesAnswering op
        → outcome a (Ledger.ledger cap ys) ≡ op (Ledger.ledger cap (segment start (length ws - start) ws))
        → outcome a (shard cap (put_mid start (length ws - start) ws ys)) ≡ in_ledger (shard cap ws) (op (shard cap ws).ledger)
    unfolding shard
    ledger_answers op spares gave =
        let own = (shard cap ws).ledger in
        let kept = (rw ledger_lent at gave) ∙ spares own _ in
        rw ledger_back
        (ap (λ o. outcome o.answer (shard_with (table_in slot_of slot_width cap slots_at ws) o.after)) kept
        ∙ ap (λ o. in_ledger (shard cap ws) o) (sym (spares own [])))

-- The words of the shard in words of the right length are those words.
pub words_shard : (cap : ℕ) (ws : List ℕ) → length ws ≡ shard_words cap → words_of (shard cap ws) ≡ ws
unfolding shard words_of table_in
words_shard cap ws size =
    rw (words_ledger cap (drop (ledger_start cap) ws) (omega (arith, length-drop (ledger_start cap) ws)))
    (table_words_lem slot_of slot_width cap slots_at ws (omega arith) slot_words (by_listed slot_width (λ r. slot_words (slot_of r) ≡ r) (λ f. refl)))

-- So words of that length with equal shards are equal: a contract that gives the shard at exit gives every word at exit.
pub same_words_lem : (cap : ℕ) (xs ys : List ℕ) → length xs ≡ shard_words cap → length ys ≡ shard_words cap → shard cap xs ≡ shard cap ys → xs ≡ ys
same_words_lem cap xs ys a b e = sym (words_shard cap xs a) ∙ ap words_of e ∙ words_shard cap ys b
