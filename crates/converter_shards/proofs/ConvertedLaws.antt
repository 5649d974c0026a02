-- What holds of a shard that went forth: read in place order and without counts it is the shard that it was, its indexes are exact, lookup finds each slot and
-- debt where no two are alike, it passes the checks of the way back, and back it is the first words again.
use Prim.Native.Nat.{ℕ, zero, suc, ◌*◌, ◌≤◌, ◌<◌}
use native.Mathlib.Omega.{arith}
use mathlib.Core.Path.{◌≡◌, refl, sym, ap, ◌∙◌}
use mathlib.Core.Bool.{Bool, true, false}
use mathlib.Core.List.{List, [], ◌∷◌, ◌++◌, map}
use lib.ListN.{length, drop, replicate, length-replicate}
use Rattle.rows.specs.Segments.{segment}
use Rattle.rows.specs.Rows.{rows, unrow}
use Rattle.arith.proofs.Cases.{by_test}
use Rattle.index.specs.Layout.{places_for}
use Rattle.index.specs.Exact.{Exact}
use Rattle.held.specs.Held.{Held, Items, in_order, item_at, hash_at, exact_is_complete}
use Rattle.held.specs.Held as Held
use Rattle.held.specs.Layout.{table_in, index_words}
use Rattle.held.proofs.FindingLaws.{indexed, kind_of, indexed_by_words, index_length}
use Rattle.held.proofs.MapLaws.{item_mapped}
use Rattle.held.proofs.SingleLaws as Singles
use Rattle.slot.specs.declared.Slot.{Slot}
use Rattle.slot.specs.Slot as Slot
use Rattle.ledger.specs.Model.{debt_items}
use Rattle.ledger.proofs.StepLaws as LedgerOrder
use Rattle.shard_map.specs.Model.{Shard, slot_items, in_place_order}
use Rattle.shard_map.specs.Layout.{slot_words, shard_words, shard, words_of}
use Rattle.shard_map.proofs.ReadBack.{Sized, shard_of_words, words_length}
use Rattle.shard_map.proofs.RoomLaws.{FindsEach, identity_of}
use Rattle.converter_shards.specs.Layout01.{slots_at01, slot_width01, slot_of01, slot_words01, shard01, ledger01, words01}
use Rattle.converter_shards.specs.Checks.{has_twins, slot_key, debt_key, shard_twins, any_used, used_past, used_past_by, shard_used_past01, shard_used_past}
use Rattle.converter_shards.specs.Checks.{count_over, exactly, indexes_exact}
use Rattle.converter_shards.specs.code.RowChecks.{Counted}
use Rattle.converter_shards.specs.Forth.{built_index, with_index, forth, back}
use Rattle.converter_shards.proofs.Layout01Laws.{cap01_is, debt_cap01_is, in_place_order01, words_shard01}
use Rattle.converter_shards.proofs.CheckLaws.{both_ways, no_twins_single, single_no_twins}
use Rattle.converter_shards.proofs.PastLaws.{used_next, past_slots_are_free, past_debts_are_free, free_shard_is_unused, free_shard_is_unused01}
use Rattle.converter_shards.proofs.ExactTestLaws.{exact_is_exactly, exactly_is_exact}
use Rattle.converter_shards.proofs.ShardLaws.{slots_fit_cap, debts_fit_cap}
use Rattle.converter_shards.proofs.ForthLaws.{added_length, built_exact, indexed_sized}

-- The checks look at counts and places alone, so they come out the same forth.
pub forth_has_twins_alike : (cap : ℕ) (s : Shard) → shard_twins (forth cap s) ≡ shard_twins s
unfolding forth shard_twins has_twins
forth_has_twins_alike cap s = refl

-- So does the check of the words past a count, which has one word more a slot to look at: that word is 0.
slot_used_alike : (row rest rest' : List ℕ) → any_used rest ≡ any_used rest'
    → any_used (slot_words (slot_of01 row) ++ rest) ≡ any_used (slot_words01 (slot_of01 row) ++ rest')
slot_used_alike row rest rest' same =
    simp used_next (rw same)

slots_used_alike : (rs : List (List ℕ)) → any_used (unrow (map slot_words (map slot_of01 rs))) ≡ any_used (unrow (map slot_words01 (map slot_of01 rs)))
unfolding unrow
slots_used_alike [] = refl
slots_used_alike (r ∷ rs) = slot_used_alike r (unrow (map slot_words (map slot_of01 rs))) (unrow (map slot_words01 (map slot_of01 rs))) (slots_used_alike rs)

drop_of_map : {A B : Type 0} (f : A → B) (n : ℕ) (l : List A) → drop n (map f l) ≡ map f (drop n l)
drop_of_map f zero l = refl
drop_of_map f (suc n) [] = refl
drop_of_map f (suc n) (x ∷ l) = drop_of_map f n l

pub forth_is_used_past_alike : (cap : ℕ) (ws : List ℕ) → shard_used_past (forth cap (shard01 cap ws)) ≡ shard_used_past01 (shard01 cap ws)
unfolding forth used_past_by used_past shard01 table_in
forth_is_used_past_alike cap ws =
    let count = (shard01 cap ws).slots.count in
    let own : List (List ℕ) = rows slot_width01 cap (segment slots_at01 (slot_width01 * cap) ws) in
    rw (drop_of_map slot_of01 count own, slots_used_alike (drop count own))

pub forth_counts_alike : (cap : ℕ) (s : Shard) → count_over cap (forth cap s) ≡ count_over cap s
unfolding forth count_over
forth_counts_alike cap s = refl

-- No slot of a shard without twins has the hash and key of another, and no debt the hash of another.
module _ (s : Shard) (none : shard_twins s ≡ false) where
  no_slot_twins : has_twins slot_items slot_key s.slots ≡ false
  unfolding shard_twins
  no_slot_twins = by_test (has_twins slot_items slot_key s.slots) (λ t. both_ways (rw t) none) (λ t. t)

  no_debt_twins : has_twins debt_items debt_key s.ledger.debts ≡ false
  unfolding shard_twins
  no_debt_twins = rw no_slot_twins at none

  pub slots_single : Singles.Single slot_items identity_of s.slots
  slots_single = no_twins_single slot_items slot_key identity_of (λ x y e. (ap (λ p. p.0) e, ap (λ p. p.1) e)) s.slots no_slot_twins

  pub debts_single : Singles.Single debt_items LedgerOrder.hash_of s.ledger.debts
  debts_single = no_twins_single debt_items debt_key LedgerOrder.hash_of (λ x y e. (e, e)) s.ledger.debts no_debt_twins

-- The way back refuses no shard in which lookup finds each slot and each debt: its indexes are exact, no two items are alike, and no word past a count is used.
module _ {s : Shard} (each : FindsEach s) where
  pub found_has_no_twins : shard_twins s ≡ false
  unfolding shard_twins
  found_has_no_twins =
      rw (single_no_twins slot_items slot_key identity_of (λ x y h k. λ j. (h j, k j)) s.slots each.slots.single)
      (single_no_twins debt_items debt_key LedgerOrder.hash_of (λ x y h k. h) s.ledger.debts each.ledger.single)

  pub found_is_not_used_past : shard_used_past s ≡ false
  found_is_not_used_past = free_shard_is_unused s each.slots.free_past each.ledger.free_past

-- The way forth refuses no shard of document 01 that such a shard becomes on the way back.
module _ {s : Shard} (each : FindsEach s) where
  slot_uncounted : (i : ℕ) → item_at slot_items (back s).slots i ≡ Slot.uncounted (item_at slot_items s.slots i)
  slot_uncounted i = item_mapped slot_items Slot.uncounted refl (λ x. refl) s.slots i

  back_slots_single : Singles.Single slot_items identity_of (back s).slots
  back_slots_single i j below_i below_j same =
      each.slots.single i j below_i below_j (sym (ap identity_of (slot_uncounted i)) ∙ same ∙ ap identity_of (slot_uncounted j))

  pub back_has_no_twins : shard_twins (back s) ≡ false
  unfolding shard_twins
  back_has_no_twins =
      rw (single_no_twins slot_items slot_key identity_of (λ x y h k. λ j. (h j, k j)) (back s).slots back_slots_single)
      (single_no_twins debt_items debt_key LedgerOrder.hash_of (λ x y h k. h) (back s).ledger.debts each.ledger.single)

  pub back_is_not_used_past : shard_used_past01 (back s) ≡ false
  back_is_not_used_past =
      free_shard_is_unused01 (back s) (λ i past. slot_uncounted i ∙ ap Slot.uncounted (each.slots.free_past i past)) each.ledger.free_past

pub back_counts_alike : (cap : ℕ) (s : Shard) → count_over cap (back s) ≡ count_over cap s
unfolding count_over
back_counts_alike cap s = refl

-- Items with an index that was built in order: it is exact, and lookup misses none.
module _ {A : Type 0} (items : Items A) (cap : ℕ) (h : Held A) (full : length h.places ≡ cap) (fits : h.count ≤ cap) (room : 0 < cap) where
  index_exact : Exact (hash_at items (with_index items cap h)) h.count (built_index items cap h)
  index_exact = built_exact (hash_at items h) h.count (places_for cap) (omega arith)

  index_complete : Held.Complete items (with_index items cap h)
  index_complete =
      exact_is_complete (built_index items cap h) refl
      (added_length _ _ _ ∙ length-replicate {A = ℕ} (places_for cap) 0 ∙ rw full) index_exact

  index_sound : Held.Sound (with_index items cap h)
  index_sound = record { room = rw full room; count_fits = rw full fits }

-- Slots of document 01 have no counts of tries turned away.
uncounted_already : (rs : List (List ℕ)) → map Slot.uncounted (map slot_of01 rs) ≡ map slot_of01 rs
uncounted_already [] = refl
uncounted_already (r ∷ rs) = ap {B = List Slot} (λ rest. slot_of01 r ∷ rest) (uncounted_already rs)

module _ {cap : ℕ} {ws : List ℕ} (counted : Counted cap ws) where
  abbrev own : Shard
  own = shard01 cap ws

  -- Read in place order, without counts of tries turned away, it is the shard in document 01's words.
  pub forth_in_place_order_is_the_same : back (forth cap own) ≡ own
  unfolding forth shard01 ledger01 table_in
  forth_in_place_order_is_the_same =
      ap (λ (slots : List Slot). record {
        slots = record { count = own.slots.count; places = slots; finding = in_order };
        hand = own.hand;
        sweep = own.sweep;
        ledger = own.ledger;
      })
      (uncounted_already (rows slot_width01 cap (segment slots_at01 (slot_width01 * cap) ws)))

  forth_sized : Sized cap (forth cap own)
  unfolding forth
  forth_sized =
      let zeros_long : length {A = ℕ} (replicate (places_for cap) 0) ≡ places_for cap = length-replicate {A = ℕ} (places_for cap) 0 in
      indexed_sized counted _ _ (added_length _ _ _ ∙ zeros_long) (added_length _ _ _ ∙ zeros_long)

  -- All its counts are 0, so in place order alone it is that shard, too.
  pub forth_in_place_order : in_place_order (forth cap own) ≡ own
  unfolding forth
  forth_in_place_order = in_place_order01 cap ws

  -- Its present words are as many as they have to be, and read as it.
  pub forth_words_are_a_shards : length (words_of (forth cap own)) ≡ shard_words cap
  forth_words_are_a_shards = words_length cap (forth cap own) forth_sized

  pub forth_words_read_back : shard cap (words_of (forth cap own)) ≡ forth cap own
  forth_words_read_back = shard_of_words cap (forth cap own) forth_sized

  -- Forth and back gives the first words again.
  pub back_of_forth_is_the_first : words01 (back (shard cap (words_of (forth cap own)))) ≡ ws
  back_of_forth_is_the_first = rw (forth_words_read_back, forth_in_place_order_is_the_same) (words_shard01 cap ws counted.size)

  module _ (room : 0 < cap) where
    slots_fit : own.slots.count ≤ cap
    slots_fit = slots_fit_cap cap own counted.fits

    debts_fit : own.ledger.debts.count ≤ cap
    debts_fit = debts_fit_cap cap own counted.fits

    -- Its indexes are exact: the way back does not refuse them.
    pub forth_indexes_are_exact : indexes_exact (forth cap own) ≡ true
    unfolding indexes_exact forth
    forth_indexes_are_exact =
        rw (exact_is_exactly _ _ _ (index_exact slot_items cap own.slots (cap01_is cap ws) slots_fit room))
        (exact_is_exactly _ _ _ (index_exact debt_items cap own.ledger.debts (debt_cap01_is cap ws) debts_fit room))

    -- Where no two items are alike, and no word past a count is used, lookup finds each.
    pub forth_finds_each : shard_twins own ≡ false → shard_used_past01 own ≡ false → FindsEach (forth cap own)
    unfolding forth
    forth_finds_each none unused = let clean : shard_used_past (forth cap own) ≡ false = forth_is_used_past_alike cap ws ∙ unused in record {
      slots = record {
        sound = index_sound slot_items cap own.slots (cap01_is cap ws) slots_fit room;
        complete = index_complete slot_items cap own.slots (cap01_is cap ws) slots_fit room;
        single = slots_single own none;
        free_past = past_slots_are_free (forth cap own) clean;
      };
      ledger = record {
        sound = index_sound debt_items cap own.ledger.debts (debt_cap01_is cap ws) debts_fit room;
        complete = index_complete debt_items cap own.ledger.debts (debt_cap01_is cap ws) debts_fit room;
        single = debts_single own none;
        free_past = past_debts_are_free (forth cap own) clean;
      };
    }

-- Items that are found by an index of the right size, which is exact: lookup misses none.
indexed_is_complete : {A : Type 0} (items : Items A) (cap : ℕ) (h : Held A) → length h.places ≡ cap → kind_of h.finding ≡ indexed (places_for cap)
    → exactly (hash_at items h) h.count (index_words h.finding) ≡ true → Held.Complete items h
indexed_is_complete items cap h full kind exact =
    exact_is_complete (index_words h.finding) (sym (indexed_by_words h.finding (places_for cap) kind))
    (index_length h.finding (places_for cap) kind ∙ ap places_for (sym full)) (exactly_is_exact _ _ _ exact)

-- A present shard that the way back does not refuse: lookup finds each slot and each debt.
module _ {cap : ℕ} {s : Shard} (sized : Sized cap s) (room : 0 < cap) (fits : count_over cap s ≡ false) (exact : indexes_exact s ≡ true) where
  abbrev slots_exactly : Bool
  slots_exactly = exactly (hash_at slot_items s.slots) s.slots.count (index_words s.slots.finding)

  slots_exact : slots_exactly ≡ true
  unfolding indexes_exact
  slots_exact = by_test slots_exactly (λ t. t) (λ t. both_ways exact (rw t))

  debts_exact : exactly (hash_at debt_items s.ledger.debts) s.ledger.debts.count (index_words s.ledger.debts.finding) ≡ true
  unfolding indexes_exact
  debts_exact = rw slots_exact at exact

  pub not_refused_finds_each : shard_twins s ≡ false → shard_used_past s ≡ false → FindsEach s
  not_refused_finds_each none clean = record {
    slots = record {
      sound = record { room = rw sized.slots room; count_fits = rw sized.slots (slots_fit_cap cap s fits) };
      complete = indexed_is_complete slot_items cap s.slots sized.slots sized.slots_kind slots_exact;
      single = slots_single s none;
      free_past = past_slots_are_free s clean;
    };
    ledger = record {
      sound = record { room = rw sized.debts room; count_fits = rw sized.debts (debts_fit_cap cap s fits) };
      complete = indexed_is_complete debt_items cap s.ledger.debts sized.debts sized.debts_kind debts_exact;
      single = debts_single s none;
      free_past = past_debts_are_free s clean;
    };
  }
