-- What the checks of a present shard's words say of the shard in them.
use Prim.Native.Nat.{ℕ, ◌+◌, ◌*◌, ◌≤◌, ◌<◌}
use native.Mathlib.Omega.{arith}
use mathlib.Core.Path.{◌≡◌, refl, ap, sym, ◌∙◌}
use mathlib.Core.Bool.{Bool, true, false}
use mathlib.Core.List.{List}
use lib.Dec.{lit<}
use lib.ListN.{get_or, take, drop, length-drop}
use lib.Seq.{get_or-drop, drop-drop}
use Rattle.arith.proofs.Cases.{by_test}
use Rattle.rows.proofs.RowLaws.{by_listed}
use Rattle.index.specs.Layout.{Fits, places_for, places_of, item_word, hash_of, key_of}
use Rattle.held.specs.Held.{item_at, hash_at}
use Rattle.held.specs.Layout.{table_in, index_words}
use Rattle.slot.specs.declared.Slot.{Slot}
use Rattle.ledger.specs.declared.Debt.{Debt}
use Rattle.ledger.specs.Model.{debt_items}
use Rattle.ledger.specs.Layout as Ledger
use Rattle.ledger.proofs.LayoutLaws as LedgerLaws
use Rattle.shard_map.specs.Model.{Shard, slot_items}
use Rattle.shard_map.specs.Layout.{slots_at, slot_width, slot_of, slot_words, ledger_start, slot_index, shard, Intact}
use Rattle.shard_map.proofs.LayoutLaws.{cap_is, rest_length, finding_read}
use Rattle.shard_map.proofs.ReadBack.{debt_cap_is}
use Rattle.converter_shards.specs.Checks.{any_below, alike_in, has_twins, slot_key, debt_key, exactly, indexes_exact, any_used}
use Rattle.converter_shards.specs.code.RowChecks.{strays}
use Rattle.converter_shards.specs.Checks.{used_past}
use Rattle.converter_shards.specs.code.RowChecks.{rows_past}
use Rattle.converter_shards.specs.Layout01.{debt_words01}
use Rattle.converter_shards.specs.code.Carried.{debt_index_in_shard}
use Rattle.converter_shards.proofs.CheckLaws.{both_ways, twinned_same}
use Rattle.converter_shards.proofs.ExactTestLaws.{exactly_agrees, exactly_is_exact}
use Rattle.converter_shards.proofs.ShardLaws.{item_field, table_past, rest_past}
use Rattle.converter_shards.proofs.StrayLaws.{strays_are_twins}

module _ (cap : ℕ) (ws : List ℕ) where
  -- A word of a row is a field of the item.
  pub slot_field : (field : Slot → ℕ) (f : ℕ) → ((row : List ℕ) → field (slot_of row) ≡ get_or row f 0) → f < slot_width
      → (i : ℕ) → i < cap → item_word (slot_index cap) f ws i ≡ field (item_at slot_items (shard cap ws).slots i)
  unfolding shard item_word
  slot_field field f is within i below = sym (item_field slot_of slot_width cap slots_at ws field f is within i below)

  pub debt_field : (field : Debt → ℕ) (f : ℕ) → ((row : List ℕ) → field (Ledger.debt_of row) ≡ get_or row f 0) → f < Ledger.debt_width
      → (i : ℕ) → i < cap → item_word (debt_index_in_shard cap) f ws i ≡ field (item_at debt_items (shard cap ws).ledger.debts i)
  unfolding shard Ledger.ledger item_word table_in
  debt_field field f is within i below =
      let place : ledger_start cap + (Ledger.debts_at + Ledger.debt_width * i + f) ≡ ledger_start cap + Ledger.debts_at + Ledger.debt_width * i + f =
      omega arith in
      sym (item_field Ledger.debt_of Ledger.debt_width cap Ledger.debts_at (drop (ledger_start cap) ws) field f is within i below
      ∙ get_or-drop (ledger_start cap) ws (Ledger.debts_at + Ledger.debt_width * i + f) 0 ∙ ap (λ (k : ℕ). get_or ws k 0) place)

module _ {cap : ℕ} {ws : List ℕ} (intact : Intact cap ws) where
  abbrev own : Shard
  own = shard cap ws

  pub slots_within : own.slots.count ≤ cap
  slots_within = omega (arith, intact.sound.count_fits, cap_is cap ws)

  pub debts_within : own.ledger.debts.count ≤ cap
  debts_within = omega (arith, intact.sound.ledger.count_fits, debt_cap_is cap ws)

  room : 0 < cap
  room = omega (arith, intact.sound.room, cap_is cap ws)

  -- The items and the places lie in the words.
  pub slots_index_fits : {n : ℕ} → n ≡ own.slots.count → Fits (slot_index cap) n ws
  slots_index_fits is = record {
    room = omega (arith, room);
    inside = omega (arith, intact.size);
    items = omega (arith, slots_within);
    within = lit< tt;
  }

  pub debts_index_fits : {n : ℕ} → n ≡ own.ledger.debts.count → Fits (debt_index_in_shard cap) n ws
  debts_index_fits is = record {
    room = omega (arith, room);
    inside = omega (arith, intact.size);
    items = omega (arith, debts_within);
    within = lit< tt;
  }

  slot_hash : (i : ℕ) → i < own.slots.count → hash_of (slot_index cap) ws i ≡ hash_at slot_items own.slots i
  slot_hash i below = slot_field cap ws (λ s. s.hash) 0 (λ row. refl) (lit< tt) i (omega (arith, slots_within))

  slot_key_lem : (i : ℕ) → i < own.slots.count → key_of (slot_index cap) ws i ≡ slot_key (item_at slot_items own.slots i)
  slot_key_lem i below = slot_field cap ws (λ s. s.key) 1 (λ row. refl) (lit< tt) i (omega (arith, slots_within))

  debt_hash : (i : ℕ) → i < own.ledger.debts.count → hash_of (debt_index_in_shard cap) ws i ≡ hash_at debt_items own.ledger.debts i
  debt_hash i below = debt_field cap ws (λ d. d.hash) 0 (λ row. refl) (lit< tt) i (omega (arith, debts_within))

  -- The words past the counts.
  pub slots_past_now : {n : ℕ} → n ≡ own.slots.count → any_used (rows_past slots_at slot_width cap n ws) ≡ used_past slot_words own.slots
  unfolding used_past shard
  slots_past_now {n} is =
      rw (← is)
      (sym (ap any_used (table_past slot_of slot_words slot_width (by_listed slot_width (λ r. slot_words (slot_of r) ≡ r) (λ f. refl)) cap slots_at n ws
      (omega (arith, slots_within)) (omega (arith, intact.size)))))

  pub debts_past_now : {n : ℕ} → n ≡ own.ledger.debts.count
      → any_used (rows_past (ledger_start cap + Ledger.debts_at) Ledger.debt_width cap n ws) ≡ used_past debt_words01 own.ledger.debts
  unfolding used_past shard Ledger.ledger table_in
  debts_past_now {n} is =
      let rest : List ℕ = drop (ledger_start cap) ws in
      let round = by_listed Ledger.debt_width (λ r. Ledger.debt_words (Ledger.debt_of r) ≡ r) (λ f. refl) in
      rw (rest_past (ledger_start cap) Ledger.debts_at Ledger.debt_width cap n ws, ← is)
      (sym (ap any_used (table_past Ledger.debt_of Ledger.debt_words Ledger.debt_width round cap Ledger.debts_at n rest
      (omega (arith, debts_within)) (omega (arith, intact.size, length-drop (ledger_start cap) ws)))))

  -- The places of the indexes are those that lookup goes by.
  slots_places : index_words own.slots.finding ≡ places_of (slot_index cap) ws
  slots_places = ap index_words (finding_read cap ws intact.size)

  debts_places : index_words own.ledger.debts.finding ≡ places_of (debt_index_in_shard cap) ws
  unfolding shard table_in places_of
  debts_places =
      ap index_words (LedgerLaws.finding_read cap (drop (ledger_start cap) ws) (rest_length cap ws intact.size))
      ∙ ap (take (places_for cap)) (drop-drop (Ledger.index_at cap) (ledger_start cap) ws)

  -- The tests of the indexes.
  slots_exactly_lem : exactly (hash_of (slot_index cap) ws) own.slots.count (places_of (slot_index cap) ws)
      ≡ exactly (hash_at slot_items own.slots) own.slots.count (index_words own.slots.finding)
  slots_exactly_lem = exactly_agrees _ _ _ _ slot_hash ∙ rw slots_places

  debts_exactly : exactly (hash_of (debt_index_in_shard cap) ws) own.ledger.debts.count (places_of (debt_index_in_shard cap) ws)
      ≡ exactly (hash_at debt_items own.ledger.debts) own.ledger.debts.count (index_words own.ledger.debts.finding)
  debts_exactly = exactly_agrees _ _ _ _ debt_hash ∙ rw debts_places

  -- Both, by the tests of the code.
  module _ {n : ℕ} (is : n ≡ own.slots.count) {a : Bool} (slots : a ≡ exactly (hash_of (slot_index cap) ws) n (places_of (slot_index cap) ws)) where
    slots_tested : a ≡ exactly (hash_at slot_items own.slots) own.slots.count (index_words own.slots.finding)
    slots_tested = (rw is at slots) ∙ slots_exactly_lem

    pub not_exact_slots : a ≡ false → false ≡ indexes_exact own
    unfolding indexes_exact
    not_exact_slots fails = rw (sym slots_tested ∙ fails)

    pub exact_by_debts : a ≡ true → {m : ℕ} → m ≡ own.ledger.debts.count → {b : Bool}
        → b ≡ exactly (hash_of (debt_index_in_shard cap) ws) m (places_of (debt_index_in_shard cap) ws) → b ≡ indexes_exact own
    unfolding indexes_exact
    exact_by_debts holds counted debts = rw (sym slots_tested ∙ holds) ((rw counted at debts) ∙ debts_exactly)

  -- Where both are exact, the items that stray are those that are alike.
  module _ (exact : indexes_exact own ≡ true) where
    slots_test : exactly (hash_of (slot_index cap) ws) own.slots.count (places_of (slot_index cap) ws) ≡ true
    unfolding indexes_exact
    slots_test =
        slots_exactly_lem
        ∙ by_test (exactly (hash_at slot_items own.slots) own.slots.count (index_words own.slots.finding)) (λ t. t) (λ t. both_ways exact (rw t))

    debts_test : exactly (hash_of (debt_index_in_shard cap) ws) own.ledger.debts.count (places_of (debt_index_in_shard cap) ws) ≡ true
    unfolding indexes_exact
    debts_test = debts_exactly ∙ (rw (sym slots_exactly_lem ∙ slots_test) at exact)

    pub slots_stray : {n : ℕ} → n ≡ own.slots.count
        → any_below n (strays (hash_of (slot_index cap) ws) (key_of (slot_index cap) ws) n (places_of (slot_index cap) ws))
        ≡ has_twins slot_items slot_key own.slots
    unfolding has_twins
    slots_stray is =
        rw is
        (strays_are_twins _ _ _ _ (exactly_is_exact _ _ _ slots_test)
        ∙ twinned_same own.slots.count _ (alike_in slot_items slot_key own.slots) (λ i j a b. rw
        (slot_hash i a, slot_hash j b, slot_key_lem i a, slot_key_lem j b)))

    pub debts_stray : {n : ℕ} → n ≡ own.ledger.debts.count
        → any_below n (strays (hash_of (debt_index_in_shard cap) ws) (key_of (debt_index_in_shard cap) ws) n (places_of (debt_index_in_shard cap) ws))
        ≡ has_twins debt_items debt_key own.ledger.debts
    unfolding has_twins
    debts_stray is =
        rw is
        (strays_are_twins _ _ _ _ (exactly_is_exact _ _ _ debts_test)
        ∙ twinned_same own.ledger.debts.count _ (alike_in debt_items debt_key own.ledger.debts) (λ i j a b. rw (debt_hash i a, debt_hash j b)))
