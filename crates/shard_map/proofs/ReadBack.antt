-- The words of a shard read back as the shard, and the shard that lies in zeros.
use Prim.Native.Nat.{ℕ, ◌<◌}
use native.Mathlib.Omega.{arith}
use mathlib.Core.Path.{◌≡◌, refl, ap, sym, ◌∙◌}
use mathlib.Core.List.{List, [], ◌∷◌}
use lib.ListN.{length, get_or, drop, drop_of_length-le}
use Rattle.index.specs.Layout.{places_for}
use Rattle.index.proofs.LayoutLaws.{places_length}
use Rattle.held.specs.Layout.{Table, table_in}
use Rattle.held.specs.Held.{Finding, by_index}
use Rattle.held.proofs.FindingLaws.{indexed, kind_of, indexed_by_words, index_length, fresh_is_complete}
use Rattle.held.proofs.ReadBack.{between_length, table_of_words}
use Rattle.held.proofs.LayoutLaws.{zeros_head, zeros_item, zeros_rest}
use Rattle.slot.specs.declared.Slot.{Slot}
use Rattle.ledger.specs.Model as Debts
use Rattle.ledger.specs.Model.{with_others}
use Rattle.ledger.specs.Layout as Ledger
use Rattle.ledger.proofs.LayoutLaws as LedgerLaws
use Rattle.ledger.proofs.ReadBack as LedgerBack
use Rattle.shard_map.specs.Model.{Shard, Complete, slot_items, no_slot, slot_at, cap_of, with_finding, with_ledger}
use Rattle.shard_map.specs.Layout.{count_at, hand_at, sweep_at, slots_at, slot_width, slot_of, slot_words, ledger_start, shard_words, slot_index, shard_with}
use Rattle.shard_map.specs.Layout.{lent_ledger, shard_of, shard, words_of}
use Rattle.shard_map.proofs.LayoutLaws.{cap_is, rest_length, finding_read}

-- A shard with room for cap slots and cap debts, each found by an index with two places for each of theirs, in which every word of the ledger is the ledger's
-- own.
pub record Sized (cap : ℕ) (s : Shard) : Type 0 where
  pub slots : cap_of s ≡ cap
  pub slots_kind : kind_of s.slots.finding ≡ indexed (places_for cap)
  pub debts : Debts.cap_of s.ledger ≡ cap
  pub debts_kind : kind_of s.ledger.debts.finding ≡ indexed (places_for cap)
  pub others : length s.ledger.others ≡ 0

module _ (cap : ℕ) (s : Shard) (sized : Sized cap s) where
  abbrev head : List ℕ
  head = s.slots.count ∷ s.hand ∷ s.sweep ∷ []

  abbrev rest : List ℕ
  rest = Ledger.words_of (lent_ledger s)

  -- How many words it has.
  pub words_length : length (words_of s) ≡ shard_words cap
  unfolding words_of
  words_length =
      omega (
        arith,
        between_length slot_words slot_width (λ slot. refl) s.slots.places head rest sized.slots refl,
        LedgerBack.words_length cap (lent_ledger s) sized.debts,
        index_length s.slots.finding (places_for cap) sized.slots_kind,
        index_length s.ledger.debts.finding (places_for cap) sized.debts_kind,
      )

  -- Nothing of a shard is lost when it is written as words and read again.
  pub shard_of_words : shard cap (words_of s) ≡ s
  unfolding shard words_of
  shard_of_words =
      let slot_index = index_length s.slots.finding (places_for cap) sized.slots_kind in
      let lent = LedgerBack.ledger_of_words cap (lent_ledger s) sized.debts slot_index sized.debts_kind in
      let table : Table Slot = record { head = λ k. get_or head k 0; places = s.slots.places; rest = rest } in
      ap (shard_of cap) (table_of_words slot_words slot_width (λ slot. refl) s.slots.places head rest sized.slots refl slot_of (λ slot. refl))
      ∙ ap (shard_with table) lent
      ∙ ap (λ (f : Finding). with_ledger (with_finding s f) (with_others s.ledger []))
      (indexed_by_words s.slots.finding (places_for cap) sized.slots_kind)
      ∙ ap (λ (ws : List ℕ). with_ledger s (with_others s.ledger ws)) (sym (drop_of_length-le s.ledger.others {i = 0} (omega (arith, sized.others))))

-- Whatever the words, the ledger of the shard in them has room for cap debts; and words as long as a shard's have the shard's size.
pub debt_cap_is : (cap : ℕ) (ws : List ℕ) → Debts.cap_of (shard cap ws).ledger ≡ cap
unfolding shard
debt_cap_is cap ws = LedgerLaws.cap_is cap (table_in slot_of slot_width cap slots_at ws).rest

pub shard_sized : (cap : ℕ) (ws : List ℕ) → length ws ≡ shard_words cap → Sized cap (shard cap ws)
unfolding shard table_in
shard_sized cap ws size =
    let past : List ℕ = drop (ledger_start cap) ws in
    let long = rest_length cap ws size in
    record {
      slots = cap_is cap ws;
      slots_kind = ap kind_of (finding_read cap ws size) ∙ ap indexed (places_length (slot_index cap) ws (omega arith));
      debts = debt_cap_is cap ws;
      debts_kind = ap kind_of (LedgerLaws.finding_read cap past long) ∙ ap indexed (places_length (Ledger.debt_index cap) past (omega arith));
      others = refl;
    }

-- A shard that holds no slot and no debt, and whose hand, sweep and cursor stand at the first place.
pub record Empty (s : Shard) : Type 0 where
  pub slots : s.slots.count ≡ 0
  pub hand : s.hand ≡ 0
  pub sweep : s.sweep ≡ 0
  pub debts : s.ledger.debts.count ≡ 0
  pub cursor : s.ledger.cursor ≡ 0

-- The shard in words that are all 0 is such a shard.
pub zeros_empty : (cap : ℕ) (ws : List ℕ) → ((i : ℕ) → get_or ws i 0 ≡ 0) → Empty (shard cap ws)
unfolding shard
zeros_empty cap ws zeros =
    let rest = zeros_rest slot_of slot_width cap slots_at ws zeros in
    record {
      slots = zeros_head slot_of slot_width cap slots_at ws zeros count_at;
      hand = zeros_head slot_of slot_width cap slots_at ws zeros hand_at;
      sweep = zeros_head slot_of slot_width cap slots_at ws zeros sweep_at;
      debts = LedgerBack.zeros_no_debts cap _ rest;
      cursor = LedgerBack.zeros_cursor cap _ rest;
    }

-- Every place of it is free.
module _ (cap : ℕ) (ws : List ℕ) (zeros : (i : ℕ) → get_or ws i 0 ≡ 0) where
  pub zeros_are_free_slots : (i : ℕ) → slot_at (shard cap ws) i ≡ no_slot
  unfolding shard
  zeros_are_free_slots =
      zeros_item slot_of slot_width cap slots_at ws zeros (λ row blank. λ j. record {
        hash = blank 0 j;
        key = blank 1 j;
        bucket = record { shortfall = blank 2 j; stamp = record { 0 = blank 3 j } };
        mark = blank 4 j;
        seen = record { 0 = blank 5 j };
        turned_away = blank 6 j;
      })

  pub zeros_are_free_debts : (i : ℕ) → Debts.debt_at (shard cap ws).ledger i ≡ Debts.no_debt
  unfolding shard
  zeros_are_free_debts = LedgerBack.zeros_are_free_debts cap _ (zeros_rest slot_of slot_width cap slots_at ws zeros)

-- In it lookup misses none: all places of both indexes are empty.
pub zeros_complete : (cap : ℕ) (ws : List ℕ) → 0 < cap → length ws ≡ shard_words cap → ((i : ℕ) → get_or ws i 0 ≡ 0) → Complete (shard cap ws)
unfolding shard table_in
zeros_complete cap ws room size zeros =
    let rest_zeros = zeros_rest slot_of slot_width cap slots_at ws zeros in
    let long = rest_length cap ws size in
    let empty = zeros_empty cap ws zeros in
    let slots_room = cap_is cap ws in
    let debts_room = debt_cap_is cap ws in
    record {
      slots = fresh_is_complete slot_items (shard cap ws).slots (rw slots_room room) empty.slots
          (rw slots_room (ap by_index (LedgerBack.zeros_others cap _ rest_zeros long)));
      ledger = fresh_is_complete Debts.debt_items (shard cap ws).ledger.debts (rw debts_room room) empty.debts
          (rw debts_room (LedgerBack.zeros_finding cap _ rest_zeros long));
    }
