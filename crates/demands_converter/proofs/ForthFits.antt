-- Words that can be lent stay words that can be lent: a conversion forth of such words leaves no word that does not fit 64 bits.
use Prim.Native.Nat.{ℕ, zero, suc, ◌^◌}
use native.Mathlib.Omega.{arith}
use mathlib.Core.Path.{◌≡◌, ap, ◌∙◌}
use mathlib.Core.Bool.{true}
use mathlib.Core.List.{List}
use lib.ListN.{length, replicate}
use Rattle.index.specs.Layout.{places_for}
use Rattle.index.proofs.WordLaws.{Below, add_below}
use Rattle.held.specs.Held.{Items, hash_at}
use Rattle.held.specs.Layout.{Table, table_in}
use Rattle.settings.specs.declared.Settings.{Settings}
use Rattle.settings.specs.Settings.{shard_count, cap_of}
use Rattle.settings.proofs.SettingsLaws.{accepted_parts, cap_most, refused_with_any_classes}
use Rattle.slot.specs.declared.Slot.{Slot}
use Rattle.ledger.specs.declared.Debt.{Debt}
use Rattle.ledger.specs.Model.{debt_items}
use Rattle.shard_map.specs.Model.{slot_items}
use Rattle.store.proofs.MemoryLaws.{room_small}
use Rattle.rules.specs.declared.Reply.TheVariants.{Done}
use Rattle.rules.specs.Widths.{lendable}
use Rattle.rules.specs.Calls.{Every}
use Rattle.converter_shards.specs.Layout01.{slots_at01, slot_width01, slot_of01, debt_of01, debts_at01, debt_width01, held_of01, ledger01, shard01}
use Rattle.converter_shards.specs.Forth as Shards
use Rattle.converter_shards.specs.Forth.{added_up_to, with_index}
use Rattle.converter.specs.declared.Layout.TheVariants.{Old}
use Rattle.converter.specs.Layouts.{start_of, shard_size, part, moved, shard_at}
use Rattle.converter.specs.Conversion.{moved_up_to, forth}
use Rattle.converter.proofs.Theorem.{forth_long}
use Rattle.demands.proofs.EveryLaws.{every_joined, every_copy, every_in_part}
use Rattle.demands.proofs.WordFits.{Word, HeldFits, lendable_length, lendable_words, words_are_lendable}
use Rattle.demands.proofs.LedgerFits.{DebtFits}
use Rattle.demands.proofs.ShardFits.{SlotFits, ShardFits}
use Rattle.demands.proofs.LayoutFits.{word_fits, TableFits, table_read_fits, index_read_fits, shard_words_fit}
use Rattle.demands.proofs.GrownLaws.{total_is_within}
use Rattle.demands_converter.specs.OldStore.{classless}
use Rattle.demands_converter.proofs.Theorem.{accepted, left, forth_leaves, forth_sound}

-- A slot and a debt of document 01, read from words that fit.
slot_read_fits : (row : List ℕ) → Every Word row → SlotFits (slot_of01 row)
slot_read_fits row every = record {
  hash = word_fits row _ every;
  key = word_fits row _ every;
  bucket = record { shortfall = word_fits row _ every; stamp = word_fits row _ every };
  mark = word_fits row _ every;
  seen = word_fits row _ every;
  turned_away_met = omega arith;
}

debt_read_fits : (row : List ℕ) → Every Word row → DebtFits (debt_of01 row)
debt_read_fits row every = record { hash = word_fits row _ every; settles = word_fits row _ every }

-- The words of an index to which as many items are added as fit a word.
added_below : (hash : ℕ → ℕ) (n : ℕ) (ix : List ℕ) → Word n → Below (2 ^ 64) ix → Below (2 ^ 64) (added_up_to hash n ix)
unfolding added_up_to
added_below hash zero ix small words = words
added_below hash (suc n) ix small words =
    add_below (2 ^ 64) (added_up_to hash n ix) (hash n) n (omega arith) (added_below hash n ix (omega arith) words)

-- The items of a table of document 01, found by an index that is built.
indexed_fits : {A : Type 0} (Q : A → Type 0) (items : Items A) (cap : ℕ) (t : Table A) → TableFits Q t → HeldFits Q (with_index items cap (held_of01 t))
indexed_fits Q items cap t f = record {
  count = f.head 0;
  room = f.room;
  items = f.items;
  finding = added_below (hash_at items (held_of01 t)) (t.head 0) (replicate (places_for cap) 0) (f.head 0)
      (index_read_fits (replicate (places_for cap) 0) (every_copy Word (places_for cap) 0 (omega arith)));
}

-- A shard of document 01 that is read from words that fit, with its indexes built.
forth_fits : (cap : ℕ) (ws : List ℕ) → Word cap → Every Word ws → ShardFits (Shards.forth cap (shard01 cap ws))
unfolding shard01 ledger01 Shards.forth
forth_fits cap ws room every =
    let slots : Table Slot = table_in slot_of01 slot_width01 cap slots_at01 ws in
    let f : TableFits SlotFits slots = table_read_fits SlotFits slot_of01 slot_width01 cap slots_at01 ws slot_read_fits room every in
    let debts : Table Debt = table_in debt_of01 debt_width01 cap debts_at01 slots.rest in
    let d : TableFits DebtFits debts = table_read_fits DebtFits debt_of01 debt_width01 cap debts_at01 slots.rest debt_read_fits room f.rest in
    record {
      slots = indexed_fits SlotFits slot_items cap slots f;
      hand = f.head 1;
      sweep = f.head 2;
      ledger = record { debts = indexed_fits DebtFits debt_items cap debts d; cursor = d.head 1; others = tt };
    }

-- All shards, one after the other.
moved_fits : (n cap : ℕ) (ws : List ℕ) → Word cap → Every Word ws → Every Word (moved_up_to Old n cap ws)
unfolding moved_up_to
moved_fits zero cap ws room every = tt
moved_fits (suc n) cap ws room every =
    every_joined Word (moved_up_to Old n cap ws) (moved Old cap (shard_at Old cap n ws)) (moved_fits n cap ws room every)
    (shard_words_fit (Shards.forth cap (shard_at Old cap n ws))
    (forth_fits cap (part Old cap n ws) room (every_in_part Word (start_of Old cap n) (shard_size Old cap) ws every)))

-- The words that a conversion forth leaves.
module _ (s : Settings) (source target : List ℕ) (done : (forth s source target).answer ≡ Done) (lent_source : lendable source ≡ true)
    (lent_target : lendable target ≡ true) where
  left_lendable : lendable (left s source target done) ≡ true
  left_lendable =
      let a = accepted s source target done in
      let sizes = (accepted_parts s a.settings).1 in
      let few : Word (cap_of s) = omega (arith, cap_most s sizes) in
      let long : Word (length (left s source target done)) =
      omega (arith, forth_long s source target a, a.target_size, lendable_length target lent_target) in
      let room = room_small (classless s) (accepted_parts (classless s) (refused_with_any_classes 0 s ∙ a.settings)).1 in
      let total = total_is_within (classless s) (left s source target done) (forth_sound s source target done) in
      words_are_lendable (left s source target done) long
      (omega (arith, total, room), moved_fits (shard_count s) (cap_of s) source few (lendable_words source lent_source))

  pub forth_leaves_lendable : lendable (forth s source target).after ≡ true
  forth_leaves_lendable = ap lendable (forth_leaves s source target done) ∙ left_lendable
