-- How a shard lies in its words: the slot count, the hand, the sweep, the slots, then the words of the ledger, with the index of the slots among them. Each
-- offset and width stands here once, and once in src/words.rt.
use Rattle.std.specs.Prelude.{ℕ, ◌+◌, ◌*◌, ◌≡◌, List, [], ◌∷◌, ◌++◌, map, length, get_or}
use Rattle.rows.specs.Rows.{unrow}
use Rattle.index.specs.declared.Index.{Index}
use Rattle.index.specs.Layout.{places_for}
use Rattle.held.specs.Layout.{Table, table_in, held_of, index_words}
use Rattle.slot.specs.declared.Slot.{Slot}
use Rattle.ledger.specs.Model as Debts
use Rattle.ledger.specs.Model.{with_others}
use Rattle.ledger.specs.Layout as Ledger
use Rattle.shard_map.specs.Model.{Shard, Sound}

-- The words of the slot count, of the hand and of the sweep, the word at which the slots begin, and the words of a slot.
abbrev pub count_at : ℕ
count_at = 0

abbrev pub hand_at : ℕ
hand_at = 1

abbrev pub sweep_at : ℕ
sweep_at = 2

abbrev pub slots_at : ℕ
slots_at = 3

abbrev pub slot_width : ℕ
slot_width = 7

-- The first word of the slot at a place.
abbrev pub slot_start : ℕ → ℕ
slot_start i = slots_at + slot_width * i

-- The words of a slot that have the key and the mark.
abbrev pub key_in : ℕ
key_in = 1

abbrev pub mark_in : ℕ
mark_in = 4

-- The slot that its words are, its hash first; and the words of a slot.
abbrev pub slot_of : List ℕ → Slot
slot_of row = record {
  hash = get_or row 0 0;
  key = get_or row key_in 0;
  bucket = record { shortfall = get_or row 2 0; stamp = record { 0 = get_or row 3 0 } };
  mark = get_or row mark_in 0;
  seen = record { 0 = get_or row 5 0 };
  turned_away = get_or row 6 0;
}

abbrev pub slot_words : Slot → List ℕ
slot_words s = s.hash ∷ s.key ∷ s.bucket.shortfall ∷ s.bucket.stamp.0 ∷ s.mark ∷ s.seen.0 ∷ s.turned_away ∷ []

-- The word at which the ledger begins, and the words of a shard with room for cap slots and cap debts.
abbrev pub ledger_start : ℕ → ℕ
ledger_start cap = slots_at + slot_width * cap

abbrev pub shard_words : ℕ → ℕ
shard_words cap = ledger_start cap + Ledger.ledger_words cap

-- Where the index of the slots and the slots lie. The index lies among the ledger's words and is not the ledger's own.
abbrev pub slot_index : ℕ → Index
slot_index cap = record { base = ledger_start cap + Ledger.others_at cap; size = places_for cap; first = slots_at; width = slot_width; key = key_in }

-- The shard that a table of slots and a ledger are, where the ledger's other words are the index of the slots. Those words stand in the shard once: the slots
-- have them, and the shard's ledger has none that are not its own.
abbrev pub shard_with : Table Slot → Debts.Ledger → Shard
shard_with t l = record { slots = held_of count_at l.others t; hand = t.head hand_at; sweep = t.head sweep_at; ledger = with_others l [] }

-- The ledger of a shard as it is lent: it has the words of the slots' index with it again.
abbrev pub lent_ledger : Shard → Debts.Ledger
lent_ledger s = with_others s.ledger (index_words s.slots.finding)

-- The shard that a table of slots is, the ledger lying in its rest; the shard that lies in some words, and the words of a shard.
abbrev pub shard_of : ℕ → Table Slot → Shard
shard_of cap t = shard_with t (Ledger.ledger cap t.rest)

unfoldable pub shard : ℕ → List ℕ → Shard
shard cap ws = shard_of cap (table_in slot_of slot_width cap slots_at ws)

unfoldable pub words_of : Shard → List ℕ
words_of s = s.slots.count ∷ s.hand ∷ s.sweep ∷ (unrow (map slot_words s.slots.places) ++ Ledger.words_of (lent_ledger s))

-- The words that a function of the shard is lent: just those of a shard that is sound.
pub record Intact (cap : ℕ) (ws : List ℕ) : Type 0 where
  pub size : length ws ≡ shard_words cap
  pub sound : Sound (shard cap ws)
