-- How a shard lies in words by document 01: the slot count, the hand, the sweep, cap slots of six words; the debt count, the cursor, cap debts of two words.
-- There is no index, and no slot has a count of tries turned away: it reads as 0. The value of the words is a shard in place order. No offset or width here is
-- the present layout's: each stands here for itself, since the present one may change.
use Rattle.std.specs.Prelude.{ℕ, ◌+◌, ◌*◌, List, [], ◌∷◌, ◌++◌, map, get_or}
use Rattle.rows.specs.Rows.{unrow}
use Rattle.held.specs.Held.{Held, in_order}
use Rattle.held.specs.Layout.{Table, table_in}
use Rattle.slot.specs.declared.Slot.{Slot}
use Rattle.ledger.specs.declared.Debt.{Debt}
use Rattle.ledger.specs.Model.{Ledger}
use Rattle.shard_map.specs.Model.{Shard}

-- The words before the slots, the words of a slot, the words before the debts, the words of a debt.
abbrev pub slots_at01 : ℕ
slots_at01 = 3

abbrev pub slot_width01 : ℕ
slot_width01 = 6

abbrev pub debts_at01 : ℕ
debts_at01 = 2

abbrev pub debt_width01 : ℕ
debt_width01 = 2

-- The word at which the ledger begins, the words of a ledger and those of a shard: 5 + 8 × cap.
abbrev pub ledger_start01 : ℕ → ℕ
ledger_start01 cap = slots_at01 + slot_width01 * cap

abbrev pub ledger_words01 : ℕ → ℕ
ledger_words01 cap = debts_at01 + debt_width01 * cap

abbrev pub shard_words01 : ℕ → ℕ
shard_words01 cap = ledger_start01 cap + ledger_words01 cap

-- The slot that six words are, and the words of a slot; the debt that two words are, and the words of a debt.
abbrev pub slot_of01 : List ℕ → Slot
slot_of01 row = record {
  hash = get_or row 0 0;
  key = get_or row 1 0;
  bucket = record { shortfall = get_or row 2 0; stamp = record { 0 = get_or row 3 0 } };
  mark = get_or row 4 0;
  seen = record { 0 = get_or row 5 0 };
  turned_away = 0;
}

abbrev pub slot_words01 : Slot → List ℕ
slot_words01 s = s.hash ∷ s.key ∷ s.bucket.shortfall ∷ s.bucket.stamp.0 ∷ s.mark ∷ s.seen.0 ∷ []

abbrev pub debt_of01 : List ℕ → Debt
debt_of01 row = record { hash = get_or row 0 0; settles = record { 0 = get_or row 1 0 } }

abbrev pub debt_words01 : Debt → List ℕ
debt_words01 d = d.hash ∷ d.settles.0 ∷ []

-- The items of a table, which its first word counts, found in place order.
abbrev pub held_of01 : {A : Type 0} → Table A → Held A
held_of01 t = record { count = t.head 0; places = t.places; finding = in_order }

-- The ledger that a table of debts is, and the ledger that lies in some words.
abbrev pub ledger_of01 : Table Debt → Ledger
ledger_of01 t = record { debts = held_of01 t; cursor = t.head 1; others = [] }

unfoldable pub ledger01 : ℕ → List ℕ → Ledger
ledger01 cap ws = ledger_of01 (table_in debt_of01 debt_width01 cap debts_at01 ws)

-- The shard that a table of slots and a ledger are, and the shard that lies in some words.
abbrev pub shard_with01 : Table Slot → Ledger → Shard
shard_with01 t l = record { slots = held_of01 t; hand = t.head 1; sweep = t.head 2; ledger = l }

unfoldable pub shard01 : ℕ → List ℕ → Shard
shard01 cap ws = let t = table_in slot_of01 slot_width01 cap slots_at01 ws in shard_with01 t (ledger01 cap t.rest)

-- The words of a ledger and of a shard by document 01. How the items are found is not written, nor is a count of tries turned away.
unfoldable pub ledger_words_of01 : Ledger → List ℕ
ledger_words_of01 l = l.debts.count ∷ l.cursor ∷ (unrow (map debt_words01 l.debts.places) ++ [])

unfoldable pub words01 : Shard → List ℕ
words01 s = s.slots.count ∷ s.hand ∷ s.sweep ∷ (unrow (map slot_words01 s.slots.places) ++ ledger_words_of01 s.ledger)
