-- What the converter looks at before it writes: two items of one hash and key (18), a word past a count that is not 0 (19), an index that is not exact (5,
-- going back). Each is a test that comes out true or false; what it means is said by the laws of proofs/CheckLaws and proofs/ExactTestLaws.
use Rattle.std.specs.Prelude.{ℕ, zero, suc, ◌+◌, ◌-◌, Bool, true, false, cond, List, map, eqb, ltb, length, get_or, drop}
use Rattle.rows.specs.Rows.{unrow}
use Rattle.index.specs.Walk.{at, seek}
use Rattle.index.specs.Exact.{copies}
use Rattle.held.specs.Held.{Held, Items, item_at, hash_at}
use Rattle.held.specs.Layout.{index_words}
use Rattle.slot.specs.declared.Slot.{Slot}
use Rattle.ledger.specs.declared.Debt.{Debt}
use Rattle.ledger.specs.Model.{debt_items}
use Rattle.shard_map.specs.Model.{Shard, slot_items}
use Rattle.shard_map.specs.Layout.{slot_words}
use Rattle.converter_shards.specs.Layout01.{slot_words01, debt_words01}

-- Does any number below n pass a test?
unfoldable pub any_below : ℕ → (ℕ → Bool) → Bool
any_below zero test = false
any_below (suc n) test = cond (test n) true (any_below n test)

-- Are two hashes the same, and two keys?
abbrev pub both_same : ℕ → ℕ → ℕ → ℕ → Bool
both_same h k h' k' = cond (eqb h h') (eqb k k') false

-- Are two of the first n items alike?
abbrev pub twinned : (ℕ → ℕ → Bool) → ℕ → Bool
twinned alike n = any_below n (λ i. any_below i (alike i))

-- Two items of one hash and key. A debt has its hash for a key.
module _ {A : Type 0} (items : Items A) (key : A → ℕ) where
  abbrev pub alike_in : Held A → ℕ → ℕ → Bool
  alike_in h i j = both_same (hash_at items h i) (key (item_at items h i)) (hash_at items h j) (key (item_at items h j))

  unfoldable pub has_twins : Held A → Bool
  has_twins h = twinned (alike_in h) h.count

abbrev pub slot_key : Slot → ℕ
slot_key slot = slot.key

abbrev pub debt_key : Debt → ℕ
debt_key debt = debt.hash

-- Has a shard two slots of one hash and key, or two debts of one hash?
unfoldable pub shard_twins : Shard → Bool
shard_twins s = cond (has_twins slot_items slot_key s.slots) true (has_twins debt_items debt_key s.ledger.debts)

-- Is a word not 0? Is any of some words not 0?
abbrev pub is_used : ℕ → Bool
is_used word = cond (eqb word 0) false true

unfoldable pub any_used : List ℕ → Bool
any_used ws = any_below (length ws) (λ k. is_used (get_or ws k 0))

-- Is a word past the count not 0 among the items? `write` gives the words of an item.
unfoldable pub used_past : {A : Type 0} → (A → List ℕ) → Held A → Bool
used_past write h = any_used (unrow (map write (drop h.count h.places)))

-- Is there one in a shard whose slots have these words? Document 01's slots have six words, those of the present layout seven.
unfoldable pub used_past_by : (Slot → List ℕ) → Shard → Bool
used_past_by write s = cond (used_past write s.slots) true (used_past debt_words01 s.ledger.debts)

abbrev pub shard_used_past01 : Shard → Bool
shard_used_past01 s = used_past_by slot_words01 s

abbrev pub shard_used_past : Shard → Bool
shard_used_past s = used_past_by slot_words s

-- Is a count of a shard over the cap?
unfoldable pub count_over : ℕ → Shard → Bool
count_over cap s = cond (ltb cap s.slots.count) true (ltb cap s.ledger.debts.count)

-- Does the walk of item i miss the item's number?
unfoldable pub unplaced : (ℕ → ℕ) → List ℕ → ℕ → Bool
unplaced hash ix i = cond (eqb (at ix (seek ix (hash i) (i + 1))) (i + 1)) false true

-- Is an index exact for n items? There is an empty place, all places but n are empty, and the walk of each item meets its number. This is `Exact`
-- (`exactly_is_exact`).
unfoldable pub exactly : (ℕ → ℕ) → ℕ → List ℕ → Bool
exactly hash n ix = cond (ltb n (length ix)) (cond (eqb (copies 0 ix) (length ix - n)) (cond (any_below n (unplaced hash ix)) false true) false) false

-- Are both indexes of a shard exact?
unfoldable pub indexes_exact : Shard → Bool
indexes_exact s =
    cond (exactly (hash_at slot_items s.slots) s.slots.count (index_words s.slots.finding))
    (exactly (hash_at debt_items s.ledger.debts) s.ledger.debts.count (index_words s.ledger.debts.finding))
    false
