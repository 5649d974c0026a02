-- Document 01's layout: the words of the shard in some words are those words, and the shard in a shard's words is that shard, in place order and without counts
-- of tries turned away.
use Prim.Native.Nat.{ℕ, ◌+◌, ◌*◌}
use native.Mathlib.Omega.{arith}
use mathlib.Core.Path.{◌≡◌, refl, ap, sym, ◌∙◌}
use mathlib.Core.List.{List, [], ◌∷◌, ◌++◌, map}
use lib.ListN.{length, get_or, drop, length-drop, drop_of_length-le}
use lib.Seq.{take_at, drop_at, drop-drop}
use Rattle.rows.specs.Segments.{segment}
use Rattle.rows.specs.Rows.{rows, unrow}
use Rattle.rows.proofs.RowLaws.{by_listed, written_length}
use Rattle.held.specs.Layout.{Table, table_in}
use Rattle.held.proofs.LayoutLaws.{table_length, table_words_lem}
use Rattle.held.proofs.ReadBack.{between_length, table_of_words}
use Rattle.slot.specs.declared.Slot.{Slot}
use Rattle.slot.specs.Slot as Slot
use Rattle.ledger.specs.Model as Debts
use Rattle.shard_map.specs.Model.{Shard, cap_of, in_place_order, uncounted}
use Rattle.converter_shards.specs.Layout01.{slots_at01, slot_width01, debts_at01, debt_width01, ledger_start01, ledger_words01, shard_words01, slot_of01}
use Rattle.converter_shards.specs.Layout01.{slot_words01}
use Rattle.converter_shards.specs.Layout01.{debt_of01, debt_words01}
use Rattle.converter_shards.specs.Layout01.{ledger_of01, ledger01, shard_with01, shard01, ledger_words_of01, words01}

-- Whatever the words, there is room for cap slots and for cap debts.
pub cap01_is : (cap : ℕ) (ws : List ℕ) → cap_of (shard01 cap ws) ≡ cap
unfolding shard01
cap01_is cap ws = table_length slot_of01 slot_width01 cap slots_at01 ws

pub debt_cap01_is : (cap : ℕ) (ws : List ℕ) → Debts.cap_of (shard01 cap ws).ledger ≡ cap
unfolding shard01 ledger01
debt_cap01_is cap ws = table_length debt_of01 debt_width01 cap debts_at01 _

-- The shard is in place order.
pub in_place_order01 : (cap : ℕ) (ws : List ℕ) → in_place_order (shard01 cap ws) ≡ shard01 cap ws
unfolding shard01 ledger01
in_place_order01 cap ws = refl

-- The words of the ledger in words of the right length are those words; and so for a shard.
pub words_ledger01 : (cap : ℕ) (ws : List ℕ) → length ws ≡ ledger_words01 cap → ledger_words_of01 (ledger01 cap ws) ≡ ws
unfolding ledger01 ledger_words_of01 table_in
words_ledger01 cap ws size =
    rw (← drop_of_length-le ws {i = debts_at01 + debt_width01 * cap} (omega arith))
    (table_words_lem debt_of01 debt_width01 cap debts_at01 ws (omega arith) debt_words01
    (by_listed debt_width01 (λ r. debt_words01 (debt_of01 r) ≡ r) (λ f. refl)))

pub words_shard01 : (cap : ℕ) (ws : List ℕ) → length ws ≡ shard_words01 cap → words01 (shard01 cap ws) ≡ ws
unfolding shard01 words01 table_in
words_shard01 cap ws size =
    rw (words_ledger01 cap (drop (ledger_start01 cap) ws) (omega (arith, length-drop (ledger_start01 cap) ws)))
    (table_words_lem slot_of01 slot_width01 cap slots_at01 ws (omega arith) slot_words01
    (by_listed slot_width01 (λ r. slot_words01 (slot_of01 r) ≡ r) (λ f. refl)))

-- Items written as rows and read again, where reading need not give back all that was written.
module _ {A : Type 0} (write : A → List ℕ) (w : ℕ) (long : (x : A) → length (write x) ≡ w) (read : List ℕ → A) where
  rows_of_read : (items : List A) → map read (rows w (length items) (unrow (map write items))) ≡ map (λ x. read (write x)) items
  unfolding rows unrow
  rows_of_read [] = refl
  rows_of_read (x ∷ items) =
      rw (
        take_at (write x) (unrow (map write items)) w (long x),
        drop_at (write x) (unrow (map write items)) w (long x),
        rows_of_read items,
      )

module _ {A : Type 0} (write : A → List ℕ) (w : ℕ) (long : (x : A) → length (write x) ≡ w) (items : List A) (head rest : List ℕ) {cap first : ℕ}
    (full : length items ≡ cap) (headed : length head ≡ first) (read : List ℕ → A) where
  table_of_written : table_in read w cap first (head ++ (unrow (map write items) ++ rest))
      ≡ record { head = λ k. get_or head k 0; places = map (λ x. read (write x)) items; rest = rest }
  unfolding table_in
  table_of_written =
      let own : List ℕ = unrow (map write items) in
      let there : length own ≡ w * cap = rw (written_length write w long items, full) in
      let front_there = take_at head (own ++ rest) first headed in
      let past_head = drop_at head (own ++ rest) first headed in
      let items_there : map read (rows w cap (segment first (w * cap) (head ++ (own ++ rest)))) ≡ map (λ x. read (write x)) items =
      rw (past_head, take_at own rest (w * cap) there, ← full) (rows_of_read write w long read items) in
      let rest_there : drop (first + w * cap) (head ++ (own ++ rest)) ≡ rest =
      rw (← drop-drop (w * cap) first (head ++ (own ++ rest)), past_head) (drop_at own rest (w * cap) there) in
      λ j. record { head = λ k. get_or (front_there j) k 0; places = items_there j; rest = rest_there j }

-- A count of tries turned away is not written.
slots_uncounted : (slots : List Slot) → map slot_words01 (map Slot.uncounted slots) ≡ map slot_words01 slots
slots_uncounted [] = refl
slots_uncounted (x ∷ slots) = ap {B = List (List ℕ)} (λ r. slot_words01 x ∷ r) (slots_uncounted slots)

pub words01_of_back : (s : Shard) → words01 (in_place_order (uncounted s)) ≡ words01 s
unfolding words01 ledger_words_of01
words01_of_back s = rw (slots_uncounted s.slots.places)

-- A shard with room for cap slots and cap debts.
pub record Sized01 (cap : ℕ) (s : Shard) : Type 0 where
  pub slots : cap_of s ≡ cap
  pub debts : Debts.cap_of s.ledger ≡ cap
  pub others : s.ledger.others ≡ []

module _ (cap : ℕ) (s : Shard) (sized : Sized01 cap s) where
  abbrev head : List ℕ
  head = s.slots.count ∷ s.hand ∷ s.sweep ∷ []

  abbrev debt_head : List ℕ
  debt_head = s.ledger.debts.count ∷ s.ledger.cursor ∷ []

  pub ledger_words01_length : length (ledger_words_of01 s.ledger) ≡ ledger_words01 cap
  unfolding ledger_words_of01
  ledger_words01_length = omega (arith, between_length debt_words01 debt_width01 (λ d. refl) s.ledger.debts.places debt_head [] sized.debts refl)

  -- How many words it has: 5 + 8 × cap.
  pub words01_length : length (words01 s) ≡ shard_words01 cap
  unfolding words01
  words01_length =
      omega (
        arith,
        between_length slot_words01 slot_width01 (λ slot. refl) s.slots.places head (ledger_words_of01 s.ledger) sized.slots refl,
        ledger_words01_length,
      )

  ledger_of_words01 : ledger01 cap (ledger_words_of01 s.ledger) ≡ Debts.in_place_order s.ledger
  unfolding ledger01 ledger_words_of01
  ledger_of_words01 =
      ap ledger_of01 (table_of_words debt_words01 debt_width01 (λ d. refl) s.ledger.debts.places debt_head [] sized.debts refl debt_of01 (λ d. refl))
      ∙ ap (λ (ws : List ℕ). Debts.with_others (Debts.in_place_order s.ledger) ws) (sym sized.others)

  -- Nothing of a shard but its indexes and its counts of tries turned away is lost when it is written as document 01's words and read again.
  pub shard01_of_words : shard01 cap (words01 s) ≡ in_place_order (uncounted s)
  unfolding shard01 words01
  shard01_of_words =
      let table : Table Slot = record { head = λ k. get_or head k 0; places = map Slot.uncounted s.slots.places; rest = ledger_words_of01 s.ledger } in
      ap (λ (t : Table Slot). shard_with01 t (ledger01 cap t.rest))
      (table_of_written slot_words01 slot_width01 (λ slot. refl) s.slots.places head (ledger_words_of01 s.ledger) sized.slots refl slot_of01)
      ∙ ap (shard_with01 table) ledger_of_words01
