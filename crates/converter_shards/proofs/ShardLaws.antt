-- What a read of document 01's words says of the shard in them, and what the checks of the words say of the shard.
use Prim.Native.Nat.{ℕ, zero, suc, ◌+◌, ◌-◌, ◌*◌, ◌≤◌, ◌<◌}
use native.Mathlib.Omega.{arith}
use native.Mathlib.Nat.{add-zero, add_comm, mul-zero, mul-suc, mul-le-mul_left}
use mathlib.Core.Path.{◌≡◌, refl, ap, sym, ◌∙◌}
use mathlib.Core.Bool.{Bool, true, false}
use mathlib.Core.List.{List, [], ◌∷◌, map}
use lib.Dec.{lit<, ltb}
use lib.ListN.{length, get_or, take, drop, length-drop}
use lib.Seq.{get_or-drop, drop-drop, take-nil}
use borrow.Author.Tests.{lt-ltb, le-ltb}
use Rattle.arith.proofs.Cases.{by_le}
use Rattle.rows.specs.Segments.{segment}
use Rattle.rows.specs.Rows.{rows, unrow}
use Rattle.rows.proofs.RowLaws.{segment_word, by_listed, rows_round, unrow_rows}
use Rattle.rows.proofs.SegmentLaws.{segment_length}
use Rattle.held.specs.Held.{item_at}
use Rattle.held.specs.Layout.{table_in}
use Rattle.held.proofs.LayoutLaws.{table_item, table_word}
use Rattle.slot.specs.declared.Slot.{Slot}
use Rattle.ledger.specs.declared.Debt.{Debt}
use Rattle.ledger.specs.Model.{debt_items}
use Rattle.shard_map.specs.Model.{Shard, slot_items}
use Rattle.converter_shards.specs.Layout01.{slots_at01, slot_width01, debts_at01, debt_width01, ledger_start01, slot_of01}
use Rattle.converter_shards.specs.Layout01.{slot_words01}
use Rattle.converter_shards.specs.Layout01.{debt_of01, debt_words01}
use Rattle.converter_shards.specs.Layout01.{ledger01, shard01}
use Rattle.converter_shards.specs.Checks.{twinned, alike_in, has_twins, slot_key, debt_key, shard_twins, any_used, used_past, used_past_by}
use Rattle.converter_shards.specs.code.RowChecks.{rows_past}
use Rattle.converter_shards.specs.Checks.{count_over}
use Rattle.converter_shards.specs.code.RowChecks.{Counted, row_word, slot_rows01, debt_rows01, alike_rows}
use Rattle.converter_shards.proofs.CheckLaws.{both_ways, twinned_same}

-- A field of an item that is a word of its row.
pub item_field : {A : Type 0} (read : List ℕ → A) (w cap first : ℕ) (ws : List ℕ) (field : A → ℕ) (f : ℕ) → ((row : List ℕ) → field (read row) ≡ get_or row f 0)
    → f < w
    → (i : ℕ) → i < cap → field (get_or (table_in read w cap first ws).places i (read [])) ≡ get_or ws (first + w * i + f) 0
item_field read w cap first ws field f is within i below =
    ap field (table_item read w cap first ws i below) ∙ is _ ∙ segment_word (first + w * i) w ws f within

module _ (cap : ℕ) (ws : List ℕ) where
  pub count01_read : get_or ws 0 0 ≡ (shard01 cap ws).slots.count
  unfolding shard01
  count01_read = sym (table_word slot_of01 slot_width01 cap slots_at01 ws 0 (lit< tt))

  pub debt_count01_read : get_or ws (ledger_start01 cap) 0 ≡ (shard01 cap ws).ledger.debts.count
  unfolding shard01 ledger01 table_in
  debt_count01_read =
      sym (table_word debt_of01 debt_width01 cap debts_at01 (drop (ledger_start01 cap) ws) 0 (lit< tt) ∙ get_or-drop (ledger_start01 cap) ws 0 0 ∙ rw add-zero)

  pub slot_field01 : (field : Slot → ℕ) (f : ℕ) → ((row : List ℕ) → field (slot_of01 row) ≡ get_or row f 0) → f < slot_width01
      → (i : ℕ) → i < cap → row_word slot_rows01 f ws i ≡ field (item_at slot_items (shard01 cap ws).slots i)
  unfolding shard01 row_word
  slot_field01 field f is within i below = sym (item_field slot_of01 slot_width01 cap slots_at01 ws field f is within i below)

  pub debt_field01 : (field : Debt → ℕ) (f : ℕ) → ((row : List ℕ) → field (debt_of01 row) ≡ get_or row f 0) → f < debt_width01
      → (i : ℕ) → i < cap → row_word (debt_rows01 cap) f ws i ≡ field (item_at debt_items (shard01 cap ws).ledger.debts i)
  unfolding shard01 ledger01 row_word table_in
  debt_field01 field f is within i below =
      let place : ledger_start01 cap + (debts_at01 + debt_width01 * i + f) ≡ ledger_start01 cap + debts_at01 + debt_width01 * i + f = omega arith in
      sym (item_field debt_of01 debt_width01 cap debts_at01 (drop (ledger_start01 cap) ws) field f is within i below
      ∙ get_or-drop (ledger_start01 cap) ws (debts_at01 + debt_width01 * i + f) 0 ∙ ap (λ (k : ℕ). get_or ws k 0) place)

  -- Two rows are alike where their items are.
  pub slots_twinned : (n : ℕ) → n ≤ cap → n ≡ (shard01 cap ws).slots.count
      → twinned (alike_rows slot_rows01 ws) n ≡ has_twins slot_items slot_key (shard01 cap ws).slots
  unfolding has_twins alike_rows
  slots_twinned n fits is =
      rw (← is)
      (twinned_same n (alike_rows slot_rows01 ws) (alike_in slot_items slot_key (shard01 cap ws).slots) (λ i j a b.
      let h = slot_field01 (λ s. s.hash) 0 (λ row. refl) (lit< tt) in
      let k = slot_field01 (λ s. s.key) 1 (λ row. refl) (lit< tt) in
      rw (h i (omega arith), h j (omega arith), k i (omega arith), k j (omega arith))))

  pub debts_twinned : (n : ℕ) → n ≤ cap → n ≡ (shard01 cap ws).ledger.debts.count
      → twinned (alike_rows (debt_rows01 cap) ws) n ≡ has_twins debt_items debt_key (shard01 cap ws).ledger.debts
  unfolding has_twins alike_rows
  debts_twinned n fits is =
      rw (← is)
      (twinned_same n (alike_rows (debt_rows01 cap) ws) (alike_in debt_items debt_key (shard01 cap ws).ledger.debts) (λ i j a b.
      let h = debt_field01 (λ d. d.hash) 0 (λ row. refl) (lit< tt) in
      rw (h i (omega arith), h j (omega arith))))

-- The twins of a shard, by the tests of the code.
module _ (s : Shard) {b : Bool} where
  pub twins_slots : b ≡ has_twins slot_items slot_key s.slots → b ≡ true → true ≡ shard_twins s
  unfolding shard_twins
  twins_slots is found = rw (sym is ∙ found)

  pub twins_debts : {a : Bool} → a ≡ has_twins slot_items slot_key s.slots → a ≡ false → b ≡ has_twins debt_items debt_key s.ledger.debts → b ≡ shard_twins s
  unfolding shard_twins
  twins_debts slots none is = rw (sym slots ∙ none) is

-- The counts of a shard, by the tests of the code.
module _ (cap : ℕ) (s : Shard) where
  pub over_slots_lem : {n : ℕ} → n ≡ s.slots.count → cap < n → true ≡ count_over cap s
  unfolding count_over
  over_slots_lem {n} is over = rw (← is, lt-ltb cap n over)

  pub over_debts : {n m : ℕ} → n ≡ s.slots.count → n ≤ cap → m ≡ s.ledger.debts.count → cap < m → true ≡ count_over cap s
  unfolding count_over
  over_debts {n} {m} slots within is over = rw (← slots, ← is, le-ltb cap n within, lt-ltb cap m over)

  pub none_over_cap : {n m : ℕ} → n ≡ s.slots.count → n ≤ cap → m ≡ s.ledger.debts.count → m ≤ cap → false ≡ count_over cap s
  unfolding count_over
  none_over_cap {n} {m} slots within is below = rw (← slots, ← is, le-ltb cap n within, le-ltb cap m below)

  pub over_by_slots : {n : ℕ} → n ≡ s.slots.count → cap < n → ltb cap n ≡ count_over cap s
  over_by_slots {n} is over = lt-ltb cap n over ∙ over_slots_lem is over

  pub over_by_debts : {n m : ℕ} → n ≡ s.slots.count → n ≤ cap → m ≡ s.ledger.debts.count → ltb cap m ≡ count_over cap s
  unfolding count_over
  over_by_debts {n} {m} slots within is = rw (← slots, ← is, le-ltb cap n within)

  -- Where none is over both fit.
  pub slots_fit_cap : count_over cap s ≡ false → s.slots.count ≤ cap
  slots_fit_cap none = by_le s.slots.count cap (λ l. l) (λ over. both_ways (sym (over_slots_lem refl over)) none)

  pub debts_fit_cap : count_over cap s ≡ false → s.ledger.debts.count ≤ cap
  debts_fit_cap none =
      by_le s.ledger.debts.count cap (λ l. l) (λ over. both_ways (sym (over_debts refl (slots_fit_cap none) refl over)) none)

-- The words of the rows past the first n.
drop_take : (m n : ℕ) (l : List ℕ) → m ≤ n → drop m (take n l) ≡ take (n - m) (drop m l)
drop_take zero n l le = let e : n - 0 ≡ n = omega arith in rw e
drop_take (suc m) zero l le = absurd (omega arith)
drop_take (suc m) (suc n) [] le = sym (take-nil (suc n - suc m))
drop_take (suc m) (suc n) (x ∷ l) le = let e : suc n - suc m ≡ n - m = omega arith in rw e (drop_take m n l (omega arith))

module _ {A : Type 0} (read : List ℕ → A) (write : A → List ℕ) (w : ℕ) (round : (row : List ℕ) → length row ≡ w → write (read row) ≡ row) where
  rows_past_lem : (n cap : ℕ) (ws : List ℕ) → n ≤ cap → length ws ≡ w * cap → unrow (map write (drop n (map read (rows w cap ws)))) ≡ drop (w * n) ws
  unfolding rows
  rows_past_lem zero cap ws fits long = rw (mul-zero w) (rw (rows_round read write w cap ws round (omega arith)) (unrow_rows w cap ws long))
  rows_past_lem (suc n) zero ws fits long = absurd (omega arith)
  rows_past_lem (suc n) (suc cap) ws fits long =
      let d = length-drop w ws in
      let e = mul-suc w cap in
      rows_past_lem n cap (drop w ws) (omega arith) (omega arith) ∙ drop-drop (w * n) w ws ∙ rw (mul-suc w n) (ap (λ (k : ℕ). drop k ws) (add_comm w (w * n)))

  pub table_past : (cap first n : ℕ) (ws : List ℕ) → n ≤ cap → first + w * cap ≤ length ws
      → unrow (map write (drop n (table_in read w cap first ws).places)) ≡ take (first + w * cap - (first + w * n)) (drop (first + w * n) ws)
  unfolding table_in
  table_past cap first n ws fits room =
      let m : w * n ≤ w * cap = mul-le-mul_left {m = n} {n = cap} w fits in
      let e : first + w * cap - (first + w * n) ≡ w * cap - w * n = omega arith in
      rows_past_lem n cap (segment first (w * cap) ws) fits (segment_length first (w * cap) ws room)
      ∙ drop_take (w * n) (w * cap) (drop first ws) m ∙ rw (e, drop-drop (w * n) first ws)

-- Rows that begin past some words: past these words they are those of the rest.
pub rest_past : (start first w cap n : ℕ) (ws : List ℕ) → rows_past (start + first) w cap n ws ≡ rows_past first w cap n (drop start ws)
rest_past start first w cap n ws =
    let less : start + first + w * cap - (start + first + w * n) ≡ first + w * cap - (first + w * n) = omega arith in
    let begins : start + first + w * n ≡ start + (first + w * n) = omega arith in
    rw (less, begins, ← drop-drop (first + w * n) start ws)

-- The words past the counts.
module _ {cap : ℕ} {ws : List ℕ} (counted : Counted cap ws) where
  pub slots_within : {n : ℕ} → n ≡ (shard01 cap ws).slots.count → n ≤ cap
  slots_within is = rw is (slots_fit_cap cap (shard01 cap ws) counted.fits)

  pub debts_within : {n : ℕ} → n ≡ (shard01 cap ws).ledger.debts.count → n ≤ cap
  debts_within is = rw is (debts_fit_cap cap (shard01 cap ws) counted.fits)

  pub slots_past : {n : ℕ} → n ≡ (shard01 cap ws).slots.count
      → any_used (rows_past slots_at01 slot_width01 cap n ws) ≡ used_past slot_words01 (shard01 cap ws).slots
  unfolding used_past shard01
  slots_past {n} is =
      rw (← is)
      (sym (ap any_used
      (table_past slot_of01 slot_words01 slot_width01 (by_listed slot_width01 (λ r. slot_words01 (slot_of01 r) ≡ r) (λ f. refl)) cap slots_at01 n ws
      (slots_within is) (omega (arith, counted.size)))))

  pub debts_past : {n : ℕ} → n ≡ (shard01 cap ws).ledger.debts.count
      → any_used (rows_past (ledger_start01 cap + debts_at01) debt_width01 cap n ws) ≡ used_past debt_words01 (shard01 cap ws).ledger.debts
  unfolding used_past shard01 ledger01 table_in
  debts_past {n} is =
      let rest : List ℕ = drop (ledger_start01 cap) ws in
      rw (rest_past (ledger_start01 cap) debts_at01 debt_width01 cap n ws, ← is)
      (sym (ap any_used
      (table_past debt_of01 debt_words01 debt_width01 (by_listed debt_width01 (λ r. debt_words01 (debt_of01 r) ≡ r) (λ f. refl)) cap debts_at01 n rest
      (debts_within is) (omega (arith, counted.size, length-drop (ledger_start01 cap) ws)))))

-- Either, by the tests of the code.
module _ (write : Slot → List ℕ) (s : Shard) {b : Bool} where
  pub past_slots : b ≡ used_past write s.slots → b ≡ true → true ≡ used_past_by write s
  unfolding used_past_by
  past_slots is found = rw (sym is ∙ found)

  pub past_debts : {a : Bool} → a ≡ used_past write s.slots → a ≡ false → b ≡ used_past debt_words01 s.ledger.debts → b ≡ used_past_by write s
  unfolding used_past_by
  past_debts slots none is = rw (sym slots ∙ none) is
