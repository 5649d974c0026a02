-- Two sums over all that a shard has of one hash. `count` is how many items there are, where a slot of another key with the same hash counts as two: while
-- it is at most 1, the key's slot or its debt is all that there is. `shortage` is what they lack at a moment. A step that grants the key nothing never raises
-- the first and, while that is at most 1, never lowers the second: this is how no debt is lost. Layers above add up these laws and look at no place.
use Rattle.std.proofs.Common.{None}
use Prim.Native.Nat.{ℕ, ◌+◌, ◌*◌, ◌-◌, ◌≤◌, ◌<◌, min}
use mathlib.Core.Path.{◌≡◌, ◌∙◌, ap}
use mathlib.Core.Bool.{true, cond}
use native.Mathlib.Nat.{mul-le-mul_left, mul-le-mul_right, sub_self}
use native.Mathlib.Omega.{arith}
use lib.Dec.{eqb}
use borrow.Author.Tests.{eq-eqb, ne_eqb}
use Rattle.arith.proofs.Cases.{by_eq}
use Rattle.arith.proofs.DivisionLaws.{ceil_div_reaches}
use Rattle.units.specs.declared.Nanos.{Nanos}
use Rattle.units.specs.declared.Millis.{Millis}
use Rattle.bucket.specs.declared.BucketConfig.{BucketConfig}
use Rattle.bucket.specs.Bucket.{Accepted, most_shortfall, shortfall_at, fresh}
use Rattle.bucket.specs.Debt.{restored}
use Rattle.bucket.proofs.BucketLaws.{shortfall_falls_slowly}
use Rattle.bucket.proofs.DebtLaws.{restored_fresh}
use Rattle.held.specs.Held.{total}
use Rattle.rows.proofs.SumLaws.{sum_le, term_le_sum, sum_of_zeros}
use Rattle.held.proofs.RoundLaws as RoundLaws
use Rattle.held.proofs.RoundLaws.{sweep_keeps_total}
use Rattle.held.proofs.HeldLaws.{total_stored, total_appended, total_removed}
use Rattle.slot.specs.declared.Slot.{Slot}
use Rattle.ledger.specs.Model as Ledger
use Rattle.ledger.proofs.KeptLaws.{weigh, owed, one, SettledIsNothing, sweep_never_adds, sweep_keeps_unsettled, owed_by_another_value, none_owed_nothing_owed}
use Rattle.shard_map.specs.Model.{Shard, Sound, Complete, slot_items, cap_of, slot_at, with_slot, with_ledger, place_of, remove_at, insert, reclaimable}
use Rattle.shard_map.specs.Model.{round_of}
use Rattle.shard_map.specs.Model.{sweep_idle}
use Rattle.shard_map.proofs.StepLaws.{Holding, nowhere_holds_none, slots_sound, removal_ledger, reclaimable_is_full}

-- What a slot counts for the identity (h, k), and what it lacks at a moment if its hash is h.
unfoldable pub weight : ℕ → ℕ → Slot → ℕ
weight h k slot = cond (eqb slot.hash h) (cond (eqb slot.key k) 1 2) 0

unfoldable pub short : BucketConfig → ℕ → Nanos → Slot → ℕ
short c h at slot = cond (eqb slot.hash h) (shortfall_at c slot.bucket at) 0

-- What a debt lacks at a moment, by when it settles: what comes back until then, but no more than a bucket can lack.
abbrev pub unpaid : BucketConfig → Nanos → ℕ → ℕ
unpaid c at settles = min ((settles - at.0) * c.amount) (most_shortfall c)

-- The values of all slots that a shard holds, and with them the values of its debts of hash h.
abbrev pub over_slots : (Slot → ℕ) → Shard → ℕ
over_slots value s = total slot_items value s.slots

abbrev pub over_all : ℕ → (Slot → ℕ) → (ℕ → ℕ) → Shard → ℕ
over_all h slot_value debt_value s = over_slots slot_value s + owed h debt_value s.ledger

abbrev pub count : ℕ → ℕ → Shard → ℕ
count h k s = over_all h (weight h k) one s

abbrev pub shortage : BucketConfig → ℕ → Nanos → Shard → ℕ
shortage c h at s = over_all h (short c h at) (unpaid c at) s

-- The cases of a slot's weight and of what it holds.
module _ (h k : ℕ) (slot : Slot) where
  pub weight_own : slot.hash ≡ h → slot.key ≡ k → weight h k slot ≡ 1
  unfolding weight
  weight_own own key = rw (eq-eqb _ _ own, eq-eqb _ _ key)

  pub weight_shared : slot.hash ≡ h → (slot.key ≡ k → ⊥) → weight h k slot ≡ 2
  unfolding weight
  weight_shared own foreign = rw (eq-eqb _ _ own, ne_eqb _ _ foreign)

  pub weight_other : (slot.hash ≡ h → ⊥) → weight h k slot ≡ 0
  unfolding weight
  weight_other other = rw (ne_eqb _ _ other)

  -- A slot of the hash counts.
  pub weight_of_hash : slot.hash ≡ h → 1 ≤ weight h k slot
  weight_of_hash own = by_eq slot.key k (λ key. omega (arith, weight_own own key)) (λ foreign. omega (arith, weight_shared own foreign))

module _ (c : BucketConfig) (h : ℕ) (at : Nanos) (slot : Slot) where
  pub short_own : slot.hash ≡ h → short c h at slot ≡ shortfall_at c slot.bucket at
  unfolding short
  short_own own = rw (eq-eqb _ _ own)

  pub short_other : (slot.hash ≡ h → ⊥) → short c h at slot ≡ 0
  unfolding short
  short_other other = rw (ne_eqb _ _ other)

  pub short_full : shortfall_at c slot.bucket at ≡ 0 → short c h at slot ≡ 0
  short_full full = by_eq slot.hash h (λ own. short_own own ∙ full) (λ other. short_other other)

-- The steps: a slot that leaves takes its value away, one that comes adds its own, one that is changed changes its own.
module _ (h : ℕ) (slot_value : Slot → ℕ) (debt_value : ℕ → ℕ) where
  all_removed : (s : Shard) (p : ℕ) → Sound s → p < s.slots.count
      → over_all h slot_value debt_value (remove_at s p) + slot_value (slot_at s p) ≡ over_all h slot_value debt_value s
  unfolding remove_at
  all_removed s p u below = omega (arith, total_removed slot_items slot_value s.slots p (slots_sound s u) below)

  all_inserted : (s : Shard) (slot : Slot) → s.slots.count < cap_of s
      → over_all h slot_value debt_value (insert s slot) ≡ over_all h slot_value debt_value s + slot_value slot
  unfolding insert
  all_inserted s slot room = omega (arith, total_appended slot_items slot_value s.slots slot room)

  all_stored : (s : Shard) (p : ℕ) (slot : Slot) → Sound s → p < s.slots.count
      → over_all h slot_value debt_value (with_slot s p slot) + slot_value (slot_at s p) ≡ over_all h slot_value debt_value s + slot_value slot
  all_stored s p slot u below = omega (arith, total_stored slot_items slot_value s.slots p slot (slots_sound s u) below)

-- A shard without a slot and without a debt has nothing of any hash.
pub empty_has_nothing : (h : ℕ) (slot_value : Slot → ℕ) (debt_value : ℕ → ℕ) (s : Shard) → s.slots.count ≡ 0 → s.ledger.debts.count ≡ 0
    → over_all h slot_value debt_value s ≡ 0
unfolding owed
empty_has_nothing h slot_value debt_value s no_slot no_debt_lem =
    omega (
      arith,
      sum_of_zeros s.slots.count (λ i. slot_value (slot_at s i)) (λ i below. absurd (omega arith)),
      sum_of_zeros s.ledger.debts.count (λ i. weigh h debt_value (Ledger.debt_at s.ledger i)) (λ i below. absurd (omega arith)),
    )

-- What a slot that leaves, comes or is changed does to the two sums.
pub count_removed : (h k : ℕ) (s : Shard) (p : ℕ) → Sound s → p < s.slots.count → count h k (remove_at s p) + weight h k (slot_at s p) ≡ count h k s
count_removed h k = all_removed h (weight h k) one

pub shortage_removed : (c : BucketConfig) (h : ℕ) (at : Nanos) (s : Shard) (p : ℕ) → Sound s → p < s.slots.count
    → shortage c h at (remove_at s p) + short c h at (slot_at s p) ≡ shortage c h at s
shortage_removed c h at = all_removed h (short c h at) (unpaid c at)

pub count_inserted : (h k : ℕ) (s : Shard) (slot : Slot) → s.slots.count < cap_of s → count h k (insert s slot) ≡ count h k s + weight h k slot
count_inserted h k = all_inserted h (weight h k) one

pub shortage_inserted : (c : BucketConfig) (h : ℕ) (at : Nanos) (s : Shard) (slot : Slot) → s.slots.count < cap_of s
    → shortage c h at (insert s slot) ≡ shortage c h at s + short c h at slot
shortage_inserted c h at = all_inserted h (short c h at) (unpaid c at)

pub count_stored : (h k : ℕ) (s : Shard) (p : ℕ) (slot : Slot) → Sound s → p < s.slots.count
    → count h k (with_slot s p slot) + weight h k (slot_at s p) ≡ count h k s + weight h k slot
count_stored h k = all_stored h (weight h k) one

pub shortage_stored : (c : BucketConfig) (h : ℕ) (at : Nanos) (s : Shard) (p : ℕ) (slot : Slot) → Sound s → p < s.slots.count
    → shortage c h at (with_slot s p slot) + short c h at (slot_at s p) ≡ shortage c h at s + short c h at slot
shortage_stored c h at = all_stored h (short c h at) (unpaid c at)

-- A step at a moment that grants the key nothing.
pub record Keeps (c : BucketConfig) (h k : ℕ) (at : Nanos) (s t : Shard) : Type 0 where
  pub fewer : count h k t ≤ count h k s
  pub more : count h k s ≤ 1 → shortage c h at s ≤ shortage c h at t

-- A fresh bucket put back into a debt lacks at least what the debt lacks.
pub restored_lacks_the_debt : (c : BucketConfig) (at settles : Nanos) → Accepted c
    → unpaid c at settles.0 ≤ shortfall_at c (restored c (fresh c at) at settles) at
unfolding shortfall_at
restored_lacks_the_debt c at settles a =
    rw (restored_fresh at settles a, sub_self) (omega (arith, ceil_div_reaches ((settles.0 - at.0) * c.amount) c.period.0 a.period_least))

-- A debt that is settled lacks nothing. From one moment to a later one no debt falls by more than the amount for each nanosecond between them.
pub unpaid_settled : (c : BucketConfig) (at : Nanos) → SettledIsNothing at (unpaid c at)
unpaid_settled c at settles past = omega (arith, mul-le-mul_right {m = settles - at.0} {n = 0} c.amount (omega arith))

unpaid_falls_slowly : (c : BucketConfig) (n m : Nanos) → n.0 ≤ m.0 → (settles : ℕ) → unpaid c n settles ≤ unpaid c m settles + (m.0 - n.0) * c.amount
unpaid_falls_slowly c n m le settles = omega (arith, mul-le-mul_right {m = settles - n.0} {n = settles - m.0 + (m.0 - n.0)} c.amount (omega arith))

amount_between : (c : BucketConfig) (n m : Nanos) → n.0 ≤ m.0 → m.0 * c.amount ≡ n.0 * c.amount + (m.0 - n.0) * c.amount
amount_between c n m le =
    let later : m.0 * c.amount ≡ (n.0 + (m.0 - n.0)) * c.amount = ap (λ (t : ℕ). t * c.amount) (omega arith) in
    omega arith

module _ (c : BucketConfig) (h k : ℕ) where
  pub keeps_refl : (at : Nanos) (s : Shard) → Keeps c h k at s s
  keeps_refl at s = record { fewer = omega arith; more = λ single. omega arith }

  pub keeps_trans : (at : Nanos) (s t u : Shard) → Keeps c h k at s t → Keeps c h k at t u → Keeps c h k at s u
  keeps_trans at s t u p q =
      record { fewer = omega (arith, p.fewer, q.fewer); more = λ single. omega (arith, p.more single, q.more (omega (arith, p.fewer))) }

  -- A full slot that leaves takes nothing with it.
  pub full_slot_loses_nothing : (at : Nanos) (s : Shard) (p : ℕ) → Sound s → p < s.slots.count → shortfall_at c (slot_at s p).bucket at ≡ 0
      → Keeps c h k at s (remove_at s p)
  full_slot_loses_nothing at s p u below full = record {
    fewer = omega (arith, count_removed h k s p u below);
    more = λ single. omega (arith, shortage_removed c h at s p u below, short_full c h at (slot_at s p) full);
  }

  -- The sweeps.
  pub sweep_idle_keeps_shortage : (at : Nanos) (limit : Millis) (n : ℕ) (s : Shard) → Sound s → Keeps c h k at s (sweep_idle c at limit n s)
  unfolding sweep_idle
  sweep_idle_keeps_shortage at limit n s u =
      let sound = slots_sound s u in
      let weightless : (slot : Slot) → reclaimable c at limit slot ≡ true → short c h at slot ≡ 0 =
      λ slot goes. short_full c h at slot (reclaimable_is_full c at limit slot goes) in
      record {
        fewer = omega (arith, RoundLaws.sweep_never_adds slot_items (reclaimable c at limit) (weight h k) n (round_of s) sound);
        more = λ single. omega (arith, sweep_keeps_total slot_items (reclaimable c at limit) (short c h at) n (round_of s) sound weightless);
      }

  pub ledger_sweep_keeps_shortage : (at : Nanos) (n : ℕ) (s : Shard) → Sound s → Keeps c h k at s (with_ledger s (Ledger.sweep at n s.ledger))
  ledger_sweep_keeps_shortage at n s u = record {
    fewer = omega (arith, sweep_never_adds h one at n s.ledger u.ledger);
    more = λ single. omega (arith, sweep_keeps_unsettled h (unpaid c at) at n s.ledger u.ledger (unpaid_settled c at));
  }

  -- Time passes: what a single item lacks falls by no more than the amount for each nanosecond.
  short_falls_slowly : (n m : Nanos) → n.0 ≤ m.0 → (slot : Slot) → short c h n slot ≤ short c h m slot + (m.0 - n.0) * c.amount * weight h k slot
  short_falls_slowly n m le slot =
      let fall : ℕ = (m.0 - n.0) * c.amount in
      by_eq slot.hash h
      (λ own.
      omega (
        arith,
        short_own c h n slot own,
        short_own c h m slot own,
        amount_between c n m le,
        shortfall_falls_slowly c slot.bucket n m le,
        mul-le-mul_left fall (weight_of_hash h k slot own),
      ))
      (λ other. omega (arith, short_other c h n slot other))

  pub later_keeps_line : (n m : Nanos) (s : Shard) → n.0 ≤ m.0 → count h k s ≤ 1 → n.0 * c.amount + shortage c h n s ≤ m.0 * c.amount + shortage c h m s
  later_keeps_line n m s le single =
      let fall : ℕ = (m.0 - n.0) * c.amount in
      omega (
        arith,
        sum_le s.slots.count (λ i. short c h n (slot_at s i)) (λ i. short c h m (slot_at s i)) (λ i. weight h k (slot_at s i)) fall
            (λ i below. short_falls_slowly n m le (slot_at s i)),
        owed_by_another_value h (unpaid c n) (unpaid c m) fall (unpaid_falls_slowly c n m le) s.ledger,
        mul-le-mul_left fall single,
        amount_between c n m le,
      )

  -- Slots that count nothing: none has the hash, and they hold nothing.
  pub weightless_has_no_slot : (s : Shard) → over_slots (weight h k) s ≡ 0 → (i : ℕ) → i < s.slots.count → (slot_at s i).hash ≡ h → ⊥
  weightless_has_no_slot s none i below own =
      omega (arith, weight_of_hash h k (slot_at s i) own, term_le_sum s.slots.count (λ j. weight h k (slot_at s j)) i below)

  pub weightless_holds_nothing : (at : Nanos) (s : Shard) → over_slots (weight h k) s ≡ 0 → over_slots (short c h at) s ≡ 0
  weightless_holds_nothing at s none =
      sum_of_zeros s.slots.count (λ i. short c h at (slot_at s i)) (λ i below. short_other c h at (slot_at s i) (weightless_has_no_slot s none i below))

  -- Where lookup misses no slot, none of the key is found and the count is at most 1, no slot has its hash: what is held is the debt's.
  pub nowhere_weighs_nothing : (s : Shard) → Complete s → place_of s h k ≡ None → count h k s ≤ 1 → over_slots (weight h k) s ≡ 0
  nowhere_weighs_nothing s complete e single =
      sum_of_zeros s.slots.count (λ i. weight h k (slot_at s i))
      (λ i below. weight_other h k (slot_at s i) (λ own.
      omega (
        arith,
        weight_shared h k (slot_at s i) own (nowhere_holds_none s complete h k e i below own),
        term_le_sum s.slots.count (λ j. weight h k (slot_at s j)) i below,
      )))

  pub nowhere_holds_the_debt : (at : Nanos) (s : Shard) → Complete s → place_of s h k ≡ None → count h k s ≤ 1
      → shortage c h at s ≡ owed h (unpaid c at) s.ledger
  nowhere_holds_the_debt at s complete e single = omega (arith, weightless_holds_nothing at s (nowhere_weighs_nothing s complete e single))

  -- A slot of the key with a count of at most 1 is all that there is of the hash: the ledger owes it nothing, and what is held is the slot's shortfall.
  pub record OneSlot (at : Nanos) (s : Shard) (p : ℕ) : Type 0 where
    pub single : count h k s ≡ 1
    pub no_debt_lem : owed h one s.ledger ≡ 0
    pub all : shortage c h at s ≡ shortfall_at c (slot_at s p).bucket at

  pub one_slot_is_all : (at : Nanos) (s : Shard) (p : ℕ) → Sound s → Holding s h k p → count h k s ≤ 1 → OneSlot at s p
  one_slot_is_all at s p u f single =
      let own : weight h k (slot_at s p) ≡ 1 = weight_own h k (slot_at s p) f.hash f.key in
      let rest : count h k (remove_at s p) + weight h k (slot_at s p) ≡ count h k s = count_removed h k s p u f.below in
      let no_other : over_slots (weight h k) (remove_at s p) ≡ 0 = omega arith in
      let no_debt_lem : owed h one (remove_at s p).ledger ≡ 0 = omega arith in
      record {
        single = omega arith;
        no_debt_lem = rw (← removal_ledger s p) no_debt_lem;
        all = omega (
          arith,
          shortage_removed c h at s p u f.below,
          short_own c h at (slot_at s p) f.hash,
          weightless_holds_nothing at (remove_at s p) no_other,
          none_owed_nothing_owed h (unpaid c at) (remove_at s p).ledger no_debt_lem,
        );
      }
