-- Where a shard lies, the shard in a lent part, and the tests of one shard as the code comes to them.
use Prim.Native.Nat.{ℕ, suc, ◌+◌, ◌-◌, ◌*◌, ◌≤◌, ◌<◌, ◌^◌}
use native.Mathlib.Omega.{arith}
use native.Mathlib.Nat.{mul-le-mul, mul-le-mul_right, mul-le-mul_left, add-sub_cancel_left}
use mathlib.Core.Path.{◌≡◌, refl, ap, sym, ◌∙◌}
use mathlib.Core.Bool.{Bool, true, false, not}
use mathlib.Core.List.{List}
use lib.ListN.{length, take, drop}
use borrow.Author.Tests.{ne_eqb}
use Rattle.arith.proofs.Cases.{by_test}
use Rattle.rows.specs.Places.{sum}
use Rattle.rows.proofs.SegmentLaws.{segment_length}
use Rattle.settings.specs.declared.Settings.{Settings}
use Rattle.settings.specs.declared.refusal.Refusal.{Refusal}
use Rattle.settings.specs.declared.refusal.Refusal.TheVariants.{Amount, Period, Burst, Sizes, Memory, Moment, MaxWait, AddressLength, GroupAddress, Buffer}
use Rattle.settings.specs.declared.refusal.Refusal.TheVariants.{Class, Chain, Shard as NoShard, Records, Twins, UsedPast}
use Rattle.settings.specs.Refusal.{number_of}
use Rattle.settings.specs.Settings.{size_refusal, shard_count, cap_of, most_keys_in_shard}
use Rattle.settings.proofs.SettingsLaws.{shards_most, cap_most}
use Rattle.shard_map.specs.Model.{Shard}
use Rattle.shard_map.specs.Layout.{shard_words, shard, Intact}
use Rattle.shard_map.proofs.LayoutLaws.{cap_is}
use Rattle.shard_map.proofs.ReadBack.{debt_cap_is}
use Rattle.converter_shards.specs.Layout01.{shard_words01}
use Rattle.converter_shards.specs.Checks.{shard_twins, count_over, indexes_exact}
use Rattle.converter_shards.proofs.CheckLaws.{both_ways, none_passes}
use Rattle.converter_shards.proofs.ShardLaws.{slots_fit_cap, debts_fit_cap}
use Rattle.converter.specs.declared.Layout.{Layout}
use Rattle.converter.specs.declared.Layout.TheVariants.{Old, Present}
use Rattle.converter.specs.Layouts.{shard_size, start_of, end_of, shard_of, part, shard_at, damaged, past_used, slots_of}
use Rattle.converter.specs.Conversion.{refused_by, any_refused_by}
use Rattle.converter.specs.code.Moving.{InShards, Undamaged}

-- A shard below the number of shards ends within the words.
pub rows_within : (size shards i : ℕ) → i < shards → i * size + size ≤ shards * size
rows_within size shards i below =
    let m : (i + 1) * size ≤ shards * size = mul-le-mul_right {m = i + 1} {n = shards} size (omega arith) in omega arith

pub part_ends : {layout : Layout} {shards cap : ℕ} {ws : List ℕ} → InShards layout shards cap ws → (i : ℕ) → i < shards → end_of layout cap i ≤ length ws
part_ends {layout} {shards} {cap} held i below = omega (arith, held.size, rows_within (shard_size layout cap) shards i below)

pub part_long : (layout : Layout) (cap i : ℕ) (ws : List ℕ) → end_of layout cap i ≤ length ws → length (part layout cap i ws) ≡ shard_size layout cap
part_long layout cap i ws ends = segment_length (start_of layout cap i) (shard_size layout cap) ws ends

-- The part of a shard, in the form in which it is lent.
module _ (layout : Layout) (cap i : ℕ) (ws : List ℕ) {a w : ℕ} (from : a ≡ start_of layout cap i) (long : w ≡ shard_size layout cap) where
  pub lent_part : take (a + w - a) (drop a ws) ≡ part layout cap i ws
  lent_part = rw (from, long, add-sub_cancel_left)

  pub lent_long : end_of layout cap i ≤ length ws → length (take (a + w - a) (drop a ws)) ≡ shard_size layout cap
  lent_long ends = ap length lent_part ∙ part_long layout cap i ws ends

  pub lent_shard : shard_of layout cap (take (a + w - a) (drop a ws)) ≡ shard_at layout cap i ws
  lent_shard = ap (shard_of layout cap) lent_part

-- The words of a store of an accepted size are few.
pub words_few : (layout : Layout) (s : Settings) → size_refusal s ≡ 0 → end_of layout (cap_of s) (shard_count s) < 2 ^ 64
words_few Old s accepted =
    let few = cap_most s accepted in
    omega (arith, few, mul-le-mul {m₁ = shard_words01 (cap_of s)} {m₂ = shard_words01 most_keys_in_shard} (shards_most s) (omega (arith, few)))
words_few Present s accepted =
    let few = cap_most s accepted in
    omega (arith, few, mul-le-mul {m₁ = shard_words (cap_of s)} {m₂ = shard_words most_keys_in_shard} (shards_most s) (omega (arith, few)))

-- A shard has more words than places.
wider : (layout : Layout) (cap : ℕ) → cap ≤ shard_size layout cap
wider Old cap = omega arith
wider Present cap = omega arith

-- The tests by their numbers.
module _ (layout : Layout) (cap : ℕ) (s : Shard) {number : ℕ} where
  pub refused_by_5 : number ≡ 5 → damaged layout cap s ≡ refused_by layout number cap s
  unfolding refused_by
  refused_by_5 is = rw is

  pub refused_by_18 : number ≡ 18 → shard_twins s ≡ refused_by layout number cap s
  unfolding refused_by
  refused_by_18 is = rw is

  pub refused_by_19 : (number ≡ 5 → ⊥) → (number ≡ 18 → ⊥) → past_used layout s ≡ refused_by layout number cap s
  unfolding refused_by
  refused_by_19 not_5 not_18 = rw (ne_eqb number 5 not_5, ne_eqb number 18 not_18)

-- The tests by their refusals: twins are no damage, and a refusal that is neither has another number.
pub no_damage_asked : {r : Refusal} → r ≡ Twins → number_of r ≡ 5 → ⊥
no_damage_asked is five = omega (arith, ap number_of is, five)

pub no_other_asked : (r : Refusal) → (r ≡ Memory → ⊥) → (r ≡ Twins → ⊥) → (number_of r ≡ 5 → ⊥) × (number_of r ≡ 18 → ⊥)
no_other_asked Amount not_damage not_twins = (λ five. omega (arith, five), λ eighteen. omega (arith, eighteen))
no_other_asked Period not_damage not_twins = (λ five. omega (arith, five), λ eighteen. omega (arith, eighteen))
no_other_asked Burst not_damage not_twins = (λ five. omega (arith, five), λ eighteen. omega (arith, eighteen))
no_other_asked Sizes not_damage not_twins = (λ five. omega (arith, five), λ eighteen. omega (arith, eighteen))
no_other_asked Memory not_damage not_twins = absurd (not_damage refl)
no_other_asked Moment not_damage not_twins = (λ five. omega (arith, five), λ eighteen. omega (arith, eighteen))
no_other_asked MaxWait not_damage not_twins = (λ five. omega (arith, five), λ eighteen. omega (arith, eighteen))
no_other_asked AddressLength not_damage not_twins = (λ five. omega (arith, five), λ eighteen. omega (arith, eighteen))
no_other_asked GroupAddress not_damage not_twins = (λ five. omega (arith, five), λ eighteen. omega (arith, eighteen))
no_other_asked Buffer not_damage not_twins = (λ five. omega (arith, five), λ eighteen. omega (arith, eighteen))
no_other_asked Class not_damage not_twins = (λ five. omega (arith, five), λ eighteen. omega (arith, eighteen))
no_other_asked Chain not_damage not_twins = (λ five. omega (arith, five), λ eighteen. omega (arith, eighteen))
no_other_asked NoShard not_damage not_twins = (λ five. omega (arith, five), λ eighteen. omega (arith, eighteen))
no_other_asked Records not_damage not_twins = (λ five. omega (arith, five), λ eighteen. omega (arith, eighteen))
no_other_asked Twins not_damage not_twins = absurd (not_twins refl)
no_other_asked UsedPast not_damage not_twins = (λ five. omega (arith, five), λ eighteen. omega (arith, eighteen))

pub undamaged_shard : (layout : Layout) (cap : ℕ) (s : Shard) → refused_by layout 5 cap s ≡ false → damaged layout cap s ≡ false
undamaged_shard layout cap s none = refused_by_5 layout cap s refl ∙ none

-- Damage of a present shard, by the tests of the code.
module _ (cap : ℕ) (s : Shard) {a : Bool} (over : a ≡ count_over cap s) where
  pub over_is_damage : a ≡ true → true ≡ damaged Present cap s
  over_is_damage is = rw (sym over ∙ is)

  module _ (fits : a ≡ false) {b : Bool} (exact : b ≡ indexes_exact s) where
    pub damage_by_indexes : not b ≡ damaged Present cap s
    damage_by_indexes = by_test b (λ t. rw (t, sym over ∙ fits, sym exact ∙ t)) (λ t. rw (t, sym over ∙ fits, sym exact ∙ t))

-- A present shard without damage.
pub counts_fit : (layout : Layout) (cap : ℕ) (s : Shard) → damaged layout cap s ≡ false → count_over cap s ≡ false
counts_fit Old cap s none = none
counts_fit Present cap s none = by_test (count_over cap s) (λ t. both_ways (rw t) none) (λ t. t)

pub indexes_are_exact : (cap : ℕ) (s : Shard) → damaged Present cap s ≡ false → indexes_exact s ≡ true
indexes_are_exact cap s none =
    by_test (indexes_exact s) (λ t. t) (λ t. both_ways (rw (counts_fit Present cap s none, t)) none)

pub counted_intact : {cap : ℕ} {ws : List ℕ} → length ws ≡ shard_words cap → 0 < cap → count_over cap (shard cap ws) ≡ false → Intact cap ws
counted_intact {cap} {ws} size room fits = record {
  size = size;
  sound = record {
    room = rw (cap_is cap ws) room;
    count_fits = rw (cap_is cap ws) (slots_fit_cap cap (shard cap ws) fits);
    ledger = record { room = rw (debt_cap_is cap ws) room; count_fits = rw (debt_cap_is cap ws) (debts_fit_cap cap (shard cap ws) fits) };
  };
}

pub undamaged_intact : {cap : ℕ} {ws : List ℕ} → length ws ≡ shard_words cap → 0 < cap → damaged Present cap (shard cap ws) ≡ false → Intact cap ws
undamaged_intact {cap} {ws} size room none = counted_intact size room (counts_fit Present cap (shard cap ws) none)

-- Where none is refused by 5, none is damaged.
pub none_damaged : (layout : Layout) (shards cap : ℕ) (ws : List ℕ) → any_refused_by layout 5 shards cap ws ≡ false
    → (i : ℕ) → i < shards → damaged layout cap (shard_at layout cap i ws) ≡ false
none_damaged layout shards cap ws none i below =
    undamaged_shard layout cap (shard_at layout cap i ws) (none_passes shards (λ j. refused_by layout 5 cap (shard_at layout cap j ws)) none i below)

-- The loop that adds the slots: those of the shards before i, no more than there is room for.
pub record Summing (layout : Layout) (shards cap : ℕ) (ws : List ℕ) (slots i : ℕ) : Type 0 where
  pub within : i ≤ shards
  pub is : slots ≡ slots_of layout i cap ws
  pub most : slots ≤ i * cap

pub summing_start : (layout : Layout) (shards cap : ℕ) (ws : List ℕ) → Summing layout shards cap ws 0 0
unfolding sum
summing_start layout shards cap ws = record { within = omega arith; is = refl; most = omega arith }

module _ {layout : Layout} {shards cap : ℕ} {ws : List ℕ} {slots i : ℕ} (free : Undamaged layout shards cap ws) (S : Summing layout shards cap ws slots i)
    (below : i < shards) {n : ℕ} (is : n ≡ (shard_at layout cap i ws).slots.count) where
  few : n ≤ cap
  few =
      let own = shard_at layout cap i ws in
      rw is (slots_fit_cap cap own (counts_fit layout cap own (none_damaged layout shards cap ws free.whole i below)))

  pub summing_fits : slots + n ≤ length ws
  summing_fits =
      let room = rows_within cap shards i below in
      let wide : shards * cap ≤ shards * shard_size layout cap = mul-le-mul_left {m = cap} {n = shard_size layout cap} shards (wider layout cap) in
      omega (arith, S.most, few, free.in_shards.size)

  pub summing_next : Summing layout shards cap ws (slots + n) (i + 1)
  unfolding sum
  summing_next =
      let next : i + 1 ≡ suc i = omega arith in
      record {
        within = omega arith;
        is = rw (next, sum, ← S.is, ← is);
        most = omega (arith, S.most, few);
      }

pub summing_over : {layout : Layout} {shards cap : ℕ} {ws : List ℕ} {slots i : ℕ} → Summing layout shards cap ws slots i → shards ≤ i
    → slots ≡ slots_of layout shards cap ws
summing_over {layout} {shards} {cap} {ws} {slots} {i} S end =
    let all : i ≡ shards = omega (arith, S.within) in S.is ∙ ap (λ (n : ℕ). slots_of layout n cap ws) all
