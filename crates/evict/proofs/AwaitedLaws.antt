-- What the code notes on its walk stands for the definition's notes: the code's way gives the same soonest recovery.
use Prim.Native.Nat.{ℕ, ◌≤◌, ◌<◌, ◌^◌, min}
use mathlib.Core.Path.{◌≡◌, refl}
use native.Mathlib.Omega.{arith}
use borrow.Author.Tests.{eq-eqb, ne_eqb, le-leb, lt-leb}
use Rattle.arith.proofs.Cases.{by_test, by_eq, by_le}
use Rattle.arith.proofs.DivisionLaws.{ceil_div_mono, ceil_div_of_smaller}
use Rattle.units.specs.declared.Nanos.{Nanos}
use Rattle.bucket.specs.declared.BucketConfig.{BucketConfig}
use Rattle.bucket.specs.declared.BucketCore.{BucketCore}
use Rattle.bucket.specs.Bucket.{Accepted, shortfall_at, recovery_of, recovery_at}
use Rattle.bucket.proofs.BucketLaws.{most_shortfall_fits, shortfall_most, recovery_from_the_stamp_on}
use Rattle.slot.specs.declared.Slot.{Slot}
use Rattle.slot.specs.Slot.{lossless}
use Rattle.evict.specs.declared.Awaited.{Awaited}
use Rattle.evict.specs.declared.Walk.{Walk}
use Rattle.evict.specs.Evict.{last_word, nothing_noted, noted}
use Rattle.evict.specs.code.Awaited.{awaiting, soonest_in, notes_of, new_walk, walk_noted}

-- Each case of the two definitions that have a test.
module _ (c : BucketConfig) (at : Nanos) (w : Awaited) (b : BucketCore) where
  pub awaits_its_shortfall : b.stamp.0 ≤ at.0 → record { least = min w.least (shortfall_at c b at); later = w.later } ≡ awaiting c at w b
  unfolding awaiting
  awaits_its_shortfall passed = rw (le-leb _ _ passed)

  pub awaits_its_recovery : at.0 < b.stamp.0 → record { least = w.least; later = min w.later (recovery_at c b at) } ≡ awaiting c at w b
  unfolding awaiting
  awaits_its_recovery ahead = rw (lt-leb _ _ ahead)

module _ (c : BucketConfig) (w : Awaited) where
  pub soonest_of_the_later : w.least ≡ last_word → w.later ≡ soonest_in c w
  unfolding soonest_in
  soonest_of_the_later none = rw (eq-eqb _ _ none)

  pub soonest_of_both : (w.least ≡ last_word → ⊥) → min (recovery_of c w.least) w.later ≡ soonest_in c w
  unfolding soonest_in
  soonest_of_both some = rw (ne_eqb _ _ some)

-- One more slot brings its recovery into the soonest.
module _ {c : BucketConfig} (a : Accepted c) (at : Nanos) (w : Awaited) (b : BucketCore) where
  -- The least shortfall of those whose stamp is not after the moment.
  shortfall_brings_its_recovery : b.stamp.0 ≤ at.0 → soonest_in c (awaiting c at w b) ≡ min (soonest_in c w) (recovery_at c b at)
  shortfall_brings_its_recovery passed =
      let s : ℕ = shortfall_at c b at in
      let one : Awaited = record { least = min w.least s; later = w.later } in
      let below : s < 2 ^ 63 = omega (arith, shortfall_most c b at, most_shortfall_fits a) in
      let both : min (recovery_of c (min w.least s)) w.later ≡ soonest_in c one = soonest_of_both c one (λ e. omega arith) in
      let split : recovery_of c (min w.least s) ≡ min (recovery_of c w.least) (recovery_of c s) =
      ceil_div_of_smaller w.least s c.amount a.amount_least in
      let same : recovery_of c s ≡ recovery_at c b at = recovery_from_the_stamp_on b at a passed in
      rw (← awaits_its_shortfall c at w b passed)
      (by_eq w.least last_word
      (λ none. omega (arith, soonest_of_the_later c w none, ceil_div_mono s w.least c.amount a.amount_least (omega arith)))
      (λ some. omega (arith, soonest_of_both c w some)))

  -- The soonest recovery of the others.
  recovery_comes_in : at.0 < b.stamp.0 → soonest_in c (awaiting c at w b) ≡ min (soonest_in c w) (recovery_at c b at)
  recovery_comes_in ahead =
      let one : Awaited = record { least = w.least; later = min w.later (recovery_at c b at) } in
      rw (← awaits_its_recovery c at w b ahead)
      (by_eq w.least last_word
      (λ none. omega (arith, soonest_of_the_later c w none, soonest_of_the_later c one none))
      (λ some. omega (arith, soonest_of_both c w some, soonest_of_both c one some)))

  pub one_more_is_awaited : soonest_in c (awaiting c at w b) ≡ min (soonest_in c w) (recovery_at c b at)
  one_more_is_awaited = by_le b.stamp.0 at.0 shortfall_brings_its_recovery recovery_comes_in

-- The code's walk stands for the definition's notes, before the first look and after each.
pub new_walk_notes_nothing : (c : BucketConfig) → notes_of c new_walk ≡ nothing_noted
unfolding soonest_in
new_walk_notes_nothing c = refl

pub awaited_recovers_soonest : {c : BucketConfig} → Accepted c → (at : Nanos) (w : Walk) (p : ℕ) (slot : Slot)
    → notes_of c (walk_noted c at w p slot) ≡ noted c at (notes_of c w) p slot
unfolding noted
awaited_recovers_soonest {c} a at w p slot =
    by_test (lossless c slot at) (λ full. rw (full, noted)) (λ owing. rw (owing, noted, one_more_is_awaited a at w.awaited slot.bucket))
