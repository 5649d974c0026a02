-- The walk of the hand. It only clears marks and moves the hand, the places that it notes hold slots, and the victim that it chooses is held. The worked
-- examples are checked before the laws, which quote the definitions: a definition that says something else is refused there first.
use Rattle.std.proofs.Common.{Option, Some, None}
use Rattle.std.specs.Option.{option_or, unwrap_or}
use Prim.Native.Nat.{ℕ, zero, suc, ◌<◌}
use mathlib.Core.Path.{◌≡◌, refl, ◌∙◌, ap}
use mathlib.Core.Bool.{true}
use native.Mathlib.Omega.{arith}
use lib.ListN.{length-set}
use borrow.Author.Tests.{eqb-true}
use Rattle.arith.proofs.Cases.{by_test, by_eq}
use Rattle.units.specs.declared.Nanos.{Nanos}
use Rattle.bucket.specs.declared.BucketConfig.{BucketConfig}
use Rattle.bucket.specs.Bucket.{shortfall_at}
use Rattle.held.specs.Held.{Held}
use Rattle.held.specs.Held as Held
use Rattle.held.proofs.HeldLaws.{item_stored, item_stored_other}
use Rattle.held.proofs.FindingLaws.{same_hashes_complete}
use Rattle.slot.specs.declared.Slot.{Slot}
use Rattle.slot.specs.Slot.{marked, with_mark, lossless}
use Rattle.evict.specs.declared.Victim.{Victim}
use Rattle.evict.specs.declared.Victim.TheVariants.{Free, Owing}
use Rattle.shard_map.specs.Model.{Shard, Sound, slot_items, cap_of, slot_at, hand_of}
use Rattle.shard_map.proofs.StepLaws.{hand_below}
use Rattle.evict.specs.Evict.{or_else, place_or, Notes, nothing_noted, noted, looked, goes_at_once, Walked, walk_from, walked, free_or, victim_of}

-- What std makes of a place that may be missing is what the definitions make of it.
pub or_is_or_else : (a b : Option ℕ) → option_or a b ≡ or_else a b
or_is_or_else (Some p) b = refl
or_is_or_else None b = refl

pub unwrap_or_is_place_or : (a : Option ℕ) (p : ℕ) → unwrap_or a p ≡ place_or a p
unwrap_or_is_place_or (Some q) p = refl
unwrap_or_is_place_or None p = refl

-- A shard that is another but for the hand and the marks.
pub record Remarked (s t : Shard) : Type 0 where
  pub count : t.slots.count ≡ s.slots.count
  pub cap : cap_of t ≡ cap_of s
  pub sweep : t.sweep ≡ s.sweep
  pub ledger : t.ledger ≡ s.ledger
  pub finding : t.slots.finding ≡ s.slots.finding
  pub slots : (i : ℕ) → slot_at t i ≡ with_mark (slot_at s i) (slot_at t i).mark

-- So every slot has the hash, the key, the bucket and the last-seen that it had: whatever does not look at marks is as it was.
pub remarked_slots : (s t : Shard) → Remarked s t → {A : Type 0} (f : Slot → A) → ((slot : Slot) (mark : ℕ) → f (with_mark slot mark) ≡ f slot)
    → (i : ℕ) → f (slot_at t i) ≡ f (slot_at s i)
remarked_slots s t r f blind i = ap f (r.slots i) ∙ blind (slot_at s i) (slot_at t i).mark

pub remarked_bucket : (s t : Shard) → Remarked s t → (i : ℕ) → (slot_at t i).bucket ≡ (slot_at s i).bucket
remarked_bucket s t r = remarked_slots s t r (λ slot. slot.bucket) (λ slot mark. refl)

pub remarked_sound : (s t : Shard) → Remarked s t → Sound s → Sound t
remarked_sound s t r u =
    record { room = omega (arith, r.cap, u.room); count_fits = omega (arith, r.cap, r.count, u.count_fits); ledger = rw r.ledger u.ledger }

pub remarked_complete : (s t : Shard) → Remarked s t → Held.Complete slot_items s.slots → Held.Complete slot_items t.slots
remarked_complete s t r complete =
    same_hashes_complete slot_items s.slots complete t.slots r.finding r.count r.cap
    (λ i below. remarked_slots s t r (λ slot. slot.hash) (λ slot mark. refl) i)

-- A look at a place changes nothing else.
look_remarks : (s t : Shard) (p : ℕ) → Remarked s t → p < cap_of t → Remarked s (looked t p)
look_remarks s t p r below = record {
  count = r.count;
  cap = simp length-set r.cap;
  sweep = r.sweep;
  ledger = r.ledger;
  finding = r.finding;
  slots = λ i.
      by_eq i p
      (λ e. rw (e, item_stored slot_items t.slots p (with_mark (slot_at t p) 0) below) (ap (λ (x : Slot). with_mark x 0) (r.slots p)))
      (λ other. rw (item_stored_other slot_items t.slots p (with_mark (slot_at t p) 0) i other) (r.slots i));
}

-- A held slot whose bucket is full at a moment; and a place that may have been noted.
pub record FullSlot (c : BucketConfig) (at : Nanos) (s : Shard) (p : ℕ) : Type 0 where
  pub below : p < s.slots.count
  pub full : shortfall_at c (slot_at s p).bucket at ≡ 0

abbrev pub FullIfAny : BucketConfig → Nanos → Shard → Option ℕ → Type 0
FullIfAny c at s (Some p) = FullSlot c at s p
FullIfAny c at s None = Unit {0}

abbrev HeldIfAny : Shard → Option ℕ → Type 0
HeldIfAny s (Some p) = p < s.slots.count
HeldIfAny s None = Unit {0}

-- What the walk leaves: nothing but marks and the hand has changed, the slot at which it ended and the first full one are held and full, the first unmarked
-- one is held.
pub record WalkKept (c : BucketConfig) (at : Nanos) (s : Shard) (w : Walked) : Type 0 where
  pub same : Remarked s w.after
  pub ended : FullIfAny c at s w.ended
  pub full : FullIfAny c at s w.notes.full
  pub unmarked : HeldIfAny s w.notes.unmarked

-- What has been noted so far: the first of each kind stays noted.
record NotedKept (c : BucketConfig) (at : Nanos) (s : Shard) (n : Notes) : Type 0 where
  full : FullIfAny c at s n.full
  unmarked : HeldIfAny s n.unmarked

module _ (c : BucketConfig) (at : Nanos) (s : Shard) where
  first_full : (a b : Option ℕ) → FullIfAny c at s a → FullIfAny c at s b → FullIfAny c at s (or_else a b)
  first_full (Some p) b first second = first
  first_full None b first second = second

  first_held : (a b : Option ℕ) → HeldIfAny s a → HeldIfAny s b → HeldIfAny s (or_else a b)
  first_held (Some p) b first second = first
  first_held None b first second = second

  -- The bucket that a look sees, after other looks have cleared marks.
  seen_full : (t : Shard) (p : ℕ) → Remarked s t → p < s.slots.count → lossless c (slot_at t p) at ≡ true → FullSlot c at s p
  seen_full t p r below full = record { below = below; full = rw (← remarked_bucket s t r p) (eqb-true _ _ full) }

  noted_kept : (t : Shard) (n : Notes) (p : ℕ) → Remarked s t → p < s.slots.count → NotedKept c at s n → NotedKept c at s (noted c at n p (slot_at t p))
  unfolding noted
  noted_kept t n p r below kept =
      by_test (lossless c (slot_at t p) at)
      (λ full. rw (full, noted) (record { full = first_full n.full (Some p) kept.full (seen_full t p r below full); unmarked = kept.unmarked }))
      (λ owing. by_test (marked (slot_at t p))
      (λ m. rw (owing, noted, m) (record { full = kept.full; unmarked = kept.unmarked }))
      (λ m. rw (owing, noted, m) (record { full = kept.full; unmarked = first_held n.unmarked (Some p) kept.unmarked below })))

  at_once_is_full : (slot : Slot) → goes_at_once c at slot ≡ true → lossless c slot at ≡ true
  at_once_is_full slot = by_test (lossless c slot at) (λ t. rw t (λ e. refl)) (λ t. rw t (λ e. e))

  walk_from_kept : (left : ℕ) (t : Shard) (n : Notes) → Sound s → 0 < s.slots.count → Remarked s t → NotedKept c at s n
      → WalkKept c at s (walk_from c at left t n)
  unfolding walk_from
  walk_from_kept zero t n u some r kept = record { same = r; ended = tt; full = kept.full; unmarked = kept.unmarked }
  walk_from_kept (suc left) t n u some r kept =
      let p : ℕ = hand_of t in
      let held : p < s.slots.count = omega (arith, r.count, hand_below t (omega (arith, r.count))) in
      let next : Remarked s (looked t p) = look_remarks s t p r (omega (arith, r.count, r.cap, u.count_fits)) in
      by_test (goes_at_once c at (slot_at t p))
      (λ goes.
      let full = seen_full t p r held (at_once_is_full (slot_at t p) goes) in
      rw (goes, walk_from) (record { same = next; ended = full; full = kept.full; unmarked = kept.unmarked }))
      (λ stays. rw (stays, walk_from) (walk_from_kept left (looked t p) (noted c at n p (slot_at t p)) u some next (noted_kept t n p r held kept)))

  pub walk_kept : Sound s → 0 < s.slots.count → WalkKept c at s (walked c at s)
  unfolding walked
  walk_kept u some =
      walk_from_kept _ s nothing_noted u some (record { count = refl; cap = refl; sweep = refl; ledger = refl; finding = refl; slots = λ i. refl })
      (record { full = tt; unmarked = tt })

-- A slot that is full before the walk is full after it.
remarked_full : (c : BucketConfig) (at : Nanos) (s t : Shard) (p : ℕ) → Remarked s t → FullSlot c at s p → FullSlot c at t p
remarked_full c at s t p r f = record { below = omega (arith, r.count, f.below); full = rw (remarked_bucket s t r p) f.full }

-- What a victim is: a free slot is held and full, and one that owes is held.
abbrev pub VictimIs : BucketConfig → Nanos → Shard → Victim → Type 0
VictimIs c at s (Free p) = FullSlot c at s p
VictimIs c at s (Owing p) = p < s.slots.count

remarked_victim : (c : BucketConfig) (at : Nanos) (s t : Shard) (v : Victim) → Remarked s t → VictimIs c at s v → VictimIs c at t v
remarked_victim c at s t (Free p) r full = remarked_full c at s t p r full
remarked_victim c at s t (Owing p) r below = omega (arith, r.count)

-- So is the slot that a walk chooses.
full_or_held : (c : BucketConfig) (at : Nanos) (s : Shard) (place : Option ℕ) (p : ℕ) → FullIfAny c at s place → p < s.slots.count
    → VictimIs c at s (free_or place p)
full_or_held c at s (Some q) p full below = full
full_or_held c at s None p full below = below

held_or_first : (s : Shard) (place : Option ℕ) (first : ℕ) → HeldIfAny s place → first < s.slots.count → place_or place first < s.slots.count
held_or_first s (Some p) first held below = held
held_or_first s None first held below = below

pub walk_chooses : (c : BucketConfig) (at : Nanos) (s : Shard) → Sound s → 0 < s.slots.count → let w : Walked = walked c at s in
    VictimIs c at w.after (victim_of w.ended w.notes.full w.notes.unmarked (hand_of s))
walk_chooses c at s u some =
    let w : Walked = walked c at s in
    let n : Notes = w.notes in
    let kept : WalkKept c at s w = walk_kept c at s u some in
    let full = first_full c at s w.ended n.full kept.ended kept.full in
    let held = held_or_first s n.unmarked (hand_of s) kept.unmarked (hand_below s some) in
    let chosen = full_or_held c at s (or_else w.ended n.full) (place_or n.unmarked (hand_of s)) full held in
    remarked_victim c at s w.after (victim_of w.ended n.full n.unmarked (hand_of s)) kept.same chosen
