-- Looks in a row at slots that plainly owe: what the definitions are in each case that the code goes through, and that such looks are looks of the walk.
use Rattle.std.proofs.Common.{Option, Some, None, is_some}
use Prim.Native.Nat.{ℕ, zero, suc, ◌+◌, ◌-◌, ◌≤◌, ◌<◌, min}
use native.Mathlib.Omega.{arith}
use mathlib.Core.Path.{◌≡◌, refl, ap, sym, ◌∙◌}
use mathlib.Core.Bool.{true, false, true≢false}
use mathlib.Core.List.{List}
use lib.ListN.{length, set}
use lib.Seq.{set-get_or}
use borrow.Author.Tests.{eq-eqb, ne_eqb, le-leb, lt-leb, lt-ltb}
use Rattle.arith.proofs.Cases.{by_eq, by_le}
use Rattle.units.specs.declared.Nanos.{Nanos}
use Rattle.bucket.specs.declared.BucketConfig.{BucketConfig}
use Rattle.bucket.specs.Bucket.{Accepted, shortfall_at}
use Rattle.rows.specs.Outcome.{outcome}
use Rattle.slot.specs.declared.Slot.{Slot}
use Rattle.slot.specs.Slot.{with_mark}
use Rattle.shard_map.specs.Model.{Shard, no_slot, slot_at, with_slots, with_hand, hand_of}
use Rattle.shard_map.specs.Layout.{shard, Intact}
use Rattle.shard_map.proofs.StepLaws.{hand_below}
use Rattle.shard_map.proofs.ModelLaws.{intact_after, StillLent}
use Rattle.evict.specs.declared.Row.{Row}
use Rattle.evict.specs.declared.Walk.{Walk}
use Rattle.evict.specs.Evict.{Notes, looked, goes_at_once, walk_from}
use Rattle.evict.specs.code.Awaited.{notes_of, walk_noted}
use Rattle.evict.specs.code.Row.{plainly_owed, along, with_least, Passed}
use Rattle.evict.proofs.AwaitedLaws.{awaits_its_shortfall}
use Rattle.evict.proofs.ModelLaws.{noted_unmarked, walk_turn}

-- What a slot plainly owes, in each case.
module _ (c : BucketConfig) (at : Nanos) (slot : Slot) where
  pub marked_owes_none : (slot.mark ≡ 0 → ⊥) → 0 ≡ plainly_owed c at slot
  unfolding plainly_owed
  marked_owes_none set = rw (ne_eqb _ _ set)

  module _ (clear : slot.mark ≡ 0) where
    pub ahead_owes_none : at.0 < slot.bucket.stamp.0 → 0 ≡ plainly_owed c at slot
    unfolding plainly_owed
    ahead_owes_none ahead = rw (eq-eqb _ _ clear, lt-leb _ _ ahead)

    pub owes_its_shortfall : slot.bucket.stamp.0 ≤ at.0 → shortfall_at c slot.bucket at ≡ plainly_owed c at slot
    unfolding plainly_owed
    owes_its_shortfall passed = rw (eq-eqb _ _ clear, le-leb _ _ passed)

  -- So a slot that plainly owes has no mark, its stamp is not after the moment, and it owes its shortfall.
  record PlainlyOwes : Type 0 where
    clear : slot.mark ≡ 0
    passed : slot.bucket.stamp.0 ≤ at.0
    owed : shortfall_at c slot.bucket at ≡ plainly_owed c at slot

  plainly_owes : (plainly_owed c at slot ≡ 0 → ⊥) → PlainlyOwes
  plainly_owes some =
      by_eq slot.mark 0
      (λ clear. by_le slot.bucket.stamp.0 at.0
      (λ passed. record { clear = clear; passed = passed; owed = owes_its_shortfall clear passed })
      (λ ahead. absurd (some (sym (ahead_owes_none clear ahead)))))
      (λ set. absurd (some (sym (marked_owes_none set))))

-- A row of looks by its first look: none is left, the slot does not plainly owe, or it does and the looks go on.
module _ (c : BucketConfig) (at : Nanos) (s : Shard) (end left least : ℕ) where
  pub along_none : left ≡ 0 → record { left = left; least = least } ≡ along c at s end left least
  unfolding along
  along_none none = rw none

  module _ {slot : Slot} {owed : ℕ} (more : 0 < left) (saw : slot ≡ slot_at s (end - left)) (told : owed ≡ plainly_owed c at slot) where
    pub along_stops : owed ≡ 0 → record { left = left; least = least } ≡ along c at s end left least
    unfolding along
    along_stops none =
        let e : left ≡ suc (left - 1) = omega arith in
        let test : plainly_owed c at (slot_at s (end - left)) ≡ 0 = rw saw at (sym told ∙ none) in
        rw e (rw (rw e at test))

    pub along_turn : (owed ≡ 0 → ⊥) → along c at s end left least ≡ along c at s end (left - 1) (min least owed)
    unfolding along
    along_turn some =
        let e : left ≡ suc (left - 1) = omega arith in
        rw (told, saw) (ap (λ (k : ℕ). along c at s end k least) e ∙ rw (along, ← e, ne_eqb _ _ (rw (told, saw) at some)))

-- The same by the place pos of the first look.
module _ (c : BucketConfig) (at : Nanos) (s : Shard) (least : ℕ) {end pos : ℕ} (more : pos < end) {slot : Slot} {owed : ℕ} (saw : slot ≡ slot_at s pos)
    (told : owed ≡ plainly_owed c at slot) where
  place : end - (end - pos) ≡ pos
  place = omega arith

  pub along_stops_at : owed ≡ 0 → record { left = end - pos; least = least } ≡ along c at s end (end - pos) least
  along_stops_at none = along_stops c at s end (end - pos) least (omega arith) (rw place saw) told none

  pub along_turn_at : (owed ≡ 0 → ⊥) → along c at s end (end - pos) least ≡ along c at s end (end - (pos + 1)) (min least owed)
  along_turn_at some =
      let next : end - pos - 1 ≡ end - (pos + 1) = omega arith in
      rw next at (along_turn c at s end (end - pos) least (omega arith) (rw place saw) told some)

-- A look at a slot that plainly owes, once an unmarked slot is noted: the walk goes on with the hand one place on and the least shortfall. So the looks of a
-- row are looks of the walk, with `more` looks after them.
module _ {c : BucketConfig} (a : Accepted c) (at : Nanos) (s : Shard) (w : Walk) {first : ℕ} (unmarked : w.unmarked ≡ Some first) where
  clear_look : (p : ℕ) → (slot_at s p).mark ≡ 0 → with_hand s (p + 1) ≡ looked (with_hand s p) p
  clear_look p clear =
      let same : with_mark (slot_at s p) 0 ≡ slot_at s p = ap (λ (m : ℕ). with_mark (slot_at s p) m) (sym clear) in
      let stays : set s.slots.places p (with_mark (slot_at s p) 0) ≡ s.slots.places =
      ap (λ (x : Slot). set s.slots.places p x) same ∙ set-get_or s.slots.places p no_slot in
      ap (λ (places : List Slot). with_hand (with_slots s (record { count = s.slots.count; places = places; finding = s.slots.finding })) (p + 1)) (sym stays)

  plain_noted : (p least : ℕ) → PlainlyOwes c at (slot_at s p) → (plainly_owed c at (slot_at s p) ≡ 0 → ⊥)
      → with_least w (min least (plainly_owed c at (slot_at s p))) ≡ walk_noted c at (with_least w least) p (slot_at s p)
  plain_noted p least owes some =
      let slot : Slot = slot_at s p in
      let awaits = awaits_its_shortfall c at (with_least w least).awaited slot.bucket owes.passed in
      let noting = noted_unmarked c at (with_least w least) p slot (sym owes.owed) some (rw owes.owed at awaits) owes.clear in
      rw unmarked (rw unmarked at noting)

  plain_turn : (p left least : ℕ) → 0 < left → p < s.slots.count → (plainly_owed c at (slot_at s p) ≡ 0 → ⊥)
      → walk_from c at left (with_hand s p) (notes_of c (with_least w least))
      ≡ walk_from c at (left - 1) (with_hand s (p + 1)) (notes_of c (with_least w (min least (plainly_owed c at (slot_at s p)))))
  plain_turn p left least more below some =
      let owes = plainly_owes c at (slot_at s p) some in
      let there : p ≡ hand_of (with_hand s p) = rw (lt-ltb p s.slots.count below) in
      let stays : false ≡ goes_at_once c at (slot_at s p) = rw (ne_eqb _ _ (rw (← owes.owed) at some)) in
      walk_turn c at left (with_hand s p) (with_least w least) more there (ap (outcome (slot_at s p)) (clear_look p owes.clear)) stays a refl
      (plain_noted p least owes some)

  pub row_is_walked : (end left least more : ℕ) → left ≤ end → end ≤ s.slots.count → let r = along c at s end left least in
      walk_from c at (left + more) (with_hand s (end - left)) (notes_of c (with_least w least))
      ≡ walk_from c at (r.left + more) (with_hand s (end - r.left)) (notes_of c (with_least w r.least))
  row_is_walked end zero least more fits held = rw (← along_none c at s end 0 least refl) refl
  row_is_walked end (suc left) least more fits held =
      let p : ℕ = end - suc left in
      by_eq (plainly_owed c at (slot_at s p)) 0
      (λ none. rw (← along_stops c at s end (suc left) least (omega arith) refl refl none) refl)
      (λ some.
      let next : p + 1 ≡ end - left = omega arith in
      let one : suc left - 1 ≡ left = omega arith in
      let rest : suc left + more - 1 ≡ left + more = omega arith in
      let turn = plain_turn p (suc left + more) least (omega arith) (omega arith) some in
      rw (along_turn c at s end (suc left) least (omega arith) refl refl some, one)
      (rw (next, rest) at turn ∙ row_is_walked end left (min least (plainly_owed c at (slot_at s p))) more (omega arith) held))

-- A place that is there is some place.
pub is_at_a_place : (place : Option ℕ) → is_some place ≡ true → (p : ℕ) × (place ≡ Some p)
is_at_a_place (Some p) there = (p, refl)
is_at_a_place None there = absurd (true≢false (sym there))

-- A row leaves no more looks than it had.
along_fewer : (c : BucketConfig) (at : Nanos) (s : Shard) (end left least : ℕ) → (along c at s end left least).left ≤ left
along_fewer c at s end zero least = rw (← along_none c at s end 0 least refl) (omega arith)
along_fewer c at s end (suc left) least =
    by_eq (plainly_owed c at (slot_at s (end - suc left))) 0
    (λ none. rw (← along_stops c at s end (suc left) least (omega arith) refl refl none) (omega arith))
    (λ some.
    let one : suc left - 1 ≡ left = omega arith in
    let owed : ℕ = plainly_owed c at (slot_at s (end - suc left)) in
    rw (along_turn c at s end (suc left) least (omega arith) refl refl some, one) (omega (arith, along_fewer c at s end left (min least owed))))

pub row_fewer : (c : BucketConfig) (at : Nanos) (s : Shard) (end left least : ℕ) {row : Row} → row ≡ along c at s end left least → row.left ≤ left
row_fewer c at s end left least made = rw made (along_fewer c at s end left least)

-- The hand is read as the place of a slot.
pub hand_at_slot : (s : Shard) {pos : ℕ} → 0 < s.slots.count → pos ≡ hand_of s → pos < s.slots.count
hand_at_slot s some there = rw there (hand_below s some)

-- A walk that has a look left goes by the place that the hand is read as.
walk_from_the_hand : (c : BucketConfig) (at : Nanos) (left : ℕ) (s : Shard) (n : Notes) → 0 < left → hand_of s < s.slots.count
    → walk_from c at left s n ≡ walk_from c at left (with_hand s (hand_of s)) n
unfolding walk_from
walk_from_the_hand c at left s n more below =
    let e : left ≡ suc (left - 1) = omega arith in
    let there : hand_of (with_hand s (hand_of s)) ≡ hand_of s = rw (lt-ltb (hand_of s) s.slots.count below) in
    rw e (rw there)

-- What the code makes of a walk that has looks left and has noted an unmarked slot: a row from the hand on, and the hand stored after it.
pub row_passed : {c : BucketConfig} → Accepted c → (at : Nanos) (s : Shard) (w : Walk) {first left pos count run : ℕ} {row : Row} {t : Shard}
    → w.unmarked ≡ Some first → 0 < left → 0 < s.slots.count → pos ≡ hand_of s → count ≡ s.slots.count → run ≡ min left (count - pos)
    → row ≡ along c at s (pos + run) run w.awaited.least → t ≡ with_hand s (pos + run - row.left)
    → Passed c at w left s (record { left = left - run + row.left; least = row.least }) t
row_passed {c} a at s w {first} {left} {pos} {count} {run} {row} {t} noted more some there counted least made stored =
    let below = hand_at_slot s some there in
    let few = row_fewer c at s (pos + run) run w.awaited.least made in
    let all : run + (left - run) ≡ left = omega arith in
    let begins : pos + run - run ≡ pos = omega arith in
    let ends : row.left + (left - run) ≡ left - run + row.left = omega arith in
    let from : walk_from c at left s (notes_of c w) ≡ walk_from c at left (with_hand s pos) (notes_of c w) =
    rw there (walk_from_the_hand c at left s (notes_of c w) more (hand_below s some)) in
    let row' = row_is_walked a at s w noted (pos + run) run w.awaited.least (left - run) (omega arith) (omega arith) in
    let along' = rw (← made, all, begins, ends) at row' in
    record { same = rw stored (from ∙ along'); fewer = omega arith; rest = rw stored refl }

-- After a row the words are still lent, and hold as many slots as before.
pub after_row : {c : BucketConfig} {at : Nanos} {w : Walk} {left cap : ℕ} {ws ws' : List ℕ} {row : Row} → Intact cap ws → length ws' ≡ length ws
    → Passed c at w left (shard cap ws) row (shard cap ws') → StillLent cap ws ws'
after_row intact same passed =
    let sound = intact.sound in
    record {
      intact = intact_after intact same passed.rest (record { room = sound.room; count_fits = sound.count_fits; ledger = sound.ledger });
      count = ap (λ s. s.slots.count) passed.rest;
    }
