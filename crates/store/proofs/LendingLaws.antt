-- A part as it is lent, from its start to its end: it lies in the memory, and what comes back in its place is an operation on the shard. And what a
-- call on a key is lent.
use Rattle.std.proofs.Common.{Option, Some, None, Result, Ok, Err}
use Rattle.std.specs.Result.{IsErrAnd}
use Rattle.std.proofs.lemmas.Result.{err_from_is_err_and}
use Prim.Native.Nat.{ℕ, ◌+◌, ◌-◌, ◌≤◌, ◌<◌}
use native.Mathlib.Omega.{arith}
use native.Mathlib.Nat.{le-add_right}
use mathlib.Core.Path.{◌≡◌, refl, sym, ap, ◌∙◌}
use mathlib.Core.Bool.{Bool, true, false, true≢false}
use mathlib.Core.List.{List}
use lib.ListN.{length, set, take-append-drop}
use lib.Seq.{set-get_or}
use borrow.Author.Tests.{eq-eqb, ne_eqb}
use borrow.Rule.Slice.PartMut.{put_mid, same_len_mid}
use Rattle.arith.proofs.Cases.{by_eq}
use Rattle.rows.specs.Segments.{segment}
use Rattle.rows.specs.Outcome.{Outcome, outcome}
use Rattle.rows.proofs.SegmentLaws.{segment_length, segment_back, word_kept}
use Rattle.settings.specs.declared.Settings.{Settings}
use Rattle.settings.specs.declared.Shape.{Shape}
use Rattle.settings.specs.declared.refusal.Refusal.{Refusal}
use Rattle.settings.specs.Refusal.{number_of, numbered, GivenUnless}
use Rattle.settings.specs.Settings.{settings_refusal, first_refusal, ShapeOfAccepted, shape_of, most_counted}
use Rattle.settings.proofs.RefusalLaws.{has_a_number}
use Rattle.settings.proofs.SettingsLaws.{accepted_parts, shape_of_accepted, no_refusal_hands_on}
use Rattle.units.specs.declared.Nanos.{Nanos}
use Rattle.bucket.specs.declared.BucketConfig.{BucketConfig}
use Rattle.bucket.specs.declared.Request.{Request}
use Rattle.shard_map.specs.Model as Shard
use Rattle.shard_map.specs.Layout as Layout
use Rattle.shard_map.proofs.LayoutLaws.{cap_is, words_shard}
use Rattle.shard.specs.declared.Identity.{Identity}
use Rattle.shard.specs.declared.Policy.{Policy}
use Rattle.shard.specs.Model as OneShard
use Rattle.shard.proofs.ModelLaws.{found_below_cap}
use Rattle.shard.proofs.ShardLaws.{remove_same_room}
use Rattle.store.specs.declared.Part.{Part}
use Rattle.store.specs.Lending.{number_in, LentUnless}
use Rattle.store.specs.Memory.{with_segment, total_at, total_of, total_after, Placed, Counted, part_in, part_of, shard_in, in_part, room_in}
use Rattle.store.specs.Refusals.{shape_refusal, count_refusal, counts_refusal, keyed_refusal}
use Rattle.store.proofs.MemoryLaws.{part_placed, room_small}
use Rattle.store.proofs.RefusalLaws.{Accepted, length_is_accepted}
use Rattle.shard_map.specs.Layout.{shard_words}
use Rattle.store.specs.Memory.{words_in}

-- A part that lies in the memory: its words are those of the shard in it.
module _ {p : Part} {ws : List ℕ} (placed : Placed p ws) where
  abbrev lent_words : List ℕ
  lent_words = segment p.start (p.end - p.start) ws

  pub lent_starts : p.start ≤ p.end
  lent_starts = rw placed.ends (le-add_right _ _)

  lent_is_part : lent_words ≡ segment p.start (shard_words p.cap) ws
  lent_is_part = let long : p.end - p.start ≡ shard_words p.cap = rw placed.ends (omega arith) in rw long

  pub lent_length : length lent_words ≡ shard_words p.cap
  lent_length = rw lent_is_part (segment_length p.start (shard_words p.cap) ws (rw placed.ends at placed.within))

  pub lent_shard : Layout.shard p.cap lent_words ≡ shard_in p ws
  lent_shard = rw lent_is_part

  pub intact_of_sound : Shard.Sound (shard_in p ws) → Layout.Intact p.cap lent_words
  intact_of_sound sound = record { size = lent_length; sound = rw lent_shard sound }

  -- A place that lookup found in it stands below the cap.
  pub found_place_below : (h k i : ℕ) → Shard.Sound (shard_in p ws) → Shard.place_of (shard_in p ws) h k ≡ Some i → i < p.cap
  found_place_below h k i sound found = found_below_cap h k i (intact_of_sound sound) (rw lent_shard found)

  -- Other words have come back in its place, with an answer: that is the operation on the shard, before the total is stored.
  module _ {A : Type 0} {a : A} (f : Shard.Shard → Outcome A Shard.Shard) (ys : List ℕ) (same : length ys ≡ length lent_words)
      (gave : outcome a (Layout.shard p.cap ys) ≡ f (Layout.shard p.cap lent_words)) where
    abbrev back : List ℕ
    back = put_mid p.start (p.end - p.start) ws ys

    abbrev put : Outcome A Shard.Shard → Outcome A (List ℕ)
    put o = outcome o.answer (with_segment p.start (shard_words p.cap) ws (Layout.words_of o.after))

    back_is : outcome a back ≡ put (f (shard_in p ws))
    back_is =
        let long : p.end - p.start ≡ shard_words p.cap = rw placed.ends (omega arith) in
        let words = words_shard p.cap ys (same ∙ lent_length) in
        rw long (rw words at (ap put (rw lent_shard at gave)))

    -- The shard that has come back is the one that the operation leaves.
    fits : p.start + (p.end - p.start) ≤ length ws
    fits = omega (arith, placed.within, lent_starts)

    long_enough : length ys ≡ p.end - p.start
    long_enough = same ∙ segment_length p.start (p.end - p.start) ws fits

    pub shard_back : shard_in p back ≡ (f (shard_in p ws)).after
    shard_back =
        let long : p.end - p.start ≡ shard_words p.cap = rw placed.ends (omega arith) in
        ap (Layout.shard p.cap)
        (ap (λ (n : ℕ). segment p.start n back) (sym long) ∙ segment_back p.start (p.end - p.start) ws ys fits long_enough)
        ∙ ap (λ (o : Outcome A Shard.Shard). o.after) (rw lent_shard at gave)

    -- The part still lies in the memory. Where no more slots are left than there is room for, the total is at most that much larger.
    pub back_placed : Placed p back
    back_placed = record {
      begins = placed.begins;
      ends = placed.ends;
      within = rw (same_len_mid p.start (p.end - p.start) ws ys same) placed.within;
    }

    pub total_stays_small : (f (shard_in p ws)).after.slots.count ≤ Shard.cap_of (shard_in p ws) → Counted p ws → {others : ℕ}
        → others ≡ total_of ws - (shard_in p ws).slots.count → others + (shard_in p back).slots.count ≤ total_of ws + p.cap
    total_stays_small few counted is = rw (is, shard_back) (omega (arith, counted.covers, rw (cap_is p.cap _) at few))

    -- The total is stored: the slots of the other shards, and those that are there now.
    pub lent_counted : Counted p ws → {others : ℕ} → others ≡ total_of ws - (shard_in p ws).slots.count
        → outcome a (set back total_at (others + (shard_in p back).slots.count)) ≡ in_part p ws (f (shard_in p ws))
    lent_counted counted is =
        let after : Shard.Shard = (f (shard_in p ws)).after in
        let total : total_of ws - (shard_in p ws).slots.count + after.slots.count ≡ total_after (total_of ws) (shard_in p ws) after =
        omega (arith, counted.covers) in
        rw (is, shard_back, total)
        (ap (λ (o : Outcome A (List ℕ)). outcome o.answer (set o.after total_at (total_after (total_of ws) (shard_in p ws) after))) back_is)

    -- An operation that keeps the number of slots keeps the total.
    pub lent_answered : (f (shard_in p ws)).after.slots.count ≡ (shard_in p ws).slots.count → outcome a back ≡ in_part p ws (f (shard_in p ws))
    lent_answered kept =
        let after : Shard.Shard = (f (shard_in p ws)).after in
        let total_kept : total_of back ≡ total_of ws =
        word_kept p.start (p.end - p.start) ws ys fits long_enough total_at (omega (arith, placed.begins)) in
        let same_total : total_after (total_of ws) (shard_in p ws) after ≡ total_of back = omega (arith, kept, total_kept) in
        rw same_total
        (ap (outcome a) (sym (set-get_or back total_at 0))
        ∙ ap (λ (o : Outcome A (List ℕ)). outcome o.answer (set o.after total_at (total_of back))) back_is)

  -- An operation that leaves the shard as it is leaves every word as it is.
  pub in_part_unchanged : {A : Type 0} (a : A) → in_part p ws (outcome a (shard_in p ws)) ≡ outcome a ws
  in_part_unchanged a =
      let size = segment_length p.start (shard_words p.cap) ws (rw placed.ends at placed.within) in
      let total : total_after (total_of ws) (shard_in p ws) (shard_in p ws) ≡ total_of ws = omega arith in
      rw (words_shard p.cap (segment p.start (shard_words p.cap) ws) size, take-append-drop, take-append-drop, total)
      (ap (outcome a) (set-get_or ws total_at 0))

-- Settings that are accepted come to a shape of an accepted size, and leave the refusal to the memory.
module _ (s : Settings) (none : settings_refusal s ≡ 0) where
  pub accepted_shape : s.classes ≤ most_counted → {shape : Shape} → shape ≡ shape_of s → ShapeOfAccepted shape
  accepted_shape few is = shape_of_accepted s (accepted_parts s none).1 few is

  pub memory_refuses : (hash : ℕ) (ws : List ℕ) → keyed_refusal s hash ws ≡ shape_refusal (shape_of s) hash ws
  memory_refuses hash ws = ap (λ (n : ℕ). first_refusal n (counts_refusal (shape_of s) hash ws)) (no_refusal_hands_on (settings_refusal s) _ none)

-- In memory of the length that a shape asks for, the part of a hash's shard lies in it.
module _ {shape : Shape} (hash : ℕ) (ws : List ℕ) (shaped : ShapeOfAccepted shape) (size : length ws ≡ words_in shape)
    {part' : Part} (is : part' ≡ part_in shape hash) where
  pub part_is_placed : Placed part' ws
  part_is_placed = rw (is, shaped.is) (part_placed shaped.settings hash ws (rw shaped.is at size))

  -- What the counts of the shard and the total come to is then the refusal of the memory.
  pub counts_refuse : {room counted : ℕ} → room ≡ room_in shape
      → counted ≡ count_refusal part'.cap room (total_of ws) (Layout.shard part'.cap (lent_words part_is_placed))
      → counted ≡ shape_refusal shape hash ws
  counts_refuse {counted = counted} room counts =
      let refused : counted ≡ counts_refusal shape hash ws = rw (is, room) at (rw (lent_shard part_is_placed) at counts) in
      refused ∙ sym (no_refusal_hands_on _ _ (length_is_accepted (words_in shape) ws size))

-- What was lent tells whether the call is refused: `refusal` is the number, or 0.
module _ {lending : Result Part Refusal} (refusal : ℕ) (part' : Part) (is : GivenUnless refusal part' lending) where
  pub lent_part : {p : Part} → lending ≡ Ok p → (refusal ≡ 0) × (p ≡ part')
  lent_part gave = rw gave at is

  pub refused_number : {r : Refusal} → lending ≡ Err r → (number_of r ≡ refusal) × (number_of r ≡ 0 → ⊥)
  refused_number {r} gave = (rw gave at is, has_a_number r)

-- Nothing is lent where a check of this library refuses: the caller is told the refusal in its own type, with its number.
pub refusal_lends_nothing : {E : Type 0} (number : E → ℕ) (lending : Result Part E) (refusal : Refusal) {told : ℕ} (part' : Part) {Gives : E → Type 0}
    → IsErrAnd lending Gives → ((e : E) → Gives e → number e ≡ number_of refusal) → number_of refusal ≡ told → LentUnless number told part' lending
refusal_lends_nothing number lending refusal part' is keeps same = let p = err_from_is_err_and lending is in rw p.1 (keeps _ p.2 ∙ same)

-- Nor where the caller's own check does.
pub own_refusal_lends_nothing : {E : Type 0} (number : E → ℕ) (lending : Result Part E) (e : E) {told : ℕ} (part' : Part) → IsErrAnd lending (λ r. r ≡ e)
    → number e ≡ told → LentUnless number told part' lending
own_refusal_lends_nothing number lending e part' is same = let p = err_from_is_err_and lending is in rw (p.1, p.2) same

-- The same for a call on a key, where the settings are accepted.
module _ (s : Settings) (hash : ℕ) (ws : List ℕ) (none : settings_refusal s ≡ 0) {shape : Shape} (shaped : shape ≡ shape_of s) where
  pub lent_by_settings : (lending : Result Part Refusal) (further : ℕ)
      → GivenUnless (first_refusal (shape_refusal shape hash ws) further) (part_in shape hash) lending
      → GivenUnless (first_refusal (keyed_refusal s hash ws) further) (part_of s hash) lending
  lent_by_settings lending further is = rw (memory_refuses s none hash ws) (rw shaped at is)

  pub lent_to_caller : {E : Type 0} (number : E → ℕ) (lending : Result Part E) (further : ℕ)
      → LentUnless number (first_refusal (shape_refusal shape hash ws) further) (part_in shape hash) lending
      → LentUnless number (first_refusal (keyed_refusal s hash ws) further) (part_of s hash) lending
  lent_to_caller number lending further is = rw (memory_refuses s none hash ws) (rw shaped at is)

-- What was lent tells whether the call is refused, in the caller's type too.
module _ {E : Type 0} (number : E → ℕ) {lending : Result Part E} (refusal : ℕ) (part' : Part) (is : LentUnless number refusal part' lending) where
  pub lent_part_to_caller : {p : Part} → lending ≡ Ok p → (refusal ≡ 0) × (p ≡ part')
  lent_part_to_caller gave = rw gave at is

  pub refused_number_to_caller : {e : E} → lending ≡ Err e → number e ≡ refusal
  refused_number_to_caller gave = rw gave at is

-- Where the caller's check knows of the refusals of this library alone.
pub numbered_by_refusals : (further : Result (Unit {0}) Refusal) → number_in number_of further ≡ numbered further
numbered_by_refusals (Ok accepted) = refl
numbered_by_refusals (Err refusal) = refl

lent_as_given : (refusal : ℕ) (part' : Part) (lending : Result Part Refusal) → LentUnless number_of refusal part' lending → GivenUnless refusal part' lending
lent_as_given refusal part' (Ok lent) is = is
lent_as_given refusal part' (Err r) is = is

pub given_unless : (first : ℕ) (further : Result (Unit {0}) Refusal) (part' : Part) (lending : Result Part Refusal)
    → LentUnless number_of (first_refusal first (number_in number_of further)) part' lending
    → GivenUnless (first_refusal first (numbered further)) part' lending
given_unless first further part' lending is = rw (numbered_by_refusals further) at (lent_as_given _ _ lending is)

-- The part of an accepted call lies in the memory, and its shard is sound.
pub accepted_part : (s : Settings) (hash : ℕ) (ws : List ℕ) {p : Part} → Accepted s hash ws → p ≡ part_of s hash → Placed p ws × Shard.Sound (shard_in p ws)
accepted_part s hash ws call is = rw is (part_placed s hash ws call.set_up_lem.size, call.sound)

-- The total counts its slots, and is small.
pub accepted_count : (s : Settings) (hash : ℕ) (ws : List ℕ) {p : Part} → Accepted s hash ws → p ≡ part_of s hash → Counted p ws
accepted_count s hash ws call is =
    let few = room_small s (accepted_parts s call.set_up_lem.settings).1 in
    rw is (record { covers = call.covers; small = omega (arith, call.within, few) })

refund_from_keeps_count : (c : BucketConfig) (id : Identity) (cost : ℕ) (s : Shard.Shard) (place : Option ℕ)
    → (OneShard.refunded_from c id cost s place).after.slots.count ≡ s.slots.count
refund_from_keeps_count c id cost s (Some i) = refl
refund_from_keeps_count c id cost s None = refl

-- A request of a known key and a refund keep the number of slots, and so the total.
pub existing_keeps_count : (p : Policy) (r : Request) (cost : ℕ) (at : Nanos) (s : Shard.Shard) (i : ℕ)
    → (OneShard.with_existing p r cost at s i).after.slots.count ≡ s.slots.count
unfolding OneShard.with_existing
existing_keeps_count p r cost at s i = refl

pub refund_keeps_count : (c : BucketConfig) (id : Identity) (cost : ℕ) (s : Shard.Shard) → (OneShard.refunded c id cost s).after.slots.count ≡ s.slots.count
unfolding OneShard.refunded
refund_keeps_count c id cost s = refund_from_keeps_count c id cost s (Shard.place_of s id.hash id.key)

-- A removal leaves no more slots than there is room for.
pub removed_count_fits : (s : Shard.Shard) → Shard.Sound s → (id : Identity) → (OneShard.removed id s).after.slots.count ≤ Shard.cap_of s
removed_count_fits s sound id = let room = remove_same_room s sound id in rw room.cap at room.sound.count_fits
