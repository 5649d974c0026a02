-- Laws of the store's operations that their functions go by: what a definition is in each case that the code goes through, and that words which are
-- lent stay so from step to step.
use Rattle.std.proofs.Common.{Option, Some, None, Ok, Err, is_some}
use Prim.Native.Nat.{ℕ, ◌≤◌, ◌<◌}
use native.Mathlib.Omega.{arith}
use mathlib.Core.Path.{◌≡◌, refl, sym, ◌∙◌}
use mathlib.Core.Bool.{true}
use mathlib.Core.List.{List}
use lib.ListN.{length}
use borrow.Author.Tests.{lt-ltb, le-ltb}
use Rattle.units.specs.declared.Nanos.{Nanos}
use Rattle.bucket.specs.declared.BucketConfig.{BucketConfig}
use Rattle.bucket.specs.declared.BucketDecision.TheVariants.{Denied}
use Rattle.bucket.specs.declared.Request.{Request}
use Rattle.bucket.specs.declared.Due.{Due}
use Rattle.bucket.specs.Bucket.{refunded as refunded_bucket}
use Rattle.rows.specs.Outcome.{outcome}
use Rattle.rows.proofs.OutcomeLaws.{answer_is, after_is}
use Rattle.slot.specs.declared.Slot.{Slot}
use Rattle.slot.specs.Slot.{touched, with_bucket, with_asked, read_turned_away}
use Rattle.ledger.specs.Model as Ledger
use Rattle.shard_map.specs.Model.{Shard, Sound, cap_of, slot_at, with_slot, in_ledger, place_of, remove_at}
use Rattle.shard_map.specs.Layout.{shard, Intact}
use Rattle.shard_map.proofs.StepLaws.{found_holds}
use Rattle.shard_map.proofs.ModelLaws.{intact_cap, intact_below, intact_after, intact_after_answer}
use Rattle.evict.specs.Evict.{Room, evicted}
use Rattle.shard.specs.declared.Identity.{Identity}
use Rattle.shard.specs.declared.Policy.{Policy}
use Rattle.shard.specs.Model.{tracks, idle_limit_in, asked_at, with_existing, swept_idle, swept, make_room, joined, admit, with_or_insert, has_debt, refunded}
use Rattle.shard.specs.Model.{turn_aways, removed}
use Rattle.shard.proofs.RoomLaws.{swept_idle_sound, swept_sound, room_sound, room_made_leaves_room}
use Rattle.shard.proofs.ShardLaws.{room_for, debt_taken_sound, refused_took_nothing}

-- Whether there is a debt, as std tells it.
pub some_is_a_debt : (debt : Option Nanos) → is_some debt ≡ has_debt debt
some_is_a_debt None = refl
some_is_a_debt (Some settles) = refl

-- A place that lookup found holds a slot, and stands below the cap.
found_held : (s : Shard) (h k i : ℕ) → place_of s h k ≡ Some i → i < s.slots.count
found_held s h k i e = (found_holds s h k i e).below

pub found_below_cap : {cap : ℕ} {ws : List ℕ} (h k i : ℕ) → Intact cap ws → place_of (shard cap ws) h k ≡ Some i → i < cap
found_below_cap {cap} {ws} h k i intact e = intact_below intact (found_held (shard cap ws) h k i e)

-- A known key: the slot that was read is touched, and is put back with what its bucket came to when it was asked.
pub known_by_store : (p : Policy) (request : Request) (cost : ℕ) (at : Nanos) (s : Shard) (i : ℕ) {slot : Slot}
    → slot ≡ touched (slot_at s i) at (tracks p.idle_ttl)
    → outcome (asked_at p slot request cost at).decision (with_slot s i (with_asked slot (asked_at p slot request cost at)))
    ≡ with_existing p request cost at s i
unfolding with_existing
known_by_store p request cost at s i is = rw is

-- Making room, once the two sweeps have left the shard t: there is room, or an eviction decides.
module _ (p : Policy) (at : Nanos) (s : Shard) {t : Shard} (gave : t ≡ swept p at s) where
  pub room_is_left : t.slots.count < cap_of t → outcome (Ok tt) t ≡ make_room p at s
  unfolding make_room
  room_is_left free = rw (gave, lt-ltb _ _ (rw gave at free))

  pub room_by_eviction : cap_of t ≤ t.slots.count → evicted p.config at p.forget_debt t ≡ make_room p at s
  unfolding make_room
  room_by_eviction full = rw (gave, le-ltb _ _ (rw gave at full))

-- The words are still lent after the sweeps, after a debt was taken out, and after room was made, where one more slot fits.
module _ {cap : ℕ} {ws ws' : List ℕ} (intact : Intact cap ws) (same : length ws' ≡ length ws) where
  pub intact_after_idle_sweep : (p : Policy) (at : Nanos) → shard cap ws' ≡ swept_idle p at (shard cap ws) (idle_limit_in p) → Intact cap ws'
  intact_after_idle_sweep p at gave = intact_after intact same gave (swept_idle_sound p at (shard cap ws) intact.sound (idle_limit_in p))

  pub intact_after_sweeps : (p : Policy) (at : Nanos) → shard cap ws' ≡ swept p at (shard cap ws) → Intact cap ws'
  intact_after_sweeps p at gave = intact_after intact same gave (swept_sound p at (shard cap ws) intact.sound)

  pub intact_after_taking : {owed : Option Nanos} (id : Identity)
      → outcome owed (shard cap ws') ≡ in_ledger (shard cap ws) (Ledger.taken (shard cap ws).ledger id.hash) → Intact cap ws'
  intact_after_taking id took = intact_after_answer intact same took (debt_taken_sound id (shard cap ws) intact.sound)

  pub room_made_fits_a_slot : {room : Room} (p : Policy) (at : Nanos) → outcome room (shard cap ws') ≡ make_room p at (shard cap ws) → room ≡ Ok tt
      → Intact cap ws' × ((shard cap ws').slots.count < cap)
  room_made_fits_a_slot p at gave made =
      let after = intact_after_answer intact same gave (room_sound p at (shard cap ws) intact.sound) in
      let fits = rw (← after_is gave) at (room_made_leaves_room p at (shard cap ws) intact.sound (sym (answer_is gave) ∙ made)) in
      (after, omega (arith, fits, intact_cap after))

-- A new key, once its debt was taken out, which left t, and room was made in t or not, which left v. Where room was refused there was no debt to take
-- out, so none has to be put back.
module _ (p : Policy) (id : Identity) (request : Request) (cost : ℕ) (at : Nanos) (s : Shard) {owed : Option Nanos} {t v : Shard} {room : Room}
    (took : outcome owed t ≡ in_ledger s (Ledger.taken s.ledger id.hash)) (gave : outcome room v ≡ make_room p at t) where
  room_told : {told : Room} → room ≡ told → (room_for p id at s).answer ≡ told
  room_told is = rw (after_is took) at (sym (answer_is gave) ∙ is)

  pub new_joins : room ≡ Ok tt → joined p id request cost at owed v ≡ admit p id request cost at s
  unfolding admit
  new_joins made = rw (after_is gave, after_is took, answer_is took, room_told made)

  pub new_refused : (due : Due) → Sound s → room ≡ Err due → outcome (Denied due) v ≡ admit p id request cost at s
  unfolding admit
  new_refused due u refused =
      let told = room_told refused in
      rw (after_is gave, after_is took, told, refused_took_nothing p id at s due u told)

-- A request, by the place of the key.
module _ (p : Policy) (id : Identity) (request : Request) (cost : ℕ) (at : Nanos) (s : Shard) where
  pub ask_with_slot : (i : ℕ) → place_of s id.hash id.key ≡ Some i → with_existing p request cost at s i ≡ with_or_insert p id request cost at s
  unfolding with_or_insert
  ask_with_slot i e = rw e

  pub ask_without_slot : place_of s id.hash id.key ≡ None → admit p id request cost at s ≡ with_or_insert p id request cost at s
  unfolding with_or_insert
  ask_without_slot e = rw e

-- The count of tries turned away, by the place of the key.
pub count_with_slot : (id : Identity) (s : Shard) (i : ℕ) → place_of s id.hash id.key ≡ Some i → read_turned_away (slot_at s i) ≡ turn_aways id s
unfolding turn_aways
count_with_slot id s i e = rw e

pub count_without_slot : (id : Identity) (s : Shard) → place_of s id.hash id.key ≡ None → 0 ≡ turn_aways id s
unfolding turn_aways
count_without_slot id s e = rw e

-- A refund, by the place of the key.
module _ (c : BucketConfig) (id : Identity) (cost : ℕ) (s : Shard) where
  pub refund_with_slot : (i : ℕ) {slot : Slot} → place_of s id.hash id.key ≡ Some i → slot ≡ slot_at s i
      → outcome true (with_slot s i (with_bucket slot (refunded_bucket c slot.bucket cost))) ≡ refunded c id cost s
  unfolding refunded
  refund_with_slot i e read = rw (read, e)

  pub refund_without_slot : place_of s id.hash id.key ≡ None → in_ledger s (Ledger.paid_down s.ledger id.hash cost c) ≡ refunded c id cost s
  unfolding refunded
  refund_without_slot e = rw e

-- A removal, by the place of the key, once the debt of its hash was taken out, which left t.
module _ (id : Identity) (s : Shard) {debt : Option Nanos} {t : Shard} (took : outcome debt t ≡ in_ledger s (Ledger.taken s.ledger id.hash)) where
  pub taking_keeps_held : (i : ℕ) → place_of s id.hash id.key ≡ Some i → i < t.slots.count
  taking_keeps_held i e = rw (after_is took) (found_held s id.hash id.key i e)

  pub remove_with_slot : (i : ℕ) → place_of s id.hash id.key ≡ Some i → outcome true (remove_at t i) ≡ removed id s
  unfolding removed
  remove_with_slot i e = rw (after_is took, e)

  pub remove_without_slot : place_of s id.hash id.key ≡ None → outcome (has_debt debt) t ≡ removed id s
  unfolding removed
  remove_without_slot e = rw (after_is took, answer_is took, e)
