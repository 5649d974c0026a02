-- Laws of the shard's operations that their functions go by: one turn of a loop is one step of the definition that counts the looks left; what a
-- definition is in each case that the code goes through; and that words which are lent stay so. What the operations keep is in StepLaws.
use Prim.Native.Nat.{ℕ, ◌+◌, ◌-◌, ◌<◌}
use native.Mathlib.Omega.{arith}
use mathlib.Core.Path.{◌≡◌, refl, ap, ◌∙◌}
use mathlib.Core.Bool.{true, false}
use mathlib.Core.List.{List}
use lib.ListN.{length}
use Rattle.units.specs.declared.Nanos.{Nanos}
use Rattle.units.specs.declared.Millis.{Millis}
use Rattle.bucket.specs.declared.BucketConfig.{BucketConfig}
use Rattle.index.specs.Walk as Index
use Rattle.index.specs.Layout.{Fits, places_of, with_places, hash_of, keyed}
use Rattle.held.specs.Held.{with_added, removed, without_item}
use Rattle.held.specs.Round as Round
use Rattle.rows.specs.Segments.{segment}
use Rattle.rows.specs.Outcome.{Outcome, outcome}
use Rattle.held.proofs.IndexLaws.{indexed_fits, indexed_find, indexed_add, indexed_remove}
use Rattle.held.proofs.RoundLaws.{look_goes, look_stays, look_none, ByLooks}
use Rattle.rows.proofs.OutcomeLaws.{after_is}
use Rattle.slot.specs.declared.Slot.{Slot}
use Rattle.slot.specs.Slot.{is_key}
use Rattle.ledger.specs.Layout as LedgerLayout
use Rattle.shard_map.specs.Model.{Shard, Sound, no_slot, slot_items, cap_of, slot_at, with_count, with_finding, with_slot, with_sweep, hand_of, sweep_of}
use Rattle.shard_map.specs.Model.{place_of}
use Rattle.shard_map.specs.Model.{remove_at}
use Rattle.shard_map.specs.Model.{insert, reclaimable, round_of, with_round, idle_look, sweep_idle}
use Rattle.shard_map.specs.Layout.{ledger_start, slot_index, shard, Intact}
use Rattle.shard_map.proofs.LayoutLaws.{cap_is, index_put, slots_indexed, ledger_lent, ledger_long}
use Rattle.shard_map.proofs.StepLaws.{hand_below, sweep_below, sweep_sound, idle_look_sound}

-- Words that are lent have room for cap slots; a slot that is held, and the hand and the sweep where one is, stand below the cap.
pub intact_cap : {cap : ℕ} {ws : List ℕ} → Intact cap ws → cap_of (shard cap ws) ≡ cap
intact_cap {cap} {ws} intact = cap_is cap ws

pub intact_below : {cap : ℕ} {ws : List ℕ} {i : ℕ} → Intact cap ws → i < (shard cap ws).slots.count → i < cap
intact_below intact below = omega (arith, intact.sound.count_fits, intact_cap intact)

pub intact_hand : {cap : ℕ} {ws : List ℕ} → Intact cap ws → 0 < (shard cap ws).slots.count → hand_of (shard cap ws) < cap
intact_hand {cap} {ws} intact some = intact_below intact (hand_below (shard cap ws) some)

pub intact_sweep : {cap p : ℕ} {ws : List ℕ} → Intact cap ws → 0 < (shard cap ws).slots.count → p ≡ sweep_of (shard cap ws)
    → (p < (shard cap ws).slots.count) × (p < cap)
intact_sweep {cap} {p} {ws} intact some is =
    let below : p < (shard cap ws).slots.count = rw is (sweep_below (shard cap ws) some) in (below, intact_below intact below)

-- The ledger's part of words that are lent is lent, in the form in which the code lends it.
pub intact_ledger : {cap start : ℕ} {ws : List ℕ} → Intact cap ws → start ≡ ledger_start cap → LedgerLayout.Intact cap (segment start (length ws - start) ws)
intact_ledger {cap} {start} {ws} intact is =
    record { size = ledger_long cap ws intact.size is; sound = rw (ledger_lent cap ws intact.size is) intact.sound.ledger }

-- Words stay lent after a call that keeps their length and gives a sound shard: the shard alone, or an answer with it.
module _ {cap : ℕ} {ws ws' : List ℕ} (intact : Intact cap ws) (same : length ws' ≡ length ws) where
  pub intact_after : {s : Shard} → shard cap ws' ≡ s → Sound s → Intact cap ws'
  intact_after gave t = record { size = same ∙ intact.size; sound = rw gave t }

  pub intact_after_answer : {A : Type 0} {a : A} {o : Outcome A Shard} → outcome a (shard cap ws') ≡ o → Sound o.after → Intact cap ws'
  intact_after_answer gave t = intact_after (after_is gave) t

-- Insertion and removal, store by store, as the code makes them: first in the index, then in the places, last the count.
module _ (s : Shard) where
  pub insert_by_stores : (slot : Slot)
      → with_count (with_slot (with_finding s (with_added s.slots.finding slot.hash s.slots.count)) s.slots.count slot) (s.slots.count + 1)
      ≡ insert s slot
  unfolding insert
  insert_by_stores slot = refl

  abbrev unnamed : ℕ → Shard
  unnamed p = with_finding s (without_item slot_items s.slots p)

  pub remove_by_stores : (p : ℕ)
      → with_count (with_slot (with_slot (unnamed p) p (slot_at (unnamed p) (s.slots.count - 1))) (s.slots.count - 1) no_slot) (s.slots.count - 1)
      ≡ remove_at s p
  unfolding remove_at removed
  remove_by_stores p = refl

-- Lookup, addition and removal in the words' index, as the crate `index` makes them.
module _ {cap : ℕ} {ws : List ℕ} (intact : Intact cap ws) where
  abbrev stands : Shard
  stands = shard cap ws

  abbrev places : List ℕ
  places = places_of (slot_index cap) ws

  pub slots_fit : Fits (slot_index cap) stands.slots.count ws
  slots_fit = indexed_fits (slots_indexed intact)

  pub found_in_index : (hash key : ℕ) → Index.find stands.slots.count (keyed (slot_index cap) ws hash key) places hash ≡ place_of stands hash key
  unfolding place_of
  found_in_index hash key = indexed_find (slots_indexed intact) hash key (is_key hash key) (λ slot. refl)

  pub added_to_index : (hash i : ℕ)
      → shard cap (with_places (slot_index cap) ws (Index.add places hash i)) ≡ with_finding stands (with_added stands.slots.finding hash i)
  added_to_index hash i = indexed_add (slots_indexed intact) (shard cap) (with_finding stands) (index_put cap ws intact.size) hash i

  pub removed_from_index : (p : ℕ) → p < stands.slots.count
      → shard cap (with_places (slot_index cap) ws (Index.remove (hash_of (slot_index cap) ws) stands.slots.count places p))
      ≡ with_finding stands (without_item slot_items stands.slots p)
  removed_from_index p below = indexed_remove (slots_indexed intact) (shard cap) (with_finding stands) (index_put cap ws intact.size) p below

-- A look of the idle sweep at a slot that may go and at one that stays, and the idle sweep by its looks.
module _ (c : BucketConfig) (at : Nanos) (limit : Millis) where
  pub idle_look_goes : (s : Shard) → 0 < s.slots.count → reclaimable c at limit (slot_at s (sweep_of s)) ≡ true
      → remove_at (with_sweep s (sweep_of s)) (sweep_of s) ≡ idle_look c at limit s
  unfolding idle_look remove_at
  idle_look_goes s some goes = ap (with_round s) (look_goes slot_items (reclaimable c at limit) (round_of s) some goes)

  pub idle_look_stays : (s : Shard) → 0 < s.slots.count → reclaimable c at limit (slot_at s (sweep_of s)) ≡ false
      → with_sweep s (sweep_of s + 1) ≡ idle_look c at limit s
  unfolding idle_look
  idle_look_stays s some stays = ap (with_round s) (look_stays slot_items (reclaimable c at limit) (round_of s) some stays)

  pub idle_sweep_by_looks : (cap : ℕ) → ByLooks (Intact cap) (shard cap) (sweep_idle c at limit) (idle_look c at limit) (λ s. s.slots.count)
  unfolding sweep_idle idle_look Round.sweep
  idle_sweep_by_looks cap = record {
    none_left = λ s. refl;
    one_more = λ n s. refl;
    no_item = λ s none. ap (with_round s) (look_none slot_items (reclaimable c at limit) (round_of s) none);
    stay_lent = λ intact same looked. intact_after intact same looked (idle_look_sound c at limit _ intact.sound);
  }

-- Words that are still lent, and hold as many slots as before: so they are after the sweep has moved.
pub record StillLent (cap : ℕ) (ws ws' : List ℕ) : Type 0 where
  pub intact : Intact cap ws'
  pub count : (shard cap ws').slots.count ≡ (shard cap ws).slots.count

pub after_sweep : {cap : ℕ} {ws ws' : List ℕ} → Intact cap ws → length ws' ≡ length ws → (n : ℕ) → shard cap ws' ≡ with_sweep (shard cap ws) n
    → StillLent cap ws ws'
after_sweep {cap} {ws} intact same n gave = record {
  intact = intact_after intact same gave (sweep_sound (shard cap ws) n intact.sound);
  count = ap (λ s. s.slots.count) gave;
}
