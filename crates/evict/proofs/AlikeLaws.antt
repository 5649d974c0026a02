-- An eviction on two shards that are alike to a view: the walk, the choice of the victim and what happens to it are the same, and the shards left are alike.
use Rattle.std.proofs.Common.{Some, Ok, Err}
use Prim.Native.Nat.{ℕ, zero, suc, ◌+◌, min}
use mathlib.Core.Path.{◌≡◌, refl, ap, subst}
use mathlib.Core.Bool.{Bool}
use Rattle.units.specs.declared.Nanos.{Nanos}
use Rattle.bucket.specs.declared.BucketConfig.{BucketConfig}
use Rattle.settings.specs.Eviction.{clock_scan}
use Rattle.held.proofs.AlikeLaws.{SameOutcome, alike_by_test}
use Rattle.slot.specs.declared.Slot.{Slot}
use Rattle.ledger.specs.declared.Debt.{Debt}
use Rattle.ledger.specs.Model.{Recorded, Ledger, recorded}
use Rattle.shard_map.specs.Model.{Shard, slot_at, hand_of}
use Rattle.shard_map.proofs.AlikeLaws.{View, AlikeShards, slot_alike, hand_alike, hand_moved_alike, ledger_alike, change_alike, removal_alike}
use Rattle.evict.specs.declared.Victim.{Victim}
use Rattle.evict.specs.declared.Victim.TheVariants.{Free, Owing}
use Rattle.evict.specs.Evict.{Notes, nothing_noted, noted, looked, goes_at_once, Walked, walk_from, walked, victim_of, evict_at, debt_left, after_recording}
use Rattle.evict.specs.Evict.{evict_victim, evicted}
use Rattle.evict.proofs.CaseLaws.{debt_recorded}

-- Walks that ended at one place and noted the same.
record AlikeWalks (v : View) (a b : Walked) : Type 0 where
  ended : a.ended ≡ b.ended
  notes : a.notes ≡ b.notes
  after : AlikeShards v a.after b.after

module _ (v : View) (c : BucketConfig) (at : Nanos) where
  noted_alike : {w u : Notes} {p q : ℕ} {x y : Slot} → w ≡ u → p ≡ q → v.Same x y → noted c at w p x ≡ noted c at u q y
  unfolding noted
  noted_alike noting here same = rw (noting, here, (v.reads same).bucket, (v.reads same).mark)

  looked_alike : {s t : Shard} → AlikeShards v s t → AlikeShards v (looked s (hand_of s)) (looked t (hand_of t))
  looked_alike like =
      let here = hand_alike v like in
      hand_moved_alike v (change_alike v like here (v.marks (slot_alike v like here) 0)) (ap (λ (p : ℕ). p + 1) here)

  walk_from_alike : (left : ℕ) {s t : Shard} {w u : Notes} → AlikeShards v s t → w ≡ u → AlikeWalks v (walk_from c at left s w) (walk_from c at left t u)
  unfolding walk_from
  walk_from_alike zero like noting = record { ended = refl; notes = noting; after = like }
  walk_from_alike (suc left) {s} {t} like noting =
      let here = hand_alike v like in
      let slot = slot_alike v like here in
      let goes : goes_at_once c at (slot_at s (hand_of s)) ≡ goes_at_once c at (slot_at t (hand_of t)) = rw ((v.reads slot).bucket, (v.reads slot).mark) in
      alike_by_test (AlikeWalks v) _ goes
      (record { ended = ap Some here; notes = noting; after = looked_alike like })
      (walk_from_alike left (looked_alike like) (noted_alike noting here slot))

  walk_alike : {s t : Shard} → AlikeShards v s t → AlikeWalks v (walked c at s) (walked c at t)
  unfolding walked
  walk_alike {s} {t} like =
      subst (λ (n : ℕ). AlikeWalks v (walked c at s) (walk_from c at (min clock_scan n) t nothing_noted)) (v.ways.count like.slots)
      (walk_from_alike _ like refl)

-- A slot goes; one that owes goes once its debt is recorded.
evict_at_alike : (v : View) {s t : Shard} → AlikeShards v s t → (p : ℕ) → AlikeShards v (evict_at s p) (evict_at t p)
evict_at_alike v like p = hand_moved_alike v (removal_alike v like p) refl

module _ (v : View) (c : BucketConfig) (at : Nanos) (forget : Bool) where
  recording_alike : {s t : Shard} → AlikeShards v s t → (p : ℕ) → SameOutcome v.Ledgers (debt_recorded c at forget s p) (debt_recorded c at forget t p)
  recording_alike {s} {t} like p =
      let slot = v.reads (slot_alike v like {p = p} refl) in
      let debt : debt_left c at (slot_at s p) ≡ debt_left c at (slot_at t p) = rw (slot.hash, slot.bucket) in
      subst (λ (d : Debt). SameOutcome v.Ledgers (debt_recorded c at forget s p) (recorded t.ledger d at forget)) debt
      (v.ledgers.records like.ledger _ at forget)

  after_recording_alike : {s t : Shard} {l m : Ledger} → AlikeShards v s t → v.Ledgers l m → (p soonest : ℕ) (r : Recorded)
      → SameOutcome (AlikeShards v) (after_recording at s p soonest l r) (after_recording at t p soonest m r)
  after_recording_alike like same p soonest (Ok _) = record { answer = refl; after = evict_at_alike v (ledger_alike v like same) p }
  after_recording_alike like same p soonest (Err full) = record { answer = refl; after = ledger_alike v like same }

  victim_alike : {s t : Shard} → AlikeShards v s t → (soonest : ℕ) (victim : Victim)
      → SameOutcome (AlikeShards v) (evict_victim c at forget s soonest victim) (evict_victim c at forget t soonest victim)
  victim_alike like soonest (Free p) = record { answer = refl; after = evict_at_alike v like p }
  victim_alike {s} {t} like soonest (Owing p) =
      let recording = recording_alike like p in
      rw recording.answer (after_recording_alike like recording.after p soonest (debt_recorded c at forget t p).answer)

  pub evict_alike : {s t : Shard} → AlikeShards v s t → SameOutcome (AlikeShards v) (evicted c at forget s) (evicted c at forget t)
  unfolding evicted
  evict_alike {s} {t} like =
      let w = walk_alike v c at like in
      let u : Walked = walked c at t in
      let n : Notes = u.notes in
      rw (w.ended, w.notes, hand_alike v like) (victim_alike w.after n.soonest (victim_of u.ended n.full n.unmarked (hand_of t)))
