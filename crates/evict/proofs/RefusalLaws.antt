-- A refusal for want of room: the moment that it tells, how long its wait is, and when it never comes.
use Rattle.std.proofs.Common.{Ok, Err}
use Prim.Native.Nat.{ℕ, ◌≤◌, ◌<◌, max, min}
use mathlib.Core.Path.{◌≡◌, refl, sym, ◌∙◌, ap}
use mathlib.Core.Bool.{Bool, true, false, true≢false}
use native.Mathlib.Omega.{arith}
use Rattle.units.specs.declared.Nanos.{Nanos}
use Rattle.bucket.specs.declared.BucketConfig.{BucketConfig}
use Rattle.bucket.specs.declared.Due.{Due}
use Rattle.bucket.specs.Bucket.{due_after}
use Rattle.bucket.proofs.BucketLaws.{wait_fits}
use Rattle.slot.specs.declared.Slot.{Slot}
use Rattle.slot.specs.Slot.{recovery}
use Rattle.ledger.specs.Model.{Recorded, no_room}
use Rattle.ledger.specs.Model as Ledger
use Rattle.ledger.proofs.RecordLaws.{refusal}
use Rattle.evict.specs.declared.Victim.{Victim}
use Rattle.evict.specs.declared.Victim.TheVariants.{Free, Owing}
use Rattle.evict.specs.Evict.{Room}
use Rattle.shard_map.specs.Model.{Shard, Sound, with_ledger, hand_of}
use Rattle.evict.specs.Evict.{min_refusal_wait, last_word, Walked, walked, victim_of, refusal_wait, after_recording, evict_victim, evicted}
use Rattle.evict.proofs.WalkLaws.{Remarked}
use Rattle.evict.proofs.CaseLaws.{debt_recorded, made_is_no_refusal, never_refused_is_made, evict_cases, walk_remarks, walk_sound}

-- Whether room was made or not; where it was not, it is due after a wait, and told so.
pub data TellsRoom (at : Nanos) : Room → Type 0 where
  room_made : TellsRoom at (Ok tt)
  room_refused : (wait : Nanos) → TellsRoom at (Err (due_after at wait))

-- A refusal tells the moment of the call plus its wait, on any shard.
pub eviction_tells_its_moment : (c : BucketConfig) (at : Nanos) (forget : Bool) (s : Shard) → TellsRoom at (evicted c at forget s).answer
unfolding evicted
eviction_tells_its_moment c at forget s = by_victim w.after w.notes.soonest (victim_of w.ended w.notes.full w.notes.unmarked (hand_of s))
  where
    w : Walked
    w = walked c at s

    by_record : (t : Shard) (p soonest : ℕ) (l : Ledger.Ledger) (r : Recorded) → TellsRoom at (after_recording at t p soonest l r).answer
    by_record t p soonest l (Ok _) = room_made
    by_record t p soonest l (Err full) = room_refused (refusal_wait soonest full.wait)

    by_victim : (t : Shard) (soonest : ℕ) (v : Victim) → TellsRoom at (evict_victim c at forget t soonest v).answer
    by_victim t soonest (Free p) = room_made
    by_victim t soonest (Owing p) = by_record t p soonest (debt_recorded c at forget t p).after (debt_recorded c at forget t p).answer

-- The wait that a refusal tells; 0 where room was made.
abbrev wait_for_room : Room → ℕ
wait_for_room (Ok _) = 0
wait_for_room (Err due) = due.wait.0

-- What a refusal says: the ledger is full, nothing may be forgotten, the wait is at least a millisecond, and no slot and no debt has come or gone.
pub record EvictRefusal (forget : Bool) (s : Shard) (wait : Nanos) (after : Shard) : Type 0 where
  pub full : Ledger.cap_of s.ledger ≤ s.ledger.debts.count
  pub never : forget ≡ false
  pub least : min_refusal_wait ≤ wait.0
  pub same : Remarked s (with_ledger after s.ledger)
  pub debts : after.ledger.debts ≡ s.ledger.debts

-- No recovery is longer than the number with which the soonest recovery starts.
pub no_recovery_is_longer : (c : BucketConfig) (at : Nanos) (slot : Slot) → recovery c slot at ≤ last_word
no_recovery_is_longer c at slot = omega (arith, wait_fits c slot.bucket c.capacity at)

-- A refusal's wait, by what the ledger told of the debt that it had no room for: the smaller of the soonest recovery of the slots looked at and the ledger's
-- wait, but at least a millisecond.
pub record RefusalWait (c : BucketConfig) (at : Nanos) (forget : Bool) (s : Shard) (wait : Nanos) : Type 0 where
  pub place : ℕ
  pub ledger_wait : Nanos
  pub told : (debt_recorded c at forget (walked c at s).after place).answer ≡ no_room ledger_wait
  pub shorter : wait.0 ≡ max (min (walked c at s).notes.soonest ledger_wait.0) min_refusal_wait

module _ (c : BucketConfig) (at : Nanos) (forget : Bool) (s : Shard) (u : Sound s) (some : 0 < s.slots.count) where
  pub evict_refusal : (due : Due) → (evicted c at forget s).answer ≡ Err due → EvictRefusal forget s due.wait (evicted c at forget s).after
  evict_refusal due =
      let marks : Remarked s (walked c at s).after = walk_remarks c at forget s u some in
      evict_cases c at forget s u some (λ o. o.answer ≡ Err due → EvictRefusal forget s due.wait o.after)
      (λ p full e. made_is_no_refusal e)
      (λ p below done e. made_is_no_refusal e)
      (λ p wait below told e.
      let q = refusal (walked c at s).after.ledger _ at forget wait (walk_sound c at forget s u some).ledger told in
      let same : (refusal_wait (walked c at s).notes.soonest wait).0 ≡ due.wait.0 = ap wait_for_room e in
      record {
        full = rw (← marks.ledger) q.full;
        never = q.never;
        least = omega arith;
        same = record { count = marks.count; cap = marks.cap; sweep = marks.sweep; ledger = refl; finding = marks.finding; slots = marks.slots };
        debts = q.debts ∙ ap (λ (l : Ledger.Ledger). l.debts) marks.ledger;
      })

  pub refusal_waits_for_the_soonest : (due : Due) → (evicted c at forget s).answer ≡ Err due → RefusalWait c at forget s due.wait
  refusal_waits_for_the_soonest due =
      evict_cases c at forget s u some (λ o. o.answer ≡ Err due → RefusalWait c at forget s due.wait)
      (λ p full e. made_is_no_refusal e)
      (λ p below done e. made_is_no_refusal e)
      (λ p wait below told e. record { place = p; ledger_wait = wait; told = told; shorter = sym (ap wait_for_room e) })

  -- So it is never refused while the ledger is below its cap, nor where debts may be forgotten.
  pub evict_below_ledger_cap_never_refuses : s.ledger.debts.count < Ledger.cap_of s.ledger → (evicted c at forget s).answer ≡ Ok tt
  evict_below_ledger_cap_never_refuses room = never_refused_is_made _ (λ due e. omega (arith, (evict_refusal due e).full))

  pub evict_forgetting_never_refuses : forget ≡ true → (evicted c at forget s).answer ≡ Ok tt
  evict_forgetting_never_refuses forgets = never_refused_is_made _ (λ due e. true≢false (sym forgets ∙ (evict_refusal due e).never))
