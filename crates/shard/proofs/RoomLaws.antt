-- Making room for a new key: an idle sweep where an idle time is set, the ledger's sweep, and an eviction if the shard is full all the same. What these
-- three steps keep, making room keeps; and it is refused only where the ledger is full and nothing may be forgotten. Laws above go by this and open none
-- of the steps.
use Rattle.std.proofs.Common.{Option, Some, None, Ok, Err}
use Prim.Native.Nat.{ℕ, ◌≤◌, ◌<◌, ◌^◌}
use mathlib.Core.Path.{◌≡◌, refl, sym, ◌∙◌}
use mathlib.Core.Bool.{true, false, true≢false}
use native.Mathlib.Omega.{arith}
use lib.Dec.{ltb}
use borrow.Author.Tests.{ltb-true, ltb-false}
use Rattle.arith.proofs.Cases.{by_test}
use Rattle.units.specs.declared.Nanos.{Nanos}
use Rattle.units.specs.declared.Millis.{Millis}
use Rattle.bucket.specs.declared.BucketConfig.{BucketConfig}
use Rattle.bucket.specs.declared.Due.{Due}
use Rattle.bucket.specs.Bucket.{Accepted}
use Rattle.rows.specs.Outcome.{Outcome, outcome}
use Rattle.settings.specs.Eviction.{ttl_sweep, ledger_scan}
use Rattle.ledger.specs.Model as Ledger
use Rattle.ledger.proofs.StepLaws as LedgerSteps
use Rattle.shard_map.specs.Model.{Shard, Sound, cap_of, with_ledger, sweep_idle}
use Rattle.shard_map.proofs.StepLaws.{ledger_sound, sweep_idle_sound, sweep_idle_ledger}
use Rattle.shard_map.proofs.KeptLaws.{Keeps, keeps_refl, keeps_trans, sweep_idle_keeps_shortage, ledger_sweep_keeps_shortage}
use Rattle.evict.specs.Evict.{Room, min_refusal_wait, evicted}
use Rattle.evict.proofs.CaseLaws.{made_is_no_refusal, never_refused_is_made, evict_made_leaves_room}
use Rattle.evict.proofs.RefusalLaws.{evict_refusal}
use Rattle.evict.proofs.RoomLaws.{evict_same_room}
use Rattle.evict.proofs.KeptLaws.{evict_keeps_shortage}
use Rattle.shard.specs.declared.Policy.{Policy}
use Rattle.shard.specs.Model.{idle_limit_in, swept_idle, swept, make_room}

-- The ledger's sweep, in its shard.
abbrev pub swept_ledger : Nanos → Shard → Shard
swept_ledger at s = with_ledger s (Ledger.sweep at ledger_scan s.ledger)

-- Q is kept by the two sweeps.
pub record KeptBySweeps (p : Policy) (at : Nanos) (Q : Shard → Type 0) : Type 0 where
  pub idle : (s : Shard) (limit : Millis) → Sound s → Q s → Q (sweep_idle p.config at limit ttl_sweep s)
  pub ledger : (s : Shard) → Sound s → Q s → Q (swept_ledger at s)

-- Q is kept by an eviction.
abbrev pub KeptByEviction : Policy → Nanos → (Shard → Type 0) → Type 0
KeptByEviction p at Q = (s : Shard) → Sound s → 0 < s.slots.count → Q s → Q (evicted p.config at p.forget_debt s).after

-- Soundness is kept by both sweeps.
sound_by_sweeps : (p : Policy) (at : Nanos) → KeptBySweeps p at Sound
sound_by_sweeps p at = record {
  idle = λ s limit u q. sweep_idle_sound p.config at limit ttl_sweep s u;
  ledger = λ s u q. ledger_sound s _ u ((LedgerSteps.sweep_room at ledger_scan s.ledger).sound u.ledger);
}

-- What a refusal says: the ledger is full, nothing may be forgotten, and the wait is at least a millisecond.
pub record RoomRefusal (p : Policy) (s : Shard) (wait : Nanos) : Type 0 where
  pub full : Ledger.cap_of s.ledger ≤ s.ledger.debts.count
  pub never : p.forget_debt ≡ false
  pub least : min_refusal_wait ≤ wait.0

module _ (p : Policy) (at : Nanos) (s : Shard) (u : Sound s) where
  -- The idle sweep, which runs only where an idle time is set.
  swept_idle_keeps : (Q : Shard → Type 0) → KeptBySweeps p at Q → Q s → (limit : Option Millis) → Q (swept_idle p at s limit)
  swept_idle_keeps Q k q None = q
  swept_idle_keeps Q k q (Some limit) = k.idle s limit u q

  pub swept_idle_sound : (limit : Option Millis) → Sound (swept_idle p at s limit)
  swept_idle_sound limit = swept_idle_keeps Sound (sound_by_sweeps p at) u limit

  -- What the sweeps keep holds after both.
  pub swept_keeps : (Q : Shard → Type 0) → KeptBySweeps p at Q → Q s → Q (swept p at s)
  swept_keeps Q k q =
      let limit : Option Millis = idle_limit_in p in
      k.ledger (swept_idle p at s limit) (swept_idle_sound limit) (swept_idle_keeps Q k q limit)

  pub swept_sound : Sound (swept p at s)
  swept_sound = swept_keeps Sound (sound_by_sweeps p at) u

  -- They leave the ledger the room that it had, and no more debts than there were.
  swept_ledger_lem : (Ledger.cap_of (swept p at s).ledger ≡ Ledger.cap_of s.ledger) × ((swept p at s).ledger.debts.count ≤ s.ledger.debts.count)
  swept_ledger_lem =
      swept_keeps (λ t. (Ledger.cap_of t.ledger ≡ Ledger.cap_of s.ledger) × (t.ledger.debts.count ≤ s.ledger.debts.count))
      (record {
        idle = λ t limit v kept. rw (sweep_idle_ledger p.config at limit ttl_sweep t) kept;
        ledger = λ t v kept.
            ((LedgerSteps.sweep_room at ledger_scan t.ledger).cap ∙ kept.0, omega (arith, kept.1, LedgerSteps.sweep_count at ledger_scan t.ledger));
      })
      (refl, omega arith)

  -- How making room ends: the sweeps left room, or the shard is full and an eviction decides.
  room_cases : (Q : Outcome Room Shard → Type 0) → ((swept p at s).slots.count < cap_of (swept p at s) → Q (outcome (Ok tt) (swept p at s)))
      → (0 < (swept p at s).slots.count → Q (evicted p.config at p.forget_debt (swept p at s))) → Q (make_room p at s)
  unfolding make_room
  room_cases Q free full =
      by_test (ltb (swept p at s).slots.count (cap_of (swept p at s)))
      (λ t. rw t (free (ltb-true _ _ t)))
      (λ t. rw t (full (omega (arith, ltb-false (swept p at s).slots.count (cap_of (swept p at s)) t, swept_sound.room))))

  -- What the sweeps and an eviction keep, making room keeps, whether there is room in the end or not.
  pub room_keeps : (Q : Shard → Type 0) → KeptBySweeps p at Q → KeptByEviction p at Q → Q s → Q (make_room p at s).after
  room_keeps Q k evicts q = room_cases (λ o. Q o.after) (λ free. swept_keeps Q k q) (λ some. evicts (swept p at s) swept_sound some (swept_keeps Q k q))

  -- It leaves a sound shard.
  pub room_sound : Sound (make_room p at s).after
  room_sound = room_keeps Sound (sound_by_sweeps p at) (λ t v some q. (evict_same_room p.config at p.forget_debt t v some).sound) u

  -- Where debts may not be forgotten, nothing that a key lacks is lost.
  pub room_keeps_shortage : Accepted p.config → at.0 ≤ 2 ^ 62 → p.forget_debt ≡ false → (h k : ℕ) → Keeps p.config h k at s (make_room p at s).after
  room_keeps_shortage a early never h k =
      room_keeps (Keeps c h k at s)
      (record {
        idle = λ t limit v kept. keeps_trans c h k at s t (sweep_idle c at limit ttl_sweep t) kept (sweep_idle_keeps_shortage c h k at limit ttl_sweep t v);
        ledger = λ t v kept. keeps_trans c h k at s t (swept_ledger at t) kept (ledger_sweep_keeps_shortage c h k at ledger_scan t v);
      })
      (λ t v some kept. keeps_trans c h k at s t (evicted c at p.forget_debt t).after kept
      (evict_keeps_shortage c h k at p.forget_debt t a early v some never))
      (keeps_refl c h k at s)
    where
      c : BucketConfig
      c = p.config

  -- Where room was made there is room for a slot.
  pub room_made_leaves_room : (make_room p at s).answer ≡ Ok tt → (make_room p at s).after.slots.count < cap_of (make_room p at s).after
  room_made_leaves_room =
      room_cases (λ o. o.answer ≡ Ok tt → o.after.slots.count < cap_of o.after)
      (λ free made. free)
      (λ some made. evict_made_leaves_room p.config at p.forget_debt (swept p at s) swept_sound some made)

  pub room_refusal : (due : Due) → (make_room p at s).answer ≡ Err due → RoomRefusal p s due.wait
  room_refusal due =
      room_cases (λ o. o.answer ≡ Err due → RoomRefusal p s due.wait)
      (λ free e. made_is_no_refusal e)
      (λ some e.
      let r = evict_refusal p.config at p.forget_debt (swept p at s) swept_sound some due e in
      record { full = omega (arith, r.full, swept_ledger_lem.0, swept_ledger_lem.1); never = r.never; least = r.least })

  -- So room is made while the ledger is below its cap, and wherever debts may be forgotten.
  pub room_below_ledger_cap_never_refuses : s.ledger.debts.count < Ledger.cap_of s.ledger → (make_room p at s).answer ≡ Ok tt
  room_below_ledger_cap_never_refuses below = never_refused_is_made _ (λ due e. omega (arith, (room_refusal due e).full))

  pub room_forgetting_never_refuses : p.forget_debt ≡ true → (make_room p at s).answer ≡ Ok tt
  room_forgetting_never_refuses forgets = never_refused_is_made _ (λ due e. true≢false (sym forgets ∙ (room_refusal due e).never))
