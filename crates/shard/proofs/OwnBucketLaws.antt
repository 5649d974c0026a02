-- A key that holds a slot, or a debt of its hash, is decided by its own bucket and never by want of space, from any sound shard, under any policy and
-- either rule when full. And what a refusal for space says.
use Rattle.std.proofs.Common.{Option, Some, None, Err}
use Prim.Native.Nat.{ℕ, ◌≤◌}
use mathlib.Core.Path.{◌≡◌, sym, ◌∙◌, ap}
use mathlib.Core.Bool.{true, true≢false}
use native.Mathlib.Omega.{arith}
use Rattle.units.specs.declared.Nanos.{Nanos}
use Rattle.bucket.specs.declared.BucketConfig.{BucketConfig}
use Rattle.bucket.specs.declared.BucketDecision.{BucketDecision}
use Rattle.bucket.specs.declared.BucketDecision.TheVariants.{Denied}
use Rattle.bucket.specs.declared.Due.{Due}
use Rattle.bucket.specs.declared.Request.{Request}
use Rattle.bucket.specs.Bucket as Bucket
use Rattle.rows.specs.Outcome.{Outcome, outcome}
use Rattle.rows.proofs.OutcomeLaws.{answer_is}
use Rattle.ledger.specs.Model as Ledger
use Rattle.ledger.proofs.KeptLaws.{worth}
use Rattle.ledger.proofs.LookupLaws.{taken_tells}
use Rattle.shard_map.specs.Model.{Shard, Sound, slot_at, place_of}
use Rattle.shard_map.proofs.KeptLaws.{unpaid, restored_lacks_the_debt}
use Rattle.evict.specs.Evict.{min_refusal_wait}
use Rattle.shard.specs.declared.Identity.{Identity}
use Rattle.shard.specs.declared.Policy.{Policy}
use Rattle.shard.specs.Model.{own_decision, returning, admit, with_or_insert, viewed, has_debt, holds}
use Rattle.shard.proofs.RoomLaws.{RoomRefusal, room_refusal}
use Rattle.shard.proofs.ShardLaws.{room_for, refused_took_nothing, Asking, slot_asked, key_joins, no_space_lem, ask_cases}

-- The bucket that a view shows: the slot's, else a fresh one in the debt of the hash, if there is one.
module _ (c : BucketConfig) (id : Identity) (at : Nanos) (s : Shard) where
  pub view_of_slot : (i : ℕ) → place_of s id.hash id.key ≡ Some i → viewed c id at s ≡ (slot_at s i).bucket
  unfolding viewed
  view_of_slot i e = rw e

  pub view_without_slot : place_of s id.hash id.key ≡ None → viewed c id at s ≡ returning c at (Ledger.owed_by s.ledger id.hash)
  unfolding viewed
  view_without_slot e = rw e

-- A key without a slot holds something exactly where its hash owes.
pub without_slot_holds_debt : (id : Identity) (s : Shard) → place_of s id.hash id.key ≡ None
    → holds id s ≡ has_debt (Ledger.owed_by s.ledger id.hash)
unfolding holds
without_slot_holds_debt id s e = rw e

-- What a refusal for space says of a request of a key without a slot: the key has no debt, no room could be made for it, and it is denied until room is due.
pub record SpaceRefusal (p : Policy) (id : Identity) (s : Shard) (due : Due) (decision : BucketDecision) : Type 0 where
  pub no_debt_lem : Ledger.owed_by s.ledger id.hash ≡ None
  pub room : RoomRefusal p s due.wait
  pub denied : decision ≡ Denied due

module _ (p : Policy) (id : Identity) (request : Request) (cost : ℕ) (at : Nanos) (s : Shard) (u : Sound s) where
  -- A key that holds a slot or a debt is decided by its own bucket.
  pub own_bucket_decides : holds id s ≡ true → (with_or_insert p id request cost at s).answer ≡ own_decision p.config id request cost at s
  own_bucket_decides holding = go (ask_cases p id request cost at s u)
    where
      go : {o : Outcome BucketDecision Shard} → Asking p id request cost at s o → o.answer ≡ own_decision p.config id request cost at s
      go (slot_asked i slot e f r) = rw (own_decision, view_of_slot p.config id at s i e)
      go (key_joins e made) = rw (own_decision, view_without_slot p.config id at s e, taken_tells s.ledger id.hash)
      go (no_space_lem due e no_debt_lem told) = absurd (true≢false (sym holding ∙ without_slot_holds_debt id s e ∙ ap has_debt no_debt_lem))

  module _ (due : Due) (new : place_of s id.hash id.key ≡ None) (told : (room_for p id at s).answer ≡ Err due) where
    pub space_refusal : SpaceRefusal p id s due (with_or_insert p id request cost at s).answer
    unfolding with_or_insert admit
    space_refusal =
        let nothing : Ledger.taken s.ledger id.hash ≡ outcome None s.ledger = refused_took_nothing p id at s due u told in
        record {
          no_debt_lem = sym (taken_tells s.ledger id.hash) ∙ answer_is nothing;
          room = room_refusal p at s u due (rw nothing at told);
          denied = rw (new, told);
        }

    -- So a debt that was taken out is never put back; and the wait is at least a millisecond.
    pub space_refusal_follows_no_debt : Ledger.owed_by s.ledger id.hash ≡ None
    space_refusal_follows_no_debt = space_refusal.no_debt_lem

    pub space_refusal_waits_a_millisecond : min_refusal_wait ≤ due.wait.0
    space_refusal_waits_a_millisecond = space_refusal.room.least

-- The bucket with which a key comes in lacks at least what its debt lacks.
pub returning_lacks_the_debt : (c : BucketConfig) (at : Nanos) → Bucket.Accepted c → (owed : Option Nanos)
    → worth (unpaid c at) owed ≤ Bucket.shortfall_at c (returning c at owed) at
returning_lacks_the_debt c at a None = omega arith
returning_lacks_the_debt c at a (Some settles) = restored_lacks_the_debt c at settles a
