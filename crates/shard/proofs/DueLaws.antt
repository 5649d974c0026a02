-- Every answer to a request tells the moment of the call plus its wait, on any shard.
use Rattle.std.proofs.Common.{Option, Some, None}
use Prim.Native.Nat.{ℕ, ◌≤◌}
use native.Mathlib.Omega.{arith}
use borrow.Author.Tests.{lt-ltb, le-ltb}
use Rattle.arith.proofs.Cases.{by_le}
use Rattle.units.specs.declared.Nanos.{Nanos}
use Rattle.bucket.specs.declared.BucketConfig.{BucketConfig}
use Rattle.bucket.specs.declared.BucketCore.{BucketCore}
use Rattle.bucket.specs.declared.BucketDecision.{BucketDecision}
use Rattle.bucket.specs.declared.BucketDecision.TheVariants.{Allowed, Denied}
use Rattle.bucket.specs.declared.Request.{Request}
use Rattle.bucket.specs.declared.Request.TheVariants.{Acquire, Reserve, Through}
use Rattle.bucket.specs.Bucket.{due_after, longest_wait, wait_at, wait_to, request_wait, asked}
use Rattle.bucket.proofs.BucketLaws.{granted_within_longest, denied_beyond_longest}
use Rattle.shard_map.specs.Model.{Shard, cap_of, place_of, with_ledger}
use Rattle.ledger.specs.Model as Ledger
use Rattle.evict.specs.Evict.{Room}
use Rattle.evict.proofs.RefusalLaws.{TellsRoom, room_made, room_refused, eviction_tells_its_moment}
use Rattle.shard.specs.declared.Identity.{Identity}
use Rattle.shard.specs.declared.Policy.{Policy}
use Rattle.shard.specs.Model.{with_existing, swept, make_room, admitted, admit, asked_from, with_or_insert}

-- How long other buckets let a request wait.
abbrev pub others_wait : Request → ℕ
others_wait Acquire = 0
others_wait (Reserve longest) = 0
others_wait (Through others) = others.0

others_wait_no_longer : (request : Request) (own : ℕ) → others_wait request ≤ wait_to request own
others_wait_no_longer Acquire own = omega arith
others_wait_no_longer (Reserve longest) own = omega arith
others_wait_no_longer (Through others) own = omega arith

-- An answer at a moment: a grant within the longest wait of the request, and no sooner than other buckets grant; or a denial, by the bucket or for lack of
-- space. Each is due after its wait.
pub data TellsItsMoment (request : Request) (at : Nanos) : BucketDecision → Type 0 where
  granted : (wait : Nanos) → wait.0 ≤ longest_wait request → others_wait request ≤ wait.0 → TellsItsMoment request at (Allowed (due_after at wait))
  denied : (wait : Nanos) → TellsItsMoment request at (Denied (due_after at wait))

bucket_tells_its_moment : (c : BucketConfig) (request : Request) (b : BucketCore) (cost : ℕ) (at : Nanos)
    → TellsItsMoment request at (asked c request b cost at).decision
bucket_tells_its_moment c request b cost at =
    by_le (request_wait c request b cost at) (longest_wait request)
    (λ soon. rw (granted_within_longest c request b cost at soon)
    (granted (record { 0 = request_wait c request b cost at }) soon (others_wait_no_longer request (wait_at c b cost at))))
    (λ late. rw (denied_beyond_longest c request b cost at late) (denied (record { 0 = request_wait c request b cost at })))

making_room_tells_its_moment : (p : Policy) (at : Nanos) (s : Shard) → TellsRoom at (make_room p at s).answer
unfolding make_room
making_room_tells_its_moment p at s =
    by_le (cap_of (swept p at s)) (swept p at s).slots.count
    (λ full. rw (le-ltb _ _ full) (eviction_tells_its_moment p.config at p.forget_debt (swept p at s)))
    (λ below. rw (lt-ltb _ _ below) room_made)

module _ (p : Policy) (id : Identity) (request : Request) (cost : ℕ) (at : Nanos) where
  room_tells_its_moment : (owed : Option Nanos) (s : Shard) {room : Room} → TellsRoom at room
      → TellsItsMoment request at (admitted p id request cost at owed s room).answer
  room_tells_its_moment owed s room_made = bucket_tells_its_moment p.config request _ cost at
  room_tells_its_moment owed s (room_refused wait) = denied wait

  place_tells_its_moment : (s : Shard) (place : Option ℕ) → TellsItsMoment request at (asked_from p id request cost at s place).answer
  unfolding with_existing admit
  place_tells_its_moment s (Some i) = bucket_tells_its_moment p.config request _ cost at
  place_tells_its_moment s None =
      let own = Ledger.taken s.ledger id.hash in
      let room = make_room p at (with_ledger s own.after) in
      room_tells_its_moment own.answer room.after (making_room_tells_its_moment p at (with_ledger s own.after))

  pub every_answer_tells_its_moment : (s : Shard) → TellsItsMoment request at (with_or_insert p id request cost at s).answer
  unfolding with_or_insert
  every_answer_tells_its_moment s = place_tells_its_moment s (place_of s id.hash id.key)
