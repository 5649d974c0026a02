-- `peek_bucket` goes by the cost, as the rule does, and else tells when the key's bucket has the cost: that of its slot, or that with which it would come in.
use Prim.Native.Nat.{◌≤◌}
use mathlib.Core.Path.{◌≡◌, sym, ◌∙◌}
use native.Mathlib.Omega.{arith}
use Rattle.bucket.specs.declared.BucketConfig.{BucketConfig}
use Rattle.bucket.specs.declared.BucketCore.{BucketCore}
use Rattle.bucket.specs.declared.Due.{Due}
use Rattle.bucket.specs.Bucket.{Accepted, due_at}
use Rattle.shard.specs.Model as OneShard
use Rattle.shard.proofs.OwnBucketLaws.{view_of_slot, view_without_slot}
use Rattle.store.specs.Memory.{shard_in}
use Rattle.store.proofs.LendingLaws.{found_place_below}
use Rattle.settings.specs.declared.Limit.TheVariants.{Open}
use Rattle.settings.specs.Rate.{burst_of, config_of}
use Rattle.rules.specs.declared.Reply.{Reply}
use Rattle.rules.specs.Asks.{due_reply, peeked_in}
use Rattle.perkey.proofs.PeekLaws.{peek_of_too_much, viewed_due_is_told}
use borrow.Author.Rules.{rules}
use Rattle.perkey.proofs.peek_bucket.Goals as goal

-- The cost is at most the burst.
within : (c : goal.After-config) → c.args.cost ≤ burst_of c.args.rate
within c = omega (arith, c.if-capacity-cost.false, c.capacity.ensures)

-- The cost is at most the burst.
within_2 : (c : goal.After-config-config) → c.args.cost ≤ burst_of c.args.rate
within_2 c = omega (arith, c.if-capacity-cost.false, c.capacity.ensures)

-- The cost is at most the burst.
within_3 : (c : goal.After-returning_bucket-bucket) → c.args.cost ≤ burst_of c.args.rate
within_3 c = omega (arith, c.if-capacity-cost.false, c.capacity.ensures)

-- The cost is at most the burst.
within_4 : (c : goal.After-due_reply) → c.args.cost ≤ burst_of c.args.rate
within_4 c = omega (arith, c.if-capacity-cost.false, c.capacity.ensures)

-- The cost is at most the burst.
within_5 : (c : goal.After-due_reply-in-None) → c.args.cost ≤ burst_of c.args.rate
within_5 c = omega (arith, c.if-capacity-cost.false, c.capacity.ensures)

-- So it may be asked of a bucket at the rate that is made.
may-be-asked : (c : goal.After-config) {config : BucketConfig} → config ≡ config_of c.args.rate
    → Accepted config × (c.args.cost ≤ config.capacity)
may-be-asked c is = rw is (c.requires.2, within c)

-- So it may be asked of a bucket at the rate that is made.
may-be-asked_2 : (c : goal.After-config-config) {config : BucketConfig} → config ≡ config_of c.args.rate
    → Accepted config × (c.args.cost ≤ config.capacity)
may-be-asked_2 c is = rw is (c.requires.2, within_2 c)

-- So it may be asked of a bucket at the rate that is made.
may-be-asked_3 : (c : goal.After-returning_bucket-bucket) {config : BucketConfig} → config ≡ config_of c.args.rate
    → Accepted config × (c.args.cost ≤ config.capacity)
may-be-asked_3 c is = rw is (c.requires.2, within_3 c)

-- What is answered by the bucket viewed, by its due and its reply.
told_of : (c : goal.After-due_reply) {config : BucketConfig} {bucket : BucketCore} {due : Due} {told : Reply} → let a = c.args in
    config ≡ config_of a.rate → bucket ≡ OneShard.viewed config a.id a.at (shard_in a.part a.ws.now)
    → due ≡ due_at config bucket a.cost a.at → told ≡ due_reply due
    → told ≡ peeked_in (Open a.rate) a.at a.cost a.id (shard_in a.part a.ws.now)
told_of c is-config is-bucket is-due is-reply = let a = c.args in
    viewed_due_is_told a.rate a.at a.cost a.id (shard_in a.part a.ws.now) (within_4 c) is-config is-bucket is-due is-reply

-- What is answered by the bucket viewed, by its due and its reply.
told_of_2 : (c : goal.After-due_reply-in-None) {config : BucketConfig} {bucket : BucketCore} {due : Due} {told : Reply} → let a = c.args in
    config ≡ config_of a.rate → bucket ≡ OneShard.viewed config a.id a.at (shard_in a.part a.ws.now)
    → due ≡ due_at config bucket a.cost a.at → told ≡ due_reply due
    → told ≡ peeked_in (Open a.rate) a.at a.cost a.id (shard_in a.part a.ws.now)
told_of_2 c is-config is-bucket is-due is-reply = let a = c.args in
    viewed_due_is_told a.rate a.at a.cost a.id (shard_in a.part a.ws.now) (within_5 c) is-config is-bucket is-due is-reply

pub returns-then-capacity-cost : goal.returns-then-capacity-cost
returns-then-capacity-cost c = peek_of_too_much _ _ _ _ _ (rw c.capacity.ensures at c.if-capacity-cost.true)

pub bucket_at-bucket-requires : goal.bucket_at-bucket-requires
bucket_at-bucket-requires c = let may = c.requires in
    (may.0, may.1, found_place_below may.0 _ _ _ may.1 (sym c.position.ensures ∙ c.in-Some.is))

pub due_at-requires : goal.due_at-requires
due_at-requires c = may-be-asked c c.config.ensures

pub returning_bucket-bucket-requires : goal.returning_bucket-bucket-requires
returning_bucket-bucket-requires c = let may = c.requires in
    (may.0, may.1, (may-be-asked_2 c c.config-config.ensures).0)

pub due_at-requires-in-None : goal.due_at-requires-in-None
due_at-requires-in-None c = may-be-asked_3 c c.config-config.ensures

pub returns-in-Some : goal.returns-in-Some
returns-in-Some c = let at_place = sym c.position.ensures ∙ c.in-Some.is in
    told_of c c.config.ensures (c.bucket_at-bucket.ensures ∙ sym (view_of_slot _ _ _ _ _ at_place)) c.due_at.ensures
    c.due_reply.ensures

pub returns-in-None : goal.returns-in-None
returns-in-None c = let nowhere = sym c.position.ensures ∙ c.in-None.is in
    told_of_2 c c.config-config.ensures (c.returning_bucket-bucket.ensures ∙ sym (view_without_slot _ _ _ _ nowhere)) c.due_at-in-None.ensures
    c.due_reply-in-None.ensures
