-- The operations on the one shard that a key belongs to: a request, a view, a refund and a removal.
use Rattle.std.specs.Prelude.{ℕ, Bool, true, false, cond, ltb, Option, Some, None, Ok, Err}
use Rattle.units.specs.declared.Millis.{Millis}
use Rattle.units.specs.declared.Nanos.{Nanos}
use Rattle.units.specs.Units.{millis_of}
use Rattle.bucket.specs.declared.BucketConfig.{BucketConfig}
use Rattle.bucket.specs.declared.BucketCore.{BucketCore}
use Rattle.bucket.specs.declared.BucketDecision.{BucketDecision}
use Rattle.bucket.specs.declared.BucketDecision.TheVariants.{Denied}
use Rattle.bucket.specs.declared.BucketOutcome.{BucketOutcome}
use Rattle.bucket.specs.declared.Request.{Request}
use Rattle.bucket.specs.Bucket as Bucket
use Rattle.bucket.specs.Debt.{restored}
use Rattle.rows.specs.Outcome.{Outcome, outcome}
use Rattle.settings.specs.Eviction.{ttl_sweep, ledger_scan}
use Rattle.settings.specs.Rate.{time_to_full}
use Rattle.settings.specs.Settings.{idle_limit_of}
use Rattle.slot.specs.declared.Slot.{Slot}
use Rattle.slot.specs.Slot.{touched, with_bucket, with_asked, new_slot, read_turned_away}
use Rattle.ledger.specs.Model as Ledger
use Rattle.shard_map.specs.Model.{Shard, cap_of, slot_at, with_slot, with_ledger, in_ledger, place_of, remove_at, insert, sweep_idle}
use Rattle.evict.specs.Evict.{Room, evicted}
use Rattle.shard.specs.declared.Identity.{Identity}
use Rattle.shard.specs.declared.Policy.{Policy}

-- Whether last-seen is kept up to date: only where an idle time is set.
abbrev pub tracks : Option Nanos → Bool
tracks None = false
tracks (Some ttl) = true

-- A known key's slot is touched, and its bucket is asked. It is never refused for space. A try that its bucket denies counts as turned away.
abbrev pub asked_at : Policy → Slot → Request → ℕ → Nanos → BucketOutcome
asked_at p slot request cost at = Bucket.asked p.config request slot.bucket cost at

unfoldable pub with_existing : Policy → Request → ℕ → Nanos → Shard → ℕ → Outcome BucketDecision Shard
with_existing p request cost at s i =
    let slot = touched (slot_at s i) at (tracks p.idle_ttl) in
    outcome (asked_at p slot request cost at).decision (with_slot s i (with_asked slot (asked_at p slot request cost at)))

-- The idle limit, by the idle time and the time in which a bucket is full.
abbrev pub idle_limit_in : Policy → Option Millis
idle_limit_in p = idle_limit_of p.idle_ttl (time_to_full p.config)

-- The idle sweep runs where an idle time is set.
abbrev pub swept_idle : Policy → Nanos → Shard → Option Millis → Shard
swept_idle p at s None = s
swept_idle p at s (Some limit) = sweep_idle p.config at limit ttl_sweep s

-- Before a new key comes in: the idle sweep and the ledger's sweep; then an eviction, if the shard is full all the same.
abbrev pub swept : Policy → Nanos → Shard → Shard
swept p at s =
    let idle = swept_idle p at s (idle_limit_in p) in
    with_ledger idle (Ledger.sweep at ledger_scan idle.ledger)

unfoldable pub make_room : Policy → Nanos → Shard → Outcome Room Shard
make_room p at s =
    cond (ltb (swept p at s).slots.count (cap_of (swept p at s)))
    (outcome (Ok tt) (swept p at s))
    (evicted p.config at p.forget_debt (swept p at s))

-- The bucket of a key without a slot: a fresh one, in its debt if it has one.
abbrev pub returning : BucketConfig → Nanos → Option Nanos → BucketCore
returning c at None = Bucket.fresh c at
returning c at (Some settles) = restored c (Bucket.fresh c at) at settles

-- Room was made: the bucket is asked, and its slot comes last, unmarked, seen now, whatever the bucket answered. If it denied a try, that is the first try
-- turned away.
abbrev pub joined : Policy → Identity → Request → ℕ → Nanos → Option Nanos → Shard → Outcome BucketDecision Shard
joined p id request cost at owed s =
    let bucket = returning p.config at owed in
    let asked = Bucket.asked p.config request bucket cost at in
    outcome asked.decision (insert s (with_asked (new_slot id.hash id.key bucket (millis_of at)) asked))

-- A debt that was taken out goes back into the ledger.
abbrev pub put_back : ℕ → Nanos → Option Nanos → Shard → Shard
put_back hash at None s = s
put_back hash at (Some settles) s = with_ledger s (Ledger.recorded s.ledger (record { hash = hash; settles = settles }) at false).after

-- No room: the key is denied for want of space, and told when room is due. Its debt, if it had one, goes back. What was swept, cleared or moved stays so. A key
-- that had a debt is never refused for space (`admit` says why), so the code puts nothing back.
abbrev pub admitted : Policy → Identity → Request → ℕ → Nanos → Option Nanos → Shard → Room → Outcome BucketDecision Shard
admitted p id request cost at owed s (Ok _) = joined p id request cost at owed s
admitted p id request cost at owed s (Err due) = outcome (Denied due) (put_back id.hash at owed s)

-- A new key's own debt is taken out first: its place in the ledger is then free for the debt of a slot that has to go.
unfoldable pub admit : Policy → Identity → Request → ℕ → Nanos → Shard → Outcome BucketDecision Shard
admit p id request cost at s =
    let own = Ledger.taken s.ledger id.hash in
    let room = make_room p at (with_ledger s own.after) in
    admitted p id request cost at own.answer room.after room.answer

-- A request for a key.
abbrev pub asked_from : Policy → Identity → Request → ℕ → Nanos → Shard → Option ℕ → Outcome BucketDecision Shard
asked_from p id request cost at s (Some i) = with_existing p request cost at s i
asked_from p id request cost at s None = admit p id request cost at s

unfoldable pub with_or_insert : Policy → Identity → Request → ℕ → Nanos → Shard → Outcome BucketDecision Shard
with_or_insert p id request cost at s = asked_from p id request cost at s (place_of s id.hash id.key)

-- The bucket that a key has, or would have if it came in now. A view changes nothing.
abbrev pub viewed_from : BucketConfig → Identity → Nanos → Shard → Option ℕ → BucketCore
viewed_from c id at s (Some i) = (slot_at s i).bucket
viewed_from c id at s None = returning c at (Ledger.owed_by s.ledger id.hash)

unfoldable pub viewed : BucketConfig → Identity → Nanos → Shard → BucketCore
viewed c id at s = viewed_from c id at s (place_of s id.hash id.key)

-- What a key's own bucket decides on a request.
abbrev pub own_decision : BucketConfig → Identity → Request → ℕ → Nanos → Shard → BucketDecision
own_decision c id request cost at s = (Bucket.asked c request (viewed c id at s) cost at).decision

-- How many tries of a key its bucket has turned away, from the call that appended its slot on. A key without a slot has none.
abbrev pub turned_away_at : Shard → Option ℕ → ℕ
turned_away_at s (Some i) = read_turned_away (slot_at s i)
turned_away_at s None = 0

unfoldable pub turn_aways : Identity → Shard → ℕ
turn_aways id s = turned_away_at s (place_of s id.hash id.key)

-- Whether there is a debt, and a slot.
abbrev pub has_debt : Option Nanos → Bool
has_debt None = false
has_debt (Some settles) = true

abbrev pub has_slot : Option ℕ → Bool
has_slot (Some i) = true
has_slot None = false

-- A key holds a slot, or a debt of its hash.
unfoldable pub holds : Identity → Shard → Bool
holds id s = cond (has_slot (place_of s id.hash id.key)) true (has_debt (Ledger.owed_by s.ledger id.hash))

-- A refund goes to the slot, else off the debt; whether the key had either is told.
abbrev pub refunded_from : BucketConfig → Identity → ℕ → Shard → Option ℕ → Outcome Bool Shard
refunded_from c id cost s (Some i) = outcome true (with_slot s i (with_bucket (slot_at s i) (Bucket.refunded c (slot_at s i).bucket cost)))
refunded_from c id cost s None = in_ledger s (Ledger.paid_down s.ledger id.hash cost c)

unfoldable pub refunded : BucketConfig → Identity → ℕ → Shard → Outcome Bool Shard
refunded c id cost s = refunded_from c id cost s (place_of s id.hash id.key)

-- A removal takes the debt of the hash and the slot of the key; whether there was either is told.
abbrev pub removed_from : Shard → Bool → Option ℕ → Outcome Bool Shard
removed_from s owing (Some i) = outcome true (remove_at s i)
removed_from s owing None = outcome owing s

unfoldable pub removed : Identity → Shard → Outcome Bool Shard
removed id s =
    let debt = Ledger.taken s.ledger id.hash in
    removed_from (with_ledger s debt.after) (has_debt debt.answer) (place_of s id.hash id.key)
