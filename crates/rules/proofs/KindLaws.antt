-- Every ask is answered in its kind, with its moment, and never with a number of a refusal.
use Prim.Native.Nat.{ℕ}
use mathlib.Core.Path.{◌≡◌, refl}
use mathlib.Core.Bool.{Bool, true, false}
use mathlib.Core.List.{List}
use lib.Dec.{ltb, eqb}
use native.Mathlib.Omega.{arith}
use borrow.Author.Tests.{eqb-true}
use Rattle.arith.proofs.Cases.{by_test}
use Rattle.units.specs.declared.Nanos.{Nanos}
use Rattle.bucket.specs.declared.BucketCore.{BucketCore}
use Rattle.bucket.specs.declared.BucketDecision.{BucketDecision}
use Rattle.bucket.specs.declared.Request.{Request}
use Rattle.bucket.specs.declared.Request.TheVariants.{Acquire, Reserve, Through}
use Rattle.bucket.specs.Bucket.{due_after}
use Rattle.bucket.proofs.BucketLaws.{due_by_number}
use Rattle.settings.specs.declared.Limit.{Limit}
use Rattle.settings.specs.declared.Limit.TheVariants.{Closed, Open}
use Rattle.settings.specs.declared.Settings.{Settings}
use Rattle.settings.specs.declared.decision.Decision.TheVariants.{Acquired, Retry, Impossible}
use Rattle.settings.specs.Rate.{config_of}
use Rattle.classes.specs.declared.Class.{Class}
use Rattle.classes.specs.Chains.{least_burst}
use Rattle.classes.specs.Layout.{classes_in}
use Rattle.shard_map.specs.Model.{Shard}
use Rattle.shard.specs.declared.Identity.{Identity}
use Rattle.shard.specs.Model as OneShard
use Rattle.shard.proofs.DueLaws.{TellsItsMoment, granted, denied, every_answer_tells_its_moment}
use Rattle.rules.specs.declared.Reply.{Reply}
use Rattle.rules.specs.declared.Reply.TheVariants.{Tried, Reserved, Nothing, Done, Count}
use Rattle.rules.specs.Replies.{numbered, Kind, decides, reserves, counts, knows}
use Rattle.rules.specs.Asks as Asks
use Rattle.rules.specs.Asks.{Look, peeks, tokens, turn_aways, Undo, refunds, removes, Ask, requests, looks, undoes, passes, Manner, as_try, as_reservation}
use Rattle.rules.specs.Asks.{manner_of}
use Rattle.rules.specs.Asks.{clock_after_ask, kind_in, kind_of_look, kind_of_ask, in_its_shard}

-- A reply of each kind, to an ask at a moment. A grant and a retry have that moment plus their wait; Acquired has no wait.
pub data OfKind (at : Nanos) : Kind → Reply → Type 0 where
  acquired : OfKind at decides (Tried (Acquired (Asks.due_now at)))
  retried : (wait : Nanos) → OfKind at decides (Tried (Retry (due_after at wait)))
  impossible : OfKind at decides (Tried Impossible)
  reserved : (wait : Nanos) → OfKind at reserves (Reserved (due_after at wait))
  not_reserved : OfKind at reserves Nothing
  counted : (n : ℕ) → OfKind at counts (Count n)
  known : OfKind at knows Done
  unknown : OfKind at knows Nothing

-- The moment of an ask; 0 for one that has none.
abbrev pub moment_in : Ask → Nanos
moment_in ask = record { 0 = clock_after_ask ask 0 }

no_wait_is_now : (at wait : Nanos) → wait.0 ≡ 0 → OfKind at decides (Tried (Acquired (due_after at wait)))
no_wait_is_now at wait none = rw (due_by_number at wait none) acquired

-- A request, by its manner.
closed_decides : (at : Nanos) (cost : ℕ) → OfKind at decides (Tried (Asks.closed at cost))
unfolding Asks.closed
closed_decides at cost = by_test (eqb cost 0) (λ t. rw t acquired) (λ t. rw t impossible)

closed_in_kind : (at : Nanos) (m : Manner) (cost : ℕ) → OfKind at (kind_in m) (Asks.closed_to m at cost)
closed_in_kind at as_try cost = closed_decides at cost
closed_in_kind at as_reservation cost = not_reserved

too_much_in_kind : (at : Nanos) (m : Manner) → OfKind at (kind_in m) (Asks.too_much m)
too_much_in_kind at as_try = impossible
too_much_in_kind at as_reservation = not_reserved

at_once_in_kind : (at : Nanos) (m : Manner) → OfKind at (kind_in m) (Asks.at_once m at)
at_once_in_kind at as_try = acquired
at_once_in_kind at as_reservation = reserved _

reply_in_kind : (r : Request) {at : Nanos} {d : BucketDecision} → TellsItsMoment r at d → OfKind at (kind_in (manner_of r)) (Asks.reply_to (manner_of r) d)
reply_in_kind Acquire {at} (granted wait within others') = no_wait_is_now at wait (omega arith)
reply_in_kind Acquire (denied wait) = retried wait
reply_in_kind (Reserve longest) (granted wait within others') = reserved wait
reply_in_kind (Reserve longest) (denied wait) = not_reserved
reply_in_kind (Through others) {at} (granted wait within others') = no_wait_is_now at wait (omega arith)
reply_in_kind (Through others) (denied wait) = retried wait

asked_in_kind : (r : Request) (limit : Limit) (s : Settings) (at : Nanos) (id : Identity) (cost : ℕ) (own : Shard)
    → OfKind at (kind_in (manner_of r)) (Asks.asked_in r limit s at id cost own).answer
unfolding Asks.asked_in
asked_in_kind r Closed s at id cost own = closed_in_kind at (manner_of r) cost
asked_in_kind r (Open rate) s at id cost own =
    by_test (ltb (config_of rate).capacity cost)
    (λ more. rw more (too_much_in_kind at (manner_of r)))
    (λ most.
    by_test (eqb cost 0)
    (λ none. rw (most, none) (at_once_in_kind at (manner_of r)))
    (λ some. rw (most, some) (reply_in_kind r (every_answer_tells_its_moment (Asks.policy_of s rate) id r cost at own))))

-- A look.
due_decides : (at wait : Nanos) → OfKind at decides (Asks.due_reply (due_after at wait))
unfolding Asks.due_reply
due_decides at wait = by_test (eqb wait.0 0) (λ t. rw t (no_wait_is_now at wait (eqb-true _ _ t))) (λ t. rw t (retried wait))

peeked_in_kind : (limit : Limit) (at : Nanos) (cost : ℕ) (id : Identity) (own : Shard) → OfKind at decides (Asks.peeked_in limit at cost id own)
unfolding Asks.peeked_in
peeked_in_kind Closed at cost id own = closed_decides at cost
peeked_in_kind (Open rate) at cost id own =
    by_test (ltb (config_of rate).capacity cost) (λ t. rw t impossible) (λ t. rw t (due_decides at _))

looked_in_kind : (l : Look) (limit : Limit) (id : Identity) (own : Shard) → OfKind (moment_in (looks l)) (kind_of_look l) (Asks.looked_in l limit id own)
looked_in_kind (peeks at cost) limit id own = peeked_in_kind limit at cost id own
looked_in_kind (tokens at) limit id own = counted _
looked_in_kind turn_aways limit id own = counted _

-- An undoing.
key_is_known_or_not : (at : Nanos) (b : Bool) → OfKind at knows (Asks.known_reply b)
key_is_known_or_not at true = known
key_is_known_or_not at false = unknown

undone_in_kind : (at : Nanos) (u : Undo) (limit : Limit) (id : Identity) (own : Shard) → OfKind at knows (Asks.undone_in u limit id own).answer
undone_in_kind at (refunds cost) Closed id own = unknown
undone_in_kind at (refunds cost) (Open rate) id own = key_is_known_or_not at (OneShard.refunded (config_of rate) id cost own).answer
undone_in_kind at removes limit id own = key_is_known_or_not at (OneShard.removed id own).answer

-- A try through a class.
passed_in_kind : (s : Settings) (id : Identity) (cs : List Class) (class : ℕ) (at : Nanos) (cost : ℕ) (buckets : List BucketCore) (own : Shard)
    → OfKind at decides (Asks.passed_in s id cs class at cost buckets own).answer
unfolding Asks.passed_in
passed_in_kind s id cs class at cost buckets own =
    by_test (ltb (least_burst cs (Asks.chain_of cs class)) cost)
    (λ over. rw over impossible)
    (λ within. rw within (asked_in_kind (Asks.through_chain cs class at cost buckets) s.limit s at id cost own))

pub asks_are_answered_in_kind : (s : Settings) (id : Identity) (ask : Ask) (buckets : List BucketCore) (own : Shard)
    → OfKind (moment_in ask) (kind_of_ask ask) (in_its_shard s id ask buckets own).answer
asks_are_answered_in_kind s id (requests r at cost) buckets own = asked_in_kind r s.limit s at id cost own
asks_are_answered_in_kind s id (looks l) buckets own = looked_in_kind l s.limit id own
asks_are_answered_in_kind s id (undoes u) buckets own = undone_in_kind _ u s.limit id own
asks_are_answered_in_kind s id (passes table class at cost) buckets own = passed_in_kind s id (classes_in table) class at cost buckets own

-- No reply of a kind is a number of a refusal.
pub in_kind_not_numbered : {at : Nanos} {kind : Kind} {r : Reply} → OfKind at kind r → numbered r ≡ false
in_kind_not_numbered acquired = refl
in_kind_not_numbered (retried wait) = refl
in_kind_not_numbered impossible = refl
in_kind_not_numbered (reserved wait) = refl
in_kind_not_numbered not_reserved = refl
in_kind_not_numbered (counted n) = refl
in_kind_not_numbered known = refl
in_kind_not_numbered unknown = refl
