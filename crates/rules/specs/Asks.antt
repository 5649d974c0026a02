-- What a call asks of a key, and the rule of it in the key's shard, given the class buckets. No words of the store appear here: `Rules` lends a call the shard
-- of its key.
use Rattle.std.specs.Prelude.{ℕ, Bool, true, false, not, cond, List, ltb, eqb}
use Rattle.rows.specs.Outcome.{Outcome, outcome}
use Rattle.units.specs.declared.Nanos.{Nanos}
use Rattle.bucket.specs.declared.BucketCore.{BucketCore}
use Rattle.bucket.specs.declared.BucketDecision.{BucketDecision}
use Rattle.bucket.specs.declared.BucketDecision.TheVariants.{Allowed, Denied}
use Rattle.bucket.specs.declared.Request.{Request}
use Rattle.bucket.specs.declared.Request.TheVariants.{Acquire, Reserve, Through}
use Rattle.bucket.specs.declared.Due.{Due}
use Rattle.bucket.specs.Bucket.{due_after, due_at, available_at}
use Rattle.settings.specs.declared.Limit.{Limit}
use Rattle.settings.specs.declared.Limit.TheVariants.{Closed, Open}
use Rattle.settings.specs.declared.Settings.{Settings}
use Rattle.settings.specs.declared.decision.Decision.{Decision}
use Rattle.settings.specs.declared.decision.Decision.TheVariants.{Acquired, Retry, Impossible}
use Rattle.settings.specs.declared.eviction.WhenFull.{WhenFull}
use Rattle.settings.specs.declared.eviction.WhenFull.TheVariants.{RefuseNew, ForgetDebt}
use Rattle.settings.specs.declared.rate.Rate.{Rate}
use Rattle.settings.specs.Rate.{config_of}
use Rattle.settings.specs.Settings.{first_refusal, with_classes}
use Rattle.classes.specs.declared.Class.{Class}
use Rattle.classes.specs.Classes.{longest_chain, table_refusal, number_refusal}
use Rattle.classes.specs.Chains.{chain, least_burst, chain_wait, charged}
use Rattle.classes.specs.Layout.{class_count, classes_in}
use Rattle.shard_map.specs.Model.{Shard}
use Rattle.shard.specs.declared.Identity.{Identity}
use Rattle.shard.specs.declared.Policy.{Policy}
use Rattle.shard.specs.Model as OneShard
use Rattle.store.specs.Refusals.{moment_refusal, wait_refusal}
use Rattle.rules.specs.declared.Reply.{Reply}
use Rattle.rules.specs.declared.Reply.TheVariants.{Tried, Reserved, Nothing, Done, Count}
use Rattle.rules.specs.Replies.{of_grant, Kind, decides, reserves, counts, knows}

-- What a look at a key asks: at a moment, what a try for N tokens would be answered, or how many tokens there are; at no moment, how many tries of the key
-- its bucket has turned away.
pub data Look : Type 0 where
  peeks : Nanos → ℕ → Look
  tokens : Nanos → Look
  turn_aways : Look

-- How what a key spent is undone: N tokens are given back, or the key is forgotten.
pub data Undo : Type 0 where
  refunds : ℕ → Undo
  removes : Undo

-- What a call asks of a key: a request (a try or a reservation) at a moment for N tokens, a look, the undoing of what the key spent, or a try that passes
-- through a class: with the words of the class table, the number of the class, the moment and N tokens.
pub data Ask : Type 0 where
  requests : Request → Nanos → ℕ → Ask
  looks : Look → Ask
  undoes : Undo → Ask
  passes : List ℕ → ℕ → Nanos → ℕ → Ask

-- The settings that a class table belongs to have its number of classes.
abbrev pub with_table : List ℕ → Settings → Settings
with_table table s = with_classes (class_count table) s

-- The settings that an ask goes by: those that it is given; a try through a class takes the number of classes from its table.
abbrev pub in_force : Ask → Settings → Settings
in_force (requests r at cost) s = s
in_force (looks l) s = s
in_force (undoes u) s = s
in_force (passes table class at cost) s = with_table table s

-- A request is answered as a try, which is granted now or not at all, or as a reservation, which is granted for later.
pub data Manner : Type 0 where
  as_try : Manner
  as_reservation : Manner

abbrev pub manner_of : Request → Manner
manner_of Acquire = as_try
manner_of (Reserve longest) = as_reservation
manner_of (Through others) = as_try

-- The clock after an ask, given the clock before: the moment of the ask, if it has one.
abbrev pub clock_after_look : Look → ℕ → ℕ
clock_after_look (peeks at cost) before = at.0
clock_after_look (tokens at) before = at.0
clock_after_look turn_aways before = before

abbrev pub clock_after_ask : Ask → ℕ → ℕ
clock_after_ask (requests r at cost) before = at.0
clock_after_ask (looks l) before = clock_after_look l before
clock_after_ask (undoes u) before = before
clock_after_ask (passes table class at cost) before = at.0

-- The kind of the reply to an ask.
abbrev pub kind_in : Manner → Kind
kind_in as_try = decides
kind_in as_reservation = reserves

abbrev pub kind_of_look : Look → Kind
kind_of_look (peeks at cost) = decides
kind_of_look (tokens at) = counts
kind_of_look turn_aways = counts

abbrev pub kind_of_ask : Ask → Kind
kind_of_ask (requests r at cost) = kind_in (manner_of r)
kind_of_ask (looks l) = kind_of_look l
kind_of_ask (undoes u) = knows
kind_of_ask (passes table class at cost) = decides

-- The number by which an ask is refused after the settings and the memory; 0 if it is not refused. 6 is for a late moment. Then a reservation has 7 for a
-- longest wait that is too long. A try through a class has the number of its table, and last 14 for a class that is not in it.
abbrev pub further_to : Request → Nanos → ℕ
further_to Acquire at = moment_refusal at
further_to (Reserve longest) at = first_refusal (moment_refusal at) (wait_refusal longest)
further_to (Through others) at = moment_refusal at

abbrev pub further_of_look : Look → ℕ
further_of_look (peeks at cost) = moment_refusal at
further_of_look (tokens at) = moment_refusal at
further_of_look turn_aways = 0

abbrev pub further_through : List Class → ℕ → Nanos → ℕ
further_through cs class at = first_refusal (moment_refusal at) (first_refusal (table_refusal cs) (number_refusal cs class))

abbrev pub further_of : Ask → ℕ
further_of (requests r at cost) = further_to r at
further_of (looks l) = further_of_look l
further_of (undoes u) = 0
further_of (passes table class at cost) = further_through (classes_in table) class at

-- Whether a full ledger forgets a debt rather than turning a new key away; and the settings that a shard needs.
abbrev pub forgets : WhenFull → Bool
forgets RefuseNew = false
forgets ForgetDebt = true

abbrev pub policy_of : Settings → Rate → Policy
policy_of s rate = record { config = config_of rate; idle_ttl = s.eviction.idle_ttl; forget_debt = forgets s.eviction.when_full }

-- Due at the moment itself, without a wait.
abbrev pub due_now : Nanos → Due
due_now at = due_after at (record { 0 = 0 })

-- A closed limiter's answer to a try or a peek: cost 0 is granted, any other cost is impossible.
unfoldable pub closed : Nanos → ℕ → Decision
closed at cost = cond (eqb cost 0) (Acquired (due_now at)) Impossible

-- The answer to a request on a closed limiter: a reservation gets none, even of cost 0.
abbrev pub closed_to : Manner → Nanos → ℕ → Reply
closed_to as_try at cost = Tried (closed at cost)
closed_to as_reservation at cost = Nothing

-- The answer for more tokens than a full bucket holds.
abbrev pub too_much : Manner → Reply
too_much as_try = Tried Impossible
too_much as_reservation = Nothing

-- The answer for cost 0, if there is a rate: it is granted.
abbrev pub at_once : Manner → Nanos → Reply
at_once as_try at = Tried (Acquired (due_now at))
at_once as_reservation at = Reserved (due_now at)

-- The answer by what was decided, by a bucket or for lack of space: a try is granted now, or is to be made again; a reservation is granted with its wait, or
-- there is none.
abbrev pub reply_to : Manner → BucketDecision → Reply
reply_to as_try (Allowed due) = Tried (Acquired due)
reply_to as_try (Denied due) = Tried (Retry due)
reply_to as_reservation (Allowed due) = Reserved due
reply_to as_reservation (Denied due) = Nothing

-- What an operation on a shard gives, with its answer as a reply.
abbrev pub replied_as : {A : Type 0} → (A → Reply) → Outcome A Shard → Outcome Reply Shard
replied_as reply o = outcome (reply o.answer) o.after

-- A request in its key's shard. Only a cost from 1 to a full bucket reaches the bucket, and only where there is a rate; any other leaves the shard as it is.
unfoldable pub asked_in : Request → Limit → Settings → Nanos → Identity → ℕ → Shard → Outcome Reply Shard
asked_in r Closed s at id cost own = outcome (closed_to (manner_of r) at cost) own
asked_in r (Open rate) s at id cost own =
    cond (ltb (config_of rate).capacity cost) (outcome (too_much (manner_of r)) own)
    (cond (eqb cost 0) (outcome (at_once (manner_of r) at) own)
    (replied_as (reply_to (manner_of r)) (OneShard.with_or_insert (policy_of s rate) id r cost at own)))

-- A peek: when the bucket that the key has, or would have if it came in now, has the cost.
unfoldable pub due_reply : Due → Reply
due_reply due = cond (eqb due.wait.0 0) (Tried (Acquired due)) (Tried (Retry due))

unfoldable pub peeked_in : Limit → Nanos → ℕ → Identity → Shard → Reply
peeked_in Closed at cost id own = Tried (closed at cost)
peeked_in (Open rate) at cost id own =
    cond (ltb (config_of rate).capacity cost) (Tried Impossible) (due_reply (due_at (config_of rate) (OneShard.viewed (config_of rate) id at own) cost at))

-- Available: the tokens of the same bucket.
abbrev pub tokens_in : Limit → Nanos → Identity → Shard → ℕ
tokens_in Closed at id own = 0
tokens_in (Open rate) at id own = available_at (config_of rate) (OneShard.viewed (config_of rate) id at own) at

-- A look. The count of tries turned away is told on a closed limiter too.
abbrev pub looked_in : Look → Limit → Identity → Shard → Reply
looked_in (peeks at cost) limit id own = peeked_in limit at cost id own
looked_in (tokens at) limit id own = Count (tokens_in limit at id own)
looked_in turn_aways limit id own = Count (OneShard.turn_aways id own)

-- Whether a key was known.
abbrev pub known_reply : Bool → Reply
known_reply true = Done
known_reply false = Nothing

-- A refund and a removal. To a refund on a closed limiter every key is unknown.
abbrev pub undone_in : Undo → Limit → Identity → Shard → Outcome Reply Shard
undone_in (refunds cost) Closed id own = outcome Nothing own
undone_in (refunds cost) (Open rate) id own = replied_as known_reply (OneShard.refunded (config_of rate) id cost own)
undone_in removes limit id own = replied_as known_reply (OneShard.removed id own)

-- The chain of a class: the class, its parent, and so on.
abbrev pub chain_of : List Class → ℕ → List ℕ
chain_of cs class = chain longest_chain cs class

-- A try that waits for the buckets on the chain of a class, too.
abbrev pub through_chain : List Class → ℕ → Nanos → ℕ → List BucketCore → Request
through_chain cs class at cost buckets = Through (record { 0 = chain_wait cs cost at buckets (chain_of cs class) })

-- A try through a class, in the key's shard. A cost over a burst on the chain is impossible. Any other is asked as such a try.
unfoldable pub passed_in : Settings → Identity → List Class → ℕ → Nanos → ℕ → List BucketCore → Shard → Outcome Reply Shard
passed_in s id cs class at cost buckets own =
    cond (ltb (least_burst cs (chain_of cs class)) cost) (outcome (Tried Impossible) own)
    (asked_in (through_chain cs class at cost buckets) s.limit s at id cost own)

-- What a call that is not refused answers, and what it leaves in the shard of its key. A look leaves the shard as it is.
abbrev pub in_its_shard : Settings → Identity → Ask → List BucketCore → Shard → Outcome Reply Shard
in_its_shard s id (requests r at cost) buckets own = asked_in r s.limit s at id cost own
in_its_shard s id (looks l) buckets own = outcome (looked_in l s.limit id own) own
in_its_shard s id (undoes u) buckets own = undone_in u s.limit id own
in_its_shard s id (passes table class at cost) buckets own = passed_in s id (classes_in table) class at cost buckets own

-- Whether a reply grants at least one token.
abbrev pub grants_some : ℕ → Reply → Bool
grants_some cost reply = of_grant (λ wait. not (eqb cost 0)) false reply

-- The class buckets after an ask, by its reply: a granted try through a class, of a cost that is not 0, charges every bucket on the chain. No other ask touches
-- them.
abbrev pub buckets_after : Ask → Reply → List BucketCore → List BucketCore
buckets_after (requests r at cost) reply buckets = buckets
buckets_after (looks l) reply buckets = buckets
buckets_after (undoes u) reply buckets = buckets
buckets_after (passes table class at cost) reply buckets =
    cond (grants_some cost reply) (charged (classes_in table) cost at buckets (chain_of (classes_in table) class)) buckets
