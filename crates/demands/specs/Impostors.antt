-- Implementations of the calls that look as if they kept the promises: the six of document 01, and five more. Each of them fails demand 2
-- (proofs/ImpostorLaws.antt). The one that counts a key too many and the one that turns newcomers away meet demand 3 (proofs/TellingLaws.antt). The one that
-- tells no moments fails `TellsMoments`; whether it meets demand 3 is not shown. All others are shown to fail demand 3.
use Rattle.std.specs.Prelude.{ℕ, ◌+◌, min, Bool, cond, List, [], ◌∷◌}
use Rattle.rows.specs.Outcome.{outcome}
use Rattle.bucket.specs.declared.Due.{Due}
use Rattle.bucket.specs.declared.BucketDecision.{BucketDecision}
use Rattle.bucket.specs.declared.BucketDecision.TheVariants.{Allowed, Denied}
use Rattle.bucket.specs.Bucket.{due_after}
use Rattle.ledger.specs.Model as Ledger
use Rattle.shard_map.specs.Model.{Shard, with_ledger, place_of}
use Rattle.evict.specs.Evict.{min_refusal_wait}
use Rattle.shard.specs.declared.Identity.{Identity}
use Rattle.shard.specs.Model.{has_slot, holds}
use Rattle.rules.specs.declared.Reply.{Reply}
use Rattle.settings.specs.declared.decision.Decision.TheVariants.{Acquired, Retry, Impossible}
use Rattle.rules.specs.declared.Reply.TheVariants.{Tried, Reserved, Nothing, Done, Count, Refused}
use Rattle.store.specs.Memory.{shard_at, in_shard}
use Rattle.units.specs.declared.Nanos.{Nanos}
use Rattle.settings.specs.declared.Settings.{Settings}
use Rattle.rules.specs.Replies.{number_of, numbered}
use Rattle.rules.specs.Asks.{Ask, requests, looks, undoes, passes, as_try, manner_of, due_now, reply_to}
use Rattle.rules.specs.Calls.{keyed, whole, len, debts, by_key, clock_after}
use Rattle.rules.specs.Calls as Calls
use Rattle.modems.specs.Names.{Name, key, address, by_name}
use Rattle.demands.specs.ByKey.{Call, Implementation, rules}

-- By the kind of a call: a value for a request and for a try through a class, given how its answer is told; for a length; and for any other call, a list of
-- debts among them.
abbrev by_kind : {A : Type 0} → ((BucketDecision → Reply) → A) → A → A → Call → A
by_kind requested length other (keyed s id (requests r at cost)) = requested (reply_to (manner_of r))
by_kind requested length other (keyed s id (looks l)) = other
by_kind requested length other (keyed s id (undoes u)) = other
by_kind requested length other (keyed s id (passes table class at cost)) = requested (reply_to as_try)
by_kind requested length other (whole s len) = length
by_kind requested length other (whole s (debts at i room)) = other

-- The key that a call names. A length and a list of debts name none, and have the hash 0 here, whose shard is the first.
abbrev identity_of : Call → Identity
identity_of (keyed s id ask) = id
identity_of (whole s what) = record { hash = 0; key = 0 }

-- Its moment; 0 for a call that names none.
abbrev moment_in : Call → Nanos
moment_in c = record { 0 = clock_after c 0 }

-- The shard of that key.
abbrev own_shard : Call → List ℕ → Shard
own_shard c ws = shard_at (Calls.settings_of by_key c) (identity_of c).hash ws

-- The answer to a request that is turned away for lack of space, and to one that is granted at once.
abbrev no_space : Call → BucketDecision
no_space c = Denied (due_after (moment_in c) (record { 0 = min_refusal_wait }))

abbrev granted_at_once : Call → BucketDecision
granted_at_once c = Allowed (due_now (moment_in c))

-- The first: everything is impossible, and no word changes.
abbrev pub impossible_to_all : Implementation
impossible_to_all c ws = outcome (Tried Impossible) ws

-- The next three answer a request in their own way and change no word by it; they leave the other calls to the rules.
abbrev with_requests : ((BucketDecision → Reply) → Call → List ℕ → Reply) → Implementation
with_requests reply c ws = by_kind (λ told. outcome (reply told c ws) ws) (rules c ws) (rules c ws) c

-- The second: a request is turned away for lack of space, without a look whether there is any.
abbrev pub retry_before_a_look : Implementation
retry_before_a_look = with_requests (λ told c ws. told (no_space c))

-- The third: a request is granted, whatever the bucket holds.
abbrev pub always_acquired : Implementation
always_acquired = with_requests (λ told c ws. told (granted_at_once c))

-- The fourth: a request is answered as the rules answer it, and nothing is stored.
abbrev pub grants_without_storing : Implementation
grants_without_storing = with_requests (λ told c ws. (rules c ws).answer)

-- The fifth: the rules, on a shard whose ledger knows its first debt only.
abbrev with_first_debt : Shard → Shard
with_first_debt s = with_ledger s (Ledger.with_count s.ledger (min 1 s.ledger.debts.count))

abbrev pub first_debt_only : Implementation
first_debt_only c ws = rules c (in_shard (Calls.settings_of by_key c) (identity_of c).hash ws (outcome (tt {0}) (with_first_debt (own_shard c ws)))).after

-- Those made by `telling` leave the words that the rules leave, and tell something else.
abbrev pub telling : (Call → List ℕ → Reply) → Implementation
telling told c ws = outcome (told c ws) (rules c ws).after

-- The sixth: one key too many is counted.
abbrev one_more : Reply → Reply
one_more reply = cond (numbered reply) reply (Count (number_of reply + 1))

abbrev pub invented : Call → List ℕ → Reply
invented c ws = by_kind (λ told. (rules c ws).answer) (one_more (rules c ws).answer) (rules c ws).answer c

abbrev pub invented_length : Implementation
invented_length = telling invented

-- A request is turned away for lack of space, unless its key is found in its shard.
abbrev pub turned_away_unless : (Identity → Shard → Bool) → Call → List ℕ → Reply
turned_away_unless found c ws =
    by_kind (λ told. cond (found (identity_of c) (own_shard c ws)) (rules c ws).answer (told (no_space c))) (rules c ws).answer (rules c ws).answer c

-- The second, finer: a key without a slot is turned away, and so is one with a debt.
abbrev pub turns_slotless_away : Implementation
turns_slotless_away = telling (turned_away_unless (λ id s. has_slot (place_of s id.hash id.key)))

-- Finer still: a key with neither a slot nor a debt is turned away. The words are as if it had been let in, so that it is known when it asks again.
abbrev pub turns_newcomers_away : Implementation
turns_newcomers_away = telling (turned_away_unless holds)

-- The rules, blind to the key: a call's key is taken for the one whose number is its hash.
abbrev blind : Identity → Identity
blind id = record { hash = id.hash; key = id.hash }

abbrev blindly : Call → Call
blindly (keyed s id ask) = keyed s (blind id) ask
blindly (whole s what) = whole s what

abbrev pub blind_to_keys : Implementation
blind_to_keys c ws = rules (blindly c) ws

-- The rules, with no moment told: a grant and a retry are told with the moment 0 (request 1 of document 02).
abbrev at_no_moment : Due → Due
at_no_moment due = record { wait = due.wait; moment = record { 0 = 0 } }

abbrev without_moment : Reply → Reply
without_moment (Tried (Acquired due)) = Tried (Acquired (at_no_moment due))
without_moment (Tried (Retry due)) = Tried (Retry (at_no_moment due))
without_moment (Tried Impossible) = Tried Impossible
without_moment (Reserved due) = Reserved (at_no_moment due)
without_moment Nothing = Nothing
without_moment Done = Done
without_moment (Count n) = Count n
without_moment (Refused n) = Refused n

abbrev pub tells_no_moment : Implementation
tells_no_moment = telling (λ c ws. without_moment (rules c ws).answer)

-- The rules by key, and by address the rules with the last byte taken for 0: modems whose addresses differ in it alone share a bucket.
abbrev last_byte_forgotten : List ℕ → List ℕ
last_byte_forgotten [] = []
last_byte_forgotten (byte ∷ []) = 0 ∷ []
last_byte_forgotten (byte ∷ next ∷ bytes) = byte ∷ last_byte_forgotten (next ∷ bytes)

abbrev shortened : Name → Name
shortened (key id) = key id
shortened (address bytes) = address (last_byte_forgotten bytes)

abbrev shortened_in : Calls.Call Settings Name → Calls.Call Settings Name
shortened_in (keyed s n ask) = keyed s (shortened n) ask
shortened_in (whole s what) = whole s what

abbrev pub right_by_key_alone : Calls.Implementation Settings Name
right_by_key_alone c ws = Calls.rules by_name (shortened_in c) ws
