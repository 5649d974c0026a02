-- An implementation that leaves the words of the rules, grants nothing that they do not grant, and tells a key that holds a slot or a debt what they tell it,
-- meets demand 3. So does one that turns every newcomer away at first, and one that invents the length: demand 2 shuts them out.
use Prim.Native.Nat.{ℕ, ◌≤◌}
use native.Mathlib.Omega.{arith}
use native.Mathlib.Nat.{mul-le-mul_right, le_trans}
use mathlib.Core.Path.{◌≡◌, refl, sym, ◌∙◌}
use mathlib.Core.Bool.{true≢false}
use mathlib.Core.List.{List, [], ◌∷◌}
use Rattle.arith.proofs.Cases.{by_test}
use Rattle.units.specs.declared.Nanos.{Nanos}
use Rattle.bucket.specs.declared.BucketDecision.TheVariants.{Denied}
use Rattle.bucket.specs.declared.Due.{Due}
use Rattle.bucket.specs.Bucket.{due_after}
use Rattle.evict.specs.Evict.{min_refusal_wait}
use Rattle.shard.specs.declared.Identity.{Identity}
use Rattle.shard.specs.Model.{holds}
use Rattle.rules.specs.declared.Reply.{Reply}
use Rattle.store.specs.Memory.{shard_at}
use Rattle.rules.specs.Replies.{of_grant}
use Rattle.classes.specs.declared.Class.{Class}
use Rattle.classes.specs.Classes.{class_at}
use Rattle.rules.specs.Asks.{requests, looks, undoes, passes, with_table, Manner, as_try, as_reservation, manner_of, reply_to}
use Rattle.rules.specs.Calls as Calls
use Rattle.rules.specs.Calls.{keyed, whole, len, debts, by_key, Every}
use Rattle.demands.specs.ByKey.{Call, Implementation, rules, Answered, replies, accepted, TimesNeverFall, NoSharedHash, tokens_of, tokens_usable, DecidedBy}
use Rattle.demands.specs.ByKey.{answering, Window, Demand3}
use Rattle.demands.specs.Demands.{usable, usable_from, table_words}
use Rattle.demands.proofs.ClassTheorem.{rules_stay_within_class_windows}
use Rattle.demands.specs.Demands as Demands
use Rattle.demands.specs.Impostors.{telling, invented, invented_length, turned_away_unless, turns_newcomers_away}
use Rattle.demands.proofs.OwnBucket.{ruled, rules_decide_by_own_bucket}
use Rattle.demands.proofs.Theorem.{rules_stay_within_the_window}

-- The conditions of the window look at the calls and at the rules' words, and not at the answers: they hold of two implementations alike.
abbrev LooksAtNoReply : (Answered → Type 0) → Type 0
LooksAtNoReply Q =
    (c : Call) (r q : Reply) (ws : List ℕ) → Q (record { call = c; reply = r; rules_words = ws }) → Q (record { call = c; reply = q; rules_words = ws })

module _ (f g : Implementation) where
  alike_in_every : (Q : Answered → Type 0) → LooksAtNoReply Q → (cs : List Call) (ws vs law : List ℕ)
      → Every Q (replies f cs ws law) → Every Q (replies g cs vs law)
  unfolding Calls.replies
  alike_in_every Q blind [] ws vs law every = tt
  alike_in_every Q blind (c ∷ cs) ws vs law every =
      (blind c (f c ws).answer (g c vs).answer law every.0, alike_in_every Q blind cs (f c ws).after (g c vs).after (rules c law).after every.1)

  alike_in_time : (cs : List Call) (n : ℕ) (ws vs law : List ℕ) → TimesNeverFall n (replies f cs ws law) → TimesNeverFall n (replies g cs vs law)
  unfolding Calls.replies Demands.TimesNeverFall Calls.accepted
  alike_in_time [] n ws vs law rising = tt
  alike_in_time (c ∷ cs) n ws vs law rising = (rising.0, alike_in_time cs _ (f c ws).after (g c vs).after (rules c law).after rising.1)

  alike_in_hashes : (cs : List Call) (ws vs law : List ℕ) → NoSharedHash (replies f cs ws law) → NoSharedHash (replies g cs vs law)
  unfolding Calls.replies Demands.NoSharedHash Calls.accepted
  alike_in_hashes [] ws vs law apart = tt
  alike_in_hashes (c ∷ cs) ws vs law apart = (
    alike_in_every _ (λ d r q words agree. agree) cs (f c ws).after (g c vs).after (rules c law).after apart.0,
    alike_in_hashes cs (f c ws).after (g c vs).after (rules c law).after apart.1,
  )

-- A reply is cautious: it grants no more than the rules' reply, and a key that holds something is told the rules' reply.
record Cautious (c : Call) (ws : List ℕ) (reply : Reply) : Type 0 where
  grants_no_more : (k : Identity) (t u : ℕ) → tokens_of k t u c reply ≤ tokens_of k t u c (rules c ws).answer
  passes_no_more : (cs : List Class) (d t u : ℕ)
      → Demands.tokens_through_of by_key cs d t u c reply ≤ Demands.tokens_through_of by_key cs d t u c (rules c ws).answer
  tells_holders : DecidedBy (ruled by_key c ws) c → DecidedBy (record { call = c; reply = reply; rules_words = ws }) c

module _ (told : Call → List ℕ → Reply) (cautious : (c : Call) (ws : List ℕ) → Cautious c ws (told c ws)) where
  no_more_in_all : (k : Identity) (t u : ℕ) (cs : List Call) (ws : List ℕ)
      → tokens_usable k t u (replies (telling told) cs ws ws) ≤ tokens_usable k t u (replies rules cs ws ws)
  unfolding Calls.replies Demands.tokens_usable
  no_more_in_all k t u [] ws = omega arith
  no_more_in_all k t u (c ∷ cs) ws = omega (arith, (cautious c ws).grants_no_more k t u, no_more_in_all k t u cs (rules c ws).after)

  no_more_through : (table : List Class) (d t u : ℕ) (cs : List Call) (ws : List ℕ)
      → Demands.tokens_through by_key table d t u (replies (telling told) cs ws ws) ≤ Demands.tokens_through by_key table d t u (replies rules cs ws ws)
  unfolding Calls.replies Demands.tokens_through
  no_more_through table d t u [] ws = omega arith
  no_more_through table d t u (c ∷ cs) ws = omega (arith, (cautious c ws).passes_no_more table d t u, no_more_through table d t u cs (rules c ws).after)

  telling_keeps_the_class_window : Demands.ClassWindow by_key (answering (telling told))
  unfolding Calls.accepted
  telling_keeps_the_class_window s table ws cs _ _ same tabled rising number d inside t u le =
      let exact = rules_stay_within_class_windows by_key s table ws cs
      (alike_in_every (telling told) rules _ (λ c r q law e. e) cs ws ws ws same)
      (alike_in_every (telling told) rules _ (λ c r q law e. e) cs ws ws ws tabled)
      (alike_in_time (telling told) rules cs 0 ws ws ws rising)
      number d inside t u le in
      omega (arith, exact, mul-le-mul_right (class_at table d).rate.period.0 (no_more_through table d t u cs ws))

  telling_keeps_the_window : Window (answering (telling told))
  unfolding Calls.accepted
  telling_keeps_the_window table s rate ws _ _ _ rated refuses done' cs _ same rising apart k not_undone t u le =
      let fresh : List ℕ = (Demands.set_up_by by_key table s ws).after in
      le_trans (mul-le-mul_right rate.period.0 (no_more_in_all k t u cs fresh))
      (rules_stay_within_the_window by_key (Demands.settings_by by_key table s) rate (table_words table) ws rated refuses done' cs
      (alike_in_every (telling told) rules _ (λ c r q law e. e) cs fresh fresh fresh same)
      (alike_in_time (telling told) rules cs 0 fresh fresh fresh rising)
      (alike_in_hashes (telling told) rules cs fresh fresh fresh apart)
      k
      (alike_in_every (telling told) rules _ (λ c r q law e. e) cs fresh fresh fresh not_undone)
      t
      u
      le)

  tells_every_holder : (cs : List Call) (ws : List ℕ) → Every (λ a. DecidedBy a a.call) (replies rules cs ws ws)
      → Every (λ a. DecidedBy a a.call) (replies (telling told) cs ws ws)
  unfolding Calls.replies
  tells_every_holder [] ws every = tt
  tells_every_holder (c ∷ cs) ws every = ((cautious c ws).tells_holders every.0, tells_every_holder cs (rules c ws).after every.1)

  telling_meets_demand3 : Demand3 (answering (telling told))
  telling_meets_demand3 =
      record {
        window = telling_keeps_the_window;
        own_bucket = λ ws cs _ _. tells_every_holder cs ws (rules_decide_by_own_bucket by_key ws cs);
        class_window = telling_keeps_the_class_window;
      }

-- The rules' reply is cautious.
ruled_is_cautious : (c : Call) (ws : List ℕ) → Cautious c ws (rules c ws).answer
ruled_is_cautious c ws = record { grants_no_more = λ k t u. omega arith; passes_no_more = λ cs d t u. omega arith; tells_holders = λ d. d }

-- So is turning a newcomer away: it holds nothing, and is granted nothing.
denial_is_no_grant : (m : Manner) (f : ℕ → ℕ) (due : Due) → of_grant f 0 (reply_to m (Denied due)) ≡ 0
denial_is_no_grant as_try f due = refl
denial_is_no_grant as_reservation f due = refl

newcomers_turned_away_cautiously : (c : Call) (ws : List ℕ) → Cautious c ws (turned_away_unless holds c ws)
newcomers_turned_away_cautiously (keyed s id (requests r at cost)) ws =
    by_test (holds id (shard_at s id.hash ws))
    (λ h. rw h (ruled_is_cautious (keyed s id (requests r at cost)) ws))
    (λ h. rw h (record {
      grants_no_more = λ k t u. omega (
        arith,
        denial_is_no_grant (manner_of r) (λ wait. usable k t u id (usable_from (manner_of r) at wait) cost) (due_after at (record { 0 = min_refusal_wait })),
      );
      passes_no_more = λ cs d t u. omega arith;
      tells_holders = λ d _ _ _ _ _ holding. absurd (true≢false (sym holding ∙ h));
    }))
newcomers_turned_away_cautiously (keyed s id (looks l)) ws = ruled_is_cautious (keyed s id (looks l)) ws
newcomers_turned_away_cautiously (keyed s id (undoes u)) ws = ruled_is_cautious (keyed s id (undoes u)) ws
newcomers_turned_away_cautiously (keyed s id (passes table class at cost)) ws =
    by_test (holds id (shard_at (with_table table s) id.hash ws))
    (λ h. rw h (ruled_is_cautious (keyed s id (passes table class at cost)) ws))
    (λ h. rw h (record {
      grants_no_more = λ k t u. omega arith;
      passes_no_more = λ cs d t u. omega arith;
      tells_holders = λ d _ _ _ _ _ _ holding. absurd (true≢false (sym holding ∙ h));
    }))
newcomers_turned_away_cautiously (whole s len) ws = ruled_is_cautious (whole s len) ws
newcomers_turned_away_cautiously (whole s (debts at i room)) ws = ruled_is_cautious (whole s (debts at i room)) ws

pub turns_newcomers_away_meets_demand3 : Demand3 (answering turns_newcomers_away)
turns_newcomers_away_meets_demand3 = telling_meets_demand3 (turned_away_unless holds) newcomers_turned_away_cautiously

-- And so is an invented length: a length is no grant, and no request.
length_invented_cautiously : (c : Call) (ws : List ℕ) → Cautious c ws (invented c ws)
length_invented_cautiously (keyed s id (requests r at cost)) ws = ruled_is_cautious (keyed s id (requests r at cost)) ws
length_invented_cautiously (keyed s id (looks l)) ws = ruled_is_cautious (keyed s id (looks l)) ws
length_invented_cautiously (keyed s id (undoes u)) ws = ruled_is_cautious (keyed s id (undoes u)) ws
length_invented_cautiously (keyed s id (passes table class at cost)) ws = ruled_is_cautious (keyed s id (passes table class at cost)) ws
length_invented_cautiously (whole s what) ws =
    record { grants_no_more = λ k t u. omega arith; passes_no_more = λ cs d t u. omega arith; tells_holders = λ d. tt }

pub invented_length_meets_demand3 : Demand3 (answering invented_length)
invented_length_meets_demand3 = telling_meets_demand3 invented length_invented_cautiously
