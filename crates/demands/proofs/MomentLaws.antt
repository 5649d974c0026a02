-- Every grant and every retry of the rules tells its moment; so does every limiter that meets demand 2; and counted by the moments told, the tokens of a window
-- are those that demand 3 counts.
use Prim.Native.Nat.{ℕ, ◌≤◌}
use mathlib.Core.Path.{◌≡◌, refl}
use mathlib.Core.List.{List, [], ◌∷◌}
use native.Mathlib.Omega.{arith}
use lib.Dec.{ltb, eqb}
use Rattle.arith.proofs.Cases.{by_test, by_eq}
use Rattle.units.specs.declared.Nanos.{Nanos}
use Rattle.bucket.specs.declared.Request.{Request}
use Rattle.bucket.specs.declared.Request.TheVariants.{Acquire, Reserve, Through}
use Rattle.bucket.specs.declared.BucketCore.{BucketCore}
use Rattle.bucket.specs.declared.BucketDecision.{BucketDecision}
use Rattle.settings.specs.declared.Limit.{Limit}
use Rattle.settings.specs.declared.Limit.TheVariants.{Closed, Open}
use Rattle.settings.specs.declared.Settings.{Settings}
use Rattle.settings.specs.declared.decision.Decision.TheVariants.{Acquired, Retry, Impossible}
use Rattle.settings.specs.Rate.{config_of}
use Rattle.settings.specs.Settings.{shape_of}
use Rattle.classes.specs.Layout.{classes_in}
use Rattle.shard_map.specs.Model.{Shard}
use Rattle.shard.specs.declared.Identity.{Identity}
use Rattle.shard.proofs.DueLaws.{TellsItsMoment as DueTellsItsMoment, granted, denied, every_answer_tells_its_moment}
use Rattle.store.specs.Memory.{shard_at, buckets_at}
use Rattle.store.specs.Refusals.{latest_moment, longest_max_wait}
use Rattle.store.proofs.RefusalLaws.{moment_not_refused}
use Rattle.rules.specs.declared.Reply.{Reply}
use Rattle.rules.specs.declared.Reply.TheVariants.{Tried, Reserved, Nothing, Done, Count, Refused}
use Rattle.rules.specs.Replies.{moment_of, of_grant, decides, knows}
use Rattle.rules.specs.Asks.{peeks, tokens, turn_aways, Undo, Ask, requests, looks, undoes, passes, Manner, as_try, as_reservation, manner_of, further_of}
use Rattle.rules.specs.Asks.{policy_of}
use Rattle.rules.specs.Asks.{reply_to}
use Rattle.rules.specs.Asks.{asked_in}
use Rattle.rules.specs.Asks.{in_force, in_its_shard}
use Rattle.rules.specs.Calls.{Call, keyed, whole, len, debts, Terms, rules, Answered, replies, Every}
use Rattle.rules.proofs.KeyedLaws.{ask_not_refused, request_in_time, pass_in_time}
use Rattle.rules.proofs.KindLaws.{OfKind, acquired, retried, impossible, known, unknown, asks_are_answered_in_kind}
use Rattle.rules.proofs.CallLaws.{refusal_of, rule_of, not_refused_is_ruled, refused_is_told, keyed_not_refused}
use Rattle.demands.specs.Demands.{Limiter, answering, Demand2, usable, usable_from, tokens_of, tokens_usable}
use Rattle.demands.specs.Moments.{MomentTold, AskTells, TellsItsMoment, TellsMoments, tokens_told_of, tokens_told}
use Rattle.demands.proofs.WidthLaws.{NamesFit}
use Rattle.demands.proofs.Theorem.{same_replies}

-- A reply that decides, to a call at a moment that is not late; and one that tells whether a key was known.
try_tells : {at : Nanos} {reply : Reply} → at.0 ≤ latest_moment → OfKind at decides reply → MomentTold as_try at reply
try_tells early acquired = omega arith
try_tells early (retried wait) = refl
try_tells early impossible = tt

undoing_tells : {at : Nanos} (u : Undo) {reply : Reply} → OfKind at knows reply → AskTells (undoes u) reply
undoing_tells u known = refl
undoing_tells u unknown = refl

-- A reservation that is granted waits no longer than it asked for, so its moment is not held.
granted_tells : (longest : Nanos) {at : Nanos} {d : BucketDecision} → at.0 ≤ latest_moment → longest.0 ≤ longest_max_wait
    → DueTellsItsMoment (Reserve longest) at d → MomentTold as_reservation at (reply_to as_reservation d)
granted_tells longest early patient (granted wait within others') = omega arith
granted_tells longest early patient (denied wait) = tt

reservation_tells : (longest : Nanos) (limit : Limit) (s : Settings) (at : Nanos) (id : Identity) (cost : ℕ) (own : Shard)
    → at.0 ≤ latest_moment → longest.0 ≤ longest_max_wait → MomentTold as_reservation at (asked_in (Reserve longest) limit s at id cost own).answer
unfolding asked_in
reservation_tells longest Closed s at id cost own early patient = tt
reservation_tells longest (Open rate) s at id cost own early patient =
    by_test (ltb (config_of rate).capacity cost)
    (λ more. rw more tt)
    (λ most. by_test (eqb cost 0)
    (λ none. rw (most, none) (omega arith))
    (λ some. rw (most, some) (granted_tells longest early patient (every_answer_tells_its_moment (policy_of s rate) id (Reserve longest) cost at own))))

-- What is asked of a key and not refused.
ask_tells : (s : Settings) (id : Identity) (ask : Ask) (buckets : List BucketCore) (own : Shard) → further_of ask ≡ 0
    → AskTells ask (in_its_shard s id ask buckets own).answer
ask_tells s id (requests Acquire at cost) buckets own none =
    try_tells (request_in_time Acquire at none).0 (asks_are_answered_in_kind s id (requests Acquire at cost) buckets own)
ask_tells s id (requests (Reserve longest) at cost) buckets own none =
    let timely = request_in_time (Reserve longest) at none in
    reservation_tells longest s.limit s at id cost own timely.0 timely.1
ask_tells s id (requests (Through others) at cost) buckets own none =
    try_tells (request_in_time (Through others) at none).0 (asks_are_answered_in_kind s id (requests (Through others) at cost) buckets own)
ask_tells s id (looks (peeks at cost)) buckets own none =
    try_tells (moment_not_refused at none) (asks_are_answered_in_kind s id (looks (peeks at cost)) buckets own)
ask_tells s id (looks (tokens at)) buckets own none = refl
ask_tells s id (looks turn_aways) buckets own none = refl
ask_tells s id (undoes u) buckets own none = undoing_tells u (asks_are_answered_in_kind s id (undoes u) buckets own)
ask_tells s id (passes table class at cost) buckets own none =
    try_tells (pass_in_time (classes_in table) class at none).early (asks_are_answered_in_kind s id (passes table class at cost) buckets own)

ask_refused_tells : (ask : Ask) (n : ℕ) → AskTells ask (Refused n)
ask_refused_tells (requests r at cost) n = tt
ask_refused_tells (looks (peeks at cost)) n = tt
ask_refused_tells (looks (tokens at)) n = refl
ask_refused_tells (looks turn_aways) n = refl
ask_refused_tells (undoes u) n = refl
ask_refused_tells (passes table class at cost) n = tt

module _ {S N : Type 0} (terms : Terms S N) where
  rule_tells : (c : Call S N) (ws : List ℕ) → refusal_of terms c ws ≡ 0 → TellsItsMoment c (rule_of terms c ws).answer
  rule_tells (keyed s n ask) ws none =
      let settings = in_force ask (terms.settings s) in
      let id = terms.identity n in
      let asked = ask_not_refused settings id ask ws (keyed_not_refused terms s n ask ws none).1 in
      ask_tells settings id ask (buckets_at (shape_of settings) ws) (shard_at settings id.hash ws) asked.1
  rule_tells (whole s len) ws none = refl
  rule_tells (whole s (debts at i room)) ws none = refl

  refusal_tells : (c : Call S N) (n : ℕ) → TellsItsMoment c (Refused n)
  refusal_tells (keyed s name ask) n = ask_refused_tells ask n
  refusal_tells (whole s what) n = refl

  call_tells : (c : Call S N) (ws : List ℕ) → TellsItsMoment c (rules terms c ws).answer
  call_tells c ws =
      by_eq (refusal_of terms c ws) 0
      (λ none. rw (not_refused_is_ruled terms c ws none) (rule_tells c ws none))
      (λ some. rw (refused_is_told terms c ws some) (refusal_tells c (refusal_of terms c ws)))

  every_call_tells : (cs : List (Call S N)) (ws : List ℕ) → Every (λ a. TellsItsMoment a.call a.reply) (replies terms (rules terms) cs ws ws)
  unfolding replies
  every_call_tells [] ws = tt
  every_call_tells (c ∷ cs) ws = (call_tells c ws, every_call_tells cs (rules terms c ws).after)

  pub rules_tell_moments : TellsMoments terms (answering terms (rules terms))
  rules_tell_moments ws cs lent fit = every_call_tells cs ws

  pub demand2_tells_moments : NamesFit terms → (l : Limiter S N) → Demand2 terms l → TellsMoments terms l
  demand2_tells_moments names l equal ws cs lent fit = rw (same_replies terms names l equal cs ws ws fit lent) (every_call_tells cs ws)

-- One grant counts alike, by the moment told and by the moment from which it is usable.
request_counts_alike : (k : Identity) (t u : ℕ) (id : Identity) (r : Manner) (at : Nanos) (cost : ℕ) (reply : Reply) → MomentTold r at reply
    → of_grant (λ wait. usable k t u id (moment_of reply) cost) 0 reply ≡ of_grant (λ wait. usable k t u id (usable_from r at wait) cost) 0 reply
request_counts_alike k t u id r at cost (Tried (Acquired due)) told = rw told
request_counts_alike k t u id r at cost (Tried (Retry due)) told = refl
request_counts_alike k t u id r at cost (Tried Impossible) told = refl
request_counts_alike k t u id r at cost (Reserved due) told = rw told
request_counts_alike k t u id r at cost Nothing told = refl
request_counts_alike k t u id r at cost Done told = refl
request_counts_alike k t u id r at cost (Count n) told = refl
request_counts_alike k t u id r at cost (Refused n) told = refl

module _ {S N : Type 0} (terms : Terms S N) (k : Identity) (t u : ℕ) where
  grant_counts_alike : (c : Call S N) (reply : Reply) → TellsItsMoment c reply → tokens_told_of terms k t u c reply ≡ tokens_of terms k t u c reply
  grant_counts_alike (keyed s n (requests r at cost)) reply told = request_counts_alike k t u (terms.identity n) (manner_of r) at cost reply told
  grant_counts_alike (keyed s n (looks l)) reply told = refl
  grant_counts_alike (keyed s n (undoes undo)) reply told = refl
  grant_counts_alike (keyed s n (passes table class at cost)) reply told = request_counts_alike k t u (terms.identity n) as_try at cost reply told
  grant_counts_alike (whole s what) reply told = refl

  pub told_moments_count_alike : (answered : List (Answered S N)) → Every (λ a. TellsItsMoment a.call a.reply) answered
      → tokens_told terms k t u answered ≡ tokens_usable terms k t u answered
  unfolding tokens_told tokens_usable
  told_moments_count_alike [] every = refl
  told_moments_count_alike (a ∷ rest) every = rw (grant_counts_alike a.call a.reply every.0, told_moments_count_alike rest every.1)
