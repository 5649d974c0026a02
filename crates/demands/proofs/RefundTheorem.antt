-- The rules keep the window with refunds (request 11 of document 02), and the same with reservations; so does every limiter that meets demand 2.
use Prim.Native.Nat.{ℕ, ◌+◌, ◌≤◌}
use mathlib.Core.Path.{◌≡◌, refl, ap}
use mathlib.Core.Bool.{Bool, true, false, ◌&&◌, true≢false}
use mathlib.Core.List.{List, [], ◌∷◌}
use native.Mathlib.Omega.{arith}
use lib.ListN.{replicate}
use borrow.Author.Tests.{eq-eqb}
use Rattle.arith.proofs.Cases.{by_test}
use Rattle.units.specs.declared.Nanos.{Nanos}
use Rattle.bucket.specs.Bucket.{Accepted}
use Rattle.settings.specs.declared.decision.Decision.TheVariants.{Acquired, Retry, Impossible}
use Rattle.settings.specs.declared.Limit.TheVariants.{Open}
use Rattle.settings.specs.declared.Settings.{Settings}
use Rattle.settings.specs.declared.eviction.WhenFull.TheVariants.{RefuseNew}
use Rattle.settings.specs.declared.rate.Rate.{Rate}
use Rattle.settings.specs.Rate.{burst_of, config_of}
use Rattle.settings.proofs.RateLaws.{accepted_rate}
use Rattle.settings.proofs.SettingsLaws.{accepted_parts}
use Rattle.shard.specs.declared.Identity.{Identity}
use Rattle.store.specs.Memory.{memory_words}
use Rattle.rules.specs.declared.Reply.{Reply}
use Rattle.rules.specs.declared.Reply.TheVariants.{Tried, Reserved, Nothing, Done, Count, Refused}
use Rattle.rules.specs.Replies.{of_grant}
use Rattle.rules.specs.Asks.{refunds, removes, Ask, requests, looks, undoes, passes, Manner, as_try, as_reservation, manner_of, forgets, policy_of}
use Rattle.rules.specs.Rules.{set_up_for}
use Rattle.rules.specs.Calls.{Call, keyed, whole, Terms, rules, Answered, replies, accepted, Every}
use Rattle.rules.proofs.CallLaws.{refusal_of, unaccepted_refused}
use Rattle.demands.specs.Demands.{table_words, Limiter, set_up_by, settings_by, answering, Demand2, usable_from}
use Rattle.demands.specs.Refunds.{as_reserved, reserves_it, removes_it, of_own, in_span, ask_called, ask_spanned, Counting, tokens_counted, refunded_between}
use Rattle.demands.specs.Refunds.{WithinRefunds, of_named, called_of, spanned_of, refunded_of, NeverReserved, NeverRemoved, OfFreshLists, named, FairTo}
use Rattle.demands.specs.Refunds.{WithinRefundWindow, RefundWindow, WithinSpanWindow, SpanWindow}
use Rattle.demands.proofs.EveryLaws.{every_implies}
use Rattle.demands.proofs.WidthLaws.{NamesFit}
use Rattle.demands.proofs.LendableTheorem.{set_up_leaves_words_lendable}
use Rattle.demands.proofs.LineBound.{BoundOf}
use Rattle.demands.proofs.RefundBound.{within, between, span_from_bound, refund_bound}
use Rattle.demands.proofs.GivenLaws.{happened}
use Rattle.demands.proofs.RefundSums.{happened_counted, happened_returned}
use Rattle.demands.proofs.CallSteps.{UndoneAsAllowed}
use Rattle.demands.proofs.OwnBucket.{ruled}
use Rattle.demands.proofs.RunLaws.{AlwaysAsAllowed, bound_holds_from_fresh}
use Rattle.demands.proofs.Theorem.{set_up_done, same_replies}

-- Over a list from a fresh memory, the bound holds of what happened to the key, and its sums are the tokens that are counted.
module _ {S N : Type 0} (terms : Terms S N) (s : Settings) (rate : Rate) (k : Identity) (a : Accepted (config_of rate))
    (never : (policy_of s rate).forget_debt ≡ false) (rated : s.limit ≡ Open rate) (cs : List (Call S N)) where
  abbrev bound : BoundOf (config_of rate)
  bound = refund_bound rate.amount rate.period.0 (burst_of rate)

  abbrev answered : List (Answered S N)
  answered = replies terms (rules terms) cs (replicate (memory_words s) 0) (replicate (memory_words s) 0)

  -- A key that is never removed is undone as the bound allows.
  abbrev own : N → Bool
  own = named terms k

  never_removed_is_as_allowed : (c : Call S N) → of_named (λ n ask. removes_it ask && own n) false c ≡ false → UndoneAsAllowed bound k terms c
  never_removed_is_as_allowed (keyed s n (requests r at cost)) other = tt
  never_removed_is_as_allowed (keyed s n (looks l)) other = tt
  never_removed_is_as_allowed (keyed s n (undoes (refunds cost))) other = λ hash key. tt
  never_removed_is_as_allowed (keyed s n (passes table class at cost)) other = tt
  never_removed_is_as_allowed (keyed s n (undoes removes)) other = λ hash key. true≢false (rw (eq-eqb _ _ hash, eq-eqb _ _ key) at other)
  never_removed_is_as_allowed (whole s what) other = tt

  never_removed : NeverRemoved terms own answered → AlwaysAsAllowed terms bound k answered
  never_removed = every_implies _ _ (λ each never' taken. never_removed_is_as_allowed each.call (never' taken)) answered

  fresh_span : FairTo terms s k answered → (t u : ℕ) → t ≤ u → WithinRefunds rate (refunded_of own) (spanned_of own t u) t u answered
  unfolding within between
  fresh_span fair t u le =
      let A : ℕ = rate.amount in
      let P : ℕ = rate.period.0 in
      let C : ℕ = burst_of rate in
      let tokens : ℕ = tokens_counted (spanned_of own t u) answered in
      let refunded : ℕ = refunded_between (refunded_of own) (spanned_of own t u) 0 answered in
      let events =
      bound_holds_from_fresh terms s rate k bound a never rated cs fair.same_settings fair.rising fair.apart (never_removed fair.not_removed) in
      let counted : within t u (happened bound terms k answered []) ≡ tokens = omega (arith, happened_counted A P C k t u terms answered []) in
      let returned : between t u 0 (happened bound terms k answered []) ≡ refunded = omega (arith, happened_returned A P C k t u terms answered []) in
      span_from_bound A P C tokens refunded t u le (rw (counted, returned) at (events.holds.window t u le))

-- Grants that count alike for every wait count alike for every reply.
granted_alike : (f g : ℕ → ℕ) → ((wait : ℕ) → f wait ≡ g wait) → (reply : Reply) → of_grant f 0 reply ≡ of_grant g 0 reply
granted_alike f g alike (Tried (Acquired due)) = alike 0
granted_alike f g alike (Tried (Retry due)) = refl
granted_alike f g alike (Tried Impossible) = refl
granted_alike f g alike (Reserved due) = alike due.wait.0
granted_alike f g alike Nothing = refl
granted_alike f g alike Done = refl
granted_alike f g alike (Count n) = refl
granted_alike f g alike (Refused n) = refl

-- Where a key is not reserved for, both ways to count come to the same: its tries are usable at their calls, and a reservation that is refused grants nothing.
module _ (t u : ℕ) where
  request_alike : (own : Bool) (m : Manner) (at : Nanos) (cost wait : ℕ) → as_reserved m && own ≡ false
      → of_own own (in_span t u at.0 (usable_from m at wait) cost) ≡ of_own own (in_span t u at.0 at.0 cost)
  request_alike own as_try at cost wait other = refl
  request_alike own as_reservation at cost wait other = rw other

  ask_alike : (own : Bool) (ask : Ask) (reply : Reply) → reserves_it ask && own ≡ false → ask_spanned own t u ask reply ≡ ask_called own t u ask reply
  ask_alike own (requests r at cost) reply other = granted_alike _ _ (λ wait. request_alike own (manner_of r) at cost wait other) reply
  ask_alike own (looks l) reply other = refl
  ask_alike own (undoes undo) reply other = refl
  ask_alike own (passes table class at cost) reply other = refl

  ask_refused_alike : (own : Bool) (ask : Ask) (n : ℕ) → ask_spanned own t u ask (Refused n) ≡ ask_called own t u ask (Refused n)
  ask_refused_alike own (requests r at cost) n = refl
  ask_refused_alike own (looks l) n = refl
  ask_refused_alike own (undoes undo) n = refl
  ask_refused_alike own (passes table class at cost) n = refl

  module _ {S N : Type 0} (terms : Terms S N) (own : N → Bool) where
    -- One call under the rules: accepted, or refused.
    abbrev Alike : Answered S N → Type 0
    Alike a = spanned_of own t u a ≡ called_of own t u a

    taken_alike : (c : Call S N) (ws : List ℕ) → of_named (λ n ask. reserves_it ask && own n) false c ≡ false → Alike (ruled terms c ws)
    taken_alike (keyed s n ask) ws other = ask_alike (own n) ask (rules terms (keyed s n ask) ws).answer other
    taken_alike (whole s what) ws other = refl

    refused_alike : (c : Call S N) (n : ℕ) (ws : List ℕ) → Alike (record { call = c; reply = Refused n; rules_words = ws })
    refused_alike (keyed s name ask) n ws = ask_refused_alike (own name) ask n
    refused_alike (whole s what) n ws = refl

    ruled_alike : (c : Call S N) (ws : List ℕ)
        → (accepted terms (ruled terms c ws) ≡ true → of_named (λ n ask. reserves_it ask && own n) false c ≡ false) → Alike (ruled terms c ws)
    ruled_alike c ws other =
        by_test (accepted terms (ruled terms c ws))
        (λ taken. taken_alike c ws (other taken))
        (λ refused. rw (unaccepted_refused terms (ruled terms c ws) refused) (refused_alike c (refusal_of terms c ws) ws))

    all_alike : (cs : List (Call S N)) (ws : List ℕ) → NeverReserved terms own (replies terms (rules terms) cs ws ws)
        → Every Alike (replies terms (rules terms) cs ws ws)
    unfolding replies
    all_alike [] ws other = tt
    all_alike (c ∷ cs) ws other = (ruled_alike c ws other.0, all_alike cs (rules terms c ws).after other.1)

-- Two counts that are alike at every call give the same sums.
module _ {S N : Type 0} where
  abbrev pub CountAlike : (f g : Counting S N) → List (Answered S N) → Type 0
  CountAlike f g = Every (λ a. f a ≡ g a)

  pub same_tokens : (f g : Counting S N) (answered : List (Answered S N)) → CountAlike f g answered → tokens_counted f answered ≡ tokens_counted g answered
  unfolding tokens_counted
  same_tokens f g [] alike = refl
  same_tokens f g (a ∷ rest) alike = rw (alike.0, same_tokens f g rest alike.1)

  pub same_refunds : (p q f g : Counting S N) (before : ℕ) (answered : List (Answered S N)) → CountAlike p q answered → CountAlike f g answered
      → refunded_between p f before answered ≡ refunded_between q g before answered
  unfolding refunded_between
  same_refunds p q f g before [] back alike = refl
  same_refunds p q f g before (a ∷ rest) back alike =
      rw (back.0, alike.0, same_tokens f g rest alike.1, same_refunds p q f g (g a + before) rest back.1 alike.1)

  -- So what is allowed for the one is allowed for the other.
  pub within_alike : (rate : Rate) (p q f g : Counting S N) (t u : ℕ) (answered : List (Answered S N)) → CountAlike p q answered → CountAlike f g answered
      → WithinRefunds rate p f t u answered → WithinRefunds rate q g t u answered
  within_alike rate p q f g t u answered back alike within' =
      rw (same_tokens f g answered alike, same_refunds p q f g 0 answered back alike) at within'

module _ {S N : Type 0} (terms : Terms S N) where
  -- With reservations, for settings, calls and words of any numbers.
  pub rules_stay_within_the_span_window : (s : Settings) (rate : Rate) (table ws : List ℕ) → s.limit ≡ Open rate → s.eviction.when_full ≡ RefuseNew
      → (set_up_for s table ws).answer ≡ Done → (cs : List (Call S N))
      → WithinSpanWindow terms s rate (replies terms (rules terms) cs (set_up_for s table ws).after (set_up_for s table ws).after)
  rules_stay_within_the_span_window s rate table ws rated refuses done' cs k =
      let up = set_up_done s table ws done' in
      let a : Accepted (config_of rate) = accepted_rate rate (rw rated at (accepted_parts s up.settings).0) in
      rw up.words (fresh_span terms s rate k a (ap forgets refuses) rated cs)

  -- Request 11, for settings, calls and words of any numbers.
  pub rules_stay_within_the_refund_window : (s : Settings) (rate : Rate) (table ws : List ℕ) → s.limit ≡ Open rate → s.eviction.when_full ≡ RefuseNew
      → (set_up_for s table ws).answer ≡ Done → (cs : List (Call S N))
      → WithinRefundWindow terms refunded_of s rate (replies terms (rules terms) cs (set_up_for s table ws).after (set_up_for s table ws).after)
  rules_stay_within_the_refund_window s rate table ws rated refuses done' cs k fair not_reserved t u le =
      let fresh : List ℕ = (set_up_for s table ws).after in
      let list : List (Answered S N) = replies terms (rules terms) cs fresh fresh in
      let own : N → Bool = named terms k in
      let alike = all_alike t u terms own cs fresh not_reserved in
      within_alike rate (refunded_of own) (refunded_of own) (spanned_of own t u) (called_of own t u) t u list (every_implies _ _ (λ a _. refl) list alike) alike
      (rules_stay_within_the_span_window s rate table ws rated refuses done' cs k fair t u le)

  pub rules_keep_the_span_window : SpanWindow terms (answering terms (rules terms))
  rules_keep_the_span_window table s rate ws _ _ _ rated refuses done' cs _ =
      rules_stay_within_the_span_window (settings_by terms table s) rate (table_words table) ws rated refuses done' cs

  pub rules_keep_the_refund_window : RefundWindow terms (answering terms (rules terms))
  rules_keep_the_refund_window table s rate ws _ _ _ rated refuses done' cs _ =
      rules_stay_within_the_refund_window (settings_by terms table s) rate (table_words table) ws rated refuses done' cs

-- A limiter that meets demand 2 keeps what the rules keep of such lists, from the words that its own set_up_lem leaves.
module _ {S N : Type 0} (terms : Terms S N) (names : NamesFit terms) (l : Limiter S N) (equal : Demand2 terms l) where
  pub as_the_rules : (Claim : Settings → Rate → List (Answered S N) → Type 0)
      → OfFreshLists terms Claim (answering terms (rules terms)) → OfFreshLists terms Claim l
  as_the_rules Claim kept table s rate ws few fit lent rated refuses =
      let left : List ℕ = (set_up_by terms table s ws).after in
      let fresh = set_up_leaves_words_lendable (settings_by terms table s) (table_words table) ws lent in
      rw (equal.sets_up_lem table s ws few fit lent)
      (λ done' cs fits. rw (same_replies terms names l equal cs left left fits fresh) (kept table s rate ws few fit lent rated refuses done' cs fits))

  pub demand2_keeps_the_span_window : SpanWindow terms l
  demand2_keeps_the_span_window = as_the_rules (WithinSpanWindow terms) (rules_keep_the_span_window terms)

  pub demand2_keeps_the_refund_window : RefundWindow terms l
  demand2_keeps_the_refund_window = as_the_rules (WithinRefundWindow terms refunded_of) (rules_keep_the_refund_window terms)
