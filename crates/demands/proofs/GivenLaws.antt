-- What happens to one key in a list of calls, one call at a time. For the window, that is the grants to it: their sums are the tokens that demand 3 counts.
use Prim.Native.Nat.{ℕ, ◌+◌}
use mathlib.Core.Path.{◌≡◌, refl, sym, ap}
use mathlib.Core.Bool.{Bool, true, false, cond}
use mathlib.Core.List.{List, [], ◌∷◌}
use native.Mathlib.Omega.{arith}
use lib.Dec.{eqb}
use borrow.Author.Tests.{eq-eqb, ne_eqb}
use Rattle.arith.proofs.Cases.{by_test}
use Rattle.units.specs.declared.Nanos.{Nanos}
use Rattle.bucket.specs.declared.BucketDecision.{BucketDecision}
use Rattle.bucket.specs.declared.BucketDecision.TheVariants.{Allowed, Denied}
use Rattle.bucket.specs.declared.Request.{Request}
use Rattle.bucket.specs.declared.Request.TheVariants.{Acquire, Reserve, Through}
use Rattle.settings.specs.declared.decision.Decision.TheVariants.{Acquired, Retry, Impossible}
use Rattle.shard.specs.declared.Identity.{Identity}
use Rattle.rules.specs.declared.Reply.{Reply}
use Rattle.rules.specs.declared.Reply.TheVariants.{Tried, Reserved, Nothing, Done, Count, Refused}
use Rattle.rules.specs.Replies.{of_grant}
use Rattle.rules.specs.Asks.{refunds, removes, Ask, requests, looks, undoes, passes, Manner, as_try, as_reservation, manner_of, reply_to, too_much, at_once}
use Rattle.rules.specs.Asks.{known_reply}
use Rattle.rules.specs.Calls.{Call, keyed, whole, Terms, Answered}
use Rattle.demands.specs.Demands.{usable, usable_from, ask_tokens, tokens_of, tokens_usable}
use Rattle.demands.proofs.TryLaws.{AsAsked}
use Rattle.demands.proofs.LineBound.{LineBound}
use Rattle.demands.proofs.GrantLaws.{Grant, within, window_bound}
use Rattle.demands.proofs.BucketKept.{decision_adds}
use Rattle.demands.proofs.RefundLaws.{refund_adds}

-- One value for the key's own calls, another for other keys'.
unfoldable pub if_own : {H : Type 0} → Identity → Identity → H → H → H
if_own k id own other = cond (eqb id.hash k.hash) (cond (eqb id.key k.key) own other) other

-- The wait until the tokens of a grant are usable: none for a try, and for a reservation the wait answered.
abbrev pub wait_told : Manner → ℕ → ℕ
wait_told as_try wait = 0
wait_told as_reservation wait = wait

-- Whether a reply to a refund tells that the key was known.
abbrev pub told_known : Reply → Bool
told_known (Tried decision) = false
told_known (Reserved due) = false
told_known Nothing = false
told_known Done = true
told_known (Count n) = false
told_known (Refused n) = false

module _ {A P C : ℕ} (B : LineBound A P C) where
  -- A reply to a request adds its grant, if it is one.
  abbrev pub granting : Manner → Nanos → ℕ → B.History → Reply → B.History
  granting m at cost g reply = of_grant (λ wait. B.grant at.0 (wait_told m wait) cost g) g reply

  -- What happened to the key after something was asked of a key. A refund counts by its cost if it is answered known.
  abbrev pub ask_gave : Identity → Identity → Ask → Reply → B.History → B.History
  ask_gave k id (requests r at cost) reply g = if_own k id (granting (manner_of r) at cost g reply) g
  ask_gave k id (looks l) reply g = g
  ask_gave k id (undoes (refunds cost)) reply g = if_own k id (refund_adds B cost (told_known reply) g) g
  ask_gave k id (undoes removes) reply g = g
  ask_gave k id (passes table class at cost) reply g = if_own k id (granting as_try at cost g reply) g

  module _ {S N : Type 0} (terms : Terms S N) where
    -- What happened to it after a call, and after a list of calls.
    abbrev pub given : Identity → Call S N → Reply → B.History → B.History
    given k (keyed s n ask) reply g = ask_gave k (terms.identity n) ask reply g
    given k (whole s what) reply g = g

    unfoldable pub happened : Identity → List (Answered S N) → B.History → B.History
    happened k [] g = g
    happened k (a ∷ rest) g = happened k rest (given k a.call a.reply g)

module _ {H : Type 0} (k id : Identity) (own other : H) where
  pub own_call : id.hash ≡ k.hash → id.key ≡ k.key → if_own k id own other ≡ own
  unfolding if_own
  own_call hash key = rw (eq-eqb _ _ hash, eq-eqb _ _ key)

  pub other_hash : (id.hash ≡ k.hash → ⊥) → if_own k id own other ≡ other
  unfolding if_own
  other_hash differs = rw (ne_eqb _ _ differs)

pub same_either_way : {H : Type 0} (k id : Identity) (g : H) → if_own k id g g ≡ g
unfolding if_own
same_either_way k id g =
    by_test (eqb id.hash k.hash) (λ t. by_test (eqb id.key k.key) (λ u. rw (t, u)) (λ u. rw (t, u))) (λ t. rw t)

module _ {A P C : ℕ} (B : LineBound A P C) where
  -- Nothing happens to the key in a call that is refused by number.
  ask_refused_gives_nothing : (k id : Identity) (ask : Ask) (n : ℕ) (g : B.History) → ask_gave B k id ask (Refused n) g ≡ g
  ask_refused_gives_nothing k id (requests r at cost) n g = same_either_way k id g
  ask_refused_gives_nothing k id (looks l) n g = refl
  ask_refused_gives_nothing k id (undoes (refunds cost)) n g = same_either_way k id g
  ask_refused_gives_nothing k id (undoes removes) n g = refl
  ask_refused_gives_nothing k id (passes table class at cost) n g = same_either_way k id g

  pub refusal_gives_nothing : {S N : Type 0} (terms : Terms S N) (k : Identity) (c : Call S N) (n : ℕ) (g : B.History) → given B terms k c (Refused n) g ≡ g
  refusal_gives_nothing terms k (keyed s name ask) n g = ask_refused_gives_nothing k (terms.identity name) ask n g
  refusal_gives_nothing terms k (whole s what) n g = refl

  -- What a reply tells is granted as the store's answer grants it.
  pub reply_grants : (r : Request) (at : Nanos) (cost : ℕ) (g : B.History) (d : BucketDecision) → AsAsked r d
      → granting B (manner_of r) at cost g (reply_to (manner_of r) d) ≡ decision_adds B at cost d g
  reply_grants Acquire at cost g (Allowed due) none = ap (λ (w : ℕ). B.grant at.0 w cost g) (sym none)
  reply_grants Acquire at cost g (Denied due) none = refl
  reply_grants (Reserve longest) at cost g (Allowed due) none = refl
  reply_grants (Reserve longest) at cost g (Denied due) none = refl
  reply_grants (Through others) at cost g (Allowed due) none = ap (λ (w : ℕ). B.grant at.0 w cost g) (sym none)
  reply_grants (Through others) at cost g (Denied due) none = refl

  -- Too large a cost is granted nothing; no cost at all is granted at once.
  pub too_much_grants_nothing : (m : Manner) (at : Nanos) (cost : ℕ) (g : B.History) → granting B m at cost g (too_much m) ≡ g
  too_much_grants_nothing as_try at cost g = refl
  too_much_grants_nothing as_reservation at cost g = refl

  pub at_once_grants : (m : Manner) (at : Nanos) (cost : ℕ) (g : B.History) → granting B m at cost g (at_once m at) ≡ B.grant at.0 0 cost g
  at_once_grants as_try at cost g = refl
  at_once_grants as_reservation at cost g = refl

-- The reply to a refund tells what the shard answers.
pub known_is_told : (known : Bool) → told_known (known_reply known) ≡ known
known_is_told true = refl
known_is_told false = refl

-- The tokens of a grant are usable after the wait told.
pub usable_after_the_wait : (m : Manner) (at : Nanos) (wait : ℕ) → at.0 + wait_told m wait ≡ usable_from m at wait
usable_after_the_wait as_try at wait = omega arith
usable_after_the_wait as_reservation at wait = refl

-- The tokens of a window, call by call.
module _ (A P C : ℕ) (k : Identity) (t u : ℕ) (gs : List Grant) where
  abbrev window : LineBound A P C
  window = window_bound A P C

  granted_within : (id : Identity) (moment cost : ℕ)
      → within t u (if_own k id (record { usable = moment; tokens = cost } ∷ gs) gs) ≡ usable k t u id moment cost + within t u gs
  unfolding if_own usable within
  granted_within id moment cost =
      by_test (eqb id.hash k.hash)
      (λ h. by_test (eqb id.key k.key) (λ y. rw (h, y)) (λ n. rw (h, n) (omega arith)))
      (λ h. rw h (omega arith))

  request_within_lem : (r : Manner) (at : Nanos) (id : Identity) (cost : ℕ) (reply : Reply)
      → within t u (if_own k id (granting window r at cost gs reply) gs)
      ≡ of_grant (λ wait. usable k t u id (usable_from r at wait) cost) 0 reply + within t u gs
  request_within_lem r at id cost (Tried (Acquired due)) = rw (← usable_after_the_wait r at 0) (granted_within id (at.0 + wait_told r 0) cost)
  request_within_lem r at id cost (Tried (Retry due)) = rw (same_either_way k id gs) (omega arith)
  request_within_lem r at id cost (Tried Impossible) = rw (same_either_way k id gs) (omega arith)
  request_within_lem r at id cost (Reserved due) =
      rw (← usable_after_the_wait r at due.wait.0) (granted_within id (at.0 + wait_told r due.wait.0) cost)
  request_within_lem r at id cost Nothing = rw (same_either_way k id gs) (omega arith)
  request_within_lem r at id cost Done = rw (same_either_way k id gs) (omega arith)
  request_within_lem r at id cost (Count n) = rw (same_either_way k id gs) (omega arith)
  request_within_lem r at id cost (Refused n) = rw (same_either_way k id gs) (omega arith)

  -- Refunds change no grant.
  refund_leaves_grants : (cost : ℕ) (known : Bool) → refund_adds window cost known gs ≡ gs
  refund_leaves_grants cost true = refl
  refund_leaves_grants cost false = refl

  ask_within : (id : Identity) (ask : Ask) (reply : Reply) → within t u (ask_gave window k id ask reply gs) ≡ ask_tokens k t u id ask reply + within t u gs
  ask_within id (requests r at cost) reply = request_within_lem (manner_of r) at id cost reply
  ask_within id (looks l) reply = omega arith
  ask_within id (undoes (refunds cost)) reply = rw (refund_leaves_grants cost (told_known reply), same_either_way k id gs) (omega arith)
  ask_within id (undoes removes) reply = omega arith
  ask_within id (passes table class at cost) reply = request_within_lem as_try at id cost reply

module _ {S N : Type 0} (terms : Terms S N) (A P C : ℕ) (k : Identity) (t u : ℕ) where
  given_within : (c : Call S N) (reply : Reply) (gs : List Grant)
      → within t u (given (window_bound A P C) terms k c reply gs) ≡ tokens_of terms k t u c reply + within t u gs
  given_within (keyed s n ask) reply gs = ask_within A P C k t u gs (terms.identity n) ask reply
  given_within (whole s what) reply gs = omega arith

  -- The tokens of a window over a list of calls.
  pub happened_within : (answered : List (Answered S N)) (gs : List Grant)
      → within t u (happened (window_bound A P C) terms k answered gs) ≡ tokens_usable terms k t u answered + within t u gs
  unfolding happened tokens_usable
  happened_within [] gs = omega arith
  happened_within (a ∷ rest) gs =
      omega (arith, happened_within rest (given (window_bound A P C) terms k a.call a.reply gs), given_within a.call a.reply gs)
