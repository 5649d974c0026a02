-- What happens to one key in a list of calls, with refunds: the sums of the bound are the tokens that the window with refunds counts, call by call and over a
-- list.
use Prim.Native.Nat.{ℕ, ◌+◌}
use mathlib.Core.Path.{◌≡◌, refl}
use mathlib.Core.Bool.{Bool, ◌&&◌}
use mathlib.Core.List.{List, [], ◌∷◌}
use native.Mathlib.Nat.{zero-add}
use native.Mathlib.Omega.{arith}
use lib.Dec.{eqb}
use Rattle.arith.proofs.Cases.{by_test}
use Rattle.units.specs.declared.Nanos.{Nanos}
use Rattle.settings.specs.declared.decision.Decision.TheVariants.{Acquired, Retry, Impossible}
use Rattle.shard.specs.declared.Identity.{Identity}
use Rattle.rules.specs.declared.Reply.{Reply}
use Rattle.rules.specs.declared.Reply.TheVariants.{Tried, Reserved, Nothing, Done, Count, Refused}
use Rattle.rules.specs.Replies.{of_grant}
use Rattle.rules.specs.Asks.{refunds, removes, Ask, requests, looks, undoes, passes, Manner, as_try, manner_of}
use Rattle.rules.specs.Calls.{Call, keyed, whole, Terms, Answered}
use Rattle.demands.specs.Demands.{usable_from}
use Rattle.demands.specs.Refunds.{of_own, in_span, ask_spanned, if_known, ask_refunded, tokens_counted, if_between, refunded_between}
use Rattle.demands.specs.Refunds.{of_named, spanned_of, refunded_of, named}
use Rattle.demands.proofs.LineBound.{LineBound}
use Rattle.demands.proofs.RefundLaws.{refund_adds}
use Rattle.demands.proofs.RefundBound.{Event, gave, back, within, between, nothing_between, refund_bound}
use Rattle.demands.proofs.GivenLaws.{if_own, wait_told, told_known, granting, ask_gave, given, happened, same_either_way, usable_after_the_wait}

module _ (A P C : ℕ) (k : Identity) (t u : ℕ) where
  abbrev bound : LineBound A P C
  bound = refund_bound A P C

  -- What one call adds to the sums: tokens granted, and tokens refunded.
  record Adds (granted refunded : ℕ) (es next : List Event) : Type 0 where
    counted : within t u next ≡ granted + within t u es
    returned : (after : ℕ) → between t u after next ≡ if_between (within t u es) after refunded + between t u (granted + after) es

  module _ (es : List Event) where
    adds_nothing : Adds 0 0 es es
    adds_nothing = record { counted = omega arith; returned = λ after. rw (nothing_between (within t u es) after, zero-add after) (omega arith) }

    adds_grant : (asked ready tokens : ℕ) → Adds (in_span t u asked ready tokens) 0 es (gave asked ready tokens ∷ es)
    unfolding within between
    adds_grant asked ready tokens = record { counted = refl; returned = λ after. rw (nothing_between (within t u es) after) (omega arith) }

    adds_refund : (tokens : ℕ) → Adds 0 tokens es (back tokens ∷ es)
    unfolding within between
    adds_refund tokens = record { counted = omega arith; returned = λ after. rw (zero-add after) }

    -- Calls of other keys add nothing.
    abbrev own : Identity → Bool
    own id = eqb id.hash k.hash && eqb id.key k.key

    adds_own : (id : Identity) {granted refunded : ℕ} {next : List Event} → Adds granted refunded es next
        → Adds (of_own (own id) granted) (of_own (own id) refunded) es (if_own k id next es)
    unfolding if_own
    adds_own id adds =
        by_test (eqb id.hash k.hash)
        (λ h. by_test (eqb id.key k.key) (λ y. rw (h, y) adds) (λ n. rw (h, n) adds_nothing))
        (λ h. rw h adds_nothing)

    own_nothing : (id : Identity) → of_own (own id) 0 ≡ 0
    own_nothing id = by_test (own id) (λ t. rw t) (λ t. rw t)

    adds_none : (id : Identity) → Adds 0 0 es (if_own k id es es)
    adds_none id = rw (same_either_way k id es) adds_nothing

    own_grant : (m : Manner) (at : Nanos) (id : Identity) (wait cost : ℕ)
        → Adds (of_own (own id) (in_span t u at.0 (usable_from m at wait) cost)) 0 es (if_own k id (gave at.0 (at.0 + wait_told m wait) cost ∷ es) es)
    own_grant m at id wait cost =
        rw (← usable_after_the_wait m at wait)
        (rw (own_nothing id) at (adds_own id (adds_grant at.0 (at.0 + wait_told m wait) cost)))

    request_adds : (m : Manner) (at : Nanos) (id : Identity) (cost : ℕ) (reply : Reply)
        → Adds (of_grant (λ wait. of_own (own id) (in_span t u at.0 (usable_from m at wait) cost)) 0 reply) 0 es
        (if_own k id (granting bound m at cost es reply) es)
    request_adds m at id cost (Tried (Acquired due)) = own_grant m at id 0 cost
    request_adds m at id cost (Tried (Retry due)) = adds_none id
    request_adds m at id cost (Tried Impossible) = adds_none id
    request_adds m at id cost (Reserved due) = own_grant m at id due.wait.0 cost
    request_adds m at id cost Nothing = adds_none id
    request_adds m at id cost Done = adds_none id
    request_adds m at id cost (Count n) = adds_none id
    request_adds m at id cost (Refused n) = adds_none id

    -- A refund adds its cost if it is answered known.
    refund_adds_lem : (cost : ℕ) (reply : Reply) → Adds 0 (if_known cost reply) es (refund_adds bound cost (told_known reply) es)
    refund_adds_lem cost (Tried decision) = adds_nothing
    refund_adds_lem cost (Reserved due) = adds_nothing
    refund_adds_lem cost Nothing = adds_nothing
    refund_adds_lem cost Done = adds_refund cost
    refund_adds_lem cost (Count n) = adds_nothing
    refund_adds_lem cost (Refused n) = adds_nothing

    ask_adds : (id : Identity) (ask : Ask) (reply : Reply)
        → Adds (ask_spanned (own id) t u ask reply) (ask_refunded (own id) ask reply) es (ask_gave bound k id ask reply es)
    ask_adds id (requests r at cost) reply = request_adds (manner_of r) at id cost reply
    ask_adds id (looks l) reply = adds_nothing
    ask_adds id (undoes (refunds cost)) reply = rw (own_nothing id) at (adds_own id (refund_adds_lem cost reply))
    ask_adds id (undoes removes) reply = adds_nothing
    ask_adds id (passes table class at cost) reply = request_adds as_try at id cost reply

  -- Over a list of calls.
  module _ {S N : Type 0} (terms : Terms S N) where
    given_adds : (c : Call S N) (reply : Reply) (es : List Event)
        → Adds (of_named (λ n ask. ask_spanned (named terms k n) t u ask reply) 0 c) (of_named (λ n ask. ask_refunded (named terms k n) ask reply) 0 c) es
        (given bound terms k c reply es)
    given_adds (keyed s n ask) reply es = ask_adds es (terms.identity n) ask reply
    given_adds (whole s what) reply es = adds_nothing es

    pub happened_counted : (answered : List (Answered S N)) (es : List Event)
        → within t u (happened bound terms k answered es) ≡ tokens_counted (spanned_of (named terms k) t u) answered + within t u es
    unfolding happened tokens_counted
    happened_counted [] es = omega arith
    happened_counted (a ∷ rest) es =
        omega (arith, happened_counted rest (given bound terms k a.call a.reply es), (given_adds a.call a.reply es).counted)

    pub happened_returned : (answered : List (Answered S N)) (es : List Event)
        → between t u 0 (happened bound terms k answered es)
        ≡ refunded_between (refunded_of (named terms k)) (spanned_of (named terms k) t u) (within t u es) answered
        + between t u (tokens_counted (spanned_of (named terms k) t u) answered) es
    unfolding happened tokens_counted refunded_between
    happened_returned [] es = omega arith
    happened_returned (a ∷ rest) es =
        let adds = given_adds a.call a.reply es in
        let later = rw adds.counted at (happened_returned rest (given bound terms k a.call a.reply es)) in
        omega (arith, later, adds.returned (tokens_counted (spanned_of (named terms k) t u) rest))
