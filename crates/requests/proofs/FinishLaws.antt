-- The second half of a request: what was left may be finished, and what it is answered then is what the rule answers.
use Rattle.std.proofs.Common.{Option, Some, None}
use Prim.Native.Nat.{ℕ, ◌≤◌}
use mathlib.Core.Path.{◌≡◌, refl, sym, ap, ◌∙◌}
use mathlib.Core.Bool.{Bool, true, false, not, true≢false, ◌&&◌}
use mathlib.Core.List.{List}
use lib.Dec.{leb, eqb}
use borrow.Author.Tests.{leb-true, eqb-false, not-true, eq-eqb, ne_eqb}
use Rattle.arith.proofs.Cases.{by_test, by_eq}
use Rattle.rows.specs.Outcome.{Outcome, outcome}
use Rattle.units.specs.declared.Nanos.{Nanos}
use Rattle.bucket.specs.declared.BucketDecision.{BucketDecision}
use Rattle.bucket.specs.declared.Request.{Request}
use Rattle.settings.specs.declared.Limit.{Limit}
use Rattle.settings.specs.declared.Limit.TheVariants.{Closed, Open}
use Rattle.settings.specs.declared.Settings.{Settings}
use Rattle.settings.specs.declared.Shape.{Shape}
use Rattle.settings.specs.declared.rate.Rate.{Rate}
use Rattle.settings.specs.Settings.{first_refusal, shape_of, most_counted, ShapeOfAccepted}
use Rattle.settings.specs.Rate.{burst_of}
use Rattle.shard.specs.declared.Identity.{Identity}
use Rattle.shard.specs.declared.Policy.{Policy}
use Rattle.shard.specs.Model as OneShard
use Rattle.shard_map.specs.Model.{Shard, place_of}
use Rattle.store.specs.declared.Part.{Part}
use Rattle.store.specs.Memory.{part_of, shard_in, shard_at, in_part}
use Rattle.store.specs.Refusals.{keyed_refusal}
use Rattle.store.proofs.LendingLaws.{accepted_shape}
use Rattle.store.proofs.RefusalLaws.{Accepted}
use Rattle.rules.specs.declared.Reply.{Reply}
use Rattle.rules.specs.declared.Reply.TheVariants.{Refused}
use Rattle.rules.specs.Asks.{requests, further_to, manner_of, reply_to, policy_of}
use Rattle.rules.proofs.KeyedLaws.{ask_not_refused, refusal_is_told}
use Rattle.requests.specs.declared.Attempt.{Attempt}
use Rattle.requests.specs.declared.Attempt.TheVariants.{Answered, Left}
use Rattle.requests.specs.declared.Why.{Why}
use Rattle.requests.specs.code.Attempts.{rule_to, refusal_to, is_nowhere, needs_slot, attempted_by, attempted, NewKey, LeftFor}
use Rattle.requests.proofs.RequestLaws.{Asking, asked_is_ruled, new_is_told}

-- What a request that needs a slot asks for.
both_true : (a b : Bool) → (a && b) ≡ true → (a ≡ true) × (b ≡ true)
both_true true b holds = (refl, holds)
both_true false b holds = absurd (true≢false (sym holds))

nowhere_is : (p : Option ℕ) → is_nowhere p ≡ true → p ≡ None
nowhere_is (Some i) holds = absurd (true≢false (sym holds))
nowhere_is None holds = refl

slot_is_needed : (rate : Rate) (id : Identity) (cost : ℕ) (sh : Shard) → needs_slot rate id cost sh ≡ true
    → (cost ≤ burst_of rate) × (cost ≡ 0 → ⊥) × (place_of sh id.hash id.key ≡ None)
unfolding needs_slot
slot_is_needed rate id cost sh needs =
    let all = both_true (leb cost (burst_of rate) && not (eqb cost 0)) (is_nowhere (place_of sh id.hash id.key)) needs in
    let costs = both_true (leb cost (burst_of rate)) (not (eqb cost 0)) all.0 in
    (leb-true _ _ costs.0, eqb-false _ _ (not-true _ costs.1), nowhere_is _ all.1)

-- What an attempt comes to: an answer is the rule's, with all words; a request that is left has changed no word, and may be finished.
abbrev Met : Request → Settings → Nanos → Identity → ℕ → (before after : List ℕ) → Attempt → Type 0
Met r s at id cost ws ws' (Answered reply) = outcome reply ws' ≡ rule_to r s at id cost ws
Met r s at id cost ws ws' (Left why) = (ws' ≡ ws) × LeftFor why r s at id cost ws

module _ (r : Request) (s : Settings) (at : Nanos) (id : Identity) (cost : ℕ) (ws : List ℕ) where
  met_by : (limit : Limit) → s.limit ≡ limit → let o = attempted_by r limit s at id cost ws in Met r s at id cost ws o.after o.answer
  unfolding attempted_by
  met_by Closed is_limit = refl
  met_by (Open rate) is_limit =
      by_eq (refusal_to r s at id ws) 0
      (λ none.
      by_test (needs_slot rate id cost (shard_at s id.hash ws))
      (λ needs.
      let asked = slot_is_needed rate id cost (shard_at s id.hash ws) needs in
      let new : NewKey r s at id cost ws =
      record { not_refused = none; rate = rate; is_limit = is_limit; within = asked.0; not_zero = asked.1; no_slot = asked.2 } in
      rw (eq-eqb _ _ none, needs) (refl, new))
      (λ needs_none. rw (eq-eqb _ _ none, needs_none) refl))
      (λ some. rw (ne_eqb _ _ some) (refl, some))

  attempt_is_met : (o : Outcome Attempt (List ℕ)) → o ≡ attempted r s at id cost ws → Met r s at id cost ws o.after o.answer
  attempt_is_met o is = rw is (met_by s.limit refl)

-- An attempt on settings that were found equal to some others: its answer is what the rule tells on those; and where it left the request, the words are those
-- before it, so the rule is the same on them.
module _ (r : Request) (s : Settings) (at : Nanos) (id : Identity) (cost : ℕ) (ws ws' : List ℕ) {a : Attempt} {found : Settings} (is_settings : found ≡ s)
    (came_to : outcome a ws' ≡ attempted r found at id cost ws) where
  met : Met r s at id cost ws ws' a
  met = attempt_is_met r s at id cost ws (outcome a ws') (rw is_settings at came_to)

  pub attempt_is_told : {reply : Reply} → a ≡ Answered reply → outcome reply ws' ≡ rule_to r s at id cost ws
  attempt_is_told is = rw is at met

  module _ {why : Why} (is : a ≡ Left why) where
    left : (ws' ≡ ws) × LeftFor why r s at id cost ws
    left = rw is at met

    pub left_may_be_finished : LeftFor why r s at id cost ws'
    left_may_be_finished = rw left.0 left.1

    pub finished_is_told : {o : Outcome Reply (List ℕ)} → o ≡ rule_to r s at id cost ws' → o ≡ rule_to r s at id cost ws
    finished_is_told gave = rw left.0 at gave

-- A number that is not 0 is told.
pub refused_request_is_told : (s : Settings) (at : Nanos) (id : Identity) (ws : List ℕ) (r : Request) (cost : ℕ) {further told : ℕ} → further ≡ further_to r at
    → told ≡ first_refusal (keyed_refusal s id.hash ws) further → (refusal_to r s at id ws ≡ 0 → ⊥)
    → outcome (Refused told) ws ≡ rule_to r s at id cost ws
refused_request_is_told s at id ws r cost is_further is some =
    let number = rw is_further at is in
    refusal_is_told s id (requests r at cost) ws number (λ none. some (sym number ∙ none))

-- A reply that is equal to the one that an outcome has.
pub reply_is_told : {reply told : Reply} {ws : List ℕ} {o : Outcome Reply (List ℕ)} → reply ≡ told → outcome told ws ≡ o → outcome reply ws ≡ o
reply_is_told is gave = rw is gave

-- The rate of a limit that has one.
abbrev rate_or : Rate → Limit → Rate
rate_or other Closed = other
rate_or other (Open rate) = rate

-- A new key: its settings are accepted, so they have a shape; the store may be asked for it; and what the store gives is what the rule tells.
module _ {r : Request} {s : Settings} {at : Nanos} {id : Identity} {cost : ℕ} {ws : List ℕ} (new : NewKey r s at id cost ws) where
  new_key_is_accepted : Accepted s id.hash ws
  new_key_is_accepted = (ask_not_refused s id (requests r at cost) ws new.not_refused).0

  pub new_key_has_shape : s.classes ≤ most_counted → {shape : Shape} → shape ≡ shape_of s → ShapeOfAccepted shape
  new_key_has_shape few is = accepted_shape s new_key_is_accepted.set_up_lem.settings few is

  module _ {rate : Rate} {part' : Part} (is_limit : s.limit ≡ Open rate) (is_part : part' ≡ part_of s id.hash) where
    pub new_key_asks : Asking s id cost ws rate part'
    new_key_asks =
        let same : new.rate ≡ rate = ap (rate_or rate) (sym new.is_limit ∙ is_limit) in
        record { accepted = new_key_is_accepted; is_part = is_part; is_limit = is_limit; within = rw same at new.within; some = new.not_zero }

    pub new_key_is_told : {policy : Policy} {decision : BucketDecision} {ws' : List ℕ} → policy ≡ policy_of s rate
        → outcome decision ws' ≡ in_part part' ws (OneShard.admit policy id r cost at (shard_in part' ws))
        → outcome (reply_to (manner_of r) decision) ws' ≡ rule_to r s at id cost ws
    new_key_is_told is_policy gave =
        asked_is_ruled r s at id cost ws new.not_refused (new_is_told new_key_asks is_policy refl r at refl (rw is_part new.no_slot) gave)
