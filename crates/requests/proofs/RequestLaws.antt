-- A request, a try and a reservation alike: what it may ask of its shard, and what it is answered.
use Rattle.std.proofs.Common.{Option, Some, None}
use Prim.Native.Nat.{ℕ, ◌≤◌, ◌<◌}
use mathlib.Core.Path.{◌≡◌, refl, sym, ap, ◌∙◌}
use mathlib.Core.List.{List}
use borrow.Author.Tests.{le-ltb, lt-ltb, eq-eqb, ne_eqb}
use Rattle.rows.specs.Outcome.{Outcome, outcome}
use Rattle.units.specs.declared.Nanos.{Nanos}
use Rattle.bucket.specs.declared.BucketDecision.{BucketDecision}
use Rattle.bucket.specs.declared.Request.{Request}
use Rattle.bucket.specs.Bucket as Bucket
use Rattle.settings.specs.declared.Limit.TheVariants.{Closed, Open}
use Rattle.settings.specs.declared.Settings.{Settings}
use Rattle.settings.specs.declared.rate.Rate.{Rate}
use Rattle.settings.specs.Rate.{burst_of}
use Rattle.settings.specs.declared.Shape.{Shape}
use Rattle.settings.specs.Settings.{first_refusal, settings_refusal, shape_of}
use Rattle.settings.proofs.RateLaws.{accepted_rate}
use Rattle.settings.proofs.SettingsLaws.{accepted_parts}
use Rattle.shard.specs.declared.Identity.{Identity}
use Rattle.shard.specs.declared.Policy.{Policy}
use Rattle.shard.specs.Model as OneShard
use Rattle.shard.proofs.ModelLaws.{ask_with_slot, ask_without_slot}
use Rattle.shard_map.specs.Model.{Sound, place_of}
use Rattle.store.specs.declared.Part.{Part}
use Rattle.store.specs.Memory.{Placed, Counted, part_of, shard_in, shard_at, in_part, in_shard}
use Rattle.store.specs.Refusals.{shape_refusal}
use Rattle.store.proofs.LendingLaws.{found_place_below, accepted_part, accepted_count}
use Rattle.store.proofs.RefusalLaws.{Accepted}
use Rattle.rules.specs.declared.Reply.{Reply}
use Rattle.rules.specs.Asks.{requests, further_to, Manner, manner_of, closed_to, too_much, at_once, reply_to, replied_as, policy_of, asked_in}
use Rattle.rules.specs.Rules.{unless_refused, keyed_outcome}
use Rattle.rules.proofs.KeyedLaws.{ask_not_refused, not_refused_is_asked, in_shard_unchanged, unchanged_is_told}
use Rattle.requests.specs.code.Attempts.{rule_to, refusal_to}

-- A request that is not refused does what it asks in the shard of its key.
pub asked_is_ruled : (r : Request) (s : Settings) (at : Nanos) (id : Identity) (cost : ℕ) (ws : List ℕ) {o : Outcome Reply (List ℕ)}
    → refusal_to r s at id ws ≡ 0 → o ≡ keyed_outcome (shape_of s) s id (requests r at cost) ws → o ≡ rule_to r s at id cost ws
asked_is_ruled r s at id cost ws none gave = gave ∙ sym (not_refused_is_asked s id (requests r at cost) ws none)

-- A request that leaves its shard as it is: of more than a full bucket, and of nothing.
module _ (r : Request) (s : Settings) (at : Nanos) (id : Identity) (cost : ℕ) (ws : List ℕ) (none : refusal_to r s at id ws ≡ 0) where
  abbrev manner : Manner
  manner = manner_of r

  accepted : Accepted s id.hash ws
  accepted = (ask_not_refused s id (requests r at cost) ws none).0

  module _ {rate : Rate} (is_limit : s.limit ≡ Open rate) where
    pub too_much_is_told : burst_of rate < cost → outcome (too_much manner) ws ≡ rule_to r s at id cost ws
    unfolding asked_in
    too_much_is_told more =
        asked_is_ruled r s at id cost ws none (rw (is_limit, lt-ltb _ _ more) (sym (in_shard_unchanged s id.hash ws accepted (too_much manner))))

    pub nothing_is_granted : {told : Reply} → cost ≤ burst_of rate → cost ≡ 0 → told ≡ at_once manner at → outcome told ws ≡ rule_to r s at id cost ws
    unfolding asked_in
    nothing_is_granted within no_cost is_told =
        asked_is_ruled r s at id cost ws none
        (rw (is_told, is_limit, le-ltb _ _ within, eq-eqb _ _ no_cost) (sym (in_shard_unchanged s id.hash ws accepted (at_once manner at))))

-- On a closed limiter: the number, else what is told there.
pub closed_request_is_told : (r : Request) (s : Settings) (at : Nanos) (id : Identity) (cost : ℕ) (ws : List ℕ) {refusal further : ℕ} {shape : Shape}
    {reply : Reply}
    {o : Outcome Reply (List ℕ)} → s.limit ≡ Closed → reply ≡ closed_to (manner_of r) at cost
    → refusal ≡ settings_refusal s → shape ≡ shape_of s → further ≡ further_to r at
    → o ≡ unless_refused (first_refusal refusal (first_refusal (shape_refusal shape id.hash ws) further)) ws (outcome reply ws) → o ≡ rule_to r s at id cost ws
unfolding asked_in
closed_request_is_told r s at id cost ws {reply = reply} is_limit is_reply is_refusal is_shape is_further gave =
    unchanged_is_told s id (requests r at cost) ws reply refl (rw (is_limit, is_reply)) is_refusal is_shape is_further gave

-- A request at a rate, for some tokens that a full bucket holds, that is not refused by number.
pub record Asking (s : Settings) (id : Identity) (cost : ℕ) (ws : List ℕ) (rate : Rate) (part' : Part) : Type 0 where
  pub accepted : Accepted s id.hash ws
  pub is_part : part' ≡ part_of s id.hash
  pub is_limit : s.limit ≡ Open rate
  pub within : cost ≤ burst_of rate
  pub some : cost ≡ 0 → ⊥

-- What the store may be asked for it: the key's place; a request of a new key; and one of a known key, whose place stands below the cap.
module _ {s : Settings} {id : Identity} {cost : ℕ} {ws : List ℕ} {rate : Rate} {part' : Part} (a : Asking s id cost ws rate part') where
  pub place_may_be_asked : Placed part' ws × Sound (shard_in part' ws)
  place_may_be_asked = accepted_part s id.hash ws a.accepted a.is_part

  pub new_may_be_asked : {policy : Policy} → policy ≡ policy_of s rate
      → Placed part' ws × Sound (shard_in part' ws) × Bucket.Accepted policy.config × (cost ≤ policy.config.capacity) × Counted part' ws
  new_may_be_asked is_policy =
      let rated = accepted_rate rate (rw a.is_limit at (accepted_parts s a.accepted.set_up_lem.settings).0) in
      let counted = accepted_count s id.hash ws a.accepted a.is_part in
      (place_may_be_asked.0, place_may_be_asked.1, rw is_policy rated, rw is_policy a.within, counted)

  module _ {policy : Policy} {place : Option ℕ} (is_policy : policy ≡ policy_of s rate) (is_place : place ≡ place_of (shard_in part' ws) id.hash id.key) where
    pub known_may_be_asked : (i : ℕ) → place ≡ Some i
        → Placed part' ws × Sound (shard_in part' ws) × Bucket.Accepted policy.config × (cost ≤ policy.config.capacity) × (i < part'.cap)
    known_may_be_asked i found =
        let asked = new_may_be_asked is_policy in
        (asked.0, asked.1, asked.2, asked.3, found_place_below asked.0 id.hash id.key i asked.1 (sym is_place ∙ found))

    -- What the store's answer, in the shard of the key, makes of the reply and of all words.
    module _ (r : Request) (at : Nanos) {decision : BucketDecision} {told : Reply} {ws' : List ℕ} (is_reply : told ≡ reply_to (manner_of r) decision) where
      request_is_told : outcome decision ws' ≡ in_shard s id.hash ws (OneShard.with_or_insert policy id r cost at (shard_at s id.hash ws))
          → outcome told ws' ≡ keyed_outcome (shape_of s) s id (requests r at cost) ws
      unfolding asked_in
      request_is_told gave =
          rw (a.is_limit, le-ltb _ _ a.within, ne_eqb _ _ a.some)
          (rw is_reply (ap (λ (o : Outcome BucketDecision (List ℕ)). outcome (reply_to (manner_of r) o.answer) o.after) (rw is_policy at gave)))

      pub known_is_told : (i : ℕ) → place ≡ Some i → outcome decision ws' ≡ in_part part' ws (OneShard.with_existing policy r cost at (shard_in part' ws) i)
          → outcome told ws' ≡ keyed_outcome (shape_of s) s id (requests r at cost) ws
      known_is_told i found gave =
          let with_slot = ask_with_slot policy id r cost at (shard_at s id.hash ws) i (rw a.is_part at (sym is_place ∙ found)) in
          request_is_told ((rw a.is_part at gave) ∙ ap (in_shard s id.hash ws) with_slot)

      pub new_is_told : place ≡ None → outcome decision ws' ≡ in_part part' ws (OneShard.admit policy id r cost at (shard_in part' ws))
          → outcome told ws' ≡ keyed_outcome (shape_of s) s id (requests r at cost) ws
      new_is_told missed gave =
          let without_slot = ask_without_slot policy id r cost at (shard_at s id.hash ws) (rw a.is_part at (sym is_place ∙ missed)) in
          request_is_told ((rw a.is_part at gave) ∙ ap (in_shard s id.hash ws) without_slot)
