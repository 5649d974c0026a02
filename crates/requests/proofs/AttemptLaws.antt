-- What an attempt comes to, case by case, for a try and a reservation alike: it gives the answer of the rule, or leaves the request.
use Rattle.std.proofs.Common.{Option, Some, None, Result}
use Prim.Native.Nat.{ℕ, ◌≤◌, ◌<◌}
use mathlib.Core.Path.{◌≡◌, refl, sym, ap, ◌∙◌}
use mathlib.Core.List.{List}
use borrow.Author.Tests.{le-leb, lt-leb, eq-eqb, ne_eqb}
use Rattle.rows.specs.Outcome.{Outcome, outcome}
use Rattle.units.specs.declared.Nanos.{Nanos}
use Rattle.bucket.specs.declared.Request.{Request}
use Rattle.settings.specs.declared.Limit.{Limit}
use Rattle.settings.specs.declared.Limit.TheVariants.{Closed, Open}
use Rattle.settings.specs.declared.Settings.{Settings}
use Rattle.settings.specs.declared.Shape.{Shape}
use Rattle.settings.specs.declared.rate.Rate.{Rate}
use Rattle.settings.specs.Rate.{burst_of}
use Rattle.settings.specs.Settings.{first_refusal, settings_refusal, shape_of}
use Rattle.settings.proofs.SettingsLaws.{neither_refuses}
use Rattle.shard.specs.declared.Identity.{Identity}
use Rattle.shard_map.specs.Model.{place_of}
use Rattle.store.specs.declared.Part.{Part}
use Rattle.settings.specs.declared.refusal.Refusal.{Refusal}
use Rattle.settings.specs.Refusal.{GivenUnless}
use Rattle.store.specs.Memory.{part_in, part_of, shard_in, shard_at}
use Rattle.store.specs.Refusals.{shape_refusal}
use Rattle.store.proofs.LendingLaws.{lent_by_settings}
use Rattle.store.proofs.RefusalLaws.{settings_refuse_keyed, first_is_told}
use Rattle.rules.specs.declared.Reply.{Reply}
use Rattle.rules.specs.Asks.{requests, further_to, manner_of, too_much, at_once}
use Rattle.rules.specs.Rules.{keyed_outcome}
use Rattle.requests.specs.declared.Attempt.{Attempt}
use Rattle.requests.specs.declared.Attempt.TheVariants.{Answered, Left}
use Rattle.requests.specs.declared.Why.TheVariants.{Refused, New}
use Rattle.requests.specs.code.Attempts.{rule_to, refusal_to, needs_slot, answered, attempted_by, attempted}
use Rattle.requests.proofs.RequestLaws.{Asking, asked_is_ruled, too_much_is_told, nothing_is_granted}

-- What `lend` lends a request, and the number of settings that are refused.
module _ (r : Request) (s : Settings) (at : Nanos) (id : Identity) (ws : List ℕ) where
  pub request_lending : {shape : Shape} {further : ℕ} → settings_refusal s ≡ 0 → shape ≡ shape_of s → further ≡ further_to r at
      → (lending : Result Part Refusal) → GivenUnless (first_refusal (shape_refusal shape id.hash ws) further) (part_in shape id.hash) lending
      → GivenUnless (refusal_to r s at id ws) (part_of s id.hash) lending
  request_lending {further = further} none shaped is_further lending is = rw is_further at (lent_by_settings s id.hash ws none shaped lending further is)

  pub settings_refuse_request : {told : ℕ} → told ≡ settings_refusal s → (told ≡ 0 → ⊥) → told ≡ refusal_to r s at id ws
  settings_refuse_request is some = first_is_told _ (settings_refuse_keyed s id.hash ws is some) some

-- An attempt by the limit that the settings have. A closed limiter answers. Where there is a rate, a refused request is left.
module _ (r : Request) (s : Settings) (at : Nanos) (id : Identity) (cost : ℕ) (ws : List ℕ) where
  by_limit : {limit : Limit} {o : Outcome Attempt (List ℕ)} → s.limit ≡ limit → o ≡ attempted_by r limit s at id cost ws → o ≡ attempted r s at id cost ws
  by_limit is_limit gave = gave ∙ ap (λ (l : Limit). attempted_by r l s at id cost ws) (sym is_limit)

  pub closed_is_answered : {reply : Reply} {ws' : List ℕ} → s.limit ≡ Closed → outcome reply ws' ≡ rule_to r s at id cost ws
      → outcome (Answered reply) ws' ≡ attempted r s at id cost ws
  unfolding attempted_by
  closed_is_answered is_limit gave = by_limit is_limit (ap answered gave)

  module _ {rate : Rate} (is_limit : s.limit ≡ Open rate) where
    pub refused_is_left : {told : ℕ} → told ≡ refusal_to r s at id ws → (told ≡ 0 → ⊥) → outcome (Left Refused) ws ≡ attempted r s at id cost ws
    unfolding attempted_by
    refused_is_left is some = by_limit is_limit (rw (ne_eqb _ _ (λ (none : refusal_to r s at id ws ≡ 0). some (is ∙ none))))

    -- So is one that is refused for its other arguments, whatever the settings and the memory are.
    pub further_is_left : {told : ℕ} → told ≡ further_to r at → (told ≡ 0 → ⊥) → outcome (Left Refused) ws ≡ attempted r s at id cost ws
    further_is_left is some = refused_is_left refl (λ none. some (is ∙ (neither_refuses _ _ none).1))

    -- One that is not refused is answered if it asks for more than a full bucket, or for nothing.
    module _ (none : refusal_to r s at id ws ≡ 0) where
      pub too_much_is_answered : burst_of rate < cost → outcome (Answered (too_much (manner_of r))) ws ≡ attempted r s at id cost ws
      unfolding attempted_by needs_slot
      too_much_is_answered more =
          by_limit is_limit (rw (eq-eqb _ _ none, lt-leb _ _ more) (ap answered (too_much_is_told r s at id cost ws none is_limit more)))

      pub nothing_is_answered : {told : Reply} → cost ≤ burst_of rate → cost ≡ 0 → told ≡ at_once (manner_of r) at
          → outcome (Answered told) ws ≡ attempted r s at id cost ws
      unfolding attempted_by needs_slot
      nothing_is_answered within no_cost is_told =
          let ruled = nothing_is_granted r s at id cost ws none is_limit within no_cost is_told in
          by_limit is_limit (rw (eq-eqb _ _ none, le-leb _ _ within, eq-eqb _ _ no_cost) (ap answered ruled))

-- Any other goes by what lookup finds in the key's part: a known key is answered, and a new key is left.
module _ (r : Request) (at : Nanos) {s : Settings} {id : Identity} {cost : ℕ} {ws : List ℕ} {rate : Rate} {part' : Part} {place : Option ℕ}
    (a : Asking s id cost ws rate part') (none : refusal_to r s at id ws ≡ 0) (is_place : place ≡ place_of (shard_in part' ws) id.hash id.key) where
  in_shard_lem : place_of (shard_at s id.hash ws) id.hash id.key ≡ place
  in_shard_lem = rw a.is_part at (sym is_place)

  pub known_is_answered : (i : ℕ) {reply : Reply} {ws' : List ℕ} → place ≡ Some i → outcome reply ws' ≡ keyed_outcome (shape_of s) s id (requests r at cost) ws
      → outcome (Answered reply) ws' ≡ attempted r s at id cost ws
  unfolding attempted_by needs_slot
  known_is_answered i found gave =
      let ruled = asked_is_ruled r s at id cost ws none gave in
      by_limit r s at id cost ws a.is_limit
      (rw (eq-eqb _ _ none, le-leb _ _ a.within, ne_eqb _ _ a.some, in_shard_lem ∙ found) (ap answered ruled))

  pub new_is_left : place ≡ None → outcome (Left New) ws ≡ attempted r s at id cost ws
  unfolding attempted_by needs_slot
  new_is_left missed =
      by_limit r s at id cost ws a.is_limit (rw (eq-eqb _ _ none, le-leb _ _ a.within, ne_eqb _ _ a.some, in_shard_lem ∙ missed))
