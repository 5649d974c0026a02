-- A call on a key: it is refused by its number and leaves the words as they are, or it does what it asks in the shard of its key.
use Rattle.std.proofs.Common.{Result, Ok, Err}
use Prim.Native.Nat.{ℕ, ◌≤◌}
use native.Mathlib.Omega.{arith}
use mathlib.Core.Path.{◌≡◌, refl, sym, ap, ◌∙◌}
use mathlib.Core.Bool.{Bool, true, false, false≢true}
use mathlib.Core.List.{List}
use Rattle.arith.proofs.Cases.{by_eq}
use Rattle.rows.specs.Outcome.{Outcome, outcome}
use Rattle.units.specs.declared.Nanos.{Nanos}
use Rattle.bucket.specs.declared.Request.{Request}
use Rattle.bucket.specs.declared.Request.TheVariants.{Acquire, Reserve, Through}
use Rattle.bucket.specs.Bucket.{longest_wait}
use Rattle.settings.specs.declared.Settings.{Settings}
use Rattle.settings.specs.declared.Shape.{Shape}
use Rattle.settings.specs.Settings.{first_refusal, settings_refusal, limit_refusal, shape_of}
use Rattle.settings.proofs.SettingsLaws.{accepted_parts, neither_refuses}
use Rattle.classes.specs.declared.Class.{Class}
use Rattle.classes.specs.Classes.{table_refusal, number_refusal}
use Rattle.shard_map.specs.Model.{Sound}
use Rattle.shard.specs.declared.Identity.{Identity}
use Rattle.store.specs.declared.Part.{Part}
use Rattle.settings.specs.declared.refusal.Refusal.{Refusal}
use Rattle.settings.specs.Refusal.{number_of, GivenUnless}
use Rattle.store.specs.Memory.{Placed, Counted, part_of, shard_in, shard_at, in_part, in_shard, buckets_at, memory_words}
use Rattle.store.specs.Refusals.{latest_moment, longest_max_wait, memory_refusal, counts_refusal, shape_refusal, keyed_refusal, moment_refusal, wait_refusal}
use Rattle.store.proofs.LendingLaws.{lent_part, accepted_part, accepted_count, in_part_unchanged}
use Rattle.store.proofs.MemoryLaws.{part_placed}
use Rattle.store.proofs.RefusalLaws.{Accepted, keyed_not_refused, moment_not_refused, wait_not_refused, refusals_in_a_row}
use Rattle.rules.specs.declared.Reply.{Reply}
use Rattle.rules.specs.declared.Reply.TheVariants.{Refused}
use Rattle.rules.specs.Asks.{Look, Ask, requests, looks, undoes, passes, further_to, further_through, further_of, looked_in, in_its_shard}
use Rattle.rules.specs.Rules.{unless_refused, ask_refusal, shard_outcome, keyed_outcome, keyed_rule_in, keyed_rule}
use Rattle.rules.proofs.RefusedLaws.{unless_refused_accepts, unless_refused_refuses, unlent_is_refused}

-- What a call that is not refused may count on: accepted settings, memory of the right length, a sound shard; nor is what it asks refused.
pub ask_not_refused : (s : Settings) (id : Identity) (ask : Ask) (ws : List ℕ) → ask_refusal s id ask ws ≡ 0 → Accepted s id.hash ws × (further_of ask ≡ 0)
ask_not_refused s id ask ws none =
    let parts = neither_refuses (keyed_refusal s id.hash ws) (further_of ask) none in
    (keyed_not_refused s id.hash ws parts.0, parts.1)

-- A request that is not refused for what it asks: its moment is not late, and the longest wait that it asks for is not too long.
pub request_in_time : (r : Request) (at : Nanos) → further_to r at ≡ 0 → (at.0 ≤ latest_moment) × (longest_wait r ≤ longest_max_wait)
request_in_time Acquire at none = (moment_not_refused at none, omega arith)
request_in_time (Reserve longest) at none =
    let parts = neither_refuses (moment_refusal at) (wait_refusal longest) none in
    (moment_not_refused at parts.0, wait_not_refused longest parts.1)
request_in_time (Through others) at none = (moment_not_refused at none, omega arith)

-- A try through a class that is not refused for what it asks: its moment is not late, its table is accepted, and its class is in the table.
pub record PassesInTime (cs : List Class) (class : ℕ) (at : Nanos) : Type 0 where
  pub early : at.0 ≤ latest_moment
  pub accepted : table_refusal cs ≡ 0
  pub named : number_refusal cs class ≡ 0

pub pass_in_time : (cs : List Class) (class : ℕ) (at : Nanos) → further_through cs class at ≡ 0 → PassesInTime cs class at
pass_in_time cs class at none =
    let moment = neither_refuses (moment_refusal at) (first_refusal (table_refusal cs) (number_refusal cs class)) none in
    let parts = neither_refuses (table_refusal cs) (number_refusal cs class) moment.1 in
    record { early = moment_not_refused at moment.0; accepted = parts.0; named = parts.1 }

-- Every ask but a try through a class works in the key's shard alone.
abbrev pub in_shard_alone : Ask → Bool
in_shard_alone (requests r at cost) = true
in_shard_alone (looks l) = true
in_shard_alone (undoes u) = true
in_shard_alone (passes table class at cost) = false

pub in_shard_alone_lem : (shape : Shape) (s : Settings) (id : Identity) (ask : Ask) (ws : List ℕ) → in_shard_alone ask ≡ true
    → keyed_outcome shape s id ask ws ≡ shard_outcome shape s id ask ws
in_shard_alone_lem shape s id (requests r at cost) ws alone = refl
in_shard_alone_lem shape s id (looks l) ws alone = refl
in_shard_alone_lem shape s id (undoes u) ws alone = refl
in_shard_alone_lem shape s id (passes table class at cost) ws no_pass = absurd (false≢true no_pass)

module _ (s : Settings) (id : Identity) (ask : Ask) (ws : List ℕ) where
  pub not_refused_is_asked : ask_refusal s id ask ws ≡ 0 → keyed_rule s id ask ws ≡ keyed_outcome (shape_of s) s id ask ws
  unfolding keyed_rule_in
  not_refused_is_asked none = unless_refused_accepts (ask_refusal s id ask ws) ws (keyed_outcome (shape_of s) s id ask ws) none

  pub refused_is_numbered : (ask_refusal s id ask ws ≡ 0 → ⊥) → keyed_rule s id ask ws ≡ outcome (Refused (ask_refusal s id ask ws)) ws
  unfolding keyed_rule_in
  refused_is_numbered some = unless_refused_refuses (ask_refusal s id ask ws) ws (keyed_outcome (shape_of s) s id ask ws) some

  -- As the code comes to it, by a number that it has found;
  pub refusal_is_told : {told : ℕ} → told ≡ ask_refusal s id ask ws → (told ≡ 0 → ⊥) → outcome (Refused told) ws ≡ keyed_rule s id ask ws
  refusal_is_told is some = rw is (sym (refused_is_numbered (λ none. some (is ∙ none))))

  -- and by what the call was lent: nothing, and the number by which it is refused,
  module _ {lending : Result Part Refusal} (is : GivenUnless (ask_refusal s id ask ws) (part_of s id.hash) lending) where
    pub unlent_is_told : {r : Refusal} → lending ≡ Err r → outcome (Refused (number_of r)) ws ≡ keyed_rule s id ask ws
    unfolding keyed_rule_in
    unlent_is_told gave = unlent_is_refused (ask_refusal s id ask ws) ws (keyed_outcome (shape_of s) s id ask ws) (part_of s id.hash) is gave

    -- or the part of its key's shard. That lies in the memory, its shard is sound, and the limit is accepted.
    module _ {part' : Part} (gave : lending ≡ Ok part') where
      pub none_refuses : (ask_refusal s id ask ws ≡ 0) × (part' ≡ part_of s id.hash)
      none_refuses = lent_part (ask_refusal s id ask ws) (part_of s id.hash) is gave

      pub lent_may_be_asked : Placed part' ws × Sound (shard_in part' ws)
      lent_may_be_asked = accepted_part s id.hash ws (ask_not_refused s id ask ws none_refuses.0).0 none_refuses.1

      -- The total counts its slots.
      pub lent_is_counted : Counted part' ws
      lent_is_counted = accepted_count s id.hash ws (ask_not_refused s id ask ws none_refuses.0).0 none_refuses.1

      pub lent_limit_accepted : limit_refusal s.limit ≡ 0
      lent_limit_accepted = (accepted_parts s (ask_not_refused s id ask ws none_refuses.0).0.set_up_lem.settings).0

      -- What the call gives in memory with that part is what it is told.
      pub lent_outcome_is_told : {o : Outcome Reply (List ℕ)} → o ≡ keyed_outcome (shape_of s) s id ask ws → o ≡ keyed_rule s id ask ws
      lent_outcome_is_told answered = answered ∙ sym (not_refused_is_asked none_refuses.0)

      pub lent_is_told : in_shard_alone ask ≡ true → {o : Outcome Reply (List ℕ)}
          → o ≡ in_part part' ws (in_its_shard s id ask (buckets_at (shape_of s) ws) (shard_in part' ws)) → o ≡ keyed_rule s id ask ws
      lent_is_told alone answered =
          lent_outcome_is_told ((rw none_refuses.1 at answered) ∙ sym (in_shard_alone_lem (shape_of s) s id ask ws alone))

-- A call that leaves its shard as it is leaves every word as it is.
pub in_shard_unchanged : {A : Type 0} (s : Settings) (hash : ℕ) (ws : List ℕ) → Accepted s hash ws → (a : A)
    → in_shard s hash ws (outcome a (shard_at s hash ws)) ≡ outcome a ws
in_shard_unchanged s hash ws accepted a = in_part_unchanged (part_placed s hash ws accepted.set_up_lem.size) a

-- So it is with a look, as the code comes to it.
pub lent_look_is_told : (s : Settings) (id : Identity) (l : Look) (ws : List ℕ) {lending : Result Part Refusal}
    → GivenUnless (ask_refusal s id (looks l) ws) (part_of s id.hash) lending
    → {part' : Part} → lending ≡ Ok part' → {reply : Reply} → reply ≡ looked_in l s.limit id (shard_in part' ws)
    → outcome reply ws ≡ keyed_rule s id (looks l) ws
lent_look_is_told s id l ws is gave answered =
    let placed = (lent_may_be_asked s id (looks l) ws is gave).0 in
    lent_is_told s id (looks l) ws is gave refl (rw answered (sym (in_part_unchanged placed _)))

-- A call on a key that leaves its shard as it is, as the code of a closed limiter comes to it: by the settings, then by the memory of their shape, then by the
-- call's other arguments.
keyed_number : (s : Settings) (hash : ℕ) (ws : List ℕ) (further : ℕ)
    → first_refusal (settings_refusal s) (first_refusal (shape_refusal (shape_of s) hash ws) further) ≡ first_refusal (keyed_refusal s hash ws) further
keyed_number s hash ws further =
    let counts = counts_refusal (shape_of s) hash ws in
    let memory = memory_refusal (memory_words s) ws in
    sym (refusals_in_a_row (settings_refusal s) (first_refusal memory counts) further)
    ∙ ap (λ (n : ℕ). first_refusal n further) (sym (refusals_in_a_row (settings_refusal s) memory counts))

module _ (s : Settings) (id : Identity) (ask : Ask) (ws : List ℕ) {refusal further : ℕ} {shape : Shape} (told : Reply) where
  pub unchanged_is_told : {o : Outcome Reply (List ℕ)} → in_shard_alone ask ≡ true
      → in_its_shard s id ask (buckets_at (shape_of s) ws) (shard_at s id.hash ws) ≡ outcome told (shard_at s id.hash ws)
      → refusal ≡ settings_refusal s → shape ≡ shape_of s → further ≡ further_of ask
      → o ≡ unless_refused (first_refusal refusal (first_refusal (shape_refusal shape id.hash ws) further)) ws (outcome told ws) → o ≡ keyed_rule s id ask ws
  unchanged_is_told alone stays is_refusal is_shape is_further gave =
      let number : ℕ = ask_refusal s id ask ws in
      (rw (is_refusal, is_shape, is_further, keyed_number s id.hash ws (further_of ask)) at gave)
      ∙ by_eq number 0
      (λ none.
      unless_refused_accepts number ws (outcome told ws) none
      ∙ sym (in_shard_unchanged s id.hash ws (ask_not_refused s id ask ws none).0 told)
      ∙ ap (in_shard s id.hash ws) (sym stays)
      ∙ sym (in_shard_alone_lem (shape_of s) s id ask ws alone)
      ∙ sym (not_refused_is_asked s id ask ws none))
      (λ some. unless_refused_refuses number ws (outcome told ws) some ∙ sym (refused_is_numbered s id ask ws some))
