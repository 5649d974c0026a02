-- The list of a shard's debts is true of every store that has grown from fresh: the claim of specs/MorningList.antt.
use Rattle.std.proofs.Common.{None}
use Prim.Native.Nat.{ℕ, ◌<◌}
use mathlib.Core.Path.{◌≡◌, refl, sym, ap, subst, ◌∙◌}
use mathlib.Core.List.{List, [], ◌∷◌}
use Rattle.rows.specs.Outcome.{Outcome}
use Rattle.units.specs.declared.Nanos.{Nanos}
use Rattle.bucket.specs.Bucket.{Accepted}
use Rattle.settings.specs.declared.Limit.{Limit}
use Rattle.settings.specs.declared.Limit.TheVariants.{Open}
use Rattle.settings.specs.declared.Settings.{Settings}
use Rattle.settings.specs.declared.rate.Rate.{Rate}
use Rattle.settings.specs.Rate.{config_of}
use Rattle.settings.specs.Settings.{limit_refusal, size_refusal, shard_count}
use Rattle.settings.proofs.SettingsLaws.{no_refusal_hands_on, neither_refuses}
use Rattle.settings.proofs.RateLaws.{accepted_rate}
use Rattle.ledger.specs.declared.Debt.{Debt}
use Rattle.shard_map.specs.Model.{Shard, place_of}
use Rattle.shard_map.proofs.PlaceOrderLaws.{FindsEach}
use Rattle.shard.specs.declared.Identity.{Identity}
use Rattle.store.specs.Memory.{shard_at}
use Rattle.store.specs.Refusals.{moment_refusal}
use Rattle.rules.specs.declared.Reply.{Reply}
use Rattle.rules.specs.declared.Reply.TheVariants.{Count}
use Rattle.rules.specs.Asks.{looks, tokens, tokens_in}
use Rattle.rules.specs.Rules.{available}
use Rattle.rules.specs.MorningList.{tokens_left}
use Rattle.rules.specs.Calls.{Call, keyed, Terms, by_key}
use Rattle.rules.proofs.CallLaws.{refusal_of, not_refused_is_ruled, by_key_is_the_rule}
use Rattle.rules.proofs.ListedLaws.{unsettled_is_listed_once, listed_is_owed, listed_key_has, listed_key_lacks_tokens, unlisted_key_has}
use Rattle.demands.specs.Grown.{Grown}
use Rattle.demands.specs.PlaceOrder.{shard_numbered}
use Rattle.demands.specs.MorningList.{records_of, ListIsTrue}
use Rattle.demands.proofs.GrownLaws.{SoundMemory, of_every_shard, grown_memory_is_sound, sound_refusal_is_the_calls_own}

-- A list of one record is not empty.
abbrev Filled : List Debt → Type 0
Filled [] = ⊥
Filled (d ∷ ds) = Unit {0}

no_record : (d : Debt) → d ∷ [] ≡ [] → ⊥
no_record d same = subst Filled same tt

module _ (s : Settings) (ws : List ℕ) (memory : SoundMemory s ws) where
  -- A look at the tokens of a key is refused for its moment alone.
  tokens_are_told : (at : Nanos) → moment_refusal at ≡ 0 → (id : Identity)
      → (available s at id ws).answer ≡ Count (tokens_in s.limit at id (shard_at s id.hash ws))
  tokens_are_told at early id =
      let c : Call Settings Identity = keyed s id (looks (tokens at)) in
      let none : refusal_of by_key c ws ≡ 0 = sound_refusal_is_the_calls_own by_key memory c refl ∙ no_refusal_hands_on 0 (moment_refusal at) refl ∙ early in
      ap (λ (o : Outcome Reply (List ℕ)). o.answer) (sym (by_key_is_the_rule s id (looks (tokens at)) ws) ∙ not_refused_is_ruled by_key c ws none)

  accepted_config : (rate : Rate) → s.limit ≡ Open rate → Accepted (config_of rate)
  accepted_config rate rated =
      accepted_rate rate (sym (ap limit_refusal rated) ∙ (neither_refuses (limit_refusal s.limit) (size_refusal s) memory.settings).0)

  -- So its answer is what the listed record leaves the key.
  listed_key_is_told : (rate : Rate) → s.limit ≡ Open rate → (at : Nanos) → moment_refusal at ≡ 0 → (id : Identity)
      → place_of (shard_at s id.hash ws) id.hash id.key ≡ None → (d : Debt) → records_of s ws at id ≡ d ∷ []
      → ((available s at id ws).answer ≡ Count (tokens_left (config_of rate) at d)) × (tokens_left (config_of rate) at d < (config_of rate).capacity)
  listed_key_is_told rate rated at early id new d is =
      let own = shard_at s id.hash ws in
      let accepted = accepted_config rate rated in
      let each = memory.finds_each id.hash in
      let has : tokens_in (Open rate) at id own ≡ tokens_left (config_of rate) at d = listed_key_has rate accepted own each at id new d is in
      let fewer = listed_key_lacks_tokens rate accepted own each at id new (λ none. no_record d (sym is ∙ none)) in
      (tokens_are_told at early id ∙ ap (λ (limit : Limit). Count (tokens_in limit at id own)) rated ∙ ap Count has, rw has at fewer)

  unlisted_key_is_told : (rate : Rate) → s.limit ≡ Open rate → (at : Nanos) → moment_refusal at ≡ 0 → (id : Identity)
      → place_of (shard_at s id.hash ws) id.hash id.key ≡ None → records_of s ws at id ≡ []
      → (available s at id ws).answer ≡ Count (config_of rate).initial
  unlisted_key_is_told rate rated at early id new none =
      let own = shard_at s id.hash ws in
      tokens_are_told at early id ∙ ap (λ (limit : Limit). Count (tokens_in limit at id own)) rated
      ∙ ap Count (unlisted_key_has rate (accepted_config rate rated) own (memory.finds_each id.hash) at id new none)

  pub sound_list_is_true : ListIsTrue s ws
  sound_list_is_true = record {
    once = λ at i below p held later.
        unsettled_is_listed_once (shard_numbered s i ws) (of_every_shard s (λ j. FindsEach (shard_numbered s j ws)) memory.finds_each i below) at p held later;
    as_found = λ at hash. listed_is_owed (shard_at s hash ws) (memory.finds_each hash) at hash;
    lacks = listed_key_is_told;
    is_fresh = unlisted_key_is_told;
  }

pub grown_list_is_true : {S N : Type 0} (terms : Terms S N) {s : Settings} {ws : List ℕ} → Grown terms s ws → ListIsTrue s ws
grown_list_is_true terms {s} {ws} grown = sound_list_is_true s ws (grown_memory_is_sound terms grown)
