-- The second part of demand 3, of the rules: a key that holds a slot or a debt is decided by its own bucket.
use Prim.Native.Nat.{ℕ, ◌≤◌}
use mathlib.Core.Path.{◌≡◌, ap, ◌∙◌}
use mathlib.Core.Bool.{true}
use mathlib.Core.List.{List, [], ◌∷◌}
use native.Mathlib.Omega.{arith}
use borrow.Author.Tests.{le-ltb, ne_eqb}
use Rattle.rows.specs.Outcome.{Outcome}
use Rattle.units.specs.declared.Nanos.{Nanos}
use Rattle.bucket.specs.declared.BucketCore.{BucketCore}
use Rattle.bucket.specs.declared.Request.{Request}
use Rattle.settings.specs.declared.Limit.{Limit}
use Rattle.settings.specs.declared.Limit.TheVariants.{Open}
use Rattle.settings.specs.declared.Settings.{Settings}
use Rattle.settings.specs.declared.rate.Rate.{Rate}
use Rattle.settings.specs.Rate.{burst_of, config_of}
use Rattle.settings.specs.Settings.{shape_of}
use Rattle.classes.specs.declared.Class.{Class}
use Rattle.classes.specs.Chains.{least_burst}
use Rattle.classes.specs.Layout.{classes_in}
use Rattle.shard_map.specs.Model.{Shard, Sound}
use Rattle.shard.specs.declared.Identity.{Identity}
use Rattle.shard.specs.Model.{with_or_insert, own_decision, holds}
use Rattle.shard.proofs.OwnBucketLaws.{own_bucket_decides}
use Rattle.store.specs.Memory.{shard_at, buckets_at}
use Rattle.rules.specs.declared.Reply.{Reply}
use Rattle.rules.specs.Asks.{requests, looks, undoes, passes, with_table, manner_of, reply_to, replied_as, policy_of, asked_in, chain_of, through_chain}
use Rattle.rules.specs.Asks.{passed_in}
use Rattle.rules.specs.Calls.{Call, keyed, whole, Terms, rules, Answered, replies, Every}
use Rattle.rules.proofs.KeyedLaws.{ask_not_refused}
use Rattle.rules.proofs.CallLaws.{refusal_of, not_refused_is_ruled, keyed_not_refused, accepted_not_refused}
use Rattle.demands.specs.Demands.{DecidedBy}

-- A cost from 1 to the burst is put to the bucket.
pub in_range_is_asked : (r : Request) (rate : Rate) (s : Settings) (at : Nanos) (id : Identity) (cost : ℕ) (own : Shard) → 1 ≤ cost → cost ≤ burst_of rate
    → asked_in r (Open rate) s at id cost own ≡ replied_as (reply_to (manner_of r)) (with_or_insert (policy_of s rate) id r cost at own)
unfolding asked_in
in_range_is_asked r rate s at id cost own least most = rw (le-ltb (burst_of rate) cost most, ne_eqb cost 0 (λ none. omega arith))

-- So its own bucket answers it, if its key holds a slot or a debt.
pub own_bucket_answers : (s : Settings) (id : Identity) (r : Request) (at : Nanos) (cost : ℕ) (own : Shard) → Sound own → (rate : Rate) → s.limit ≡ Open rate
    → 1 ≤ cost → cost ≤ burst_of rate → holds id own ≡ true
    → (asked_in r s.limit s at id cost own).answer ≡ reply_to (manner_of r) (own_decision (config_of rate) id r cost at own)
own_bucket_answers s id r at cost own sound rate rated least most holding =
    ap (λ (limit : Limit). (asked_in r limit s at id cost own).answer) rated
    ∙ ap (λ (o : Outcome Reply Shard). o.answer) (in_range_is_asked r rate s at id cost own least most)
    ∙ ap (reply_to (manner_of r)) (own_bucket_decides (policy_of s rate) id r cost at own sound holding)

-- A cost over no burst on the chain is put to the shard, with the chain's wait.
within_bursts_is_asked : (s : Settings) (id : Identity) (cs : List Class) (class : ℕ) (at : Nanos) (cost : ℕ) (buckets : List BucketCore) (own : Shard)
    → cost ≤ least_burst cs (chain_of cs class)
    → passed_in s id cs class at cost buckets own ≡ asked_in (through_chain cs class at cost buckets) s.limit s at id cost own
unfolding passed_in
within_bursts_is_asked s id cs class at cost buckets own within = rw (le-ltb _ _ within)

-- The call as the rules answer it in some words.
abbrev pub ruled : {S N : Type 0} → Terms S N → Call S N → List ℕ → Answered S N
ruled terms c ws = record { call = c; reply = (rules terms c ws).answer; rules_words = ws }

module _ {S N : Type 0} (terms : Terms S N) where
  decided : (c : Call S N) (ws : List ℕ) → DecidedBy terms (ruled terms c ws) c
  decided (keyed s n (requests r at cost)) ws = λ taken rate rated least most holding.
      let c : Call S N = keyed s n (requests r at cost) in
      let settings : Settings = terms.settings s in
      let id : Identity = terms.identity n in
      let own : Shard = shard_at settings id.hash ws in
      let none = accepted_not_refused terms (ruled terms c ws) taken in
      let sound = (ask_not_refused settings id (requests r at cost) ws (keyed_not_refused terms s n (requests r at cost) ws none).1).0.sound in
      ap (λ (o : Outcome Reply (List ℕ)). o.answer) (not_refused_is_ruled terms c ws none)
      ∙ own_bucket_answers settings id r at cost own sound rate rated least most holding
  decided (keyed s n (looks l)) ws = tt
  decided (keyed s n (undoes u)) ws = tt
  decided (keyed s n (passes table class at cost)) ws = λ within taken rate rated least most holding.
      let c : Call S N = keyed s n (passes table class at cost) in
      let settings : Settings = with_table table (terms.settings s) in
      let id : Identity = terms.identity n in
      let cs : List Class = classes_in table in
      let own : Shard = shard_at settings id.hash ws in
      let r : Request = through_chain cs class at cost (buckets_at (shape_of settings) ws) in
      let none = accepted_not_refused terms (ruled terms c ws) taken in
      let sound = (ask_not_refused settings id (passes table class at cost) ws (keyed_not_refused terms s n (passes table class at cost) ws none).1).0.sound in
      ap (λ (o : Outcome Reply (List ℕ)). o.answer) (not_refused_is_ruled terms c ws none)
      ∙ ap (λ (o : Outcome Reply Shard). o.answer) (within_bursts_is_asked settings id cs class at cost (buckets_at (shape_of settings) ws) own within)
      ∙ own_bucket_answers settings id r at cost own sound rate rated least most holding
  decided (whole s what) ws = tt

  pub rules_decide_by_own_bucket : (ws : List ℕ) (cs : List (Call S N)) → Every (λ a. DecidedBy terms a a.call) (replies terms (rules terms) cs ws ws)
  unfolding replies
  rules_decide_by_own_bucket ws [] = tt
  rules_decide_by_own_bucket ws (c ∷ cs) = (decided c ws, rules_decide_by_own_bucket (rules terms c ws).after cs)
