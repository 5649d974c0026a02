-- A request, a try or a reservation, in two halves: what the first comes to, and what the second may rely on.
-- No promise rests on this page: it serves the inner contracts of the code.
use Rattle.std.specs.Prelude.{ℕ, ◌≤◌, ◌≡◌, Bool, true, false, not, cond, ◌&&◌, List, leb, eqb, Option, Some, None}
use Rattle.rows.specs.Outcome.{Outcome, outcome}
use Rattle.units.specs.declared.Nanos.{Nanos}
use Rattle.bucket.specs.declared.Request.{Request}
use Rattle.settings.specs.declared.Limit.{Limit}
use Rattle.settings.specs.declared.Limit.TheVariants.{Closed, Open}
use Rattle.settings.specs.declared.Settings.{Settings}
use Rattle.settings.specs.declared.rate.Rate.{Rate}
use Rattle.settings.specs.Rate.{burst_of}
use Rattle.settings.specs.Settings.{first_refusal}
use Rattle.shard.specs.declared.Identity.{Identity}
use Rattle.shard_map.specs.Model.{Shard, place_of}
use Rattle.store.specs.Memory.{shard_at}
use Rattle.store.specs.Refusals.{keyed_refusal}
use Rattle.rules.specs.declared.Reply.{Reply}
use Rattle.rules.specs.Asks.{requests, further_to}
use Rattle.rules.specs.Rules.{keyed_rule}
use Rattle.requests.specs.declared.Attempt.{Attempt}
use Rattle.requests.specs.declared.Attempt.TheVariants.{Answered, Left}
use Rattle.requests.specs.declared.Why.{Why}
use Rattle.requests.specs.declared.Why.TheVariants.{Refused, New}

-- The rule of a request.
abbrev pub rule_to : Request → Settings → Nanos → Identity → ℕ → List ℕ → Outcome Reply (List ℕ)
rule_to r s at id cost ws = keyed_rule s id (requests r at cost) ws

-- The number by which a request is refused, whatever its cost; 0 if it is not.
abbrev pub refusal_to : Request → Settings → Nanos → Identity → List ℕ → ℕ
refusal_to r s at id ws = first_refusal (keyed_refusal s id.hash ws) (further_to r at)

-- Whether a lookup found no slot.
abbrev pub is_nowhere : Option ℕ → Bool
is_nowhere (Some i) = false
is_nowhere None = true

-- Whether a request at a rate has a cost from 1 to the burst, and lookup in its shard finds no slot of the key.
unfoldable pub needs_slot : Rate → Identity → ℕ → Shard → Bool
needs_slot rate id cost sh = leb cost (burst_of rate) && not (eqb cost 0) && is_nowhere (place_of sh id.hash id.key)

-- An answer is the rule's, with all words.
abbrev pub answered : Outcome Reply (List ℕ) → Outcome Attempt (List ℕ)
answered o = outcome (Answered o.answer) o.after

-- What an attempt comes to. On a closed limiter it answers. Where there is a rate it leaves a refused request and one of a new key, changing no word, and
-- answers any other.
unfoldable pub attempted_by : Request → Limit → Settings → Nanos → Identity → ℕ → List ℕ → Outcome Attempt (List ℕ)
attempted_by r Closed s at id cost ws = answered (rule_to r s at id cost ws)
attempted_by r (Open rate) s at id cost ws =
    cond (eqb (refusal_to r s at id ws) 0)
    (cond (needs_slot rate id cost (shard_at s id.hash ws)) (outcome (Left New) ws) (answered (rule_to r s at id cost ws)))
    (outcome (Left Refused) ws)

abbrev pub attempted : Request → Settings → Nanos → Identity → ℕ → List ℕ → Outcome Attempt (List ℕ)
attempted r s at id cost ws = attempted_by r s.limit s at id cost ws

-- The request is not refused. The limiter has a rate. The cost is from 1 to the burst. Lookup finds no slot of the key.
pub record NewKey (r : Request) (s : Settings) (at : Nanos) (id : Identity) (cost : ℕ) (ws : List ℕ) : Type 0 where
  pub not_refused : refusal_to r s at id ws ≡ 0
  pub rate : Rate
  pub is_limit : s.limit ≡ Open rate
  pub within : cost ≤ burst_of rate
  pub not_zero : cost ≡ 0 → ⊥
  pub no_slot : place_of (shard_at s id.hash ws) id.hash id.key ≡ None

-- What holds of a request that an attempt left, for each reason.
abbrev pub LeftFor : Why → Request → Settings → Nanos → Identity → ℕ → List ℕ → Type 0
LeftFor Refused r s at id cost ws = refusal_to r s at id ws ≡ 0 → ⊥
LeftFor New r s at id cost ws = NewKey r s at id cost ws
