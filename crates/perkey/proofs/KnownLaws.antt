-- Whether a key was known, as the reply of an operation.
use Prim.Native.Nat.{ℕ}
use mathlib.Core.Path.{◌≡◌, ap}
use mathlib.Core.Bool.{Bool}
use mathlib.Core.List.{List}
use Rattle.rows.specs.Outcome.{Outcome, outcome}
use Rattle.bucket.specs.declared.BucketCore.{BucketCore}
use Rattle.settings.specs.declared.Limit.TheVariants.{Closed, Open}
use Rattle.settings.specs.declared.Settings.{Settings}
use Rattle.settings.specs.declared.rate.Rate.{Rate}
use Rattle.shard_map.specs.Model.{Shard}
use Rattle.shard.specs.declared.Identity.{Identity}
use Rattle.store.specs.declared.Part.{Part}
use Rattle.store.specs.Memory.{shard_in, in_part}
use Rattle.rules.specs.declared.Reply.{Reply}
use Rattle.rules.specs.declared.Reply.TheVariants.{Nothing}
use Rattle.rules.specs.Asks.{undoes, refunds, known_reply, undone_in, in_its_shard}

pub key_is_told : {answer known : Bool} {after ws' : List ℕ} {told : Reply} → outcome known ws' ≡ outcome answer after → told ≡ known_reply known
    → outcome told ws' ≡ outcome (known_reply answer) after
key_is_told gave is_reply = rw is_reply (ap (λ (o : Outcome Bool (List ℕ)). outcome (known_reply o.answer) o.after) gave)

-- A refund on a closed limiter leaves the shard as it is.
pub closed_refund : (s : Settings) (id : Identity) (cost : ℕ) (buckets : List BucketCore) (own : Shard) → s.limit ≡ Closed
    → in_its_shard s id (undoes (refunds cost)) buckets own ≡ outcome Nothing own
closed_refund s id cost buckets own is_limit = rw is_limit

-- A refund at the rate that the settings have.
pub refund_by_limit : (s : Settings) (id : Identity) (cost : ℕ) (part' : Part) (ws : List ℕ) {rate : Rate} {o : Outcome Reply (List ℕ)} → s.limit ≡ Open rate
    → o ≡ in_part part' ws (undone_in (refunds cost) (Open rate) id (shard_in part' ws))
    → o ≡ in_part part' ws (undone_in (refunds cost) s.limit id (shard_in part' ws))
refund_by_limit s id cost part' ws is_limit told = rw is_limit told
