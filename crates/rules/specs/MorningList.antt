-- What the list of debts is compared with: the debts that the store itself finds, and the tokens of a key that comes back. No operation uses
-- these definitions: they stand in claims.
use Rattle.std.specs.Prelude.{ℕ, ◌-◌, min, cond, List, [], ◌∷◌, Option, Some, None}
use Rattle.units.specs.declared.Nanos.{Nanos}
use Rattle.bucket.specs.declared.BucketConfig.{BucketConfig}
use Rattle.bucket.specs.Debt.{missing_tokens}
use Rattle.ledger.specs.declared.Debt.{Debt}
use Rattle.ledger.specs.Model.{owes}
use Rattle.rules.specs.Debts.{unsettled}

-- The records of one hash in a list, in their order.
unfoldable pub of_hash : ℕ → List Debt → List Debt
of_hash hash [] = []
of_hash hash (d ∷ ds) = cond (owes hash d) (d ∷ of_hash hash ds) (of_hash hash ds)

-- What lookup found of a hash, as records: one record if the hash has a debt that settles after the moment, else none.
abbrev pub owed_after : Nanos → ℕ → Option Nanos → List Debt
owed_after at hash None = []
owed_after at hash (Some settles) = unsettled at (record { hash = hash; settles = settles } ∷ [])

-- The tokens that a debt leaves its key at a moment: a full bucket less the tokens, rounded up, that come back until the debt settles, and no more than a
-- fresh bucket has.
abbrev pub tokens_left : BucketConfig → Nanos → Debt → ℕ
tokens_left c at d = min c.initial (c.capacity - missing_tokens c (d.settles.0 - at.0))
