-- What the morning shift reads is what the server will do (request 12 of document 02): of the rules, on a store that has grown from fresh. That the shard of a
-- debt is the shard of its hash is not among the claims (docs/DECISIONS.md).
use Rattle.std.specs.Prelude.{ℕ, ◌<◌, ◌≡◌, List, [], ◌∷◌, None}
use Rattle.units.specs.declared.Nanos.{Nanos}
use Rattle.settings.specs.declared.Limit.TheVariants.{Open}
use Rattle.settings.specs.declared.Settings.{Settings}
use Rattle.settings.specs.declared.rate.Rate.{Rate}
use Rattle.settings.specs.Rate.{burst_of, config_of}
use Rattle.settings.specs.Settings.{shard_count}
use Rattle.ledger.specs.declared.Debt.{Debt}
use Rattle.ledger.specs.Model.{Ledger, debt_at, owed_by}
use Rattle.shard_map.specs.Model.{place_of}
use Rattle.shard.specs.declared.Identity.{Identity}
use Rattle.store.specs.Memory.{shard_at}
use Rattle.store.specs.Refusals.{moment_refusal}
use Rattle.rules.specs.declared.Reply.TheVariants.{Count}
use Rattle.rules.specs.Rules.{available}
use Rattle.rules.specs.Debts.{listed}
use Rattle.rules.specs.MorningList.{of_hash, owed_after, tokens_left}
use Rattle.demands.specs.PlaceOrder.{shard_numbered}

module _ (s : Settings) (ws : List ℕ) where
  -- The ledger of a shard by its number, and that of the shard of a hash.
  abbrev pub ledger_numbered : ℕ → Ledger
  ledger_numbered i = (shard_numbered s i ws).ledger

  abbrev pub ledger_of : ℕ → Ledger
  ledger_of hash = (shard_at s hash ws).ledger

  -- The records of a key's hash in the list of its shard.
  abbrev pub records_of : Nanos → Identity → List Debt
  records_of at id = of_hash id.hash (listed at (ledger_of id.hash))

  pub record ListIsTrue : Type 0 where
    -- A debt at any place of any shard that settles after the moment is in the list of its shard. No other record there has its hash.
    pub once : (at : Nanos) (i : ℕ) → i < shard_count s → (p : ℕ) → p < (ledger_numbered i).debts.count → at.0 < (debt_at (ledger_numbered i) p).settles.0
        → of_hash (debt_at (ledger_numbered i) p).hash (listed at (ledger_numbered i)) ≡ debt_at (ledger_numbered i) p ∷ []
    -- The records of a hash in the list of its shard are the debt that a call on a key of that hash would find, if it settles after the moment.
    pub as_found : (at : Nanos) (hash : ℕ) → of_hash hash (listed at (ledger_of hash)) ≡ owed_after at hash (owed_by (ledger_of hash) hash)
    -- A look at the tokens of a key without a slot, at the moment of the list, answers what the listed record of its hash leaves it. That is less than the
    -- burst.
    pub lacks : (rate : Rate) → s.limit ≡ Open rate → (at : Nanos) → moment_refusal at ≡ 0 → (id : Identity)
        → place_of (shard_at s id.hash ws) id.hash id.key ≡ None → (d : Debt) → records_of at id ≡ d ∷ []
        → ((available s at id ws).answer ≡ Count (tokens_left (config_of rate) at d)) × (tokens_left (config_of rate) at d < burst_of rate)
    -- If no record has its hash, the look answers the tokens of a fresh bucket.
    pub is_fresh : (rate : Rate) → s.limit ≡ Open rate → (at : Nanos) → moment_refusal at ≡ 0 → (id : Identity)
        → place_of (shard_at s id.hash ws) id.hash id.key ≡ None → records_of at id ≡ []
        → (available s at id ws).answer ≡ Count (config_of rate).initial
