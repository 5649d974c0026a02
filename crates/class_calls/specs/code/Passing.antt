-- What a try through a class has come to, from step to step. No promise rests on this page: it serves the inner contracts of the code.
use Rattle.std.specs.Prelude.{ℕ, ◌≤◌, ◌≡◌, List}
use Rattle.units.specs.declared.Nanos.{Nanos}
use Rattle.settings.specs.declared.Limit.TheVariants.{Open}
use Rattle.settings.specs.declared.Settings.{Settings}
use Rattle.settings.specs.declared.rate.Rate.{Rate}
use Rattle.settings.specs.Rate.{burst_of}
use Rattle.settings.specs.Settings.{shape_of}
use Rattle.classes.specs.declared.ChainAnswer.TheVariants.{Wait}
use Rattle.classes.specs.Chains.{answer}
use Rattle.classes.specs.Layout.{classes_in}
use Rattle.shard.specs.declared.Identity.{Identity}
use Rattle.store.specs.declared.Part.{Part}
use Rattle.store.specs.Memory.{part_of, buckets_at}
use Rattle.rules.specs.Asks.{passes, with_table, chain_of}
use Rattle.rules.specs.Rules.{ask_refusal}

-- It is not refused, and it was lent the part of its key's shard.
pub record Passing (s : Settings) (table : List ℕ) (at : Nanos) (id : Identity) (class cost : ℕ) (ws : List ℕ) (part : Part) : Type 0 where
  pub not_refused : ask_refusal (with_table table s) id (passes table class at cost) ws ≡ 0
  pub is_part : part ≡ part_of (with_table table s) id.hash

-- The chain has answered with a wait: no burst on it is less than the cost.
pub record UnderChain (wait : Nanos) (s : Settings) (table : List ℕ) (at : Nanos) (id : Identity) (class cost : ℕ) (ws : List ℕ) (part : Part) : Type 0 where
  pub passing : Passing s table at id class cost ws part
  pub answers : let cs = classes_in table in answer cs cost at (buckets_at (shape_of (with_table table s)) ws) (chain_of cs class) ≡ Wait wait

-- The limiter has a rate.
pub record AtRate (rate : Rate) (wait : Nanos) (s : Settings) (table : List ℕ) (at : Nanos) (id : Identity) (class cost : ℕ) (ws : List ℕ) (part : Part)
    : Type 0 where
  pub under : UnderChain wait s table at id class cost ws part
  pub is_limit : s.limit ≡ Open rate

-- Its burst is no less than the cost, which is not 0.
pub record Asking (rate : Rate) (wait : Nanos) (s : Settings) (table : List ℕ) (at : Nanos) (id : Identity) (class cost : ℕ) (ws : List ℕ) (part : Part)
    : Type 0 where
  pub at_rate : AtRate rate wait s table at id class cost ws part
  pub within : cost ≤ burst_of rate
  pub some : cost ≡ 0 → ⊥
