-- Counts of tries turned away decide nothing: on a shard without its counts every operation, but the look at a count, answers as on the shard itself, and what
-- it leaves there is, but for the counts, what it leaves on the shard itself. This holds of every shard.
use Prim.Native.Nat.{ℕ}
use mathlib.Core.Path.{◌≡◌}
use Rattle.units.specs.declared.Nanos.{Nanos}
use Rattle.bucket.specs.declared.BucketConfig.{BucketConfig}
use Rattle.bucket.specs.declared.Request.{Request}
use Rattle.rows.specs.Outcome.{Outcome}
use Rattle.held.proofs.AlikeLaws.{SameOutcome}
use Rattle.shard_map.specs.Model.{Shard, uncounted}
use Rattle.shard_map.proofs.AlikeLaws.{AlikeShards}
use Rattle.shard_map.proofs.TurnAwayLaws.{countless, equal_but_for_turn_aways, uncounted_alike, place_uncounted}
use Rattle.shard.specs.declared.Identity.{Identity}
use Rattle.shard.specs.declared.Policy.{Policy}
use Rattle.shard.specs.Model.{with_or_insert, viewed, holds, refunded, removed}
use Rattle.shard.proofs.AlikeLaws.{EveryOperationAlike, every_operation_alike}

pub every_operation_without_turn_aways : (s : Shard) → EveryOperationAlike countless (uncounted s) s
every_operation_without_turn_aways s = every_operation_alike countless (uncounted_alike s) (place_uncounted s)

pub record SameWithoutTurnAways {A : Type 0} (operation : Shard → Outcome A Shard) (s : Shard) : Type 0 where
  pub answer : (operation (uncounted s)).answer ≡ (operation s).answer
  pub after : uncounted (operation (uncounted s)).after ≡ uncounted (operation s).after

pub record TurnAwaysDecideNothing (s : Shard) : Type 0 where
  pub asks : (p : Policy) (id : Identity) (request : Request) (cost : ℕ) (at : Nanos) → SameWithoutTurnAways (with_or_insert p id request cost at) s
  pub refunds : (c : BucketConfig) (id : Identity) (cost : ℕ) → SameWithoutTurnAways (refunded c id cost) s
  pub removes : (id : Identity) → SameWithoutTurnAways (removed id) s
  pub views : (c : BucketConfig) (id : Identity) (at : Nanos) → viewed c id at (uncounted s) ≡ viewed c id at s
  pub tells : (id : Identity) → holds id (uncounted s) ≡ holds id s

pub turn_aways_decide_nothing : (s : Shard) → TurnAwaysDecideNothing s
turn_aways_decide_nothing s = record {
  asks = λ p id request cost at. same (alike.asks p id request cost at);
  refunds = λ c id cost. same (alike.refunds c id cost);
  removes = λ id. same (alike.removes id);
  views = alike.views;
  tells = alike.tells;
}
  where
    alike : EveryOperationAlike countless (uncounted s) s
    alike = every_operation_without_turn_aways s

    same : {A : Type 0} {operation : Shard → Outcome A Shard} → SameOutcome (AlikeShards countless) (operation (uncounted s)) (operation s)
        → SameWithoutTurnAways operation s
    same is = record { answer = is.answer; after = equal_but_for_turn_aways is.after }
