-- Lookup by an index changes nothing: on a shard in which lookup finds each slot and each debt, every operation gives the answer that it gives where slots and
-- debts are found in place order, and leaves the same slots, debts, hand, sweep and cursor.
use mathlib.Core.Path.{◌≡◌}
use Rattle.rows.specs.Outcome.{Outcome}
use Rattle.shard_map.specs.Model.{in_place_order, Shard}
use Rattle.shard_map.proofs.PlaceOrderLaws.{FindsEach, place_order, in_place_order_alike, place_in_place_order}
use Rattle.shard.specs.declared.Identity.{Identity}
use Rattle.shard.specs.Model.{turn_aways}
use Rattle.shard.proofs.AlikeLaws.{EveryOperationAlike, every_operation_alike, count_alike}

-- An operation gives the answer that it gives where slots and debts are found in place order, and leaves a shard that differs from the one left there only in
-- how items are found. In the shard that it leaves lookup finds each slot and each debt.
pub record SameAsPlaceOrder {A : Type 0} (operation : Shard → Outcome A Shard) (s : Shard) : Type 0 where
  pub answer : (operation (in_place_order s)).answer ≡ (operation s).answer
  pub after : (operation (in_place_order s)).after ≡ in_place_order (operation s).after
  pub finds_each : FindsEach (operation s).after

module _ (s : Shard) (each : FindsEach s) where
  pub every_operation_in_place_order : EveryOperationAlike place_order s (in_place_order s)
  every_operation_in_place_order = every_operation_alike place_order (in_place_order_alike s each) (place_in_place_order s each)

  pub count_in_place_order : (id : Identity) → turn_aways id s ≡ turn_aways id (in_place_order s)
  count_in_place_order id =
      count_alike place_order (in_place_order_alike s each) id (place_in_place_order s each id.hash id.key) (λ x y same. rw same)
