-- `remove` goes by the key's place, which is looked up before the debt is taken out. Taking a debt out leaves the slots as they are.
use Rattle.std.proofs.Common.{Some}
use mathlib.Core.Path.{◌≡◌, sym, ◌∙◌}
use Rattle.shard_map.specs.Layout.{shard}
use Rattle.shard_map.specs.Model.{place_of}
use Rattle.shard.proofs.ModelLaws.{some_is_a_debt, intact_after_taking, taking_keeps_held, remove_with_slot, remove_without_slot}
use Rattle.shard.proofs.remove.Goals as goal

found : (c : goal.After-remove_at-arg-1) → let a = c.args in
    place_of (shard a.cap a.ws.now) a.id.hash a.id.key ≡ Some c.in-Some.pos
found c = sym c.position-place.ensures ∙ c.in-Some.is

found_2 : (c : goal.After-slice_known-in-Some-1) → let a = c.args in
    place_of (shard a.cap a.ws.now) a.id.hash a.id.key ≡ Some c.in-Some.pos
found_2 c = sym c.position-place.ensures ∙ c.in-Some.is

pub remove_at-requires : goal.remove_at-requires
remove_at-requires c = let id = c.args.id in
    (intact_after_taking c.requires c.take-debt.auto.ws id c.take-debt.ensures, taking_keeps_held id _ c.take-debt.ensures _ (found c))

pub returns-in-Some : goal.returns-in-Some
returns-in-Some c = rw c.remove_at.ensures (remove_with_slot _ _ c.take-debt.ensures _ (found_2 c))

pub returns-in-None : goal.returns-in-None
returns-in-None c = let missed = sym c.position-place.ensures ∙ c.in-None.is in
    rw (c.is_some.ensures, some_is_a_debt _) (remove_without_slot _ _ c.take-debt.ensures missed)
