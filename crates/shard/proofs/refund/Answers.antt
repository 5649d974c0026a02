-- `refund` goes by the key's place, as its definition does. A place that lookup found stands below the cap.
use Rattle.std.proofs.Common.{Some}
use Prim.Native.Nat.{◌<◌}
use mathlib.Core.Path.{◌≡◌, sym, ◌∙◌}
use Rattle.shard_map.specs.Layout.{shard, Intact}
use Rattle.shard_map.specs.Model.{place_of}
use Rattle.shard.proofs.ModelLaws.{found_below_cap, refund_with_slot, refund_without_slot}
use Rattle.shard.proofs.refund.Goals as goal

found : (c : goal.After-slice_known-in-Some-1) → let a = c.args in place_of (shard a.cap a.ws.now) a.id.hash a.id.key ≡ Some c.in-Some.pos
found c = sym c.position.ensures ∙ c.in-Some.is

found_2 : (c : goal.In-Some) → let a = c.args in place_of (shard a.cap a.ws.now) a.id.hash a.id.key ≡ Some c.in-Some.pos
found_2 c = sym c.position.ensures ∙ c.in-Some.is

found_3 : (c : goal.After-set-arg-in-Some-1) → let a = c.args in place_of (shard a.cap a.ws.now) a.id.hash a.id.key ≡ Some c.in-Some.pos
found_3 c = sym c.position.ensures ∙ c.in-Some.is

may-be-read : (c : goal.In-Some) → let a = c.args in Intact a.cap a.ws.now × (c.in-Some.pos < a.cap)
may-be-read c = let intact = c.requires.0 in (intact, found_below_cap _ _ _ intact (found_2 c))

may-be-read_2 : (c : goal.After-set-arg-in-Some-1) → let a = c.args in Intact a.cap a.ws.now × (c.in-Some.pos < a.cap)
may-be-read_2 c = let intact = c.requires.0 in (intact, found_below_cap _ _ _ intact (found_3 c))

pub get-slot-requires : goal.get-slot-requires
get-slot-requires c = may-be-read c

pub set-requires : goal.set-requires
set-requires c = may-be-read_2 c

pub returns-in-Some : goal.returns-in-Some
returns-in-Some c = let read = c.get-slot.ensures in
    rw (c.set.ensures, c.refund-bucket.ensures) (refund_with_slot _ _ _ _ _ (found c) read)

pub returns-in-None : goal.returns-in-None
returns-in-None c = let missed = sym c.position.ensures ∙ c.in-None.is in
    c.pay_down.ensures ∙ refund_without_slot _ _ _ _ missed
