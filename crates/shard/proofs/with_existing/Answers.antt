-- `with_existing` reads the slot, touches it, asks its bucket, and stores it.
use mathlib.Core.Path.{◌≡◌}
use Rattle.slot.specs.Slot.{touched}
use Rattle.shard_map.specs.Layout.{shard}
use Rattle.shard_map.specs.Model.{slot_at}
use Rattle.shard.specs.Model.{tracks}
use Rattle.shard.proofs.ModelLaws.{known_by_store}
use Rattle.shard.proofs.with_existing.Goals as goal

is-touched : (c : goal.After-slice_known-2-1) → let a = c.args in
    c.touch_value-slot.result ≡ touched (slot_at (shard a.cap a.ws.now) a.pos) a.at (tracks a.policy.idle_ttl)
is-touched c = rw (c.tracks_idle.ensures, c.get-stored.ensures) at c.touch_value-slot.ensures

pub returns : goal.returns
returns c = rw (c.set.ensures, c.asked.ensures, c.ask_at-asked.ensures) (known_by_store _ _ _ _ _ _ (is-touched c))
