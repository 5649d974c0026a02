-- `room_for` tries one modem more with each turn: the room from there on is the room from the first on.
use mathlib.Core.Path.{◌≡◌}
use Prim.Native.Nat.{◌-◌}
use Rattle.settings.specs.Settings.{most_keys}
use Rattle.desk_room.specs.Room.{room_from, room_for}
use Rattle.desk_room.proofs.room_for.Given as goal

abbrev pub invariant-loop-keys : goal.invariant-loop-keys
invariant-loop-keys l = room_from (most_keys - l.keys) l.keys l.words l.shards ≡ room_for l.words l.shards
