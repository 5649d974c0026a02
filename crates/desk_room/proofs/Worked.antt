-- The numbers that the desk tells: the room in its 8,192 words in one shard, and in 64.
use mathlib.Core.Path.{◌≡◌, refl}
use Rattle.arith.specs.Arith.{ceil_div}
use Rattle.settings.specs.Powers.{exponent_from, exponent_for}
use Rattle.settings.specs.Settings.{size_refusal}
use Rattle.desk_room.specs.Room.{fits, room_from, room_for}

pub room_in_one_shard : room_for 8192 1 ≡ 629
unfolding ceil_div exponent_from exponent_for size_refusal fits room_from
room_in_one_shard = refl

pub room_in_64_shards : room_for 8192 64 ≡ 576
unfolding ceil_div exponent_from exponent_for size_refusal fits room_from
room_in_64_shards = refl
