-- `admit` goes by the answer of `make_room`. Where that refuses, no debt was taken out, so the definition puts none back.
use mathlib.Core.Path.{◌∙◌}
use Rattle.shard_map.specs.Layout.{Intact}
use Rattle.shard.proofs.ModelLaws.{intact_after_taking, room_made_fits_a_slot, new_joins, new_refused}
use Rattle.shard.proofs.admit.Goals as goal

still-intact : (c : goal.After-make_room-arg-1) → Intact c.args.cap c.take-owed.new.ws
still-intact c = intact_after_taking c.requires.0 c.take-owed.auto.ws c.args.id c.take-owed.ensures

still-intact_2 : (c : goal.After-join-arg-1) → Intact c.args.cap c.take-owed.new.ws
still-intact_2 c = intact_after_taking c.requires.0 c.take-owed.auto.ws c.args.id c.take-owed.ensures

pub make_room-requires : goal.make_room-requires
make_room-requires c = (still-intact c, c.requires.1)

pub join-requires : goal.join-requires
join-requires c = let told = c.in-Ok.is in
    let made = room_made_fits_a_slot (still-intact_2 c) c.make_room.auto.ws c.args.policy c.args.at c.make_room.ensures told in
    (made.0, c.requires.1, c.requires.2, made.1)

pub returns-in-Ok : goal.returns-in-Ok
returns-in-Ok c = c.join.ensures ∙ new_joins _ _ _ _ _ _ c.take-owed.ensures c.make_room.ensures c.in-Ok.is

pub returns-in-Err : goal.returns-in-Err
returns-in-Err c = new_refused _ _ _ _ _ _ c.take-owed.ensures c.make_room.ensures _ c.requires.0.sound c.in-Err.is
