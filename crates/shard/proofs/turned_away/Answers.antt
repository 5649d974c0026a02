-- `turned_away` goes by the key's place, as its definition does. A place that lookup found stands below the cap.
use mathlib.Core.Path.{sym, ◌∙◌}
use Rattle.shard.proofs.ModelLaws.{found_below_cap, count_with_slot, count_without_slot}
use Rattle.shard.proofs.turned_away.Goals as goal

pub get-requires : goal.get-requires
get-requires c = let pre' = c.requires in
    let found = sym c.position.ensures ∙ c.in-Some.is in
    (pre', found_below_cap _ _ _ pre' found)

pub returns-in-Some : goal.returns-in-Some
returns-in-Some c = let found = sym c.position.ensures ∙ c.in-Some.is in
    rw (c.times_turned_away.ensures, c.get.ensures) (count_with_slot _ _ _ found)

pub returns-in-None : goal.returns-in-None
returns-in-None c = let missed = sym c.position.ensures ∙ c.in-None.is in
    count_without_slot _ _ missed
