-- `find` looks at the home place and leaves the rest of the walk to `find_on`.
use Rattle.std.proofs.Common.{mod-lt}
use Rattle.index.proofs.LayoutLaws.{places_length}
use Rattle.index.proofs.StepLaws.{find_home}
use Rattle.index.proofs.find.Goals as goal

pub home-home-requires : goal.home-home-requires
home-home-requires c = c.requires.room

pub probe-requires : goal.probe-requires
probe-requires c = let pre' = c.requires in (pre', rw c.home-home.ensures (mod-lt _ pre'.room))

pub find_on-requires : goal.find_on-requires
find_on-requires c = let pre' = c.requires in
    (pre', rw c.home-home.ensures (mod-lt _ pre'.room))

pub returns-in-Hit : goal.returns-in-Hit
returns-in-Hit c = let pre' = c.requires in
    find_home _ _ _ _ _ _ (places_length _ _ pre'.inside) pre'.room c.home-home.ensures c.probe.ensures c.in-Hit.is

pub returns-in-Empty : goal.returns-in-Empty
returns-in-Empty c = let pre' = c.requires in
    find_home _ _ _ _ _ _ (places_length _ _ pre'.inside) pre'.room c.home-home.ensures c.probe.ensures c.in-Empty.is

pub returns-in-Other : goal.returns-in-Other
returns-in-Other c = let pre' = c.requires in
    rw c.find_on.ensures
    (find_home _ _ _ _ _ _ (places_length _ _ pre'.inside) pre'.room c.home-home.ensures c.probe.ensures c.in-Other.is)
