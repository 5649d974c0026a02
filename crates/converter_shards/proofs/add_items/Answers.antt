use Rattle.converter_shards.proofs.ForthLaws.{adding_start, adding_fits, adding_long, adding_next, adding_over}
use native.Mathlib.Omega.{arith}
use Rattle.converter_shards.proofs.add_items.Goals as goal

pub loop-i-init : goal.loop-i-init
loop-i-init c = adding_start c.requires

pub item_word-hash-requires : goal.item_word-hash-requires
item_word-hash-requires c = let fits = adding_fits c.requires c.loop-i.invariant in
    (fits, c.loop-i-test.true, omega (arith, fits.within))

pub add-requires : goal.add-requires
add-requires c = let fits = adding_fits c.requires c.loop-i.invariant in
    (fits.room, fits.inside, omega (arith, c.loop-i-test.true))

pub loop-i-preserved : goal.loop-i-preserved
loop-i-preserved c = adding_next c.requires c.loop-i.invariant c.loop-i-test.true c.item_word-hash.ensures c.add.ensures

pub shape_of-ws : goal.shape_of-ws
shape_of-ws c = adding_long c.requires c.loop-i.invariant

pub returns : goal.returns
returns c = adding_over c.requires c.loop-i.invariant c.loop-i-test.false
