-- `with_existing` lends its part to the store, which gives the outcome on the shard in it.
use Rattle.store.proofs.LendingLaws.{lent_starts, intact_of_sound, lent_answered, existing_keeps_count}
use Rattle.shard.specs.Model as OneShard
use native.Mathlib.Omega.{arith}
use Rattle.store.proofs.with_existing.Goals as goal

pub offset_bounds-ws-part : goal.offset_bounds-ws-part
offset_bounds-ws-part c = record { fits = omega (arith, c.requires.0.within, lent_starts c.requires.0) }

pub slice_bounds-with_existing-count : goal.slice_bounds-with_existing-count
slice_bounds-with_existing-count c = lent_starts c.requires.0

pub slice_bounds-with_existing-start : goal.slice_bounds-with_existing-start
slice_bounds-with_existing-start c = lent_starts c.requires.0

pub slice_bounds-with_existing-end : goal.slice_bounds-with_existing-end
slice_bounds-with_existing-end c = c.requires.0.within

pub with_existing-requires : goal.with_existing-requires
with_existing-requires c = (intact_of_sound c.requires.0 c.requires.1, c.requires.2, c.requires.3, c.requires.4)

pub returns : goal.returns
returns c = let args' = c.args in
    let existing' = c.with_existing in
    lent_answered c.requires.0
    (λ s. OneShard.with_existing args'.policy args'.request args'.cost args'.at s args'.pos) _ existing'.auto.ws existing'.ensures
    (existing_keeps_count args'.policy args'.request args'.cost args'.at _ args'.pos)
