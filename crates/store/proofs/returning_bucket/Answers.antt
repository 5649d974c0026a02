-- `returning_bucket` lends its part to the store, to read only.
use Rattle.store.proofs.LendingLaws.{lent_starts, lent_shard, intact_of_sound}
use native.Mathlib.Omega.{arith}
use Rattle.store.proofs.returning_bucket.Goals as goal

pub offset_bounds-ws-part : goal.offset_bounds-ws-part
offset_bounds-ws-part c = record { fits = omega (arith, c.requires.0.within, lent_starts c.requires.0) }

pub slice_bounds-returning_bucket-count : goal.slice_bounds-returning_bucket-count
slice_bounds-returning_bucket-count c = lent_starts c.requires.0

pub slice_bounds-returning_bucket-start : goal.slice_bounds-returning_bucket-start
slice_bounds-returning_bucket-start c = lent_starts c.requires.0

pub slice_bounds-returning_bucket-end : goal.slice_bounds-returning_bucket-end
slice_bounds-returning_bucket-end c = c.requires.0.within

pub returning_bucket-requires : goal.returning_bucket-requires
returning_bucket-requires c = (intact_of_sound c.requires.0 c.requires.1, c.requires.2)

pub returns : goal.returns
returns c = rw (lent_shard c.requires.0) at c.returning_bucket.ensures
