-- `bucket_at` lends its part to the shard, to read only.
use Rattle.store.proofs.LendingLaws.{lent_starts, lent_shard, intact_of_sound}
use native.Mathlib.Omega.{arith}
use Rattle.store.proofs.bucket_at.Goals as goal

pub offset_bounds-ws-part : goal.offset_bounds-ws-part
offset_bounds-ws-part c = record { fits = omega (arith, c.requires.0.within, lent_starts c.requires.0) }

pub slice_bounds-bucket_at-count : goal.slice_bounds-bucket_at-count
slice_bounds-bucket_at-count c = lent_starts c.requires.0

pub slice_bounds-bucket_at-start : goal.slice_bounds-bucket_at-start
slice_bounds-bucket_at-start c = lent_starts c.requires.0

pub slice_bounds-bucket_at-end : goal.slice_bounds-bucket_at-end
slice_bounds-bucket_at-end c = c.requires.0.within

pub bucket_at-requires : goal.bucket_at-requires
bucket_at-requires c = (intact_of_sound c.requires.0 c.requires.1, c.requires.2)

pub returns : goal.returns
returns c = rw (lent_shard c.requires.0) at c.bucket_at.ensures
