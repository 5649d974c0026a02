-- `refund` lends its part to the store, which gives the outcome on the shard in it.
use Rattle.store.proofs.LendingLaws.{lent_starts, intact_of_sound, lent_answered, refund_keeps_count}
use Rattle.shard.specs.Model as OneShard
use native.Mathlib.Omega.{arith}
use Rattle.store.proofs.refund.Goals as goal

pub offset_bounds-ws-part : goal.offset_bounds-ws-part
offset_bounds-ws-part c = record { fits = omega (arith, c.requires.0.within, lent_starts c.requires.0) }

pub slice_bounds-refund-count : goal.slice_bounds-refund-count
slice_bounds-refund-count c = lent_starts c.requires.0

pub slice_bounds-refund-start : goal.slice_bounds-refund-start
slice_bounds-refund-start c = lent_starts c.requires.0

pub slice_bounds-refund-end : goal.slice_bounds-refund-end
slice_bounds-refund-end c = c.requires.0.within

pub refund-requires : goal.refund-requires
refund-requires c = (intact_of_sound c.requires.0 c.requires.1, c.requires.2)

pub returns : goal.returns
returns c = let refund' = c.refund in
    lent_answered c.requires.0 (OneShard.refunded _ _ _) _ refund'.auto.ws refund'.ensures
    (refund_keeps_count _ _ _ _)
