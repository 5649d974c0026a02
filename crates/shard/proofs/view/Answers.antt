-- `view` goes by the key's place, as its definition does. A place that lookup found stands below the cap.
use mathlib.Core.Path.{sym, ◌∙◌}
use Rattle.shard.proofs.OwnBucketLaws.{view_of_slot, view_without_slot}
use Rattle.shard.proofs.ModelLaws.{found_below_cap}
use Rattle.shard.proofs.view.Goals as goal

pub bucket_at-requires : goal.bucket_at-requires
bucket_at-requires c = let pre' = c.requires in
    let found = sym c.position.ensures ∙ c.in-Some.is in
    (pre'.0, found_below_cap _ _ _ pre'.0 found)

pub returns-in-Some : goal.returns-in-Some
returns-in-Some c = let found = sym c.position.ensures ∙ c.in-Some.is in
    rw c.bucket_at.ensures (sym (view_of_slot _ _ _ _ _ found))

pub returns-in-None : goal.returns-in-None
returns-in-None c = let missed = sym c.position.ensures ∙ c.in-None.is in
    rw c.returning_bucket.ensures (sym (view_without_slot _ _ _ _ missed))
