-- `record` has the ledger made ready for the debt, and writes it where the ledger is.
use Rattle.std.proofs.lemmas.Result.{err_from_is_err_and}
use Rattle.ledger.proofs.PreparedLaws.{after_prepare, written_after, recorded_in_steps}
use Rattle.ledger.proofs.record.Goals as goal

pub write-requires : goal.write-requires
write-requires c = let prepare' = c.prepare in
    let after = after_prepare _ _ _ c.requires prepare'.auto.ws prepare'.ensures in
    (after.intact, written_after after c.in_ok-place.was)

pub returns : goal.returns
returns c = rw c.write.ensures (recorded_in_steps _ _ _ _ c.prepare.ensures c.in_ok-place.was)

pub returns-in_err-place : goal.returns-in_err-place
returns-in_err-place c = let told = err_from_is_err_and c.from_residual.result c.from_residual.ensures.1 in
    rw (told.1, told.2) (recorded_in_steps _ _ _ _ c.prepare.ensures c.in_err-place.was)
