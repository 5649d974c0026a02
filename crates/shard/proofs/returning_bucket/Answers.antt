-- `returning_bucket` asks the ledger what the hash owes.
use Rattle.shard.proofs.returning_bucket.Goals as goal

pub returns : goal.returns
returns c = rw (c.returning.ensures, c.owed_by.ensures)
