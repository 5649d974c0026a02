-- `identity` has the hash that `key_hash` gives.
use borrow.Author.Rules.{rules}
use Rattle.desk_answers.proofs.identity.Goals as goal

pub returns : goal.returns
returns c = rw c.key_hash-hash.ensures
