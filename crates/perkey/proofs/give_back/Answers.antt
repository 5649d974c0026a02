-- `give_back` answers whether the store knew the key in its shard.
use Rattle.perkey.proofs.KnownLaws.{key_is_told}
use borrow.Author.Rules.{rules}
use Rattle.perkey.proofs.give_back.Goals as goal

pub refund-requires : goal.refund-requires
refund-requires c = let pre' = c.requires in
    (pre'.0, pre'.1, rw c.config.ensures pre'.2)

pub returns : goal.returns
returns c = let given_back = rw c.config.ensures at c.refund.ensures in
    key_is_told given_back c.known_reply.ensures
