-- `identity` has the hash and the key of the address.
use Rattle.modems.proofs.AddressLaws.{not_refused_is_six_bytes}
use borrow.Author.Rules.{rules}
use Rattle.modems.proofs.identity.Goals as goal

pub key_of-requires : goal.key_of-requires
key_of-requires c = not_refused_is_six_bytes _ c.requires

pub returns : goal.returns
returns c = rw (c.fnv1a.ensures, c.key_of.ensures)
