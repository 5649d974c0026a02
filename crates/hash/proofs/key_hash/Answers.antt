-- `hash::key_hash` is the hash of the key's bytes as std gives them, which are those of the definition.
use Rattle.hash.proofs.FnvLaws.{key_bytes}
use Rattle.hash.proofs.key_hash.Goals as goal

pub returns : goal.returns
returns c = rw (c.to_le_bytes.ensures, key_bytes c.args.key) at c.fnv1a.ensures
