-- `hash::fnv1a` is the hash of the bytes: at each test of the loop, hashing the bytes that are left, from the hash so far, gives it.
use Rattle.std.proofs.Common.{◌≡◌, drop}
use Rattle.hash.specs.Fnv.{hash_from, fnv1a}
use Rattle.hash.proofs.fnv1a.Given as goal

abbrev pub invariant-loop-byte : goal.invariant-loop-byte
invariant-loop-byte l = hash_from l.hash (drop l.byte-index l.bytes) ≡ fnv1a l.bytes
