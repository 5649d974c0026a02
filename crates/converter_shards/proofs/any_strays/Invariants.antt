-- `any_strays` goes through the items; the loop holds that none so far strays.
use Rattle.converter_shards.proofs.CheckLaws.{NoneBelow}
use Rattle.converter_shards.specs.code.RowChecks.{strays}
use Rattle.index.specs.Layout.{hash_of, key_of, places_of}
use Rattle.converter_shards.proofs.any_strays.Given as goal

abbrev pub invariant-loop-i : goal.invariant-loop-i
invariant-loop-i l = NoneBelow (strays (hash_of l.index l.ws) (key_of l.index l.ws) l.n (places_of l.index l.ws)) l.n l.i
