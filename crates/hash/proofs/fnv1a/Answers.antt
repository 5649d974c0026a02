use Rattle.std.proofs.Common.{sym, ◌∙◌, arith}
use Rattle.hash.proofs.FnvLaws.{hash_mixes_next_byte, hash_ends_after_last_byte}
use Rattle.hash.proofs.fnv1a.Goals as goal

pub loop-byte-preserved : goal.loop-byte-preserved
loop-byte-preserved c = let turn = c.loop-byte in
    rw c.mix-hash.ensures (sym (hash_mixes_next_byte turn.hash _ turn.byte-index (omega arith)) ∙ turn.invariant)

pub returns : goal.returns
returns c = let end = c.loop-byte in
    sym (hash_ends_after_last_byte _ _ end.byte-index (omega arith)) ∙ end.invariant
