-- `any_used` goes through the words; the loop holds that all so far are 0.
use Rattle.converter_shards.proofs.CheckLaws.{NoneBelow}
use Rattle.converter_shards.specs.Checks.{is_used}
use lib.ListN.{length, get_or}
use Rattle.converter_shards.proofs.any_used.Given as goal

abbrev pub invariant-loop-word : goal.invariant-loop-word
invariant-loop-word l = NoneBelow (λ j. is_used (get_or l.ws j 0)) (length l.ws) l.word-index
