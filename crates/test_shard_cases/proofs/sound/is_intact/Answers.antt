-- `sound::is_intact` says yes only after the tests of cap, length and counts, which are what intact words are.
use Rattle.std.proofs.Common.{arith, leb-true}
use Rattle.test_shard_cases.proofs.IntactLaws.{counts_within_are_intact}
use Rattle.test_shard_cases.proofs.sound.is_intact.Goals as goal

pub returns : goal.returns
returns c = λ e. counts_within_are_intact _ _ (omega arith) (omega arith) (omega arith) (omega (arith, leb-true _ _ e))
