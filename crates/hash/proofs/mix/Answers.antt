-- `hash::mix` is the definition's one step: its product is the one that `mixed` takes the low 64 bits of.
use Rattle.std.proofs.Common.{◌∙◌}
use Rattle.hash.proofs.FnvLaws.{product_is_mixed}
use Rattle.hash.proofs.mix.Goals as goal

pub returns : goal.returns
returns c = c.wrapping_mul.ensures ∙ product_is_mixed _ _
