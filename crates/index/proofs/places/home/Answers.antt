-- `places::home` gives the remainder: by the mask where the test shows that the size is a power of two, and else by the division.
use Rattle.index.proofs.MaskLaws.{mask_is_remainder}
use Rattle.index.proofs.places.home.Goals as goal

pub returns-then-size-mask-eq0 : goal.returns-then-size-mask-eq0
returns-then-size-mask-eq0 c = mask_is_remainder _ c.requires c.if-size-mask-eq0.true _
