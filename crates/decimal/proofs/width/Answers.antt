-- `decimal::width` is one more than the power of ten that a number reaches.
use Rattle.decimal.proofs.WriteLaws.{digits_counted}
use Rattle.decimal.proofs.width.Goals as goal

pub returns : goal.returns
returns c = let log = c.ilog10.ensures in
    digits_counted _ _ log.bound (rw c.max.ensures at log.power_le) (rw c.max.ensures at log.next_power_gt)
