-- `finish` writes what the last line and the rows print.
use Rattle.std.proofs.Common.{true, arith}
use Rattle.outage_feed.proofs.finish.Goals as goal

pub flush-requires : goal.flush-requires
flush-requires g c =
    let done = c.last_line-feed.ensures in
    (omega (arith, done.fits, c.last_line-feed.auto.output), record { from = _; lines = _; at_end = true; rs = _; memory = _; answers = done.answers })
