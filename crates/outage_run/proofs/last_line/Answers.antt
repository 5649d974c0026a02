-- `last_line` takes the bytes that are pending, if there are some, and finishes.
use Rattle.outage_run.proofs.FeedingLaws.{last_then_run}
use Rattle.outage_run.specs.Run.{village}
use Rattle.outage_run.specs.Feeding.{village_of}
use Rattle.desk_cutting.proofs.UnderwayLaws.{no_last_line, last_is_answered}
use Rattle.desk_cutting.proofs.WrittenLaws.{same_further}
use Rattle.std.proofs.Common.{arith, rules}
use Rattle.outage_run.proofs.last_line.Goals as goal

pub finish-requires : goal.finish-requires
finish-requires c = rw c.unprinted-feed.ensures (omega (arith, c.requires.1), omega (arith, c.requires.2))

pub returns-then-pending-eq0 : goal.returns-then-pending-eq0
returns-then-pending-eq0 c = let a = c.args in
    let none = no_last_line village a.pending a.input.now (village_of a.feed a.rs.now a.memory.now)
    (omega (arith, c.if-pending-eq0.true)) in
    let ran = rw c.unprinted-feed.ensures at
    c.finish.ensures in
    record {
      answers = last_then_run none ran;
      fits = omega (arith, ran.fits, c.requires.2);
      beyond = ran.beyond;
    }

pub take_line-feed-requires : goal.take_line-feed-requires
take_line-feed-requires c = rw c.unprinted-feed.ensures (c.requires.1, omega (arith, c.requires.2))

pub finish-requires-2 : goal.finish-requires-2
finish-requires-2 c = let took = rw c.unprinted-feed.ensures at c.take_line-feed.ensures in
    (omega (arith, took.rows, c.requires.1), omega (arith, took.fits, c.requires.2))

pub returns : goal.returns
returns c = let a = c.args in
    let took = rw c.unprinted-feed.ensures at
    c.take_line-feed.ensures in
    let last = last_is_answered village a.pending a.input.now (village_of a.feed a.rs.now a.memory.now)
    (λ none. omega (arith, none, c.if-pending-eq0.false)) c.requires.0 c.requires.3 took.answers in
    record {
      answers = last_then_run last c.finish-2.ensures;
      fits = omega (arith, took.fits, c.finish-2.ensures.fits, c.requires.2);
      beyond = same_further _ _ _ _ _ took.beyond c.finish-2.ensures.after c.finish-2.ensures.beyond;
    }
