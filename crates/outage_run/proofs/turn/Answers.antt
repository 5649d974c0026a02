-- `turn` takes the whole lines and keeps the rest.
use Rattle.std.proofs.Common.{◌-◌, ◌≤◌, arith, length-take, rules}
use Rattle.outage_run.proofs.FeedingLaws.{turn_answers}
use Rattle.desk_cutting.proofs.KeptLaws.{turn_keeps, turn_leaves_beyond}
use Rattle.outage_run.proofs.turn.Goals as goal

pub whole_lines-lines-requires : goal.whole_lines-lines-requires
whole_lines-lines-requires c = rw c.unprinted.ensures (c.requires.1, omega (arith, c.requires.2, length-take (c.args.end - 0) c.args.input.now), c.requires.3)

pub returns : goal.returns
returns c = let whole-lines' = c.whole_lines-lines in
    let unprinted' = c.unprinted in
    let a = c.args in
    let answered = whole-lines'.ensures in
    let at = whole-lines'.result.at in
    let kept = c.keep_rest-pending.ensures in
    let inside : at ≤ a.end = omega (arith, answered.within, length-take (a.end - 0) a.input.now) in
    record {
      answers =
          turn_answers a.end a.input.now a.feed a.rs.now a.memory.now a.output.now (rw unprinted'.ensures at answered.answers);
      keeps = λ goes_on. turn_keeps a.end a.input.now at inside c.requires.0 kept.0 kept.1 (answered.leaves goes_on);
      few = omega (arith, kept.0);
      rows = rw unprinted'.ensures at answered.rows;
      fits = answered.fits;
      beyond_printed = answered.beyond;
      beyond_pending = turn_leaves_beyond a.end a.input.now at inside c.requires.0 kept.0 kept.1;
    }
