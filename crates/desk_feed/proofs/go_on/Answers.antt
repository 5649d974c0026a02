-- A turn carries the run on from where it stood, and one after which it is over leads to its end.
use Rattle.std.proofs.Common.{refl, sym, ◌∙◌, arith, rules}
use Rattle.desk_cutting.proofs.ReadingLaws.{none_turned}
use Rattle.desk_turns.specs.Run.{desk}
use Rattle.desk_feed.proofs.RanLaws.{goes_on, over_by_write, over_by_line_1}
use Rattle.desk_feed.proofs.go_on.Goals as goal

pub loop-turns-init : goal.loop-turns-init
loop-turns-init g c = record {
  same_input = refl;
  same_output = refl;
  same_memory = refl;
  few = c.requires.2;
  counted = omega arith;
  more = c.requires.3;
  far = none_turned desk _ _;
}

pub returns-then-not-flush : goal.returns-then-not-flush
returns-then-not-flush g c =
    let loop' = c.loop-turns in
    let got = c.in-More.ensures.brings in
    over_by_write loop'.input loop'.invariant.far loop'.invariant.more got.1 got.0.0 (omega arith) c.turn-turned.ensures

pub returns-then-has_ended : goal.returns-then-has_ended
returns-then-has_ended g c =
    let loop' = c.loop-turns in
    let got = c.in-More.ensures.brings in
    let ended = sym c.has_ended.ensures ∙ c.if-has_ended.true in
    over_by_line_1 loop'.input loop'.invariant.far loop'.invariant.more got.1 got.0.0 (omega arith) c.turn-turned.ensures ended

pub loop-turns-preserved : goal.loop-turns-preserved
loop-turns-preserved g c =
    let loop' = c.loop-turns in
    let got = c.in-More.ensures.brings in
    let more = sym c.has_ended.ensures ∙ c.if-has_ended.false in
    record {
      same_input = search rules;
      same_output = search rules;
      same_memory = search rules;
      few = omega (arith, c.turn-turned.ensures.few);
      counted = search rules;
      more = more;
      far = goes_on loop'.input loop'.invariant.far loop'.invariant.more got.1 got.0.0 (omega arith) c.turn-turned.ensures more;
    }
