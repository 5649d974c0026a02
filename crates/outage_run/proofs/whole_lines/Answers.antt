use Rattle.scan.specs.Bytes.{index_of}
use Rattle.std.proofs.Common.{◌≡◌, ◌+◌, ◌-◌, ◌<◌, length, drop, sym, ◌∙◌, arith, rules}
use Rattle.outage_run.proofs.FeedingLaws.{Underway, none_yet}
use Rattle.desk_cutting.proofs.UnderwayLaws.{none_left, rest_left, line_follows, none_follow, ended_is_over}
use Rattle.desk_cutting.proofs.WrittenLaws.{same_further}
use Rattle.desk_lines.proofs.FieldLaws.{found_from}
use Rattle.desk_lines.specs.Printed.{line_feed}
use Rattle.outage_run.proofs.whole_lines.Goals as goal

pub loop-at-init : goal.loop-at-init
loop-at-init c = none_yet _ _ _ _ _ c.requires.1 c.requires.2

pub take_line-feed-requires : goal.take_line-feed-requires
take_line-feed-requires c = let loop' = c.loop-at in (
  omega (arith, loop'.invariant.rows, loop'.invariant.same_rs, c.requires.0),
  omega (
    arith,
    loop'.invariant.fits,
    loop'.invariant.same_output,
    c.if-stop-bytes.false,
    c.find-stop.ensures.range,
  ),
)

pub loop-at-preserved : goal.loop-at-preserved
loop-at-preserved c = let loop' = c.loop-at in
    let find' = c.find-stop in
    let inv = loop'.invariant in
    let bytes = c.args.bytes.now in
    let took = c.take_line-feed.ensures in
    let stops : find'.result ≡ loop'.at + index_of line_feed (drop loop'.at bytes) = found_from line_feed _ _ find'.ensures.first in
    let inside : find'.result < length bytes = omega
    (arith, c.if-stop-bytes.false, find'.ensures.range) in
    record {
      same_output = search rules;
      same_rs = search rules;
      same_memory = search rules;
      inside = omega arith;
      rows = omega (arith, took.rows, inv.rows);
      fits = omega (arith, took.fits, inv.fits, find'.ensures);
      goes_on = sym c.has_ended.ensures ∙ c.if-has_ended.false;
      far = line_follows inv.far inv.goes_on stops inside took.answers;
      beyond = same_further _ _ _ _ _ inv.beyond took.after took.beyond;
    }

pub returns-after-loop-at : goal.returns-after-loop-at
returns-after-loop-at c = let inv = c.loop-at.invariant in record {
  answers = none_left inv.far (omega arith);
  leaves = λ goes_on. rest_left inv.far
      (omega arith);
  within = inv.inside;
  rows = inv.rows;
  fits = omega (arith, inv.fits, inv.same_output);
  beyond = inv.beyond;
}

pub returns-then-stop-bytes : goal.returns-then-stop-bytes
returns-then-stop-bytes c = let loop' = c.loop-at in
    let find' = c.find-stop in
    let if1' = c.if-stop-bytes in
    let inv = loop'.invariant in
    let bytes = c.args.bytes.now in
    let stops : find'.result ≡ loop'.at + index_of line_feed (drop loop'.at bytes) = found_from line_feed _ _ find'.ensures.first in
    record {
      answers = none_left inv.far (omega (arith, stops, if1'.true));
      leaves = λ goes_on. rest_left inv.far (omega (arith, stops, if1'.true));
      within = inv.inside;
      rows = inv.rows;
      fits = omega (arith, inv.fits, inv.same_output);
      beyond = inv.beyond;
    }

pub returns-then-has_ended : goal.returns-then-has_ended
returns-then-has_ended c = let loop' = c.loop-at in
    let find' = c.find-stop in
    let inv = loop'.invariant in
    let bytes = c.args.bytes.now in
    let took = c.take_line-feed.ensures in
    let stops : find'.result ≡ loop'.at + index_of line_feed (drop loop'.at bytes) = found_from line_feed _ _ find'.ensures.first in
    let inside : find'.result < length bytes = omega
    (arith, c.if-stop-bytes.false, find'.ensures.range) in
    let told = c.has_ended.ensures in
    let ended = c.if-has_ended.true in
    record {
      answers = none_follow inv.far inv.goes_on stops inside took.answers (sym told ∙ ended);
      leaves = ended_is_over told ended;
      within = omega (arith, inside);
      rows = omega (arith, took.rows, inv.rows);
      fits = omega (arith, took.fits, inv.fits, inside, inv.same_output);
      beyond = same_further _ _ _ _ _ inv.beyond took.after took.beyond;
    }
