use Rattle.std.proofs.Common.{◌≡◌, ◌+◌, ◌<◌, length, drop, sym, refl, ◌∙◌, arith, rules}
use Rattle.scan.specs.Bytes.{index_of}
use Rattle.desk_lines.specs.Printed.{line_feed}
use Rattle.desk_lines.proofs.FieldLaws.{found_from}
use Rattle.desk_cutting.proofs.WrittenLaws.{same_further}
use Rattle.desk_cutting.proofs.UnderwayLaws.{none_left, rest_left, line_follows, none_follow, ended_is_over}
use Rattle.desk_turns.proofs.FeedingLaws.{none_yet}
use Rattle.desk_turns.proofs.whole_lines.Given.{Over}
use Rattle.desk_turns.proofs.whole_lines.Goals as goal

-- The search stops at the next line feed.
stops : (g : Over) (c : goal.Else-has_ended g) → let bytes = c.args.bytes.now in
    c.find-stop.result ≡ c.loop-at.at + index_of line_feed (drop c.loop-at.at bytes)
stops g c = found_from line_feed _ _ c.find-stop.ensures.first

-- The search stops at the next line feed.
stops_2 : (g : Over) (c : goal.Then-stop-bytes g) → let bytes = c.args.bytes.now in
    c.find-stop.result ≡ c.loop-at.at + index_of line_feed (drop c.loop-at.at bytes)
stops_2 g c = found_from line_feed _ _ c.find-stop.ensures.first

-- The search stops at the next line feed.
stops_3 : (g : Over) (c : goal.Then-has_ended g) → let bytes = c.args.bytes.now in
    c.find-stop.result ≡ c.loop-at.at + index_of line_feed (drop c.loop-at.at bytes)
stops_3 g c = found_from line_feed _ _ c.find-stop.ensures.first

-- A line that is answered ends inside the bytes.
inside : (g : Over) (c : goal.Else-has_ended g) → c.find-stop.result < length c.args.bytes.now
inside g c = omega (arith, c.if-stop-bytes.false, c.find-stop.ensures.range)

-- A line that is answered ends inside the bytes.
inside_2 : (g : Over) (c : goal.Then-has_ended g) → c.find-stop.result < length c.args.bytes.now
inside_2 g c = omega (arith, c.if-stop-bytes.false, c.find-stop.ensures.range)

pub loop-at-init : goal.loop-at-init
loop-at-init g c = let pre' = c.requires in
    (refl, refl, omega arith, omega (arith, pre'.0), pre'.1, none_yet _ _ _ _)

pub loop-at-preserved : goal.loop-at-preserved
loop-at-preserved g c = let inv = c.loop-at.invariant in
    let answered = c.answer_line-feed.ensures in (
      search rules,
      search rules,
      omega arith,
      omega (arith, answered.fits),
      sym c.has_ended.ensures ∙ c.if-has_ended.false,
      record {
        far = line_follows inv.5.far inv.4 (stops g c) (inside g c) answered.answers;
        beyond = same_further _ _ _ _ _ inv.5.beyond answered.after answered.beyond;
      },
    )

pub returns-after-loop-at : goal.returns-after-loop-at
returns-after-loop-at g c = let inv = c.loop-at.invariant in
    record {
      answers = none_left inv.5.far (omega arith);
      leaves = λ goes_on. rest_left inv.5.far (omega arith);
      within = inv.2;
      fits = omega (arith, inv.3);
      beyond = inv.5.beyond;
    }

pub returns-then-stop-bytes : goal.returns-then-stop-bytes
returns-then-stop-bytes g c = let inv = c.loop-at.invariant in
    record {
      answers = none_left inv.5.far (omega (arith, stops_2 g c, c.if-stop-bytes.true));
      leaves = λ goes_on. rest_left inv.5.far (omega (arith, stops_2 g c, c.if-stop-bytes.true));
      within = inv.2;
      fits = omega (arith, inv.3);
      beyond = inv.5.beyond;
    }

pub returns-then-has_ended : goal.returns-then-has_ended
returns-then-has_ended g c = let inv = c.loop-at.invariant in
    let answered = c.answer_line-feed.ensures in
    let told = c.has_ended.ensures in
    let ended = c.if-has_ended.true in
    record {
      answers = none_follow inv.5.far inv.4 (stops_3 g c) (inside_2 g c) answered.answers (sym told ∙ ended);
      leaves = ended_is_over told ended;
      within = omega (arith, inside_2 g c);
      fits = omega (arith, answered.fits, inv.3, inside_2 g c, inv.0);
      beyond = same_further _ _ _ _ _ inv.5.beyond answered.after answered.beyond;
    }
