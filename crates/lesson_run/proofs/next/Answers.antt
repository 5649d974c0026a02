-- From one place of the run back to another.
use Rattle.lesson_run.proofs.RunLaws.{meaning_within, nothing_left, line_left, call_splits, call_good, taken_splits, taken_good, taken_short}
use Rattle.desk_lines.proofs.FieldLaws.{found_from}
use Rattle.desk_lines.specs.Printed.{line_feed}
use Rattle.std.proofs.Common.{◌∙◌}
use Rattle.lesson_run.proofs.next.Goals as goal

pub next_call-requires : goal.next_call-requires
next_call-requires c = let if1' = c.if-progress in
    (c.requires.0, if1'.true, c.requires.1 if1'.true)

pub returns-then-progress : goal.returns-then-progress
returns-then-progress c = let args' = c.args in
    let if1' = c.if-progress in
    let t = args'.text.now in
    let p = args'.progress in
    let put = c.next_call.ensures in
    record {
      splits = call_splits t p if1'.true put;
      good = call_good t p if1'.true c.requires.1 put;
      short = put.short;
    }

pub take-requires : goal.take-requires
take-requires c = (c.requires.0, meaning_within _ _ c.read-line.ensures)

pub returns-then-at-text : goal.returns-then-at-text
returns-then-at-text c = let args' = c.args in
    let read' = c.read-line in
    let t = args'.text.now in
    let p = args'.progress in
    let m = read'.result in
    let is = c.take.ensures in
    let here = line_left t p c.if-progress.false c.if-at-text.true (found_from line_feed t p.at c.find-stop.ensures.first) in
    record {
      splits = rw (← read'.ensures) at here ∙ taken_splits t _ _ _ m _ _ is;
      good = taken_good t _ _ _ m _ _ (meaning_within _ _ read'.ensures) is;
      short = taken_short t _ _ _ m _ _ is;
    }

pub returns : goal.returns
returns c = nothing_left c.args.text.now c.args.progress c.if-progress.false c.if-at-text.false
