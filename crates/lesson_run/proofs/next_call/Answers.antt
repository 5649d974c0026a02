-- src/lib.rt:122:9
use Rattle.lesson_run.proofs.PutLaws.{line_is_put, line_is_some, line_is_inside}
use Rattle.exercise_lines.proofs.RepeatLaws.{call_before}
use Rattle.std.proofs.Common.{refl, arith}
use Rattle.lesson_run.proofs.next_call.Goals as goal

pub call_on-call-requires : goal.call_on-call-requires
call_on-call-requires c = call_before _ _ _ (omega (arith, c.requires.1)) c.args.progress.call c.requires.2

pub returns : goal.returns
returns c = let args' = c.args in
    let write' = c.write-written in
    let p = args'.progress in
    let o = args'.out.now in
    let is = write'.ensures in
    record {
      moves = refl;
      puts = rw (← c.call_on-call.ensures) (line_is_put _ o c.requires.0 is);
      some =
          line_is_some _ o c.requires.0 is;
      short = omega (arith, line_is_inside _ o c.requires.0 is, write'.auto.out);
      quiet = refl;
    }
