-- src/lib.rt:174:9
use Rattle.lesson_run.proofs.PutLaws.{limits_are_put, limits_are_some, limits_are_inside}
use Rattle.std.proofs.Common.{refl, arith}
use Rattle.lesson_run.proofs.set_up.Goals as goal

pub returns : goal.returns
returns c = let args' = c.args in
    let put-limits' = c.put_limits-size in
    let l = args'.limits in
    let o = args'.out.now in
    let is = put-limits'.ensures in
    record {
      moves = refl;
      puts = limits_are_put l o c.requires is;
      some = limits_are_some l o c.requires is;
      short = omega (
        arith,
        limits_are_inside l o c.requires is,
        put-limits'.auto.out,
      );
      quiet = refl;
    }
