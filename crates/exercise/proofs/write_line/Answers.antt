-- `write_line` writes as many bytes as the writer told.
use Rattle.std.proofs.Common.{arith}
use Rattle.desk_writer.proofs.LongestLaws.{told_size_within}
use Rattle.exercise.proofs.write_line.Goals as goal

pub slice_bounds-write_all-end : goal.slice_bounds-write_all-end
slice_bounds-write_all-end g c =
    let w = c.write-written in
    omega (arith, told_size_within c.args.call _ w.ensures, w.auto.out)
