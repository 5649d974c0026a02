-- `limiter_line_reserve` tells what the writer gives for a reservation.
use Rattle.desk_writer.specs.declared.DeskCall.TheVariants.{Reserve}
use Rattle.units.specs.Units.{nanos_of}
use Rattle.limiter_lines.specs.Lines.{request_of}
use Rattle.limiter_lines.proofs.LineLaws.{written_is_told}
use borrow.Author.Rules.{rules}
use Rattle.limiter_lines.proofs.limiter_line_reserve.Goals as goal

pub returns : goal.returns
returns c = let a = c.args in
    let call = Reserve (request_of a.at a.key a.cost) (nanos_of a.max_wait) in
    written_is_told call a.out.now (rw c.request.ensures at c.write.ensures) c.tell.ensures
