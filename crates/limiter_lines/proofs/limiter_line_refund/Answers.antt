-- `limiter_line_refund` tells what the writer gives for a refund.
use Rattle.desk_writer.specs.declared.DeskCall.TheVariants.{Refund}
use Rattle.limiter_lines.proofs.LineLaws.{written_is_told}
use borrow.Author.Rules.{rules}
use Rattle.limiter_lines.proofs.limiter_line_refund.Goals as goal

pub returns : goal.returns
returns c = let a = c.args in
    written_is_told (Refund a.key a.cost) a.out.now c.write.ensures c.tell.ensures
