-- `limiter_line_remove` tells what the writer gives for a removal.
use Rattle.desk_writer.specs.declared.DeskCall.TheVariants.{Remove}
use Rattle.limiter_lines.proofs.LineLaws.{written_is_told}
use borrow.Author.Rules.{rules}
use Rattle.limiter_lines.proofs.limiter_line_remove.Goals as goal

pub returns : goal.returns
returns c = let a = c.args in
    written_is_told (Remove a.key) a.out.now c.write.ensures c.tell.ensures
