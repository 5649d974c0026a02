-- `words::clear_mark` changes the mark of slot i alone: it stores the fifth word of its row.
use Rattle.shard_map.proofs.LayoutLaws.{mark_put}
use Rattle.shard_map.proofs.words.clear_mark.Goals as goal

pub returns : goal.returns
returns c = let pre' = c.requires in
    mark_put _ _ pre'.0 _ _ pre'.1
