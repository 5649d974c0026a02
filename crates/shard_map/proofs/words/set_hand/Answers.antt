-- `words::set_hand` changes the hand alone: it stores the second word.
use Rattle.shard_map.proofs.LayoutLaws.{hand_put}
use Rattle.shard_map.proofs.words.set_hand.Goals as goal

pub returns : goal.returns
returns c = hand_put _ _ c.requires _
