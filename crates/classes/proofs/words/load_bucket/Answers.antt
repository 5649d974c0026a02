-- `words::load_bucket` gives the bucket whole: the two words of its row.
use Rattle.classes.proofs.LayoutLaws.{bucket_read}
use Rattle.classes.proofs.words.load_bucket.Goals as goal

pub returns : goal.returns
returns c = bucket_read _ _ c.requires
