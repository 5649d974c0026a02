-- `words::store_bucket` changes one bucket alone: it stores the two words of its row.
use Rattle.classes.proofs.LayoutLaws.{bucket_put}
use native.Mathlib.Omega.{arith}
use lib.ListN.{length-set}
use native.Mathlib.Numerals.{add-one}
use Rattle.classes.proofs.words.store_bucket.Goals as goal

pub bounds-buckets-first-2 : goal.bounds-buckets-first-2
bounds-buckets-first-2 c = simp length-set (omega arith)

pub returns : goal.returns
returns c = rw add-one (bucket_put _ _ c.requires _)
