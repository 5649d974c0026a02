-- `classes_at` counts back from the end of the words.
use native.Mathlib.Omega.{arith}
use Rattle.classes.proofs.LayoutLaws.{class_count_lem}
use Rattle.class_calls.proofs.RefusedTries.{counted_classes_few}
use Rattle.class_calls.proofs.classes_at.Goals as goal

pub bucket_words-requires : goal.bucket_words-requires
bucket_words-requires c = counted_classes_few c.args.table.now (omega (arith, c.well_formed)) c.count.ensures

pub overflow_sub-result : goal.overflow_sub-result
overflow_sub-result c = rw (c.bucket_words.ensures, c.count.ensures, class_count_lem c.args.table.now) c.requires

pub returns : goal.returns
returns c = rw (c.bucket_words.ensures, c.count.ensures, class_count_lem c.args.table.now) (omega (arith, c.requires))
