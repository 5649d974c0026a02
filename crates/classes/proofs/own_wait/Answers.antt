-- `own_wait` asks the class's own bucket, at the class's rate.
use native.Mathlib.Omega.{arith}
use Rattle.classes.proofs.LayoutLaws.{class_has_words}
use Rattle.classes.proofs.ChainLaws.{taken_cost}
use Rattle.classes.proofs.own_wait.Goals as goal

pub config_at-config-requires : goal.config_at-config-requires
config_at-config-requires c = (class_has_words _ _ c.requires.0.named, c.requires.0.accepted)

pub load_bucket-bucket-requires : goal.load_bucket-bucket-requires
load_bucket-bucket-requires c = omega (arith, c.requires.0.named, c.requires.1)

pub time_until_at-requires : goal.time_until_at-requires
time_until_at-requires c = rw c.config_at-config.ensures (taken_cost _ _ _ c.requires.0)

pub returns : goal.returns
returns c = rw (c.time_until_at.ensures, c.load_bucket-bucket.ensures, c.config_at-config.ensures)
