-- `charge_own` stores what a grant leaves of the class's own bucket.
use native.Mathlib.Omega.{arith}
use Rattle.classes.proofs.LayoutLaws.{class_has_words}
use Rattle.classes.proofs.ChainLaws.{taken_cost}
use Rattle.classes.proofs.charge_own.Goals as goal

pub config_at-config-requires : goal.config_at-config-requires
config_at-config-requires c = (class_has_words _ _ c.requires.0.named, c.requires.0.accepted)

pub load_bucket-bucket-requires : goal.load_bucket-bucket-requires
load_bucket-bucket-requires c = omega (arith, c.requires.0.named, c.requires.1)

pub spent_at-requires : goal.spent_at-requires
spent_at-requires c = rw c.config_at-config.ensures (taken_cost _ _ _ c.requires.0)

pub store_bucket-requires : goal.store_bucket-requires
store_bucket-requires c = omega (arith, c.requires.0.named, c.requires.1)

pub returns : goal.returns
returns c = rw (c.store_bucket.ensures, c.spent_at.ensures, c.load_bucket-bucket.ensures, c.config_at-config.ensures)
