-- `Settings::check_sizes` refuses too many keys or shards: a law for each return.
use Rattle.settings.proofs.SettingsLaws.{too_many_keys_is_refused_4, too_many_shards_is_refused_4, small_enough_is_accepted}
use native.Mathlib.Omega.{arith}
use mathlib.Core.Path.{sym}
use Rattle.settings.proofs.Settings.check_sizes.Goals as goal

pub returns-then-self-gt-MOST_KEYS : goal.returns-then-self-gt-MOST_KEYS
returns-then-self-gt-MOST_KEYS c = sym (too_many_keys_is_refused_4 _ (omega arith))

pub returns-then-self-gt-MOST_SHARDS : goal.returns-then-self-gt-MOST_SHARDS
returns-then-self-gt-MOST_SHARDS c = sym (too_many_shards_is_refused_4 _ (omega arith) (omega arith))

pub returns : goal.returns
returns c = sym (small_enough_is_accepted _ (omega arith) (omega arith))
