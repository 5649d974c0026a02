-- The limiter on plain numbers, as C and Rust call it: which settings the numbers of a settings struct are, the words to lend, the
-- hash of a key, and the version of the interface.
use Rattle.std.specs.Prelude.{ℕ, ◌+◌, ◌*◌, cond, ltb, eqb, Option, Some, None}
use Rattle.units.specs.declared.Nanos.{Nanos}
use Rattle.settings.specs.declared.Limit.{Limit}
use Rattle.settings.specs.declared.Limit.TheVariants.{Closed, Open}
use Rattle.settings.specs.declared.Settings.{Settings}
use Rattle.settings.specs.declared.eviction.Eviction.{Eviction}
use Rattle.settings.specs.declared.rate.Rate.{Rate}
use Rattle.settings.specs.declared.eviction.WhenFull.TheVariants.{RefuseNew}
use Rattle.settings.specs.Eviction.{bounds, when_full_of, with_when_full}
use Rattle.settings.specs.Settings.{size_refusal}
use Rattle.classes.specs.Classes.{most_classes}
use Rattle.hash.specs.Fnv.{fnv1a, lowest_first}
use Rattle.shard.specs.declared.Identity.{Identity}
use Rattle.limiter.specs.declared.LimiterSettings.{LimiterSettings}
use Rattle.store.specs.Memory.{memory_words}

-- A flag of 0 means unset, RefuseNew, or a rate; any other number means set, ForgetDebt, or no rate.
unfoldable pub tokens_of : ℕ → ℕ → Option ℕ
tokens_of flag n = cond (eqb flag 0) None (Some n)

unfoldable pub idle_of : ℕ → ℕ → Option Nanos
idle_of flag n = cond (eqb flag 0) None (Some (record { 0 = n }))

abbrev pub rate_of : LimiterSettings → Rate
rate_of s = record {
  amount = s.amount;
  period = record { 0 = s.period };
  burst = tokens_of s.has_burst s.burst;
  initial = tokens_of s.has_initial s.initial;
}

unfoldable pub limit_of : LimiterSettings → Limit
limit_of s = cond (eqb s.closed 0) (Open (rate_of s)) Closed

-- The cap on keys and the idle time, if there is one; then the rule when full as well.
abbrev pub bounds_of : LimiterSettings → Eviction
bounds_of s = bounds s.max_keys (idle_of s.has_idle s.idle) RefuseNew

abbrev pub eviction_of : LimiterSettings → Eviction
eviction_of s = with_when_full (bounds_of s) (when_full_of s.forget_debt)

-- The settings that the numbers are.
abbrev pub settings_of : LimiterSettings → Settings
settings_of s = record { limit = limit_of s; eviction = eviction_of s; shards = s.shards; classes = s.classes }

-- A key's identity.
abbrev pub identity_of : ℕ → ℕ → Identity
identity_of hash key = record { hash = hash; key = key }

-- The words to lend: those of the whole store, and 0 for sizes that are refused and for more classes than a table may have.
unfoldable pub words_to_lend : Settings → ℕ
words_to_lend s = cond (eqb (size_refusal s) 0) (cond (ltb most_classes s.classes) 0 (memory_words s)) 0

-- The hash of a key that is offered to callers: FNV-1a over its eight bytes, lowest first.
abbrev pub hash_of : ℕ → ℕ
hash_of key = fnv1a (lowest_first 8 key)

-- The version 0.9.0 as one number: 65,536 times the major number, 256 times the minor one, and the patch.
abbrev pub version_number : ℕ
version_number = 65536 * 0 + 256 * 9 + 0
