-- The numbers of looks, and the bounds that the builders of `Eviction` make. `capacity`, `idle` and `new` set RefuseNew; each with_ builder changes one field.
use Rattle.std.specs.Prelude.{ℕ, cond, eqb, Option, Some, None}
use Rattle.units.specs.declared.Nanos.{Nanos}
use Rattle.settings.specs.declared.eviction.Eviction.{Eviction}
use Rattle.settings.specs.declared.eviction.WhenFull.{WhenFull}
use Rattle.settings.specs.declared.eviction.WhenFull.TheVariants.{RefuseNew, ForgetDebt}

-- How many slots the idle sweep looks at for each new key.
abbrev pub ttl_sweep : ℕ
ttl_sweep = 8

-- How many debts the ledger looks at for each new key, and again to find room for a debt.
abbrev pub ledger_scan : ℕ
ledger_scan = 8

-- How many slots the CLOCK hand looks at, at most, to evict one.
abbrev pub clock_scan : ℕ
clock_scan = 32

-- The cap that `idle` sets.
abbrev pub default_max_keys : ℕ
default_max_keys = 1048576

abbrev pub bounds : ℕ → Option Nanos → WhenFull → Eviction
bounds keys idle full = record { max_keys = keys; idle_ttl = idle; when_full = full }

abbrev pub capacity_of : ℕ → Eviction
capacity_of keys = bounds keys None RefuseNew

abbrev pub idle_of : Nanos → Eviction
idle_of ttl = bounds default_max_keys (Some ttl) RefuseNew

abbrev pub bounded_by : ℕ → Nanos → Eviction
bounded_by keys ttl = bounds keys (Some ttl) RefuseNew

abbrev pub with_capacity : Eviction → ℕ → Eviction
with_capacity e keys = bounds keys e.idle_ttl e.when_full

abbrev pub with_idle : Eviction → Nanos → Eviction
with_idle e ttl = bounds e.max_keys (Some ttl) e.when_full

abbrev pub with_when_full : Eviction → WhenFull → Eviction
with_when_full e full = bounds e.max_keys e.idle_ttl full

-- The rule when full that a number stands for: 0 is RefuseNew, any other ForgetDebt.
unfoldable pub when_full_of : ℕ → WhenFull
when_full_of n = cond (eqb n 0) RefuseNew ForgetDebt
