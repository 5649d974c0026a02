-- Nanoseconds and milliseconds.
use Rattle.std.specs.Prelude.{ℕ, ◌/◌}
use Rattle.units.specs.declared.Nanos.{Nanos}
use Rattle.units.specs.declared.Millis.{Millis}

-- So many nanoseconds.
abbrev pub nanos_of : ℕ → Nanos
nanos_of n = record { 0 = n }

-- How many nanoseconds a millisecond has.
abbrev pub nanos_per_milli : ℕ
nanos_per_milli = 1000000

-- The idle stamp of a moment: its whole milliseconds, the rest dropped.
abbrev pub millis_of : Nanos → Millis
millis_of n = record { 0 = n.0 / nanos_per_milli }
