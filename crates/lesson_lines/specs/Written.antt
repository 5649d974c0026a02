-- The line of the desk that settings are written as, and the settings that they are.
use Rattle.std.specs.Prelude.{ℕ, List, [], ◌∷◌, ◌++◌, Option, Some, None}
use Rattle.units.specs.declared.Nanos.{Nanos}
use Rattle.units.specs.Units.{nanos_of}
use Rattle.settings.specs.declared.Settings.{Settings}
use Rattle.settings.specs.declared.Limit.TheVariants.{Open}
use Rattle.settings.specs.Eviction.{bounds, when_full_of}
use Rattle.desk_lines.specs.Fields.{space}
use Rattle.desk_writer.specs.Writer.{field, spaced}
use Rattle.lesson_lines.specs.declared.Limits.{Limits}

-- An idle time with a space in front: a number, or `-` (45) for none.
abbrev pub idle_field : Option ℕ → List ℕ
idle_field (Some n) = field n
idle_field None = space ∷ 45 ∷ []

-- The numbers before the idle time.
abbrev pub six_numbers : Limits → List ℕ
six_numbers l = l.amount ∷ l.period ∷ l.burst ∷ l.initial ∷ l.modems ∷ l.shards ∷ []

-- The line without its LF: `s` (115), the numbers, the idle time, the rule when full.
abbrev pub limits_bytes : Limits → List ℕ
limits_bytes l = 115 ∷ (spaced (six_numbers l) ++ (idle_field l.idle ++ field l.when_full))

-- The settings.
abbrev pub idle_time : Option ℕ → Option Nanos
idle_time (Some n) = Some (nanos_of n)
idle_time None = None

abbrev pub settings_of : Limits → Settings
settings_of l = record {
  limit = Open (record {
    amount = l.amount;
    period = nanos_of l.period;
    burst = Some l.burst;
    initial = Some l.initial;
  });
  eviction = bounds l.modems (idle_time l.idle) (when_full_of l.when_full);
  shards = l.shards;
  classes = 0;
}
