-- What a decision says.
use Rattle.std.specs.Prelude.{Bool, true, false, Option, Some, None}
use Rattle.units.specs.declared.Nanos.{Nanos}
use Rattle.settings.specs.declared.decision.Decision.{Decision}
use Rattle.settings.specs.declared.decision.Decision.TheVariants.{Acquired, Retry, Impossible}

-- Whether the tokens were granted.
abbrev pub acquired : Decision → Bool
acquired (Acquired due) = true
acquired (Retry due) = false
acquired Impossible = false

-- The wait that a retry is told, and none otherwise.
abbrev pub retry_after : Decision → Option Nanos
retry_after (Acquired due) = None
retry_after (Retry due) = Some due.wait
retry_after Impossible = None
