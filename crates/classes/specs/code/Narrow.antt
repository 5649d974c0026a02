-- No promise rests on this page: it serves the inner contracts of the code.
-- A rate as the code holds it, with amount and burst in 32 bits: a number past the largest that is accepted is held as the next one, which is refused alike.
use Rattle.std.specs.Prelude.{ℕ, min, Option, Some, None}
use Rattle.settings.specs.declared.rate.Rate.{Rate}
use Rattle.classes.specs.Classes.{past_tokens}

abbrev pub narrow_tokens : Option ℕ → Option ℕ
narrow_tokens None = None
narrow_tokens (Some n) = Some (min n past_tokens)

abbrev pub narrow_rate : Rate → Rate
narrow_rate r = record { amount = min r.amount past_tokens; period = r.period; burst = narrow_tokens r.burst; initial = r.initial }
