-- `missing_tokens` meets its contract: whole periods come out of the round-up exactly, and the rest of a period times the amount fits.
use Rattle.arith.proofs.DivisionLaws.{div_ceil_rounds_up}
use Rattle.bucket.proofs.DebtLaws.{missing_saturated, rest_product_fits}
use Rattle.bucket.proofs.BucketConfig.missing_tokens.Goals as goal

pub overflow_mul-remaining : goal.overflow_mul-remaining
overflow_mul-remaining c = record { fits = rest_product_fits _ c.requires }

pub returns : goal.returns
returns c = rw (c.saturating_add.ensures, c.div_ceil-rest.ensures, div_ceil_rounds_up _ _ c.requires.period_least, c.saturating_mul-whole.ensures)
    (missing_saturated _ c.requires)
