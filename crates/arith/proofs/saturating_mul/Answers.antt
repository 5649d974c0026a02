use Rattle.arith.proofs.ProductLaws.{half_product_fits, half_product_saturated, product_too_wide, product_saturated}
use mathlib.Core.Path.{◌∙◌}
use native.Mathlib.Omega.{arith}
use Rattle.arith.proofs.saturating_mul.Goals as goal

pub overflow_mul-result : goal.overflow_mul-result
overflow_mul-result c = record { fits = half_product_fits (omega arith) (omega arith) }

pub returns-then-a-lt4294967296 : goal.returns-then-a-lt4294967296
returns-then-a-lt4294967296 c = half_product_saturated (omega arith) (omega arith)

pub overflow_mul-high : goal.overflow_mul-high
overflow_mul-high c = record { fits = half_product_fits (omega arith) (omega arith) }

pub overflow_mul-low : goal.overflow_mul-low
overflow_mul-low c = record { fits = half_product_fits (omega arith) (omega arith) }

pub returns-then-high-ge4294967296 : goal.returns-then-high-ge4294967296
returns-then-high-ge4294967296 c = product_too_wide _ _ (omega arith)

pub returns : goal.returns
returns c = c.saturating_add.ensures ∙ product_saturated _ _
