-- `charge_at` meets its contract: more tokens than the most shortfall has are charged as the most, and fewer are charged in 64 bits.
use Rattle.bucket.proofs.BucketLaws.{most_shortfall_fits}
use Rattle.bucket.proofs.DebtLaws.{charge_beyond_most, charge_parts_most, charge_fits}
use native.Mathlib.Omega.{arith}
use Rattle.bucket.proofs.BucketCore.charge_at.Goals as goal

pub returns-then-most-period : goal.returns-then-most-period
returns-then-most-period c = let most = c.most_shortfall-most.ensures in
    rw (most, c.max.ensures) (charge_beyond_most _ _ _ c.requires (rw most at c.if-most-period.true))

pub overflow_mul-shortfall : goal.overflow_mul-shortfall
overflow_mul-shortfall c = let few = rw c.most_shortfall-most.ensures at c.if-most-period.false in
    omega (arith, charge_parts_most c.args.tokens c.requires few, most_shortfall_fits c.requires)

pub overflow_add-shortfall : goal.overflow_add-shortfall
overflow_add-shortfall c = let few = rw c.most_shortfall-most.ensures at c.if-most-period.false in
    omega (arith, charge_fits c.args.self c.args.tokens c.args.at c.requires few)

pub returns : goal.returns
returns c = simp (c.min.ensures, c.shortfall_at.ensures, c.most_shortfall-most.ensures, c.max.ensures)
