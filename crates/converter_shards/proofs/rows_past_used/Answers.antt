-- `rows_past_used` lends the words past the first n rows.
use native.Mathlib.Nat.{mul-le-mul_left}
use native.Mathlib.Omega.{arith}
use Rattle.converter_shards.proofs.rows_past_used.Goals as goal

pub overflow_mul-from : goal.overflow_mul-from
overflow_mul-from c = omega (arith, mul-le-mul_left {m = c.args.n} {n = c.args.cap} c.args.width c.requires.1, c.requires.0)

pub overflow_add-from : goal.overflow_add-from
overflow_add-from c = omega (arith, mul-le-mul_left {m = c.args.n} {n = c.args.cap} c.args.width c.requires.1, c.requires.0)

pub offset_bounds-ws-from : goal.offset_bounds-ws-from
offset_bounds-ws-from c = omega (arith, mul-le-mul_left {m = c.args.n} {n = c.args.cap} c.args.width c.requires.1, c.requires.0)

pub slice_bounds-any_used-count : goal.slice_bounds-any_used-count
slice_bounds-any_used-count c = omega (arith, mul-le-mul_left {m = c.args.n} {n = c.args.cap} c.args.width c.requires.1, c.requires.0)

pub slice_bounds-any_used-start : goal.slice_bounds-any_used-start
slice_bounds-any_used-start c = omega (arith, mul-le-mul_left {m = c.args.n} {n = c.args.cap} c.args.width c.requires.1, c.requires.0)
