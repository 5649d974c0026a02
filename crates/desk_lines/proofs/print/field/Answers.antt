-- `print::field` writes the digits and then the byte after them.
use Prim.Native.Nat.{◌<◌}
use native.Mathlib.Omega.{arith}
use lib.ListN.{length}
use mathlib.Core.List.{[], ◌∷◌}
use mathlib.Core.Path.{refl}
use Rattle.desk_lines.proofs.PrintLaws.{written_after}
use Rattle.decimal.proofs.WriteLaws.{digits_count}
use Rattle.decimal.specs.Decimal.{digits_of}
use Rattle.rows.proofs.OutcomeLaws.{answer_is}
use Rattle.desk_lines.proofs.print.field.Goals as goal

has_room : (c : goal.After-slice_known-2-1) → c.put-end.result < length c.put-end.new.out
has_room c = omega (arith, answer_is c.put-end.ensures, digits_count c.args.n, c.put-end.auto.out, c.requires)

pub put-end-requires : goal.put-end-requires
put-end-requires c = omega (arith, digits_count c.args.n)

pub bounds-out-end : goal.bounds-out-end
bounds-out-end c = omega (arith, has_room c)

pub overflow_add-result : goal.overflow_add-result
overflow_add-result c = record { fits = omega (arith, has_room c) }

pub returns : goal.returns
returns c = let a = c.args in
    written_after (digits_of a.n) (a.after ∷ []) a.at a.out.now c.put-end.ensures refl
