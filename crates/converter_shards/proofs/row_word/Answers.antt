-- `row_word` gives a word of a row, and the row lies in the lent words.
use native.Mathlib.Omega.{arith}
use Prim.Native.Nat.{◌+◌, ◌*◌, ◌<◌}
use lib.ListN.{length}
use Rattle.converter_shards.specs.code.RowChecks.{row_word}
use Rattle.converter_shards.proofs.CheckLaws.{row_inside}
use borrow.Author.Rules.{rules}
use Rattle.converter_shards.proofs.row_word.Goals as goal

lies-inside : (c : goal.After-struct_known-1) → let rows = c.args.rows in rows.first + rows.width * c.args.i + c.args.f < length c.args.ws.now
lies-inside c = row_inside c.requires.0 _ _ c.requires.1 c.requires.2

lies-inside_2 : (c : goal.After-struct_known-2-1) → let rows = c.args.rows in rows.first + rows.width * c.args.i + c.args.f < length c.args.ws.now
lies-inside_2 c = row_inside c.requires.0 _ _ c.requires.1 c.requires.2

lies-inside_3 : (c : goal.After-shared_slice_known-1-unread) → let rows = c.args.rows in rows.first + rows.width * c.args.i + c.args.f < length c.args.ws.now
lies-inside_3 c = row_inside c.requires.0 _ _ c.requires.1 c.requires.2

pub overflow_mul-k : goal.overflow_mul-k
overflow_mul-k c = omega (arith, lies-inside c)

pub overflow_add-k : goal.overflow_add-k
overflow_add-k c = omega (arith, lies-inside_2 c)

pub overflow_add-k-2 : goal.overflow_add-k-2
overflow_add-k-2 c = omega (arith, lies-inside_2 c)

pub offset_bounds-ws-k : goal.offset_bounds-ws-k
offset_bounds-ws-k c = omega (arith, lies-inside_2 c)

pub bounds-ws-k : goal.bounds-ws-k
bounds-ws-k c = omega (arith, lies-inside_3 c)

pub returns : goal.returns
unfolding row_word
returns c = search rules
