-- `item_word` gives a word of an item's row. The row lies before the index, so the word lies in the lent words.
use Rattle.std.proofs.Common.{◌+◌, ◌*◌, ◌<◌, arith, rules}
use Rattle.index.specs.Layout.{item_word}
use Rattle.index.proofs.LayoutLaws.{item_before}
use Rattle.index.proofs.item_word.Goals as goal

lies-before : (c : goal.After-struct_known-1) → let index = c.args.index in index.first + index.width * c.args.i + c.args.f < index.base
lies-before c = item_before c.requires.0 _ _ c.requires.1 c.requires.2

lies-before_2 : (c : goal.After-struct_known-2-1) → let index = c.args.index in index.first + index.width * c.args.i + c.args.f < index.base
lies-before_2 c = item_before c.requires.0 _ _ c.requires.1 c.requires.2

lies-before_3 : (c : goal.After-shared_slice_known-1-unread) → let index = c.args.index in index.first + index.width * c.args.i + c.args.f < index.base
lies-before_3 c = item_before c.requires.0 _ _ c.requires.1 c.requires.2

pub overflow_mul-k : goal.overflow_mul-k
overflow_mul-k c = omega (arith, lies-before c)

pub overflow_add-k : goal.overflow_add-k
overflow_add-k c = omega (arith, lies-before_2 c)

pub overflow_add-k-2 : goal.overflow_add-k-2
overflow_add-k-2 c = omega (arith, lies-before_2 c)

pub offset_bounds-ws-k : goal.offset_bounds-ws-k
offset_bounds-ws-k c = omega (arith, lies-before_2 c)

pub bounds-ws-k : goal.bounds-ws-k
bounds-ws-k c = omega (arith, lies-before_3 c)

pub returns : goal.returns
unfolding item_word
returns c = search rules
