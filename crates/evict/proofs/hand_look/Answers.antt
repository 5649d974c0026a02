-- `hand_look` gives the slot as it was and makes the two stores of a look.
use Rattle.evict.proofs.hand_look.Goals as goal

pub clear_mark-requires : goal.clear_mark-requires
clear_mark-requires c = let pre' = c.requires in
    (pre'.0.size, pre'.1)

pub returns : goal.returns
returns c = let set-hand' = c.set_hand in
    let clear-mark' = c.clear_mark in
    let get' = c.get-slot in
    simp (set-hand'.ensures, clear-mark'.ensures, get'.ensures)
