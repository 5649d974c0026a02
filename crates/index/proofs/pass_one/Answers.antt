-- `pass_one` adds an item again. Where it makes no walk, the laws of the pass say what the walk would find; where it does, what the pass knows after it.
use Rattle.std.proofs.Common.{arith}
use Rattle.index.proofs.PassLaws.{run_fits, known_after_fits, picked_below, pass_moves, pass_walks}
use Rattle.index.proofs.pass_one.Goals as goal

pub move_word-requires : goal.move_word-requires
move_word-requires c = let pre' = c.requires in
    (pre'.0.inside, pre'.1, picked_below pre' c.from_home-back.ensures _ c.by_home.ensures)

pub overflow_add-run : goal.overflow_add-run
overflow_add-run c = let pre' = c.requires in
    omega (arith, run_fits pre' c.from_home-back.ensures)

pub overflow_add-pass : goal.overflow_add-pass
overflow_add-pass c = omega (arith, c.requires.4.bounded)

pub returns-then-back-pass : goal.returns-then-back-pass
returns-then-back-pass c = let pre' = c.requires in
    rw c.min.ensures
    (pass_moves pre' c.from_home-back.ensures c.if-back-pass.true _ _ _ c.by_home.ensures c.move_word.ensures
    c.by_home-then-back-pass.ensures c.by_home-then-back-pass-2.ensures)

pub overflow_add-result : goal.overflow_add-result
overflow_add-result c = let pre' = c.requires in
    omega (arith, known_after_fits pre' c.from_home-back.ensures _ _ c.known_after.ensures)

pub returns : goal.returns
returns c = let pre' = c.requires in
    let after = c.rehome_one.ensures in
    (after, pass_walks pre' c.from_home-back.ensures (omega (arith, c.if-back-pass.false, pre'.4.further)) after _ c.known_after.ensures)
