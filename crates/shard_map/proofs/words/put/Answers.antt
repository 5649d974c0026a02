-- `words::put` changes slot i alone: it stores the seven words of its row.
use native.Mathlib.Omega.{arith}
use lib.ListN.{length-set}
use Rattle.shard_map.proofs.LayoutLaws.{slot_put}
use Rattle.shard_map.proofs.words.put.Goals as goal

pub bounds-ws-first-2 : goal.bounds-ws-first-2
bounds-ws-first-2 c = simp length-set (omega arith)

pub bounds-ws-first-3 : goal.bounds-ws-first-3
bounds-ws-first-3 c = simp length-set (omega arith)

pub bounds-ws-first-4 : goal.bounds-ws-first-4
bounds-ws-first-4 c = simp length-set (omega arith)

pub bounds-ws-first-5 : goal.bounds-ws-first-5
bounds-ws-first-5 c = simp length-set (omega arith)

pub bounds-ws-first-6 : goal.bounds-ws-first-6
bounds-ws-first-6 c = simp length-set (omega arith)

pub bounds-ws-first-7 : goal.bounds-ws-first-7
bounds-ws-first-7 c = simp length-set (omega arith)

pub shape_of-ws : goal.shape_of-ws
shape_of-ws c = simp length-set

pub returns : goal.returns
returns c = let pre' = c.requires in
    slot_put _ _ pre'.0 _ _ pre'.1
