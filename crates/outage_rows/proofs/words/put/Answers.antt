-- `words::put` changes row i alone: it stores the six words of its row.
use native.Mathlib.Omega.{arith}
use lib.ListN.{length-set}
use Rattle.outage_rows.proofs.LayoutLaws.{row_put, others_stay}
use Rattle.outage_rows.proofs.words.put.Goals as goal

pub bounds-rs-first-2 : goal.bounds-rs-first-2
bounds-rs-first-2 c = simp length-set (omega arith)

pub bounds-rs-first-3 : goal.bounds-rs-first-3
bounds-rs-first-3 c = simp length-set (omega arith)

pub bounds-rs-first-4 : goal.bounds-rs-first-4
bounds-rs-first-4 c = simp length-set (omega arith)

pub bounds-rs-first-5 : goal.bounds-rs-first-5
bounds-rs-first-5 c = simp length-set (omega arith)

pub bounds-rs-first-6 : goal.bounds-rs-first-6
bounds-rs-first-6 c = simp length-set (omega arith)

pub returns : goal.returns
returns c = (row_put _ _ _ c.requires.1 c.requires.0 _, others_stay _ _ _ c.requires.1 c.requires.0 _)
