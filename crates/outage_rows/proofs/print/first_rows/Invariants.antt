-- `print::first_rows` writes row after row. The loop holds that what is left, written from here, is all of them, written from the start.
use Rattle.outage_rows.proofs.PrintLaws.{Printing}
use Rattle.outage_rows.specs.Layout.{rows_in}
use Rattle.outage_rows.proofs.print.first_rows.Given as goal

abbrev pub invariant-loop-i : goal.invariant-loop-i
invariant-loop-i l = Printing (rows_in l.n l.rs) l.n l.at-2 l.initial.out l.at l.i l.out
