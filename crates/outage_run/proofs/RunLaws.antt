-- The pieces that the input is read in do not matter to what the program prints.
use Rattle.std.proofs.Common.{◌≡◌, ℕ, List}
use Rattle.desk_cutting.specs.Cutting.{joined}
use Rattle.desk_cutting.specs.Answering.{ByLine}
use Rattle.desk_cutting.proofs.AnsweringLaws.{every_cutting_prints_the_same, every_cutting_stands_the_same}
use Rattle.outage_run.specs.Run.{Village, line_taken, village, at_start, printed_for, printed_in_reads}

-- The program goes by what a line is read as.
pub village_by_line : ByLine village
unfolding line_taken
village_by_line line other same v = rw same

pub every_cutting_prints_the_same_village : (reads : List (List ℕ)) (memory : List ℕ) → printed_in_reads reads memory ≡ printed_for (joined reads) memory
every_cutting_prints_the_same_village reads memory =
    rw (
      every_cutting_prints_the_same village village_by_line reads (at_start memory),
      every_cutting_stands_the_same village village_by_line reads (at_start memory),
    )
