-- Desk lines on plain numbers, as C and Rust have them written: which call the numbers are, and what is told of its line.
use Rattle.std.specs.Prelude.{ℕ, ◌+◌, cond, List, eqb}
use Rattle.rows.specs.Outcome.{Outcome, outcome}
use Rattle.units.specs.Units.{nanos_of}
use Rattle.rules.specs.declared.codes.Told.{Told}
use Rattle.desk_lines.specs.declared.Request.{Request}
use Rattle.desk_writer.specs.declared.DeskCall.{DeskCall}
use Rattle.desk_writer.specs.declared.Written.{Written}
use Rattle.desk_writer.specs.Writer.{too_short, written}

abbrev pub request_of : ℕ → ℕ → ℕ → Request
request_of at key cost = record { at = nanos_of at; key = key; cost = cost }

-- What is told of a line: 0 and its length, LF counted; or 10 and the number of the one refusal, and 0.
unfoldable pub line_told : Written → Told
line_told w = record { code = cond (eqb w.number 0) 0 (10 + too_short); number = w.size; moment = 0 }

-- What is told of a call's line, and what is left in the buffer.
abbrev pub told_written : DeskCall → List ℕ → Outcome Told (List ℕ)
told_written call buffer = outcome (line_told (written call buffer).answer) (written call buffer).after
