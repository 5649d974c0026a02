-- `words::add_number` stays inside the buffer: a number has at most 20 digits.
use Rattle.std.proofs.Common.{arith}
use Rattle.rows.proofs.OutcomeLaws.{answer_is}
use Rattle.decimal.proofs.WriteLaws.{digits_count}
use Rattle.desk_notes.proofs.words.add_number.Goals as goal

pub put-requires : goal.put-requires
put-requires c = omega (arith, digits_count c.args.n)

pub returns : goal.returns
returns c = omega (arith, answer_is c.put.ensures, digits_count c.args.n, c.put.auto.out)
