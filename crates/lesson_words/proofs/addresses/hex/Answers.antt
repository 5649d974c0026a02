use Rattle.lesson_words.proofs.AddressLaws.{hex_read}
use Rattle.lesson_words.proofs.addresses.hex.Goals as goal

pub returns : goal.returns
returns c = rw c.unwrap_or.ensures (hex_read _ _ c.to_digit.ensures.value)
