-- src/addresses.rt:18:9
use Rattle.lesson_words.proofs.AddressLaws.{other_length, is_address, is_no_address}
use mathlib.Core.Path.{sym, ◌∙◌}
use Rattle.lesson_words.proofs.addresses.address.Goals as goal

pub returns-then-word-ne-ADDRESS_BYTES : goal.returns-then-word-ne-ADDRESS_BYTES
returns-then-word-ne-ADDRESS_BYTES c = other_length _ c.if-word-ne-ADDRESS_BYTES.true

pub returns-then-all_fit : goal.returns-then-all_fit
returns-then-all_fit c = rw c.six_bytes.ensures (is_address _ c.if-word-ne-ADDRESS_BYTES.false (sym c.all_fit.ensures ∙ c.if-all_fit.true))

pub returns : goal.returns
returns c = is_no_address _ c.if-word-ne-ADDRESS_BYTES.false (sym c.all_fit.ensures ∙ c.if-all_fit.false)
