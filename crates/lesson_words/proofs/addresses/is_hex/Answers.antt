use Rattle.lesson_words.proofs.AddressLaws.{hexdigit_is}
use mathlib.Core.Path.{◌∙◌}
use Rattle.lesson_words.proofs.addresses.is_hex.Goals as goal

pub returns : goal.returns
returns c = c.is_ascii_hexdigit.ensures.value ∙ hexdigit_is _
