-- `check_address` looks at the length first, then at the group bit.
use Rattle.modems.proofs.AddressLaws.{other_lengths_are_no_address, groups_are_no_modem, modems_are_checked}
use Rattle.modems.proofs.check_address.Goals as goal

pub returns-then-address-ne-ADDRESS_BYTES : goal.returns-then-address-ne-ADDRESS_BYTES
returns-then-address-ne-ADDRESS_BYTES c = other_lengths_are_no_address _ c.if-address-ne-ADDRESS_BYTES.true

pub returns-then-address-ne0 : goal.returns-then-address-ne0
returns-then-address-ne0 c = groups_are_no_modem _ c.if-address-ne-ADDRESS_BYTES.false c.if-address-ne0.true

pub returns : goal.returns
returns c = modems_are_checked _ c.if-address-ne-ADDRESS_BYTES.false c.if-address-ne0.false
