-- `identify` gives the refusal of the slice, else its identity.
use mathlib.Core.Path.{sym, ◌∙◌}
use Rattle.std.proofs.lemmas.Result.{err_from_is_err_and}
use Rattle.modems.proofs.AddressLaws.{checked_names_no_modem, checked_names_a_modem, checked_accepts}
use Rattle.modems.proofs.identify.Goals as goal

pub returns-in_err-check_address : goal.returns-in_err-check_address
returns-in_err-check_address c = let p = err_from_is_err_and c.from_residual.result c.from_residual.ensures.1 in
    rw (p.1, p.2) (checked_names_no_modem _ c.in_err-check_address.ensures)

pub identity-requires : goal.identity-requires
identity-requires c = checked_accepts _ c.in_ok-check_address.ensures

pub returns : goal.returns
returns c = rw c.identity.ensures (checked_names_a_modem _ c.in_ok-check_address.ensures)
