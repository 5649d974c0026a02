-- Who a call names: a modem by its hardware address, or by key or address as the caller likes. What is said of calls for any terms (`Calls` of crate rules) is
-- said of these.
use Rattle.std.specs.Prelude.{ℕ, Bool, true, false, ◌&&◌, List, length}
use Rattle.settings.specs.declared.Settings.{Settings}
use Rattle.shard.specs.declared.Identity.{Identity}
use Rattle.rules.specs.Asks.{Look, peeks, tokens, turn_aways, Ask, requests, looks, undoes, passes}
use Rattle.rules.specs.Widths.{fits64, settings_fit, key_fits}
use Rattle.rules.specs.Calls.{Terms}
use Rattle.modems.specs.Address.{are_bytes, identity_of, address_refusal}

-- Bytes can be lent, as `&[u8]`, where each of them and their number fit.
abbrev pub bytes_lendable : List ℕ → Bool
bytes_lendable bytes = fits64 (length bytes) && are_bytes bytes

-- What can be asked by address: a try, a reservation, a peek, a refund, a removal.
abbrev pub offered_by_address : Ask → Bool
offered_by_address (requests r at cost) = true
offered_by_address (looks (peeks at cost)) = true
offered_by_address (looks (tokens at)) = false
offered_by_address (looks turn_aways) = false
offered_by_address (undoes u) = true
offered_by_address (passes table class at cost) = false

-- Settings as they are written in some way, and the bytes that are lent as an address, whether or not they are one.
abbrev pub addressed_in : {S : Type 0} → (S → Settings) → (S → Bool) → Terms S (List ℕ)
addressed_in means fit = record {
  settings = means;
  identity = identity_of;
  refusal = address_refusal;
  offers = λ address ask. offered_by_address ask;
  settings_fit = fit;
  name_fits = bytes_lendable;
}

abbrev pub by_address : Terms Settings (List ℕ)
by_address = addressed_in (λ s. s) settings_fit

-- A key by its identity, or such bytes.
pub data Name : Type 0 where
  key : Identity → Name
  address : List ℕ → Name

abbrev pub identity_of_name : Name → Identity
identity_of_name (key id) = id
identity_of_name (address bytes) = identity_of bytes

abbrev pub refusal_of_name : Name → ℕ
refusal_of_name (key id) = 0
refusal_of_name (address bytes) = address_refusal bytes

abbrev pub offered : Name → Ask → Bool
offered (key id) ask = true
offered (address bytes) ask = offered_by_address ask

abbrev pub name_fits : Name → Bool
name_fits (key id) = key_fits id
name_fits (address bytes) = bytes_lendable bytes

-- Settings as they are written in some way, and modems by key or by address.
abbrev pub named_in : {S : Type 0} → (S → Settings) → (S → Bool) → Terms S Name
named_in means fit =
    record { settings = means; identity = identity_of_name; refusal = refusal_of_name; offers = offered; settings_fit = fit; name_fits = name_fits }

abbrev pub by_name : Terms Settings Name
by_name = named_in (λ s. s) settings_fit
