-- The identity of a hardware address on plain numbers, as C and Rust are told it.
use Rattle.std.specs.Prelude.{ℕ, ◌+◌, List, Result, Ok, Err}
use Rattle.settings.specs.declared.refusal.Refusal.{Refusal}
use Rattle.settings.specs.Refusal.{number_of}
use Rattle.shard.specs.declared.Identity.{Identity}
use Rattle.modems.specs.Address.{identified}
use Rattle.limiter_modems.specs.declared.LimiterIdentity.{LimiterIdentity}

-- A modem is told as 0, its hash and its key; a slice that is refused as 10 and the number of the refusal, with 0 and 0.
unfoldable pub told_identity : Result Identity Refusal → LimiterIdentity
told_identity (Err refusal) = record { code = 10 + number_of refusal; hash = 0; key = 0 }
told_identity (Ok identity) = record { code = 0; hash = identity.hash; key = identity.key }

-- What is told of the bytes of an address.
abbrev pub identity_told : List ℕ → LimiterIdentity
identity_told address = told_identity (identified address)
