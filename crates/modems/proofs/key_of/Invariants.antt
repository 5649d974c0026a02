-- `key_of`: at each test of the loop, making the key from place i on, from the number so far, gives it; and so many bytes fit.
use Prim.Native.Nat.{ℕ, ◌-◌, ◌^◌, ◌≤◌, ◌<◌}
use mathlib.Core.List.{List}
use mathlib.Core.Path.{◌≡◌, refl, sym, ◌∙◌}
use lib.ListN.{length, drop}
use native.Mathlib.Omega.{arith}
use borrow.Author.Rules.{rules}
use Rattle.modems.specs.Address.{key_from, key_of}
use Rattle.modems.proofs.AddressLaws.{key_takes_next_byte, key_ends_after_last_byte, one_byte_more_fits, five_bytes_fit_40_bits}
use Rattle.modems.proofs.key_of.Given as goal

pub record Making (address : List ℕ) (key i : ℕ) : Type 0 where
  pub within : i ≤ length address
  pub below : key < 256 ^ i
  pub keeps : key_from key (drop i address) ≡ key_of address

abbrev pub invariant-loop-i : goal.invariant-loop-i
invariant-loop-i l = Making l.address l.key l.i

abbrev pub decreases-loop-i : goal.decreases-loop-i
decreases-loop-i l = length l.address - l.i
