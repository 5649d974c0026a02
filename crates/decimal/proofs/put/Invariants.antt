-- `decimal::put` stores one digit, or the digits, the last one first: at each test of the loop those of `rest` are still to be stored, before place i.
use Prim.Native.Nat.{ℕ, ◌-◌, ◌≤◌}
use mathlib.Core.List.{List}
use mathlib.Core.Path.{◌≡◌}
use lib.ListN.{length}
use lib.Seq.{sets}
use Rattle.decimal.specs.Decimal.{digits_of}
use Rattle.decimal.proofs.WriteLaws.{last_digits}
use Rattle.decimal.proofs.put.Given as goal

-- Storing the digits of `rest` in front of place i leaves what storing all digits leaves.
pub record Writing (out₀ out : List ℕ) (place n i rest : ℕ) : Type 0 where
  pub same : length out ≡ length out₀
  pub begun : place ≤ i
  pub inside : i ≤ length out₀
  pub keeps : sets out place (last_digits (i - place) rest) ≡ sets out₀ place (digits_of n)

abbrev pub invariant-loop-i : goal.invariant-loop-i
invariant-loop-i l = Writing l.initial.out l.out l.at l.n l.i l.rest
