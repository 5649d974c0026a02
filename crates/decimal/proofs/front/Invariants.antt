-- `decimal::front` reads one digit more with each turn of its loop: the front from the place reached is the front from the start.
use Prim.Native.Nat.{ℕ, ◌+◌, ◌-◌, ◌^◌, ◌≤◌, ◌<◌}
use mathlib.Core.List.{List}
use mathlib.Core.Path.{◌≡◌}
use lib.ListN.{length, drop}
use Rattle.decimal.specs.Decimal.{front_from, front_of}
use Rattle.decimal.proofs.front.Given as goal

pub record Reading (bytes : List ℕ) (from value end : ℕ) : Type 0 where
  pub begun : from ≤ end
  pub few : end ≤ from + 19
  pub within : end ≤ length bytes
  pub fits : value < 10 ^ (end - from)
  pub keeps : front_from value end (from + 19 - end) (drop end bytes) ≡ front_of bytes from

abbrev pub invariant-loop-end : goal.invariant-loop-end
invariant-loop-end l = Reading l.bytes l.from l.value l.end
