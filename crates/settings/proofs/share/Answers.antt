-- `share` is a quotient rounded up, and at least 1: that of one key less, which is a shift, and 1 more.
use Prim.Native.Nat.{◌^◌}
use lib.Pow.{pow_pos}
use native.Mathlib.Nat.{div-le_self}
use native.Mathlib.Omega.{arith}
use Rattle.settings.proofs.SettingsLaws.{share_of_one_less}
use Rattle.settings.proofs.share.Goals as goal

pub overflow_add-result : goal.overflow_add-result
overflow_add-result c = record { fits = omega (arith, c.saturating_sub.ensures, div-le_self c.saturating_sub.result (2 ^ c.args.exponent)) }

pub returns : goal.returns
returns c = let a = c.args in
    rw c.saturating_sub.ensures (share_of_one_less a.keys (2 ^ a.exponent) (pow_pos a.exponent))
