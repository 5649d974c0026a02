use Prim.Native.Nat.{ℕ, ◌-◌, ◌^◌, ◌≤◌, ◌<◌}
use mathlib.Core.List.{List}
use mathlib.Core.Path.{◌≡◌, refl, sym, ◌∙◌}
use lib.ListN.{length, drop}
use native.Mathlib.Omega.{arith}
use borrow.Author.Rules.{rules}
use Rattle.modems.specs.Address.{key_from, key_of}
use Rattle.modems.proofs.AddressLaws.{key_takes_next_byte, key_ends_after_last_byte, one_byte_more_fits, five_bytes_fit_40_bits}
use Rattle.modems.proofs.key_of.Goals as goal

pub loop-i-init : goal.loop-i-init
loop-i-init c = record { within = omega arith; below = omega arith; keeps = refl }

pub overflow_mul-key : goal.overflow_mul-key
overflow_mul-key c = let turn = c.loop-i in
    omega (arith, five_bytes_fit_40_bits turn.key turn.i turn.invariant.below (omega arith))

pub overflow_cast-key : goal.overflow_cast-key
overflow_cast-key c = omega (arith, c.type_inv.address c.loop-i.i)

pub overflow_add-key : goal.overflow_add-key
overflow_add-key c = let turn = c.loop-i in
    omega (arith, c.type_inv.address turn.i, five_bytes_fit_40_bits turn.key turn.i turn.invariant.below (omega arith))

pub loop-i-preserved : goal.loop-i-preserved
loop-i-preserved c = let turn = c.loop-i in
    record {
      within = omega arith;
      below = one_byte_more_fits turn.key turn.i _ turn.invariant.below (omega (arith, c.type_inv.address turn.i));
      keeps = sym (key_takes_next_byte turn.key _ turn.i (omega arith)) ∙ turn.invariant.keeps;
    }

pub returns : goal.returns
returns c = let end = c.loop-i in
    sym (key_ends_after_last_byte _ _ end.i (omega arith)) ∙ end.invariant.keeps
