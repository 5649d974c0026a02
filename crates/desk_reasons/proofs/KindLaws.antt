-- What the fields after a letter have to be, as the code comes to it.
use Rattle.std.proofs.Common.{Some, None}
use Prim.Native.Nat.{ℕ, zero, suc, ◌≤◌, ◌<◌}
use native.Mathlib.Omega.{arith}
use mathlib.Core.Path.{◌≡◌, refl, sym, ◌∙◌}
use mathlib.Core.List.{List}
use lib.ListN.{length, drop, drop_of_length-le}
use Rattle.desk_lines.specs.Lines.{most32, most64}
use Rattle.desk_reasons.specs.declared.kinds.Kind.{Kind}
use Rattle.desk_reasons.specs.declared.kinds.Kind.TheVariants.{Number}
use Rattle.desk_reasons.specs.Reasons.{first_kind, request_kinds, reserve_kinds, set_up_kinds}

-- Past the last kind there is none.
pub none_past : (ks : List Kind) (i : ℕ) → length ks ≤ i → None ≡ first_kind (drop i ks)
none_past ks i past = rw (drop_of_length-le ks past)

-- A reservation has one field more than a try.
pub reserve_as_request : (i : ℕ) → (i ≡ 3 → ⊥) → first_kind (drop i request_kinds) ≡ first_kind (drop i reserve_kinds)
reserve_as_request zero other = refl
reserve_as_request (suc zero) other = refl
reserve_as_request (suc (suc zero)) other = refl
reserve_as_request (suc (suc (suc zero))) other = absurd (other refl)
reserve_as_request (suc (suc (suc (suc i)))) other =
    let place = suc (suc (suc (suc i))) in
    sym (none_past request_kinds place (omega arith)) ∙ none_past reserve_kinds place (omega arith)

-- The places of a set-up line's fields that have the kind of the field beside them.
pub set_up_32 : (i : ℕ) → (i ≡ 1 → ⊥) → i < 4 → Some (Number most32) ≡ first_kind (drop i set_up_kinds)
set_up_32 zero other few = refl
set_up_32 (suc zero) other few = absurd (other refl)
set_up_32 (suc (suc zero)) other few = refl
set_up_32 (suc (suc (suc zero))) other few = refl
set_up_32 (suc (suc (suc (suc i)))) other few = absurd (omega arith)

pub set_up_32_later : (i : ℕ) → 2 ≤ i → i < 4 → Some (Number most32) ≡ first_kind (drop i set_up_kinds)
set_up_32_later i many few = set_up_32 i (λ one. omega (arith, one)) few

pub set_up_64 : (i : ℕ) → 4 ≤ i → i < 6 → Some (Number most64) ≡ first_kind (drop i set_up_kinds)
set_up_64 zero many few = absurd (omega arith)
set_up_64 (suc zero) many few = absurd (omega arith)
set_up_64 (suc (suc zero)) many few = absurd (omega arith)
set_up_64 (suc (suc (suc zero))) many few = absurd (omega arith)
set_up_64 (suc (suc (suc (suc zero)))) many few = refl
set_up_64 (suc (suc (suc (suc (suc zero))))) many few = refl
set_up_64 (suc (suc (suc (suc (suc (suc i)))))) many few = absurd (omega arith)
