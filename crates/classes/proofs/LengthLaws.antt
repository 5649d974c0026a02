-- The lengths of chains that the check of a table keeps and finds, case by case as the code comes to them.
use Rattle.std.proofs.Common.{Some, None}
use Prim.Native.Nat.{ℕ, zero, suc, ◌+◌, ◌-◌, ◌≤◌, ◌<◌}
use mathlib.Core.Path.{◌≡◌, refl, sym, ◌∙◌}
use mathlib.Core.Bool.{true, false}
use mathlib.Core.List.{List}
use native.Mathlib.Omega.{arith}
use lib.ListN.{length, get_or, set, replicate, length-set, length-replicate, get_or-replicate, get_or-eq_default}
use lib.Seq.{get_or-set_same, get_or-set_other}
use borrow.Author.Tests.{eq-eqb, ne_eqb, le-leb, lt-leb}
use Rattle.arith.proofs.Cases.{by_test, by_le, by_eq}
use Rattle.classes.specs.declared.Class.{Class}
use Rattle.classes.specs.Classes.{longest_chain, class_at, ends, chain_refusal}
use Rattle.classes.specs.code.Lengths.{Long, Known, Kept, one_longer, Found}
use Rattle.classes.proofs.RefusalLaws.{no_class_is_allowed, ends_at_the_top, ends_as_above, chain_in_time, chain_too_long}
use Rattle.classes.proofs.WholeChain.{not_both, by_parent}

-- A chain that ends within so many classes ends within more; one that does not end within so many does not end within fewer.
in_time_with_more : (n more : ℕ) (cs : List Class) (i : ℕ) → ends n cs i ≡ true → ends (n + more) cs i ≡ true
unfolding ends
in_time_with_more zero more cs i = λ in_time. absurd (not_both in_time refl)
in_time_with_more (suc n) more cs i =
    let next : suc n + more ≡ suc (n + more) = omega arith in
    by_parent (class_at cs i).parent
    (λ top. rw (next, ends, top) (λ in_time. refl))
    (λ q under. rw (next, ends, under) (in_time_with_more n more cs q))

module _ (cs : List Class) (i : ℕ) {n m : ℕ} (less : n ≤ m) where
  in_time_for_more : ends n cs i ≡ true → ends m cs i ≡ true
  in_time_for_more in_time = let e : n + (m - n) ≡ m = omega arith in rw e at (in_time_with_more n (m - n) cs i in_time)

  too_long_for_fewer : ends m cs i ≡ false → ends n cs i ≡ false
  too_long_for_fewer too_long = by_test (ends n cs i) (λ in_time. absurd (not_both (in_time_for_more in_time) too_long)) (λ longer. longer)

-- One longer: none is longer than a chain that is too long, nor than the longest.
module _ (n : ℕ) where
  pub too_long_stays_so : n ≡ 0 → one_longer n ≡ 0
  unfolding one_longer
  too_long_stays_so none = rw (eq-eqb _ _ none)

  module _ (some : n ≡ 0 → ⊥) where
    pub none_is_longer : longest_chain ≤ n → one_longer n ≡ 0
    unfolding one_longer
    none_is_longer most = rw (ne_eqb _ _ some, le-leb _ _ most)

    pub longer_by_one : n < longest_chain → one_longer n ≡ n + 1
    unfolding one_longer
    longer_by_one fewer = rw (ne_eqb _ _ some, lt-leb _ _ fewer)

-- No length is known at the start; and one that is found is kept.
nothing_known : (cs : List Class) (i : ℕ) {n : ℕ} → n ≡ 0 → Known cs i n
nothing_known cs i none = λ some. absurd (some none)

pub nothing_kept : (cs : List Class) (k : ℕ) → Kept cs (replicate k 0)
nothing_kept cs k = record { right = λ i. nothing_known cs i (zero_at i) }
  where
    zero_at : (i : ℕ) → get_or {A = ℕ} (replicate k 0) i 0 ≡ 0
    zero_at i =
        by_le k i
        (λ past. get_or-eq_default (replicate k 0) 0 (omega (arith, length-replicate {A = ℕ} k 0)))
        (λ inside. get_or-replicate k i 0 0 inside)

found_is_kept : (cs : List Class) (ns : List ℕ) (i n : ℕ) → Kept cs ns → Known cs i n → Kept cs (set ns i n)
found_is_kept cs ns i n kept known = record { right = at_place }
  where
    at_place : (j : ℕ) → Known cs j (get_or (set ns i n) j 0)
    at_place j =
        by_eq j i
        (λ same. by_le (length ns) i
        (λ past. nothing_known cs j (get_or-eq_default (set ns i n) 0 (simp length-set (omega arith))))
        (λ inside. rw (same, get_or-set_same ns i n 0 inside) known))
        (λ other. rw (get_or-set_other ns i j n 0 other) (kept.right j))

-- The cases: no class is allowed any more; the length is known; the class is at the top; there is one above it.
module _ (cs : List Class) (ns : List ℕ) (i allowed : ℕ) (kept : Kept cs ns) where
  pub none_is_allowed : allowed ≡ 0 → Found cs ns i allowed 0
  none_is_allowed none = record { known = nothing_known cs i refl; too_long = λ e. sym (no_class_is_allowed allowed cs i none); kept = kept }

  pub known_is_found : (get_or ns i 0 ≡ 0 → ⊥) → Found cs ns i allowed (get_or ns i 0)
  known_is_found some = record { known = kept.right i; too_long = λ none. absurd (some none); kept = kept }

  pub top_is_found : (class_at cs i).parent ≡ None → Found cs (set ns i 1) i allowed 1
  top_is_found top =
      let one : Known cs i 1 = λ some. record {
        in_time = sym (ends_at_the_top 1 cs i (λ e. omega (arith, e)) top);
        no_sooner = sym (no_class_is_allowed 0 cs i refl);
        few = omega arith;
      } in
      record { known = one; too_long = λ e. absurd (omega (arith, e)); kept = found_is_kept cs ns i 1 kept one }

module _ (cs : List Class) (i : ℕ) {parent : ℕ} (up : (class_at cs i).parent ≡ Some parent) where
  longer_in_time : (n : ℕ) → Long cs parent n → n < longest_chain → Long cs i (n + 1)
  longer_in_time n long fewer =
      by_eq n 0
      (λ none. absurd (not_both long.in_time (sym (no_class_is_allowed n cs parent none))))
      (λ some.
      let one_less : n + 1 - 1 ≡ n = omega arith in
      record {
        in_time = sym (ends_as_above (n + 1) cs i (λ e. omega (arith, e)) up) ∙ rw one_less long.in_time;
        no_sooner = rw one_less (sym (ends_as_above n cs i some up) ∙ long.no_sooner);
        few = omega arith;
      })

  -- What is found of the chain above says what is found of the chain.
  record Longer (allowed n : ℕ) : Type 0 where
    known : Known cs i (one_longer n)
    too_long : one_longer n ≡ 0 → ends allowed cs i ≡ false

  module _ (allowed n : ℕ) (some : allowed ≡ 0 → ⊥) where
    too_long_above : one_longer n ≡ 0 → ends (allowed - 1) cs parent ≡ false → Longer allowed n
    too_long_above none longer =
        record { known = nothing_known cs i none; too_long = λ e. sym (ends_as_above allowed cs i some up) ∙ longer }

    one_longer_lem : allowed ≤ longest_chain → Known cs parent n → (n ≡ 0 → ends (allowed - 1) cs parent ≡ false) → Longer allowed n
    one_longer_lem within known too_long =
        by_eq n 0
        (λ none. too_long_above (too_long_stays_so n none) (too_long none))
        (λ one. by_le longest_chain n
        (λ most. too_long_above (none_is_longer n one most) (too_long_for_fewer cs parent (omega (arith, (known one).few)) (known one).no_sooner))
        (λ fewer.
        let e = longer_by_one n one fewer in
        record { known = λ more. rw e (longer_in_time n (known one) fewer); too_long = λ none. absurd (omega (arith, none, e)) }))

  pub one_longer_is_found : (ns : List ℕ) (allowed n : ℕ) → (allowed ≡ 0 → ⊥) → allowed ≤ longest_chain → Found cs ns parent (allowed - 1) n
      → Found cs (set ns i (one_longer n)) i allowed (one_longer n)
  one_longer_is_found ns allowed n some within found =
      let longer : Longer allowed n = one_longer_lem allowed n some within found.known found.too_long in
      record { known = longer.known; too_long = longer.too_long; kept = found_is_kept cs ns i (one_longer n) found.kept longer.known }

-- What is found with the longest chain allowed says whether the chain is refused.
module _ (cs : List Class) (ns : List ℕ) (i n : ℕ) (found : Found cs ns i longest_chain n) where
  pub none_found_is_refused : n ≡ 0 → chain_refusal cs i ≡ 15
  none_found_is_refused none = chain_too_long cs i (found.too_long none)

  pub found_is_not_refused : (n ≡ 0 → ⊥) → chain_refusal cs i ≡ 0
  found_is_not_refused some = let long = found.known some in chain_in_time cs i (in_time_for_more cs i long.few long.in_time)
