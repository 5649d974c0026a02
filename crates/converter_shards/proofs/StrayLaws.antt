-- With an exact index some item strays just where two items are alike.
use Rattle.std.proofs.Common.{Option, Some, None}
use Prim.Native.Nat.{ℕ, ◌<◌}
use native.Mathlib.Omega.{arith}
use mathlib.Core.Path.{◌≡◌, refl, sym, ◌∙◌}
use mathlib.Core.Bool.{Bool, true, false, not}
use lib.Dec.{eqb}
use mathlib.Core.List.{List}
use borrow.Author.Tests.{eq-eqb, ne_eqb}
use Rattle.arith.proofs.Cases.{by_test, by_eq, by_le}
use Rattle.index.specs.Walk.{find}
use Rattle.index.specs.Exact.{Exact}
use Rattle.index.specs.declared.Index.{Index}
use Rattle.index.specs.Layout.{places_of, hash_of, key_of, keyed}
use Rattle.index.proofs.FindLaws.{find_sound, find_nowhere}
use Rattle.converter_shards.specs.Checks.{any_below, both_same, twinned}
use Rattle.converter_shards.specs.code.RowChecks.{strayed, strays}
use Rattle.converter_shards.proofs.CheckLaws.{both_ways, any_passes, none_of, by_some, none_twinned, same_both, same_hashes, same_keys}

by_place : {Q : Type 0} (p : Option ℕ) → ((i : ℕ) → p ≡ Some i → Q) → (p ≡ None → Q) → Q
by_place (Some i) found none = found i refl
by_place None found none = none refl

-- What a lookup that gave a place says of the item that was looked up.
pub strayed_to : (i j : ℕ) → not (eqb j i) ≡ strayed i (Some j)
strayed_to i j = by_test (eqb j i) (λ t. rw t) (λ t. rw t)

pub strayed_own : (i j : ℕ) → j ≡ i → false ≡ strayed i (Some j)
strayed_own i j e = rw (eq-eqb j i e)

pub strayed_other : (i j : ℕ) → (j ≡ i → ⊥) → true ≡ strayed i (Some j)
strayed_other i j n = rw (ne_eqb j i n)

module _ (hash key : ℕ → ℕ) (n : ℕ) (ix : List ℕ) (E : Exact hash n ix) where
  abbrev alike : ℕ → ℕ → Bool
  alike i j = both_same (hash i) (key i) (hash j) (key j)

  abbrev lookup : ℕ → Option ℕ
  lookup i = find n (λ j. alike j i) ix (hash i)

  abbrev stray : ℕ → Bool
  stray i = strayed i (lookup i)

  stray_at : (i p : ℕ) → lookup i ≡ Some p → (p ≡ i → ⊥) → stray i ≡ true
  stray_at i p e other = rw e (sym (strayed_other i p other))

  -- Two are alike, so both are looked up at one place, and one of them strays.
  twins_stray : (i j : ℕ) → i < n → j < i → alike i j ≡ true → any_below n stray ≡ true
  twins_stray i j below lower same =
      let h : hash i ≡ hash j = same_hashes (hash i) (key i) (hash j) (key j) same in
      let k : key i ≡ key j = same_keys (hash i) (key i) (hash j) (key j) same in
      let one : lookup j ≡ lookup i = rw (h, k) in
      by_place (lookup i)
      (λ p e.
      by_eq p i
      (λ at_i. any_passes n stray j (omega arith) (stray_at j p (one ∙ e) (λ at_j. omega arith)))
      (λ other. any_passes n stray i below (stray_at i p e other)))
      (λ e. any_passes n stray i below (rw e))

  -- None are alike, so each is found at its own place.
  none_strays : twinned alike n ≡ false → (i : ℕ) → i < n → stray i ≡ false
  none_strays none i below =
      by_place (lookup i)
      (λ p e.
      let f = find_sound n (λ j. alike j i) ix (hash i) p e in
      by_eq p i
      (λ own. rw e (sym (strayed_own i p own)))
      (λ other.
      by_le p i
      (λ le.
      let h : hash i ≡ hash p = sym (same_hashes (hash p) (key p) (hash i) (key i) f.passes) in
      let k : key i ≡ key p = sym (same_keys (hash p) (key p) (hash i) (key i) f.passes) in
      both_ways (same_both (hash i) (key i) (hash p) (key p) h k) (none_twinned n alike none i p below (omega (arith, other))))
      (λ lt. both_ways f.passes (none_twinned n alike none p i f.below lt))))
      (λ e. absurd (find_nowhere E (λ j. alike j i) (hash i) e i below refl (same_both (hash i) (key i) (hash i) (key i) refl refl)))

  pub strays_are_twins : any_below n (strays hash key n ix) ≡ twinned alike n
  unfolding strays
  strays_are_twins =
      by_test (twinned alike n)
      (λ some.
      by_some n (λ i. any_below i (alike i)) some (λ i below found.
      by_some i (alike i) found (λ j lower same. twins_stray i j below lower same ∙ sym some)))
      (λ none. none_of n stray (none_strays none) ∙ sym none)

-- A look at one item, by the tests of the code.
module _ (index : Index) (ws : List ℕ) (n i : ℕ) {h k : ℕ} (hash : h ≡ hash_of index ws i) (key : k ≡ key_of index ws i) {p : Option ℕ}
    (found : p ≡ find n (keyed index ws h k) (places_of index ws) h) where
  pub looked_up : {p' : Option ℕ} → p ≡ p' → strayed i p' ≡ strays (hash_of index ws) (key_of index ws) n (places_of index ws) i
  unfolding strays keyed
  looked_up is = rw (← is, found, hash, key)
