-- How many places hold a word: after a store, and where a word is moved.
use Rattle.std.proofs.Common.{◌≡◌, ℕ, zero, suc, ◌+◌, ◌<◌, ◌≤◌, cond, eqb, List, [], ◌∷◌, length, set, replicate, refl, ◌∙◌, le_of_suc-le-suc, arith}
use Rattle.std.proofs.Common.{length-set, get_or-set_other, get_or-set_same, eq-eqb, ne_eqb}
use Rattle.arith.proofs.Cases.{by_eq}
use Rattle.index.specs.Walk.{at}
use Rattle.index.specs.Exact.{copies}

-- 1 if two words are the same, else 0.
abbrev pub one : ℕ → ℕ → ℕ
one x w = cond (eqb x w) 1 0

pub one_same : (x w : ℕ) → x ≡ w → one x w ≡ 1
one_same x w e = rw (eq-eqb x w e)

pub one_not : (x w : ℕ) → (x ≡ w → ⊥) → one x w ≡ 0
one_not x w n = rw (ne_eqb x w n)

-- A store at place j adds a copy of the new word and takes one of the old word away.
pub copies_set : (w : ℕ) (ix : List ℕ) (j x : ℕ) → j < length ix → copies w (set ix j x) + one (at ix j) w ≡ copies w ix + one x w
unfolding copies
copies_set w [] j x h = absurd (omega arith)
copies_set w (y ∷ l) zero x h = omega arith
copies_set w (y ∷ l) (suc j) x h = omega (arith, copies_set w l j x (le_of_suc-le-suc h))

-- A word that stands at a place has a copy, and a word that has a copy stands at a place.
pub copies_at : (w : ℕ) (ix : List ℕ) (j : ℕ) → j < length ix → at ix j ≡ w → 1 ≤ copies w ix
unfolding copies
copies_at w [] j h e = absurd (omega arith)
copies_at w (y ∷ l) zero h e = omega (arith, one_same y w e)
copies_at w (y ∷ l) (suc j) h e = omega (arith, copies_at w l j (le_of_suc-le-suc h) e)

pub record Stands (w : ℕ) (ix : List ℕ) : Type 0 where
  pub place : ℕ
  pub below : place < length ix
  pub is : at ix place ≡ w

pub copies_stands : (w : ℕ) (ix : List ℕ) → 1 ≤ copies w ix → Stands w ix
unfolding copies
copies_stands w [] h = absurd (omega arith)
copies_stands w (y ∷ l) h = by_eq y w
    (λ e. record { place = 0; below = omega arith; is = e })
    (λ n. let s = copies_stands w l (omega (arith, one_not y w n)) in record { place = suc s.place; below = omega (arith, s.below); is = s.is })

-- A word that has no copy stands nowhere.
pub absent : (w : ℕ) (ix : List ℕ) (j : ℕ) → j < length ix → copies w ix ≡ 0 → at ix j ≡ w → ⊥
absent w ix j h e s = let o = copies_at w ix j h s in omega arith

-- A word is taken out of place q and put into a place that is empty then: every word has as many copies as before.
pub copies_moved : (v : ℕ) (ix : List ℕ) (q z : ℕ) → q < length ix → z < length ix → at (set ix q 0) z ≡ 0
    → copies v (set (set ix q 0) z (at ix q)) ≡ copies v ix
copies_moved v ix q z hq hz e =
    let a = copies_set v ix q 0 hq in
    let b : copies v (set (set ix q 0) z (at ix q)) + one 0 v ≡ copies v (set ix q 0) + one (at ix q) v =
    rw e at (copies_set v (set ix q 0) z (at ix q) (simp length-set hz)) in
    omega arith

-- A fresh index holds zeros alone.
pub copies_fresh : (size : ℕ) → copies 0 (replicate size 0) ≡ size
unfolding copies
copies_fresh zero = refl
copies_fresh (suc n) = omega (arith, copies_fresh n)

pub copies_fresh_other : (w size : ℕ) → 0 < w → copies w (replicate size 0) ≡ 0
unfolding copies
copies_fresh_other w zero h = refl
copies_fresh_other w (suc n) h = omega (arith, copies_fresh_other w n h, one_not 0 w (omega arith))

-- What stands where after a store.
pub at_stored : (ix : List ℕ) (z v : ℕ) → z < length ix → at (set ix z v) z ≡ v
at_stored ix z v h = get_or-set_same ix z v 0 h

pub at_kept : (ix : List ℕ) (z v y : ℕ) → (y ≡ z → ⊥) → at (set ix z v) y ≡ at ix y
at_kept ix z v y n = get_or-set_other ix z y v 0 n

-- A place in use stays in use where a word that is not 0 is stored.
pub used_kept : (ix : List ℕ) (z v y : ℕ) → z < length ix → 0 < v → 0 < at ix y → 0 < at (set ix z v) y
used_kept ix z v y h p u = by_eq y z
    (λ e. rw e (omega (arith, at_stored ix z v h)))
    (λ n. omega (arith, at_kept ix z v y n))

-- A word that is not 0 and has one copy stands at one place.
pub only_copy : (w : ℕ) (ix : List ℕ) (x z : ℕ) → 0 < w → copies w ix ≡ 1 → x < length ix → z < length ix → at ix x ≡ w → at ix z ≡ w → x ≡ z
only_copy w ix x z used once hx hz atx atz =
    by_eq x z (λ same. same)
    (λ other.
    let elsewhere = copies_at w (set ix z 0) x (simp length-set hx) (at_kept ix z 0 x other ∙ atx) in
    absurd (omega (arith, copies_set w ix z 0 hz, one_same (at ix z) w atz, one_not 0 w (omega arith))))
