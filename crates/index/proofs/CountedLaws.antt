-- A test that an index is exact: each item's walk finds it, and as many places are in use as there are items.
use Rattle.std.proofs.Common.{◌≡◌, ℕ, zero, suc, ◌+◌, ◌-◌, ◌%◌, ◌<◌, ◌≤◌, Bool, cond, eqb, leb, List, [], ◌∷◌, length, refl, arith, eq-eqb, ne_eqb, le-leb}
use borrow.Author.Tests.{lt-leb}
use Rattle.arith.proofs.Cases.{by_eq, by_le}
use Rattle.index.specs.Walk.{at, walk, seek}
use Rattle.index.specs.Exact.{copies, Before, OnWalk, Exact}
use Rattle.index.proofs.CopyLaws.{copies_at, one, one_not, absent, only_copy}
use Rattle.index.proofs.WalkLaws.{walk_stops, passing_stops, passed_used}
use Rattle.index.proofs.ExactLaws.{used_below}

-- 1 if a word names one of the first n items, and how many places do; how many places name a later one.
naming : ℕ → ℕ → ℕ
naming n x = cond (eqb x 0) 0 (cond (leb x n) 1 0)

within : ℕ → List ℕ → ℕ
within n [] = 0
within n (x ∷ xs) = naming n x + within n xs

over : ℕ → List ℕ → ℕ
over n [] = 0
over n (x ∷ xs) = cond (leb x n) 0 1 + over n xs

-- A place is one of three: empty, naming one of the first n items, naming a later one.
one_of_three : (n x : ℕ) → one x 0 + naming n x + cond (leb x n) 0 1 ≡ 1
unfolding naming
one_of_three n x = by_eq x 0
    (λ e. rw (e, le-leb 0 n (omega arith)))
    (λ k. by_le x n (λ l. rw (ne_eqb x 0 k, le-leb x n l)) (λ l. rw (ne_eqb x 0 k, lt-leb x n l)))

all_places : (n : ℕ) (ix : List ℕ) → copies 0 ix + within n ix + over n ix ≡ length ix
unfolding copies within over
all_places n [] = refl
all_places n (x ∷ xs) = omega (arith, one_of_three n x, all_places n xs)

-- Among one item more, the places that name it come in addition.
naming_more : (n x : ℕ) → naming (n + 1) x ≡ naming n x + one x (n + 1)
unfolding naming
naming_more n x = by_eq x 0
    (λ e. rw (e, ne_eqb 0 (n + 1) (omega arith)))
    (λ k. by_eq x (n + 1)
    (λ e. rw (ne_eqb x 0 k, le-leb x (n + 1) (omega arith), lt-leb x n (omega arith), eq-eqb x (n + 1) e))
    (λ m. by_le x n
    (λ l. rw (ne_eqb x 0 k, le-leb x (n + 1) (omega arith), le-leb x n l, ne_eqb x (n + 1) m))
    (λ l. rw (ne_eqb x 0 k, lt-leb x (n + 1) (omega arith), lt-leb x n l, ne_eqb x (n + 1) m))))

within_more : (n : ℕ) (ix : List ℕ) → within (n + 1) ix ≡ within n ix + copies (n + 1) ix
unfolding within copies
within_more n [] = refl
within_more n (x ∷ xs) = omega (arith, naming_more n x, within_more n xs)

suc_is : (n : ℕ) → suc n ≡ n + 1
suc_is n = omega arith

-- If each of n items stands somewhere, n places or more name them. If no more do, each stands once.
at_least : (n : ℕ) (ix : List ℕ) → ((i : ℕ) → i < n → 1 ≤ copies (i + 1) ix) → n ≤ within n ix
at_least zero ix h = omega arith
at_least (suc n) ix h = rw (suc_is n) (omega (arith, within_more n ix, at_least n ix (λ i l. h i (omega arith)), h n (omega arith)))

each_once : (n : ℕ) (ix : List ℕ) → ((i : ℕ) → i < n → 1 ≤ copies (i + 1) ix) → within n ix ≤ n → (i : ℕ) → i < n → copies (i + 1) ix ≡ 1
each_once zero ix h w i l = absurd (omega arith)
each_once (suc n) ix h w i l =
    let m = within_more n ix in
    let a = at_least n ix (λ j b. h j (omega arith)) in
    let o = h n (omega arith) in
    let w' : within (n + 1) ix ≤ n + 1 = (rw (suc_is n) at w) in
    by_eq i n
    (λ e. rw e (omega arith))
    (λ k. each_once n ix (λ j b. h j (omega arith)) (omega arith) i (omega arith))

none_over : (n w : ℕ) → n < w → (ix : List ℕ) → over n ix ≡ 0 → copies w ix ≡ 0
unfolding over copies
none_over n w h [] e = refl
none_over n w h (x ∷ xs) e = by_le x n
    (λ l. let e' : cond (leb x n) 0 1 + over n xs ≡ 0 = e in omega (arith, one_not x w (omega arith), none_over n w h xs (omega arith)))
    (λ l. let e' : 1 + over n xs ≡ 0 = (rw (lt-leb x n l) at e) in absurd (omega arith))

-- An index that passes the test is exact.
pub counted_exact : (hash : ℕ → ℕ) (n : ℕ) (ix : List ℕ) → n < length ix → copies 0 ix + n ≡ length ix
    → ((i : ℕ) → i < n → at ix (seek ix (hash i) (i + 1)) ≡ i + 1) → Exact hash n ix
unfolding seek
counted_exact hash n ix room full found =
    record { room = room; once = once; others = λ w l. none_over n w l ix none; empty = full; on_walk = on_walk }
  where
    some : (i : ℕ) → i < n → 1 ≤ copies (i + 1) ix
    some i l = copies_at (i + 1) ix (seek ix (hash i) (i + 1)) (used_below ix _ (omega (arith, found i l))) (found i l)

    none : over n ix ≡ 0
    none = omega (arith, all_places n ix, at_least n ix some)

    once : (i : ℕ) → i < n → copies (i + 1) ix ≡ 1
    once = each_once n ix some (omega (arith, all_places n ix))

    -- The place of item i is the one at which its walk stops.
    passed : (i x y : ℕ) → i < n → x < length ix → y < length ix → at ix x ≡ i + 1 → Before (hash i % length ix) x y → 0 < at ix y
    passed i x y l hx hy e b =
        let test : ℕ → Bool = λ v. eqb v (i + 1) in
        let z : ℕ = walk ix test (hash i) in
        let is : at ix z ≡ i + 1 = found i l in
        let same : x ≡ z = only_copy (i + 1) ix x z (omega arith) (once i l) hx (used_below ix z (omega arith)) e is in
        let S = walk_stops ix test (hash i) x hx (passing_stops test (at ix x) (eq-eqb _ _ e)) in
        passed_used test (at ix y) (S.passed y hy (rw same at b))

    on_walk : OnWalk hash (length ix) ix
    on_walk x y hx hy u b =
        let l : at ix x - 1 < n = by_le (at ix x) n (λ m. omega arith) (λ m. absurd (absent (at ix x) ix x hx (none_over n (at ix x) m ix none) refl)) in
        passed (at ix x - 1) x y l hx hy (omega arith) b
