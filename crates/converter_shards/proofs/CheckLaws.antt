-- What the tests of the converter mean: any number that passes, two items alike, a word that is not 0.
use Prim.Native.Nat.{ℕ, zero, suc, ◌+◌, ◌*◌, ◌≤◌, ◌<◌}
use native.Mathlib.Omega.{arith}
use native.Mathlib.Nat.{mul-le-mul_left, zero-add}
use mathlib.Core.Path.{◌≡◌, refl, sym, ◌∙◌}
use mathlib.Core.Bool.{Bool, true, false, cond}
use mathlib.Core.List.{List, []}
use lib.Dec.{eqb}
use lib.ListN.{length, get_or, drop, drop_of_length-le}
use lib.Seq.{drop-cons}
use native.Mathlib.Numerals.{add-one}
use Rattle.index.specs.Walk.{at}
use Rattle.index.specs.Exact.{copies}
use borrow.Author.Tests.{eqb-true, eq-eqb, ne_eqb}
use Rattle.arith.proofs.Cases.{by_test, by_eq, by_le}
use Rattle.held.specs.Held.{Held, Items, item_at}
use Rattle.held.proofs.SingleLaws.{Single}
use Rattle.converter_shards.specs.declared.Rows.{Rows}
use Rattle.converter_shards.specs.Checks.{any_below, both_same, twinned, alike_in, has_twins, is_used, any_used}
use Rattle.converter_shards.specs.code.RowChecks.{row_word, alike_rows, RowsFit}

copies_none : (w : ℕ) → copies w [] ≡ 0
unfolding copies
copies_none w = refl

either_first : (a b c : Bool) → cond a true (cond b true c) ≡ cond b true (cond a true c)
either_first true true c = refl
either_first true false c = refl
either_first false true c = refl
either_first false false c = refl

-- One test does not come out both ways.
pub both_ways : {Q : Type 0} {b : Bool} → b ≡ true → b ≡ false → Q
both_ways holds fails = let z : ◌≡◌ {A = Bool} true false = sym holds ∙ fails in let w : ◌≡◌ {A = ℕ} 0 1 = cc in absurd (omega arith)

-- A loop over the numbers below n: none passes before the first, one more fails, one passes.
pub any_none : (test : ℕ → Bool) → any_below 0 test ≡ false
unfolding any_below
any_none test = refl

pub any_more : (n : ℕ) (test : ℕ → Bool) → any_below n test ≡ false → test n ≡ false → any_below (n + 1) test ≡ false
unfolding any_below
any_more n test none fails = let next : n + 1 ≡ suc n = omega arith in rw next (rw (any_below, fails) none)

pub any_passes : (n : ℕ) (test : ℕ → Bool) (i : ℕ) → i < n → test i ≡ true → any_below n test ≡ true
unfolding any_below
any_passes zero test i below passes = absurd (omega arith)
any_passes (suc n) test i below passes =
    by_test (test n)
    (λ t. rw (any_below, t))
    (λ t. rw (any_below, t) (by_eq i n (λ e. both_ways passes (rw e t)) (λ other. any_passes n test i (omega (arith, other)) passes)))

-- At the end of the loop: none has passed.
pub any_over : (n i : ℕ) (test : ℕ → Bool) → any_below i test ≡ false → i ≤ n → n ≤ i → false ≡ any_below n test
any_over n i test none a b = let e : i ≡ n = omega arith in sym (rw e at none)

-- A loop that looks for a number that passes: none below i does. It starts, goes on, finds one, or ends.
pub record NoneBelow (test : ℕ → Bool) (n i : ℕ) : Type 0 where
  pub none : any_below i test ≡ false
  pub within : i ≤ n

module _ (test : ℕ → Bool) (n : ℕ) where
  pub none_start : NoneBelow test n 0
  none_start = record { none = any_none test; within = omega arith }

  pub none_next : {i : ℕ} {b : Bool} → NoneBelow test n i → i < n → b ≡ test i → b ≡ false → NoneBelow test n (i + 1)
  none_next {i} so_far below is fails = record { none = any_more i test so_far.none (sym is ∙ fails); within = omega arith }

  pub none_found : {i : ℕ} {b : Bool} → i < n → b ≡ test i → b ≡ true → true ≡ any_below n test
  none_found {i} below is passes = sym (any_passes n test i below (sym is ∙ passes))

  pub none_over : {i : ℕ} → NoneBelow test n i → n ≤ i → false ≡ any_below n test
  none_over {i} so_far end = any_over n i test so_far.none so_far.within end

-- Where none passes each fails.
pub none_passes : (n : ℕ) (test : ℕ → Bool) → any_below n test ≡ false → (i : ℕ) → i < n → test i ≡ false
none_passes n test none i below = by_test (test i) (λ t. both_ways (any_passes n test i below t) none) (λ t. t)

-- Where each fails none passes.
pub none_of : (n : ℕ) (test : ℕ → Bool) → ((i : ℕ) → i < n → test i ≡ false) → any_below n test ≡ false
unfolding any_below
none_of zero test fails = refl
none_of (suc n) test fails = rw (fails n (omega arith)) (none_of n test (λ i below. fails i (omega arith)))

-- Where one passes there is one that does.
pub by_some : {Q : Type 0} (n : ℕ) (test : ℕ → Bool) → any_below n test ≡ true → ((i : ℕ) → i < n → test i ≡ true → Q) → Q
unfolding any_below
by_some zero test some then = both_ways some refl
by_some (suc n) test some then =
    by_test (test n)
    (λ t. then n (omega arith) t)
    (λ t. by_some n test (rw (any_below, t) at some) (λ i below passes. then i (omega arith) passes))

-- The first number by itself.
pub any_first : (n : ℕ) (test : ℕ → Bool) → any_below (suc n) test ≡ cond (test 0) true (any_below n (λ i. test (suc i)))
unfolding any_below
any_first zero test = refl
any_first (suc n) test = rw (any_first n test) (either_first (test (suc n)) (test 0) (any_below n (λ i. test (suc i))))

-- Two tests that come out the same.
pub any_same : (n : ℕ) (test test' : ℕ → Bool) → ((i : ℕ) → i < n → test i ≡ test' i) → any_below n test ≡ any_below n test'
unfolding any_below
any_same zero test test' same = refl
any_same (suc n) test test' same = rw (same n (omega arith), any_same n test test' (λ i below. same i (omega arith)))

pub twinned_same : (n : ℕ) (alike alike' : ℕ → ℕ → Bool) → ((i j : ℕ) → i < n → j < n → alike i j ≡ alike' i j) → twinned alike n ≡ twinned alike' n
twinned_same n alike alike' same =
    any_same n (λ i. any_below i (alike i)) (λ i. any_below i (alike' i)) (λ i below. any_same i (alike i) (alike' i) (λ j lower. same i j below (omega arith)))

-- No two are alike where the test comes out false.
pub none_twinned : (n : ℕ) (alike : ℕ → ℕ → Bool) → twinned alike n ≡ false → (i j : ℕ) → i < n → j < i → alike i j ≡ false
none_twinned n alike none i j below lower = none_passes i (alike i) (none_passes n (λ k. any_below k (alike k)) none i below) j lower

-- Two hashes and two keys that are the same.
pub same_both : (h k h' k' : ℕ) → h ≡ h' → k ≡ k' → both_same h k h' k' ≡ true
same_both h k h' k' a b = rw (eq-eqb h h' a) (eq-eqb k k' b)

-- What it says that two hashes and keys are the same.
pub same_hashes : (h k h' k' : ℕ) → both_same h k h' k' ≡ true → h ≡ h'
same_hashes h k h' k' same = by_eq h h' (λ e. e) (λ n. both_ways same (rw (ne_eqb h h' n)))

pub same_keys : (h k h' k' : ℕ) → both_same h k h' k' ≡ true → k ≡ k'
same_keys h k h' k' same = eqb-true k k' (rw (eq-eqb h h' (same_hashes h k h' k' same)) at same)

-- Where no two items are alike no two have one identity, which is the hash and the key.
module _ {A : Type 0} (items : Items A) (key : A → ℕ) where
  pub no_twins_single : {I : Type 0} (identity : A → I) → ((x y : A) → identity x ≡ identity y → (items.hash x ≡ items.hash y) × (key x ≡ key y))
      → (h : Held A) → has_twins items key h ≡ false → Single items identity h
  unfolding has_twins
  no_twins_single identity apart h none i j below_i below_j same =
      let both = apart (item_at items h i) (item_at items h j) same in
      let other = apart (item_at items h j) (item_at items h i) (sym same) in
      by_eq i j (λ e. e)
      (λ differ.
      by_le i j
      (λ le. both_ways (same_both _ _ _ _ other.0 other.1) (none_twinned h.count (alike_in items key h) none j i below_j (omega (arith, differ))))
      (λ lt. both_ways (same_both _ _ _ _ both.0 both.1) (none_twinned h.count (alike_in items key h) none i j below_i lt)))

-- And where no two have one identity no two are alike.
module _ {A : Type 0} (items : Items A) (key : A → ℕ) where
  pub single_no_twins : {I : Type 0} (identity : A → I) → ((x y : A) → items.hash x ≡ items.hash y → key x ≡ key y → identity x ≡ identity y)
      → (h : Held A) → Single items identity h → has_twins items key h ≡ false
  unfolding has_twins
  single_no_twins identity together h single =
      none_of h.count (λ i. any_below i (alike_in items key h i)) (λ i below. none_of i (alike_in items key h i) (λ j lower.
      by_test (alike_in items key h i j)
      (λ alike.
      let x : A = item_at items h i in
      let y : A = item_at items h j in
      let hashes = same_hashes (items.hash x) (key x) (items.hash y) (key y) alike in
      let keys = same_keys (items.hash x) (key x) (items.hash y) (key y) alike in
      absurd (omega (arith, single i j below (omega arith) (together x y hashes keys))))
      (λ t. t)))

-- Two rows by the tests of the code.
module _ (rows : Rows) (ws : List ℕ) (i j : ℕ) where
  pub alike_by_key : row_word rows 0 ws i ≡ row_word rows 0 ws j → eqb (row_word rows rows.key ws i) (row_word rows rows.key ws j) ≡ alike_rows rows ws i j
  unfolding alike_rows
  alike_by_key e = rw (eq-eqb _ _ e)

  pub alike_not : (row_word rows 0 ws i ≡ row_word rows 0 ws j → ⊥) → false ≡ alike_rows rows ws i j
  unfolding alike_rows
  alike_not n = rw (ne_eqb _ _ n)

-- A word of a row lies in the words.
pub row_inside : {rows : Rows} {n : ℕ} {ws : List ℕ} → RowsFit rows n ws → (i f : ℕ) → i < n → f < rows.width → rows.first + rows.width * i + f < length ws
row_inside {rows} {n} fit i f below within =
    let m : rows.width * (i + 1) ≤ rows.width * n = mul-le-mul_left {m = i + 1} {n = n} rows.width (omega arith) in
    omega (arith, fit.inside)

pub row_read : (rows : Rows) (ws : List ℕ) (i f : ℕ) → get_or ws (rows.first + rows.width * i + f) 0 ≡ row_word rows f ws i
unfolding row_word
row_read rows ws i f = refl

-- Words of which none is used are 0.
pub used_of : (w : ℕ) → (w ≡ 0 → ⊥) → is_used w ≡ true
used_of w n = rw (ne_eqb w 0 n)

pub unused_of : (w : ℕ) → w ≡ 0 → is_used w ≡ false
unused_of w e = rw (eq-eqb w 0 e)

pub used_start : (ws : List ℕ) → any_below (length ws) (λ k. is_used (get_or ws k 0)) ≡ any_used ws
unfolding any_used
used_start ws = refl

pub none_used_zeros : (ws : List ℕ) → any_used ws ≡ false → (k : ℕ) → k < length ws → get_or ws k 0 ≡ 0
unfolding any_used
none_used_zeros ws none k below =
    by_eq (get_or ws k 0) 0 (λ e. e) (λ n. both_ways (used_of (get_or ws k 0) n) (none_passes (length ws) (λ j. is_used (get_or ws j 0)) none k below))

-- 1 for a word that is 0.
pub one_most : (w : ℕ) → cond (eqb w 0) 1 0 ≤ 1
one_most w = by_test (eqb w 0) (λ t. rw t (omega arith)) (λ t. rw t (omega arith))

-- The empty places from place q on: the one at q, and those after it.
pub copies_next : (ix : List ℕ) (q : ℕ) → q < length ix → copies 0 (drop q ix) ≡ cond (eqb (at ix q) 0) 1 0 + copies 0 (drop (q + 1) ix)
unfolding copies
copies_next ix q below = rw (add-one, drop-cons ix q 0)

-- A loop that counts them.
pub record Counting (ix : List ℕ) (size empty q : ℕ) : Type 0 where
  pub long : length ix ≡ size
  pub within : q ≤ size
  pub most : empty ≤ q
  pub so_far : empty + copies 0 (drop q ix) ≡ copies 0 ix

pub counting_start : (ix : List ℕ) (size : ℕ) → length ix ≡ size → Counting ix size 0 0
counting_start ix size long = record { long = long; within = omega arith; most = omega arith; so_far = zero-add (copies 0 ix) }

pub counting_next : {ix : List ℕ} {size empty q e w : ℕ} → Counting ix size empty q → q < size → w ≡ at ix q → e ≡ cond (eqb w 0) 1 0
    → Counting ix size (empty + e) (q + 1)
counting_next {ix} {size} {empty} {q} {e} {w} counting below word is =
    let one : e ≡ cond (eqb (at ix q) 0) 1 0 = (rw word at is) in
    let most = one_most (at ix q) in
    record {
      long = counting.long;
      within = omega arith;
      most = omega (arith, counting.most);
      so_far = omega (arith, counting.so_far, copies_next ix q (omega (arith, counting.long)));
    }

pub counting_over : {ix : List ℕ} {size empty q : ℕ} → Counting ix size empty q → size ≤ q → empty ≡ copies 0 ix
counting_over {ix} {size} {empty} {q} counting end =
    let none : copies 0 (drop q ix) ≡ 0 = rw (drop_of_length-le ix {i = q} (omega (arith, counting.long))) (copies_none 0) in
    omega (arith, counting.so_far)
