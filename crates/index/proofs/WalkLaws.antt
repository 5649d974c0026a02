-- Where walks stop.
use Rattle.std.proofs.Common.{◌≡◌, ℕ, zero, suc, ◌%◌, ◌<◌, Bool, true, false, eqb, List, length, sym, ◌∙◌, ⊎_elim, mod-lt, arith, ne_eqb}
use Rattle.arith.proofs.Cases.{by_test, by_eq}
use Rattle.index.specs.Walk.{at, onward, stops, walk_from, walk}
use Rattle.index.specs.Exact.{Before, mid, low, high}
use Rattle.index.proofs.CycleLaws.{onward_follows, follows_below, which_first, before_from_next, Reach, reach_all, reach_none, reach_next}

-- A walk from place a stops at place z, and at no place before it.
pub record StopsAt (ix : List ℕ) (test : ℕ → Bool) (a z : ℕ) : Type 0 where
  pub below : z < length ix
  pub here : stops test (at ix z) ≡ true
  pub passed : (y : ℕ) → y < length ix → Before a z y → stops test (at ix y) ≡ false

-- One test does not come out both ways.
pub not_both_ways : {b : Bool} → b ≡ true → b ≡ false → ⊥
not_both_ways holds fails = let z : ◌≡◌ {A = Bool} true false = sym holds ∙ fails in let w : ◌≡◌ {A = ℕ} 0 1 = cc in omega arith

nothing_before : {a y : ℕ} → Before a a y → ⊥
nothing_before (mid c d) = omega arith
nothing_before (low c d) = omega arith
nothing_before (high c d) = omega arith

-- A walk stops if it reaches a place e at which it must stop.
walk_from_stops : (ix : List ℕ) (test : ℕ → Bool) (q left e : ℕ) → q < length ix → e < length ix → stops test (at ix e) ≡ true
    → Reach (length ix) q e left → StopsAt ix test q (walk_from ix test q left)
unfolding walk_from
walk_from_stops ix test q zero e hq he s r = absurd (reach_none hq r)
walk_from_stops ix test q (suc left) e hq he s r =
    by_test (stops test (at ix q))
    (λ f. rw (f, walk_from) (record { below = hq; here = f; passed = λ y hy b. absurd (nothing_before b) }))
    (λ f.
    let n = onward_follows (length ix) q hq in
    let rest = walk_from_stops ix test (onward (length ix) q) left e (follows_below hq n) he s (reach_next n he (λ k. not_both_ways s (rw k f)) r) in
    rw (f, walk_from) (record {
      below = rest.below;
      here = rest.here;
      passed = λ y hy b. ⊎_elim (λ (k : y ≡ q). rw k f) (rest.passed y hy) (before_from_next n hy rest.below b);
    }))

-- The walk of a hash stops if there is a place at which it must stop.
pub walk_stops : (ix : List ℕ) (test : ℕ → Bool) (h e : ℕ) → e < length ix → stops test (at ix e) ≡ true → StopsAt ix test (h % length ix) (walk ix test h)
unfolding walk
walk_stops ix test h e he s =
    let home : h % length ix < length ix = mod-lt h (omega arith) in
    walk_from_stops ix test (h % length ix) (length ix) e home he s (reach_all _ _ home he)

-- A walk stops at an empty place and at a word that passes. Where it stops at a place in use, the word passes, and where it goes on, the place is in use.
pub empty_stops : (test : ℕ → Bool) (w : ℕ) → w ≡ 0 → stops test w ≡ true
empty_stops test w e = rw e

pub passing_stops : (test : ℕ → Bool) (w : ℕ) → test w ≡ true → stops test w ≡ true
passing_stops test w e = by_test (eqb w 0) (λ f. rw f) (λ f. rw (f, e))

pub stops_passing : (test : ℕ → Bool) (w : ℕ) → stops test w ≡ true → 0 < w → test w ≡ true
stops_passing test w e h = rw (ne_eqb w 0 (omega arith)) at e

pub passed_used : (test : ℕ → Bool) (w : ℕ) → stops test w ≡ false → 0 < w
passed_used test w e = by_eq w 0 (λ f. absurd (not_both_ways (empty_stops test w f) e)) (λ n. omega arith)

-- The walk of an item that is added looks for nothing but an empty place.
abbrev pub is_empty : ℕ → Bool
is_empty w = eqb w 0

pub stops_empty : (w : ℕ) → stops is_empty w ≡ true → w ≡ 0
stops_empty w e = by_eq w 0 (λ f. f) (λ n. absurd (not_both_ways e (rw (ne_eqb w 0 n))))

-- A word that passes stands at a place in use, and no empty place comes before it: the walk stops at a place in use.
pub stops_used : {ix : List ℕ} {test : ℕ → Bool} {a z : ℕ} → StopsAt ix test a z → (x : ℕ) → x < length ix → 0 < at ix x → test (at ix x) ≡ true
    → ((y : ℕ) → y < length ix → Before a x y → 0 < at ix y) → 0 < at ix z
stops_used {ix} {test} {a} {z} s x hx used passes unbroken =
    ⊎_elim (λ b. unbroken z s.below b)
    (⊎_elim (λ (e : z ≡ x). rw e used)
    (λ b. absurd (not_both_ways (passing_stops test (at ix x) passes) (s.passed x hx b))))
    (which_first a x z)
