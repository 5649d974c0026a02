-- Places on a circle. `Before a x y` says that the way from a to x goes past y, or that y lies on the arc from a to x. It is one of three cases, and a law goes
-- through all cases that its premises leave.
use Rattle.std.proofs.Common.{◌≡◌, ℕ, suc, ◌+◌, ◌-◌, ◌<◌, ◌≤◌, ltb, ◌⊎◌, inl, inr, arith, ltb-false, ltb-true}
use Rattle.arith.proofs.Cases.{by_test, by_le, by_eq}
use Rattle.index.specs.Walk.{onward}
use Rattle.index.specs.Exact.{Before, mid, low, high}

-- Place p follows place q: it is one on, or it is the first and q the last.
pub data Follows (size q p : ℕ) : Type 0 where
  on : q + 1 < size → p ≡ q + 1 → Follows size q p
  back : q + 1 ≡ size → p ≡ 0 → Follows size q p

-- The place one step on follows, and it is a place of the index.
pub onward_follows : (size q : ℕ) → q < size → Follows size q (onward size q)
unfolding onward
onward_follows size q h = by_test (ltb (q + 1) size)
    (λ e. on (ltb-true _ _ e) (rw (e, onward)))
    (λ e. back (let l = ltb-false (q + 1) size e in omega arith) (rw (e, onward)))

pub follows_below : {size q p : ℕ} → q < size → Follows size q p → p < size
follows_below h (on a b) = omega arith
follows_below h (back a b) = omega arith

-- No place comes before itself.
pub not_before_itself : {a b : ℕ} → Before a b b → ⊥
not_before_itself (mid c d) = omega arith
not_before_itself (low c d) = omega arith
not_before_itself (high c d) = omega arith

-- Of two places one comes first on the way from a, or they are the same.
pub which_first : (a x z : ℕ) → Before a x z ⊎ (z ≡ x) ⊎ Before a z x
which_first a x z =
    by_le x z
    (λ l. by_eq z x (λ e. inr (inl e)) (λ n. by_le a x
    (λ k. inr (inr (mid k (omega arith))))
    (λ k. by_le a z (λ j. inl (high k j)) (λ j. inr (inr (low (omega arith) j))))))
    (λ l. by_le a z
    (λ k. inl (mid k l))
    (λ k. by_le a x (λ j. inr (inr (high k j))) (λ j. inl (low l j))))

-- What comes before z on the way from q is q itself, or it comes before z on the way from the place that follows q.
pub before_from_next : {size q p z y : ℕ} → Follows size q p → y < size → z < size → Before q z y → (y ≡ q) ⊎ Before p z y
before_from_next {q = q} {y = y} (on a b) hy hz (mid c d) = by_eq y q inl (λ n. inr (mid (omega arith) d))
before_from_next (on a b) hy hz (low c d) = inr (low c (omega arith))
before_from_next {q = q} {y = y} (on a b) hy hz (high c d) = by_eq y q inl (λ n. inr (high (omega arith) (omega arith)))
before_from_next (back a b) hy hz (mid c d) = absurd (omega arith)
before_from_next (back a b) hy hz (low c d) = inr (mid (omega arith) c)
before_from_next (back a b) hy hz (high c d) = inl (omega arith)

-- Place y lies on the arc from p to q, and x on the arc from q to p. A way to x that goes past y goes past q.
pub passes_arc_end : {a p q x y : ℕ} → Before a x y → Before p q y → Before q p x → (x ≡ q → ⊥) → Before a x q
passes_arc_end (mid a b) (mid c d) (mid e f) n = absurd (omega arith)
passes_arc_end (mid a b) (mid c d) (low e f) n = absurd (omega arith)
passes_arc_end (mid a b) (mid c d) (high e f) n = mid (omega arith) (omega arith)
passes_arc_end (mid a b) (low c d) (mid e f) n = mid (omega arith) (omega arith)
passes_arc_end (mid a b) (low c d) (low e f) n = absurd (omega arith)
passes_arc_end (mid a b) (low c d) (high e f) n = absurd (omega arith)
passes_arc_end (mid a b) (high c d) (mid e f) n = absurd (omega arith)
passes_arc_end (mid a b) (high c d) (low e f) n = absurd (omega arith)
passes_arc_end (mid a b) (high c d) (high e f) n = absurd (omega arith)
passes_arc_end (low a b) (mid c d) (mid e f) n = absurd (omega arith)
passes_arc_end (low a b) (mid c d) (low e f) n = absurd (omega arith)
passes_arc_end (low a b) (mid c d) (high e f) n = low (omega arith) b
passes_arc_end (low a b) (low c d) (mid e f) n = low (omega arith) b
passes_arc_end (low a b) (low c d) (low e f) n = absurd (omega arith)
passes_arc_end (low a b) (low c d) (high e f) n = absurd (omega arith)
passes_arc_end (low a b) (high c d) (mid e f) n = absurd (omega arith)
passes_arc_end (low a b) (high c d) (low e f) n = absurd (omega arith)
passes_arc_end (low a b) (high c d) (high e f) n = absurd (omega arith)
passes_arc_end (high a b) (mid c d) (mid e f) n = absurd (omega arith)
passes_arc_end (high a b) (mid c d) (low e f) n = high a (omega arith)
passes_arc_end (high a b) (mid c d) (high e f) n = absurd (omega arith)
passes_arc_end (high a b) (low c d) (mid e f) n = absurd (omega arith)
passes_arc_end (high a b) (low c d) (low e f) n = absurd (omega arith)
passes_arc_end (high a b) (low c d) (high e f) n = absurd (omega arith)
passes_arc_end {a} {q = q} (high c d) (high f g) (mid h i) n = low (omega arith) c
passes_arc_end (high a b) (high c d) (low e f) n = absurd (omega arith)
passes_arc_end (high a b) (high c d) (high e f) n = absurd (omega arith)

-- If the arc from q to p has a place, every place lies on it or on the arc from p to q. No place lies on both.
pub in_one_arc : {p q e : ℕ} → Before q p e → (x : ℕ) → Before p q x ⊎ Before q p x
in_one_arc {p} {q} b x = by_le p q
    (λ l. by_le p x (λ k. by_le q x (λ j. by_eq p q (λ s. absurd (same s b)) (λ n. inr (high (omega arith) j))) (λ j. inl (mid k j)))
    (λ k. by_eq p q (λ s. absurd (same s b)) (λ n. inr (low k (omega arith)))))
    (λ l. by_le q x (λ k. by_le p x (λ j. inl (high l j)) (λ j. inr (mid k j))) (λ k. inl (low k l)))
  where
    same : {p q e : ℕ} → p ≡ q → Before q p e → ⊥
    same s (mid c d) = omega arith
    same s (low c d) = omega arith
    same s (high c d) = omega arith

pub not_in_both_arcs : {p q x : ℕ} → Before p q x → Before q p x → ⊥
not_in_both_arcs (mid a b) (mid c d) = omega arith
not_in_both_arcs (mid a b) (low c d) = omega arith
not_in_both_arcs (mid a b) (high c d) = omega arith
not_in_both_arcs (low a b) (mid c d) = omega arith
not_in_both_arcs (low a b) (low c d) = omega arith
not_in_both_arcs (low a b) (high c d) = omega arith
not_in_both_arcs (high a b) (mid c d) = omega arith
not_in_both_arcs (high a b) (low c d) = omega arith
not_in_both_arcs (high a b) (high c d) = omega arith

-- Place r follows q, and the arc from r to p has a place. Then q lies on the arc from p to r, and so does what lies on the arc from p to q.
pub arc_gains_its_end : {size p q r e : ℕ} → Follows size q r → p < size → Before r p e → Before p r q
arc_gains_its_end {p = p} {q = q} (on a b) h (mid c d) = by_le p q (λ k. absurd (omega arith)) (λ k. low (omega arith) (omega arith))
arc_gains_its_end {p = p} {q = q} (on a b) h (low c d) = mid (omega arith) (omega arith)
arc_gains_its_end {p = p} {q = q} (on a b) h (high c d) = mid (omega arith) (omega arith)
arc_gains_its_end (back a b) h (mid c d) = high (omega arith) (omega arith)
arc_gains_its_end (back a b) h (low c d) = absurd (omega arith)
arc_gains_its_end (back a b) h (high c d) = absurd (omega arith)

pub arc_grows : {size p q r e y : ℕ} → Follows size q r → Before r p e → p < size → y < size → Before p q y → Before p r y
arc_grows (on a b) (mid c d) h k (mid f g) = absurd (omega arith)
arc_grows (on a b) (low c d) h k (mid f g) = mid f (omega arith)
arc_grows (on a b) (high c d) h k (mid f g) = mid f (omega arith)
arc_grows (on a b) (mid c d) h k (low f g) = low (omega arith) (omega arith)
arc_grows (on a b) (low c d) h k (low f g) = absurd (omega arith)
arc_grows (on a b) (high c d) h k (low f g) = absurd (omega arith)
arc_grows (on a b) (mid c d) h k (high f g) = high (omega arith) g
arc_grows (on a b) (low c d) h k (high f g) = absurd (omega arith)
arc_grows (on a b) (high c d) h k (high f g) = absurd (omega arith)
arc_grows (back a b) (mid c d) h k (mid f g) = high (omega arith) f
arc_grows (back a b) (low c d) h k (mid f g) = absurd (omega arith)
arc_grows (back a b) (high c d) h k (mid f g) = absurd (omega arith)
arc_grows (back a b) c h k (low f g) = absurd (omega arith)
arc_grows (back a b) c h k (high f g) = absurd (omega arith)

-- Place x lies on the arc from p to q. A way to x that goes past q goes past every place of the arc from q to p.
pub passes_other_arc : {a p q x e : ℕ} → Before a x q → Before p q x → Before q p e → Before a x e
passes_other_arc (mid a b) (mid c d) e = absurd (omega arith)
passes_other_arc (mid a b) (low c d) (mid e f) = absurd (omega arith)
passes_other_arc (mid a b) (low c d) (low e f) = absurd (omega arith)
passes_other_arc (mid a b) (low c d) (high e f) = absurd (omega arith)
passes_other_arc (mid a b) (high c d) (mid e f) = mid (omega arith) (omega arith)
passes_other_arc (mid a b) (high c d) (low e f) = absurd (omega arith)
passes_other_arc (mid a b) (high c d) (high e f) = absurd (omega arith)
passes_other_arc (low a b) (mid c d) e = absurd (omega arith)
passes_other_arc (low a b) (low c d) e = absurd (omega arith)
passes_other_arc (low a b) (high c d) (mid e f) = low (omega arith) b
passes_other_arc (low a b) (high c d) (low e f) = absurd (omega arith)
passes_other_arc (low a b) (high c d) (high e f) = absurd (omega arith)
passes_other_arc (high a b) (mid c d) (mid e f) = absurd (omega arith)
passes_other_arc (high a b) (mid c d) (low e f) = low (omega arith) a
passes_other_arc (high a b) (mid c d) (high e f) = high a (omega arith)
passes_other_arc (high a b) (low c d) (mid e f) = high a (omega arith)
passes_other_arc (high a b) (low c d) (low e f) = absurd (omega arith)
passes_other_arc (high a b) (low c d) (high e f) = absurd (omega arith)
passes_other_arc (high a b) (high c d) e = absurd (omega arith)

-- Place e is reached from place q in fewer than `left` steps.
pub data Reach (size q e left : ℕ) : Type 0 where
  ahead : q ≤ e → e < q + left → Reach size q e left
  behind : e < q → e + size < q + left → Reach size q e left

-- Every place is reached in fewer steps than there are places; none in fewer than 0.
pub reach_all : {size : ℕ} (q e : ℕ) → q < size → e < size → Reach size q e size
reach_all q e a b = by_le q e (λ l. ahead l (omega arith)) (λ l. behind l (omega arith))

pub reach_all_suc : {size : ℕ} (q e : ℕ) → q < size → e < size → Reach size q e (suc (size - 1))
reach_all_suc q e a b = by_le q e (λ l. ahead l (omega arith)) (λ l. behind l (omega arith))

pub reach_none : {size q e : ℕ} → q < size → Reach size q e 0 → ⊥
reach_none h (ahead a b) = omega arith
reach_none h (behind a b) = omega arith

-- Where the walk goes on to the next place, it has one step less to go.
pub reach_next : {size q p e left : ℕ} → Follows size q p → e < size → (e ≡ q → ⊥) → Reach size q e (suc left) → Reach size p e left
reach_next (on a b) h n (ahead c d) = ahead (omega arith) (omega arith)
reach_next (on a b) h n (behind c d) = behind (omega arith) (omega arith)
reach_next (back a b) h n (ahead c d) = absurd (omega arith)
reach_next (back a b) h n (behind c d) = ahead (omega arith) (omega arith)

-- Every place but q comes before q on the way from the place that follows q.
pub all_but_one : {size q p : ℕ} (x : ℕ) → Follows size q p → x < size → (x ≡ q → ⊥) → Before p q x
all_but_one {q = q} x (on a b) h n = by_le x q (λ l. low (omega arith) (omega arith)) (λ l. high (omega arith) (omega arith))
all_but_one x (back a b) h n = mid (omega arith) (omega arith)
