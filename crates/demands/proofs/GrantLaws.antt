-- The window as a bound on the grants to one key, by the line. All arithmetic of the window rule is here, for amount A, period P and burst C; no store
-- appears.
use Prim.Native.Nat.{ℕ, ◌+◌, ◌*◌, ◌-◌, ◌≤◌, ◌<◌}
use mathlib.Core.Path.{◌≡◌, ap}
use mathlib.Core.Bool.{cond}
use mathlib.Core.List.{List, [], ◌∷◌}
use native.Mathlib.Nat.{mul-le-mul_right}
use native.Mathlib.Omega.{arith}
use lib.Dec.{leb}
use borrow.Author.Tests.{le-leb, lt-leb}
use Rattle.arith.proofs.Cases.{by_le}
use Rattle.demands.proofs.LineBound.{Soonest, LineBound}

-- Tokens granted, and the moment from which they are usable.
pub record Grant : Type 0 where
  pub usable : ℕ
  pub tokens : ℕ

-- The tokens usable from t on, and those that become usable from t to u.
unfoldable pub since : ℕ → List Grant → ℕ
since t [] = 0
since t (g ∷ gs) = cond (leb t g.usable) g.tokens 0 + since t gs

unfoldable pub within : ℕ → ℕ → List Grant → ℕ
within t u [] = 0
within t u (g ∷ gs) = cond (leb t g.usable) (cond (leb g.usable u) g.tokens 0) 0 + within t u gs

-- The bound. The parts usable from t on, if there are any, are at most those that lie between t and the line; and those of every window are at most the
-- burst and what comes back in it. Both are stated without a difference, so that they can be added up; `window_from_bound` takes the difference.
pub record Bounded (A P C line : ℕ) (gs : List Grant) : Type 0 where
  pub cover : (t : ℕ) → 1 ≤ since t gs → since t gs * P + t * A ≤ line + A
  pub window : (t u : ℕ) → t ≤ u → within t u gs * P + t * A ≤ C * P + u * A + A

pub window_from_bound : (A P C W t u : ℕ) → t ≤ u → W * P + t * A ≤ C * P + u * A + A → W * P ≤ C * P + (u - t + 1) * A
window_from_bound A P C W t u le bound =
    let span : u * A ≡ (t + (u - t)) * A = ap (λ (n : ℕ). n * A) (omega arith) in
    omega arith

-- What one grant adds to the sums.
module _ (t : ℕ) (g : Grant) (gs : List Grant) where
  since_counts : t ≤ g.usable → since t (g ∷ gs) ≡ g.tokens + since t gs
  unfolding since
  since_counts from = rw (le-leb _ _ from)

  since_passes : g.usable < t → since t (g ∷ gs) ≡ since t gs
  unfolding since
  since_passes early = rw (lt-leb _ _ early) (omega arith)

  within_counts : (u : ℕ) → t ≤ g.usable → g.usable ≤ u → within t u (g ∷ gs) ≡ g.tokens + within t u gs
  unfolding within
  within_counts u from to = rw (le-leb _ _ from, le-leb _ _ to)

  within_passes_early : (u : ℕ) → g.usable < t → within t u (g ∷ gs) ≡ within t u gs
  unfolding within
  within_passes_early u early = rw (lt-leb _ _ early) (omega arith)

  within_passes_late : (u : ℕ) → t ≤ g.usable → u < g.usable → within t u (g ∷ gs) ≡ within t u gs
  unfolding within
  within_passes_late u from late = rw (le-leb _ _ from, lt-leb _ _ late) (omega arith)

-- A window holds no more than all from its start on.
within_at_most_since : (t u : ℕ) (gs : List Grant) → within t u gs ≤ since t gs
unfolding within since
within_at_most_since t u [] = omega arith
within_at_most_since t u (g ∷ gs) =
    let rest : within t u gs ≤ since t gs = within_at_most_since t u gs in
    by_le t g.usable
    (λ from. by_le g.usable u
    (λ to. omega (arith, since_counts t g gs from, within_counts t g gs u from to))
    (λ late. omega (arith, since_counts t g gs from, within_passes_late t g gs u from late)))
    (λ early. omega (arith, since_passes t g gs early, within_passes_early t g gs u early))

module _ (A P C : ℕ) where
  pub bounded_none : (line : ℕ) → Bounded A P C line []
  unfolding since within
  bounded_none line = record { cover = λ t some. absurd (omega arith); window = λ t u le. omega (arith, mul-le-mul_right A le) }

  -- A higher line bounds the same grants.
  pub bounded_up : {line more : ℕ} {gs : List Grant} → line ≤ more → Bounded A P C line gs → Bounded A P C more gs
  bounded_up le b = record { cover = λ t some. omega (arith, b.cover t some); window = b.window }

  -- A grant of no tokens changes no sum.
  pub bounded_nil : {line : ℕ} {gs : List Grant} (u : ℕ) → Bounded A P C line gs → Bounded A P C line (record { usable = u; tokens = 0 } ∷ gs)
  bounded_nil {line} {gs} u b = record {
    cover = λ t some. rw (no_more t) (b.cover t (rw (no_more t) at some));
    window = λ t v le. rw (none_within t v) (b.window t v le);
  }
    where
      nil : Grant
      nil = record { usable = u; tokens = 0 }

      no_more : (t : ℕ) → since t (nil ∷ gs) ≡ since t gs
      no_more t = by_le t u (λ from. omega (arith, since_counts t nil gs from)) (λ early. since_passes t nil gs early)

      none_within : (t v : ℕ) → within t v (nil ∷ gs) ≡ within t v gs
      none_within t v =
          by_le t u
          (λ from. by_le u v (λ to. omega (arith, within_counts t nil gs v from to)) (λ late. within_passes_late t nil gs v from late))
          (λ early. within_passes_early t nil gs v early)

  -- A grant at n of c tokens to a bucket that lacks s, usable at u: the first moment at which what is then lacking is no more than a full bucket has.
  module _ (n s c wait : ℕ) {gs : List Grant} (within_burst : c ≤ C) (first : Soonest A (s + c * P - C * P) wait) (b : Bounded A P C (n * A + s) gs) where
    abbrev u : ℕ
    u = n + wait

    -- The grant and all that is usable from a moment not after it.
    cover_with : (t : ℕ) → t ≤ u → (c + since t gs) * P + t * A ≤ n * A + (s + c * P) + A
    cover_with t from =
        let parts : c * P ≤ C * P = mul-le-mul_right P within_burst in
        let before : t * A ≤ u * A = mul-le-mul_right A from in
        by_le 1 (since t gs)
        (λ some. omega (arith, b.cover t some))
        (λ none. omega (arith, mul-le-mul_right {m = since t gs} {n = 0} P (omega arith)))

    pub bounded_grant : Bounded A P C (n * A + (s + c * P)) (record { usable = u; tokens = c } ∷ gs)
    bounded_grant =
        let g : Grant = record { usable = u; tokens = c } in
        record {
          cover = λ t some.
              by_le t u
              (λ from. rw (since_counts t g gs from) (cover_with t from))
              (λ early. rw (since_passes t g gs early) (omega (arith, b.cover t (rw (since_passes t g gs early) at some))));
          window = λ t v le.
              by_le t u
              (λ from. by_le u v
              (λ to. rw (within_counts t g gs v from to)
              (omega (arith, cover_with t from, mul-le-mul_right A to, mul-le-mul_right P (within_at_most_since t v gs))))
              (λ late. rw (within_passes_late t g gs v from late) (b.window t v le)))
              (λ early. rw (within_passes_early t g gs v early) (b.window t v le));
        }

-- The window is a bound by the line. It does not allow for refunds: tokens given back can be granted again within it.
abbrev pub window_bound : (A P C : ℕ) → LineBound A P C
window_bound A P C = record {
  History = List Grant;
  Holds = Bounded A P C;
  start = [];
  at_start = bounded_none A P C;
  raised = bounded_up A P C;
  grant = λ n wait cost gs. record { usable = n + wait; tokens = cost } ∷ gs;
  granted = bounded_grant A P C;
  granted_none = λ n s. bounded_nil A P C (n + 0);
  Refundable = ⊥;
  refund = λ cost gs. gs;
  refunded = λ cost no. absurd no;
}
