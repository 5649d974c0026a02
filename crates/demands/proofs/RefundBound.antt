-- The window with refunds as a bound on what happened to one key, by the line. All its arithmetic is here, for amount A, period P and burst C. No store
-- appears. From one grant to a later one the line rises by the parts granted, and falls by no more than the parts refunded in between. Just before the first
-- of them it is at least the moment of that call times A. Just after the last it is at most the moment from which that grant is usable times A, and a full
-- bucket.
use Prim.Native.Nat.{ℕ, ◌+◌, ◌*◌, ◌-◌, ◌≤◌, ◌<◌}
use mathlib.Core.Path.{◌≡◌, refl, ap}
use mathlib.Core.List.{List, [], ◌∷◌}
use native.Mathlib.Nat.{mul-le-mul_right}
use native.Mathlib.Omega.{arith}
use borrow.Author.Tests.{le-leb, lt-leb}
use Rattle.arith.proofs.Cases.{by_le}
use Rattle.demands.specs.Refunds.{in_span, if_between}
use Rattle.demands.proofs.LineBound.{Soonest, LineBound}

-- What happened to the key, the latest first: a grant, by the moment of its call, the moment from which its tokens are usable, and the tokens; or a refund.
pub data Event : Type 0 where
  gave : (asked ready tokens : ℕ) → Event
  back : (tokens : ℕ) → Event

-- The tokens of the grants that lie from t to u.
unfoldable pub within : ℕ → ℕ → List Event → ℕ
within t u [] = 0
within t u (gave asked ready tokens ∷ es) = in_span t u asked ready tokens + within t u es
within t u (back tokens ∷ es) = within t u es

-- The tokens refunded between such grants, given the tokens of such grants that come after.
unfoldable pub between : ℕ → ℕ → ℕ → List Event → ℕ
between t u after [] = 0
between t u after (gave asked ready tokens ∷ es) = between t u (in_span t u asked ready tokens + after) es
between t u after (back tokens ∷ es) = if_between (within t u es) after tokens + between t u after es

-- Tokens refunded count between two counts, and nowhere else.
counts_between : (before after tokens : ℕ) → 1 ≤ before → 1 ≤ after → if_between before after tokens ≡ tokens
unfolding if_between
counts_between before after tokens some more = rw (le-leb _ _ some, le-leb _ _ more)

none_before : (before after tokens : ℕ) → before < 1 → if_between before after tokens ≡ 0
unfolding if_between
none_before before after tokens none = rw (lt-leb _ _ none)

none_after : (before tokens : ℕ) → if_between before 0 tokens ≡ 0
unfolding if_between
none_after before tokens = by_le 1 before (λ some. rw (le-leb _ _ some)) (λ none. rw (lt-leb _ _ none))

pub nothing_between : (before after : ℕ) → if_between before after 0 ≡ 0
unfolding if_between
nothing_between before after =
    by_le 1 before
    (λ some. by_le 1 after (λ more. rw (le-leb _ _ some, le-leb _ _ more)) (λ none. rw (le-leb _ _ some, lt-leb _ _ none)))
    (λ none. rw (lt-leb _ _ none))

-- It does not matter how many tokens are counted after, if there are any.
module _ (x y : ℕ) (some : 1 ≤ x) (more : 1 ≤ y) where
  same_after : (before tokens : ℕ) → if_between before x tokens ≡ if_between before y tokens
  same_after before tokens =
      by_le 1 before
      (λ counted. rw (counts_between before x tokens counted some, counts_between before y tokens counted more))
      (λ none. rw (none_before before x tokens none, none_before before y tokens none))

between_any : (t u x y : ℕ) → 1 ≤ x → 1 ≤ y → (es : List Event) → between t u x es ≡ between t u y es
unfolding between
between_any t u x y some more [] = refl
between_any t u x y some more (gave asked ready tokens ∷ es) =
    between_any t u (in_span t u asked ready tokens + x) (in_span t u asked ready tokens + y) (omega arith) (omega arith) es
between_any t u x y some more (back tokens ∷ es) =
    rw (same_after x y some more (within t u es) tokens, between_any t u x y some more es)

-- A grant counts all its tokens, at least one, where it lies from t to u. Else it counts none.
module _ (t u asked ready tokens : ℕ) where
  inside : t ≤ asked → ready ≤ u → in_span t u asked ready tokens ≡ tokens
  unfolding in_span
  inside from to = rw (le-leb _ _ from, le-leb _ _ to)

  too_early : asked < t → in_span t u asked ready tokens ≡ 0
  unfolding in_span
  too_early early = rw (lt-leb _ _ early)

  too_late : t ≤ asked → u < ready → in_span t u asked ready tokens ≡ 0
  unfolding in_span
  too_late from late = rw (le-leb _ _ from, lt-leb _ _ late)

  by_span : {Q : Type 0} → (t ≤ asked → ready ≤ u → 1 ≤ tokens → in_span t u asked ready tokens ≡ tokens → Q) → (in_span t u asked ready tokens ≡ 0 → Q) → Q
  by_span counted not =
      by_le t asked
      (λ from. by_le ready u
      (λ to. by_le 1 tokens (λ some. counted from to some (inside from to)) (λ none. not (omega (arith, inside from to))))
      (λ late. not (too_late from late)))
      (λ early. not (too_early early))

-- The bound. The parts of the grants from t to u, if there are any, are at most those that lie between t and the line, and those refunded since the first of
-- these grants. And they are at most the burst, what comes back from t to u, and the parts refunded between the first and the last of them. Both are stated
-- without a difference, so that they can be added up; `span_from_bound` takes the difference.
pub record Bounded (A P C line : ℕ) (es : List Event) : Type 0 where
  pub cover : (t u : ℕ) → 1 ≤ within t u es → within t u es * P + t * A ≤ line + between t u 1 es * P
  pub window : (t u : ℕ) → t ≤ u → within t u es * P + t * A ≤ C * P + u * A + between t u 0 es * P

pub span_from_bound : (A P C W R t u : ℕ) → t ≤ u → W * P + t * A ≤ C * P + u * A + R * P → W * P ≤ C * P + (u - t) * A + R * P
span_from_bound A P C W R t u le bound =
    let span : u * A ≡ (t + (u - t)) * A = ap (λ (n : ℕ). n * A) (omega arith) in
    omega arith

module _ (A P C : ℕ) where
  pub bounded_none : (line : ℕ) → Bounded A P C line []
  unfolding within between
  bounded_none line = record { cover = λ t u some. absurd (omega arith); window = λ t u le. omega (arith, mul-le-mul_right A le) }

  -- A higher line bounds the same events.
  pub bounded_up : {line more : ℕ} {es : List Event} → line ≤ more → Bounded A P C line es → Bounded A P C more es
  bounded_up le b = record { cover = λ t u some. omega (arith, b.cover t u some); window = b.window }

  -- A grant that counts nothing from t to u.
  module _ {line : ℕ} (asked ready tokens : ℕ) {es : List Event} (b : Bounded A P C line es) (t u : ℕ) (not : in_span t u asked ready tokens ≡ 0) where
    passed_cover : {more : ℕ} → line ≤ more → 1 ≤ within t u (gave asked ready tokens ∷ es)
        → within t u (gave asked ready tokens ∷ es) * P + t * A ≤ more + between t u 1 (gave asked ready tokens ∷ es) * P
    unfolding within between
    passed_cover le some = rw not (omega (arith, b.cover t u (omega arith)))

    passed_window : t ≤ u
        → within t u (gave asked ready tokens ∷ es) * P + t * A ≤ C * P + u * A + between t u 0 (gave asked ready tokens ∷ es) * P
    unfolding within between
    passed_window later = rw not (omega (arith, b.window t u later))

  -- A grant of no tokens.
  pub bounded_nil : {line : ℕ} {es : List Event} (asked ready : ℕ) → Bounded A P C line es → Bounded A P C line (gave asked ready 0 ∷ es)
  bounded_nil asked ready b =
      let none : (t u : ℕ) → in_span t u asked ready 0 ≡ 0 = λ t u. by_span t u asked ready 0 (λ from to some e. e) (λ e. e) in
      record {
        cover = λ t u some. passed_cover asked ready 0 b t u (none t u) (omega arith) some;
        window = λ t u le. passed_window asked ready 0 b t u (none t u) le;
      }

  -- A grant at n of c tokens to a bucket that lacks s, usable after a wait: then no more is lacking than a full bucket has.
  module _ (n s c wait : ℕ) {es : List Event} (within_burst : c ≤ C) (first : Soonest A (s + c * P - C * P) wait) (b : Bounded A P C (n * A + s) es) where
    -- It and all that is counted before it, where it is counted.
    module _ (t u : ℕ) (from : t ≤ n) (to : n + wait ≤ u) (some : 1 ≤ c) (counted : in_span t u n (n + wait) c ≡ c) where
      counted_cover : within t u (gave n (n + wait) c ∷ es) * P + t * A ≤ n * A + (s + c * P) + between t u 1 (gave n (n + wait) c ∷ es) * P
      unfolding within between
      counted_cover =
          rw (counted, between_any t u (c + 1) 1 (omega arith) (omega arith) es)
          (by_le 1 (within t u es)
          (λ before. omega (arith, b.cover t u before))
          (λ none. omega (arith, mul-le-mul_right A from, mul-le-mul_right {m = within t u es} {n = 0} P (omega arith))))

      counted_window : within t u (gave n (n + wait) c ∷ es) * P + t * A ≤ C * P + u * A + between t u 0 (gave n (n + wait) c ∷ es) * P
      unfolding within between
      counted_window =
          rw (counted, between_any t u (c + 0) 1 (omega arith) (omega arith) es)
          (by_le 1 (within t u es)
          (λ before. omega (arith, b.cover t u before, first.enough, mul-le-mul_right A to))
          (λ none. omega (
            arith,
            mul-le-mul_right P within_burst,
            mul-le-mul_right A from,
            mul-le-mul_right A to,
            mul-le-mul_right {m = within t u es} {n = 0} P (omega arith),
          )))

    pub bounded_grant : Bounded A P C (n * A + (s + c * P)) (gave n (n + wait) c ∷ es)
    bounded_grant = record {
      cover = λ t u some.
          by_span t u n (n + wait) c
          (λ from to more counted. counted_cover t u from to more counted)
          (λ not. passed_cover n (n + wait) c b t u not (omega arith) some);
      window = λ t u le.
          by_span t u n (n + wait) c
          (λ from to more counted. counted_window t u from to more counted)
          (λ not. passed_window n (n + wait) c b t u not le);
    }

  -- A refund lowers the line by no more than its parts, and counts for every grant before it.
  pub bounded_refund : {line less : ℕ} (cost : ℕ) {es : List Event} → line ≤ less + cost * P → Bounded A P C line es → Bounded A P C less (back cost ∷ es)
  unfolding within between
  bounded_refund cost {es} lower b = record {
    cover = λ t u some. rw (counts_between (within t u es) 1 cost some (omega arith)) (omega (arith, b.cover t u some));
    window = λ t u le. rw (none_after (within t u es) cost) (omega (arith, b.window t u le));
  }

-- The window with refunds is a bound by the line.
abbrev pub refund_bound : (A P C : ℕ) → LineBound A P C
refund_bound A P C = record {
  History = List Event;
  Holds = Bounded A P C;
  start = [];
  at_start = bounded_none A P C;
  raised = bounded_up A P C;
  grant = λ n wait cost es. gave n (n + wait) cost ∷ es;
  granted = bounded_grant A P C;
  granted_none = λ n s. bounded_nil A P C n (n + 0);
  Refundable = Unit {0};
  refund = λ cost es. back cost ∷ es;
  refunded = λ cost allowed lower b. bounded_refund A P C cost lower b;
}
