-- The window of a class: over any list of tries in the order of their moments, the tokens that pass through a class from t to u, times its period, are at most
-- its burst times the period, and what comes back from t to u. It holds from any class buckets: it needs no fresh store, no rule when full and no hashes.
use Prim.Native.Nat.{ℕ, ◌+◌, ◌<◌}
use mathlib.Core.Path.{◌≡◌, refl}
use mathlib.Core.List.{List, [], ◌∷◌}
use native.Mathlib.Omega.{arith}
use native.Mathlib.Nat.{add-zero}
use lib.ListN.{length}
use Rattle.arith.proofs.Cases.{by_test}
use Rattle.bucket.specs.declared.BucketCore.{BucketCore}
use Rattle.bucket.specs.Bucket.{Accepted}
use Rattle.settings.proofs.RateLaws.{accepted_rate}
use Rattle.classes.specs.declared.Class.{Class}
use Rattle.classes.specs.Classes.{class_at}
use Rattle.classes.specs.Chains.{among, config_at}
use Rattle.classes.proofs.RefusalLaws.{accepted_table_is_sound}
use Rattle.demands.specs.Passings.{Passing, chain_of, lets_pass, buckets_after, by_the_rules, tokens_passed, tokens_through}
use Rattle.demands.specs.Refunds.{in_span}
use Rattle.demands.specs.Passings.{InOrder, ClassWindowAdding}
use Rattle.demands.proofs.LineBound.{LineBound, BoundOf}
use Rattle.demands.proofs.RefundBound.{Event, within, between, span_from_bound, refund_bound}
use Rattle.demands.proofs.RunLaws.{HoldsBySomeLine}
use Rattle.demands.proofs.ClassKept.{passing_adds, ClassStands, class_stands_at_first, class_stands_later, try_stands}

-- What happened to a class in a list of tries.
unfoldable pub passings_add : (cs : List Class) (d : ℕ) {A P C : ℕ} (B : LineBound A P C) → List BucketCore → List Passing → B.History → B.History
passings_add cs d B bs [] g = g
passings_add cs d B bs (p ∷ ps) g = passings_add cs d B (buckets_after cs bs p) ps (passing_adds cs d B bs p g)

-- Any bound by the line holds of it, by some line.
module _ (cs : List Class) (d : ℕ) (B : BoundOf (config_at cs d)) (accepted : Accepted (config_at cs d)) (inside : d < length cs) where
  tries_stand : (n : ℕ) (bs : List BucketCore) (g : B.History) (ps : List Passing) → InOrder n ps → ClassStands cs d B accepted inside n bs g
      → HoldsBySomeLine B (passings_add cs d B bs ps g)
  unfolding passings_add InOrder
  tries_stand n bs g [] order v = record { line = _; holds = v.bounds }
  tries_stand n bs g (p ∷ ps) order v =
      tries_stand p.at.0 (buckets_after cs bs p) (passing_adds cs d B bs p g) ps order.1
      (try_stands cs d B accepted inside p bs (class_stands_later cs d B accepted inside n p.at.0 bs order.0 v))

  pub class_is_bounded : (n : ℕ) (bs : List BucketCore) (ps : List Passing) → length bs ≡ length cs → InOrder n ps
      → HoldsBySomeLine B (passings_add cs d B bs ps B.start)
  class_is_bounded n bs ps number order = tries_stand n bs B.start ps order (class_stands_at_first cs d B accepted inside n bs number)

-- By the bound of the window with refunds: the tokens of its grants are those that pass, and nothing is refunded.
module _ (cs : List Class) (d A P C t u : ℕ) where
  record Adds (tokens : ℕ) (es next : List Event) : Type 0 where
    counted : within t u next ≡ tokens + within t u es
    returned : ((after : ℕ) → between t u after es ≡ 0) → (after : ℕ) → between t u after next ≡ 0

  nothing_adds : (es : List Event) → Adds 0 es es
  nothing_adds es = record { counted = omega arith; returned = λ nothing. nothing }

  passing_adds_lem : (bs : List BucketCore) (p : Passing) (es : List Event)
      → Adds (tokens_passed cs (by_the_rules cs) d t u bs p) es (passing_adds cs d (refund_bound A P C) bs p es)
  unfolding tokens_passed within between in_span
  passing_adds_lem bs p es =
      by_test (lets_pass cs bs p)
      (λ passing. by_test (among d (chain_of cs p))
      (λ on. rw (passing, on, add-zero p.at.0) (record { counted = refl; returned = λ nothing after. nothing _ }))
      (λ off. rw (passing, off) (nothing_adds es)))
      (λ denied. rw denied (nothing_adds es))

  passings_add_lem : (bs : List BucketCore) (ps : List Passing) (es : List Event)
      → Adds (tokens_through cs (by_the_rules cs) d t u bs ps) es (passings_add cs d (refund_bound A P C) bs ps es)
  unfolding passings_add tokens_through
  passings_add_lem bs [] es = nothing_adds es
  passings_add_lem bs (p ∷ ps) es =
      let one = passing_adds_lem bs p es in
      let rest = passings_add_lem (buckets_after cs bs p) ps (passing_adds cs d (refund_bound A P C) bs p es) in
      record { counted = omega (arith, one.counted, rest.counted); returned = λ nothing. rest.returned (one.returned nothing) }

-- The window of a class, with nothing added; and as request 9 asks for it, with one moment more.
pub class_window_exact : ClassWindowAdding 0 by_the_rules
unfolding within between
class_window_exact cs d bs n ps table inside number order t u span =
    let c = config_at cs d in
    let B = refund_bound c.amount c.period.0 c.capacity in
    let accepted : Accepted c = accepted_rate (class_at cs d).rate ((accepted_table_is_sound cs table).rates d inside) in
    let bound = class_is_bounded cs d B accepted inside n bs ps number order in
    let adds = passings_add_lem cs d c.amount c.period.0 c.capacity t u bs ps [] in
    let nothing : between t u 0 (passings_add cs d B bs ps []) ≡ 0 = adds.returned (λ after. refl) 0 in
    let same : within t u (passings_add cs d B bs ps []) ≡ tokens_through cs (by_the_rules cs) d t u bs ps = omega (arith, adds.counted) in
    let exact = span_from_bound c.amount c.period.0 c.capacity (tokens_through cs (by_the_rules cs) d t u bs ps) 0 t u span
    (rw (same, nothing) at (bound.holds.window t u span)) in
    omega (arith, exact)

pub class_window : ClassWindowAdding 1 by_the_rules
class_window cs d bs n ps table inside number order t u span = omega (arith, class_window_exact cs d bs n ps table inside number order t u span)
