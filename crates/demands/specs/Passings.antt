-- Tries through classes (request 9 of document 02), as the class buckets see them. A list of tries is on the class buckets alone: what the modem's side says to
-- a try is any answer, so no store appears here.
--
-- The window of a class in plain English. Behind each clause stands the name that states it.
--
-- Take any accepted table, any bucket for each class, and any list of tries whose moments never fall.    ClassWindowAdding, InOrder
-- Each try finds the buckets that the try before it left.                                                tokens_through
-- Add up the tokens of the tries that pass at moments from t to u with class d on their chain.           tokens_passed
-- Times the period of d, the sum is at most burst × period + (u - t) × amount, by the rate of d.         WithinRate 0
-- Request 9 asks for one moment more: (u - t + 1) × amount.                                              WithinRate 1
--
-- Theorems, in proofs/: `class_window_exact` and `class_window` say both of the rules. `never_charged_breaks_the_class_window` and
-- `named_alone_breaks_the_class_window` refute two other ways. A third charges the chain of a denied try: it takes tokens from others, and the rules do not
-- (`charging_the_denied_takes_from_others`).
use Rattle.std.specs.Prelude.{ℕ, ◌+◌, ◌≤◌, ◌<◌, ◌≡◌, Bool, false, cond, List, [], ◌∷◌, leb, eqb, length}
use Rattle.units.specs.declared.Nanos.{Nanos}
use Rattle.bucket.specs.declared.BucketCore.{BucketCore}
use Rattle.classes.specs.declared.Class.{Class}
use Rattle.classes.specs.Classes.{class_at, longest_chain, table_refusal}
use Rattle.classes.specs.Chains.{chain, among, least_burst, chain_wait, charged}
use Rattle.demands.specs.Demands.{WithinRate}

-- A try that is not refused by number: its moment, the class that it names, its cost, and whether the modem's side granted it, with the chain's wait in hand.
pub record Passing : Type 0 where
  pub at : Nanos
  pub class : ℕ
  pub cost : ℕ
  pub granted : Bool

-- A way to deal with tries: whether buckets let a try pass, and the buckets that it leaves.
pub record Way : Type 0 where
  pub lets : List BucketCore → Passing → Bool
  pub leaves : List BucketCore → Passing → List BucketCore

module _ (cs : List Class) where
  abbrev pub chain_of : Passing → List ℕ
  chain_of p = chain longest_chain cs p.class

  -- The way of the rules. A try passes where the modem's side granted it, it has a cost, no burst on the chain is less, and every bucket on the chain grants.
  unfoldable pub lets_pass : List BucketCore → Passing → Bool
  lets_pass bs p =
      cond p.granted
      (cond (leb 1 p.cost) (cond (leb p.cost (least_burst cs (chain_of p))) (eqb (chain_wait cs p.cost p.at bs (chain_of p)) 0) false) false)
      false

  -- Then each bucket on the chain is charged; else none is.
  abbrev pub charged_for : Passing → List BucketCore → List BucketCore
  charged_for p bs = charged cs p.cost p.at bs (chain_of p)

  unfoldable pub buckets_after : List BucketCore → Passing → List BucketCore
  buckets_after bs p = cond (lets_pass bs p) (charged_for p bs) bs

  abbrev pub by_the_rules : Way
  by_the_rules = record { lets = lets_pass; leaves = buckets_after }

  -- The tokens that pass through class d from t to u: of one try, and of a list.
  module _ (way : Way) (d t u : ℕ) where
    unfoldable pub tokens_passed : List BucketCore → Passing → ℕ
    tokens_passed bs p = cond (way.lets bs p) (cond (among d (chain_of p)) (cond (leb t p.at.0) (cond (leb p.at.0 u) p.cost 0) 0) 0) 0

    unfoldable pub tokens_through : List BucketCore → List Passing → ℕ
    tokens_through bs [] = 0
    tokens_through bs (p ∷ ps) = tokens_passed bs p + tokens_through (way.leaves bs p) ps

-- Moments that never fall, from a first one on.
unfoldable pub InOrder : ℕ → List Passing → Type 0
InOrder n [] = Unit {0}
InOrder n (p ∷ ps) = (n ≤ p.at.0) × InOrder p.at.0 ps

-- The window of every class, from any buckets.
abbrev pub ClassWindowAdding : ℕ → (List Class → Way) → Type 0
ClassWindowAdding added way =
    (cs : List Class) (d : ℕ) (bs : List BucketCore) (n : ℕ) (ps : List Passing) →
    table_refusal cs ≡ 0 → d < length cs → length bs ≡ length cs → InOrder n ps →
    WithinRate added (class_at cs d).rate (λ t u. tokens_through cs (way cs) d t u bs ps)
