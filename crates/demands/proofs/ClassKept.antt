-- What one try does to a bound by the line of class d, for any bound: a try that passes through the class raises the line by its parts, any other leaves it.
use Prim.Native.Nat.{ℕ, ◌+◌, ◌*◌, ◌-◌, ◌≤◌, ◌<◌}
use mathlib.Core.Path.{◌≡◌, refl, ◌∙◌}
use mathlib.Core.Bool.{Bool, true, false, cond}
use mathlib.Core.List.{List}
use native.Mathlib.Omega.{arith}
use lib.ListN.{length}
use lib.Dec.{leb}
use borrow.Author.Tests.{leb-true, eqb-true}
use Rattle.arith.proofs.Cases.{by_test}
use Rattle.bucket.specs.declared.BucketCore.{BucketCore}
use Rattle.bucket.specs.Bucket.{Accepted, shortfall_at}
use Rattle.bucket.proofs.BucketLaws.{shortfall_falls_slowly}
use Rattle.classes.specs.declared.Class.{Class}
use Rattle.classes.specs.Chains.{among, config_at, bucket_at, least_burst, chain_wait}
use Rattle.classes.proofs.WholeChain.{least_burst_is_least}
use Rattle.classes.proofs.ChargeLaws.{charge_keeps_the_number, not_charged_stays, granted_charge_raises}
use Rattle.demands.specs.Passings.{Passing, chain_of, lets_pass, charged_for, buckets_after}
use Rattle.demands.proofs.LineBound.{Soonest, LineBound, BoundOf}
use Rattle.demands.proofs.BucketKept.{HoldsAt}
use Rattle.demands.proofs.StandingLaws.{moment}

-- What is known where a try passes.
pub record Passed (cs : List Class) (bs : List BucketCore) (p : Passing) : Type 0 where
  pub some : 1 ≤ p.cost
  pub within : p.cost ≤ least_burst cs (chain_of cs p)
  pub at_once : chain_wait cs p.cost p.at bs (chain_of cs p) ≡ 0

pub passed : (cs : List Class) (bs : List BucketCore) (p : Passing) → lets_pass cs bs p ≡ true → Passed cs bs p
unfolding lets_pass
passed cs bs p passing =
    let first = both p.granted _ passing in
    let second = both (leb 1 p.cost) _ first.1 in
    let third = both (leb p.cost (least_burst cs (chain_of cs p))) _ second.1 in
    record { some = leb-true _ _ second.0; within = leb-true _ _ third.0; at_once = eqb-true _ _ third.1 }
  where
    both : (a b : Bool) → cond a b false ≡ true → (a ≡ true) × (b ≡ true)
    both true b passing = (refl, passing)
    both false true passing = (passing, refl)
    both false false passing = (passing, passing)

-- What happened to the class after a try: a grant at once of its cost, where the try passes through the class.
abbrev pub passing_adds : (cs : List Class) (d : ℕ) {A P C : ℕ} (B : LineBound A P C) → List BucketCore → Passing → B.History → B.History
passing_adds cs d B bs p g = cond (lets_pass cs bs p) (cond (among d (chain_of cs p)) (B.grant p.at.0 0 p.cost g) g) g

module _ (cs : List Class) (d : ℕ) (B : BoundOf (config_at cs d)) (accepted : Accepted (config_at cs d)) (inside : d < length cs) where
  -- The state between two tries, as far as the class is concerned: there is a bucket for each class, and the class's own bounds what happened so far.
  pub record ClassStands (n : ℕ) (bs : List BucketCore) (g : B.History) : Type 0 where
    pub number : length bs ≡ length cs
    pub bounds : HoldsAt (config_at cs d) B (moment n) (shortfall_at (config_at cs d) (bucket_at bs d) (moment n)) g

  -- Nothing happened yet, whatever the buckets are. Time passes.
  pub class_stands_at_first : (n : ℕ) (bs : List BucketCore) → length bs ≡ length cs → ClassStands n bs B.start
  class_stands_at_first n bs number = record { number = number; bounds = B.at_start _ }

  pub class_stands_later : (n m : ℕ) (bs : List BucketCore) {g : B.History} → n ≤ m → ClassStands n bs g → ClassStands m bs g
  class_stands_later n m bs later v = record {
    number = v.number;
    bounds = B.raised (shortfall_falls_slowly (config_at cs d) (bucket_at bs d) (moment n) (moment m) later) v.bounds;
  }

  -- A try that passes through the class, and one that passes beside it.
  module _ (p : Passing) (bs : List BucketCore) {g : B.History} (v : ClassStands p.at.0 bs g) (is : Passed cs bs p) where
    still_a_bucket_each : length (charged_for cs p bs) ≡ length cs
    still_a_bucket_each = charge_keeps_the_number cs p.cost p.at bs (chain_of cs p) ∙ v.number

    grant_through_stands : among d (chain_of cs p) ≡ true → ClassStands p.at.0 (charged_for cs p bs) (B.grant p.at.0 0 p.cost g)
    grant_through_stands on =
        let c = config_at cs d in
        let s : ℕ = shortfall_at c (bucket_at bs d) p.at in
        let raises = granted_charge_raises cs p.cost p.at d bs (chain_of cs p) (rw v.number inside) on accepted is.some is.at_once in
        let few : p.cost ≤ c.capacity = omega (arith, is.within, least_burst_is_least cs d (chain_of cs p) on) in
        let first : Soonest c.amount (s + p.cost * c.period.0 - c.capacity * c.period.0) 0 =
        record { enough = omega (arith, raises.room); soonest = omega (arith, accepted.amount_least) } in
        record {
          number = still_a_bucket_each;
          bounds = B.raised (omega (arith, raises.raised)) (B.granted p.at.0 s p.cost 0 few first v.bounds);
        }

    grant_beside_stands : among d (chain_of cs p) ≡ false → ClassStands p.at.0 (charged_for cs p bs) g
    grant_beside_stands off = record {
      number = still_a_bucket_each;
      bounds = rw (not_charged_stays cs p.cost p.at d bs (chain_of cs p) off) v.bounds;
    }

  -- Any try.
  pub try_stands : (p : Passing) (bs : List BucketCore) {g : B.History} → ClassStands p.at.0 bs g
      → ClassStands p.at.0 (buckets_after cs bs p) (passing_adds cs d B bs p g)
  unfolding buckets_after
  try_stands p bs v =
      by_test (lets_pass cs bs p)
      (λ passing. by_test (among d (chain_of cs p))
      (λ on. rw (passing, on) (grant_through_stands p bs v (passed cs bs p passing) on))
      (λ off. rw (passing, off) (grant_beside_stands p bs v (passed cs bs p passing) off)))
      (λ denied. rw denied v)
