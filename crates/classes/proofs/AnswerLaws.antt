-- What a chain answers to a cost, case by case as the code comes to them, and what an answer says of the bursts and the waits.
use Rattle.std.proofs.Common.{Some, None}
use Prim.Native.Nat.{ℕ, ◌-◌, ◌≤◌, ◌<◌, max}
use mathlib.Core.Path.{◌≡◌, sym}
use mathlib.Core.List.{List, [], ◌∷◌}
use native.Mathlib.Omega.{arith}
use borrow.Author.Tests.{lt-ltb, le-ltb}
use Rattle.arith.proofs.Cases.{by_le}
use Rattle.units.specs.declared.Nanos.{Nanos}
use Rattle.bucket.specs.declared.BucketCore.{BucketCore}
use Rattle.settings.proofs.RateLaws.{accepted_rate}
use Rattle.classes.specs.declared.Class.{Class}
use Rattle.classes.specs.declared.ChainAnswer.TheVariants.{Over, Wait}
use Rattle.classes.specs.Classes.{class_at}
use Rattle.classes.specs.Chains.{chain, burst_at, least_burst, own_wait, chain_wait, answer, Named, Takes}
use Rattle.classes.specs.code.Answers.{none_asked, with_own}
use Rattle.classes.proofs.ChainLaws.{chain_of_none, chain_at_the_top, chain_goes_up, chain_begins}

module _ (cs : List Class) (cost : ℕ) (at : Nanos) (bs : List BucketCore) where
  -- The two answers.
  module _ (is : List ℕ) where
    answers_over : least_burst cs is < cost → answer cs cost at bs is ≡ Over
    unfolding answer
    answers_over over = rw (lt-ltb _ _ over)

    answers_wait : cost ≤ least_burst cs is → answer cs cost at bs is ≡ Wait (record { 0 = chain_wait cs cost at bs is })
    unfolding answer
    answers_wait within = rw (le-ltb _ _ within)

    pub over_a_burst : answer cs cost at bs is ≡ Over → least_burst cs is < cost
    over_a_burst over =
        by_le cost (least_burst cs is)
        (λ within. let e = answers_wait within in let never : ◌≡◌ {A = ℕ} 0 1 = cc in absurd (omega arith))
        (λ more. more)

    pub within_the_bursts : {wait : Nanos} → answer cs cost at bs is ≡ Wait wait → cost ≤ least_burst cs is
    within_the_bursts answered =
        by_le cost (least_burst cs is)
        (λ within. within)
        (λ more. let e = answers_over more in let never : ◌≡◌ {A = ℕ} 0 1 = cc in absurd (omega arith))

    pub wait_is_the_largest : {wait : Nanos} → answer cs cost at bs is ≡ Wait wait → wait ≡ record { 0 = chain_wait cs cost at bs is }
    wait_is_the_largest answered = let e = answers_wait (within_the_bursts answered) in cc

  -- One class more, whose burst is not less than the cost.
  answer_with_own : (i : ℕ) (is : List ℕ) → cost ≤ burst_at cs i → with_own (own_wait cs cost at bs i) (answer cs cost at bs is) ≡ answer cs cost at bs (i ∷ is)
  unfolding least_burst chain_wait
  answer_with_own i is enough =
      by_le cost (least_burst cs is)
      (λ within. rw (answers_wait is within, answers_wait (i ∷ is) (omega arith)))
      (λ more. rw (answers_over is more, answers_over (i ∷ is) (omega arith)))

  -- The cases: no class is allowed any more; the cost is over the class's own burst; the class is at the top; there is one above it.
  module _ (allowed i : ℕ) where
    pub none_answers : allowed ≡ 0 → none_asked cost ≡ answer cs cost at bs (chain allowed cs i)
    unfolding least_burst chain_wait answer
    none_answers none = rw (chain_of_none allowed cs i none)

    module _ (some : allowed ≡ 0 → ⊥) where
      pub over_its_own_burst : burst_at cs i < cost → Over ≡ answer cs cost at bs (chain allowed cs i)
      over_its_own_burst over = sym (answers_over (chain allowed cs i) (omega (arith, chain_begins cs allowed i some)))

      module _ (takes : Takes cs i cost) where
        pub top_answers : (class_at cs i).parent ≡ None → Wait (record { 0 = own_wait cs cost at bs i }) ≡ answer cs cost at bs (chain allowed cs i)
        unfolding least_burst chain_wait
        top_answers top =
            let few = (accepted_rate (class_at cs i).rate takes.accepted).capacity_most in
            let own : max (own_wait cs cost at bs i) 0 ≡ own_wait cs cost at bs i = omega arith in
            rw (chain_at_the_top allowed cs i some top) (rw own at (sym (answers_wait (i ∷ []) (omega (arith, few, takes.within)))))

        pub answer_goes_up : {parent : ℕ} → (class_at cs i).parent ≡ Some parent
            → with_own (own_wait cs cost at bs i) (answer cs cost at bs (chain (allowed - 1) cs parent)) ≡ answer cs cost at bs (chain allowed cs i)
        answer_goes_up {parent} up = rw (chain_goes_up allowed cs i some up) (answer_with_own i (chain (allowed - 1) cs parent) takes.within)

-- A class of a sound table takes a cost that is not over its burst, and the class above it is in the table too.
module _ (cs : List Class) (i : ℕ) (named : Named cs i) where
  pub named_takes : (cost : ℕ) → cost ≤ burst_at cs i → Takes cs i cost
  named_takes cost within = record { accepted = named.sound.rates i named.named; named = named.named; within = within }

  pub above_is_named : {parent : ℕ} → (class_at cs i).parent ≡ Some parent → Named cs parent
  above_is_named {parent} up = record { sound = named.sound; named = named.sound.parents i parent named.named up }
