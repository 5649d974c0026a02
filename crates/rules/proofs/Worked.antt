-- The list of debts on small ledgers. Hashes are small numbers and moments count from 0.
use Prim.Native.Nat.{ℕ}
use mathlib.Core.Path.{◌≡◌, refl}
use mathlib.Core.List.{List, [], ◌∷◌}
use Rattle.arith.specs.Arith.{ceil_div}
use Rattle.units.specs.declared.Nanos.{Nanos}
use Rattle.bucket.specs.declared.BucketConfig.{BucketConfig}
use Rattle.ledger.specs.declared.Debt.{Debt}
use Rattle.ledger.specs.Model.{Ledger, with_debts, no_debt}
use Rattle.settings.specs.Settings.{first_refusal}
use Rattle.rules.specs.Debts.{unsettled, listed, written, debt_count_refusal, records_refusal, ledger_refusal}
use Rattle.rules.specs.MorningList.{of_hash, tokens_left}

-- A moment by its nanoseconds, and a debt.
abbrev moment : ℕ → Nanos
moment n = record { 0 = n }

abbrev owing : ℕ → ℕ → Debt
owing hash settles = record { hash = hash; settles = moment settles }

-- A ledger: how many debts are held, and what stands in all its places. How they are found is that of any ledger: the list does not look at it.
abbrev holding : Ledger → ℕ → List Debt → Ledger
holding l count places = with_debts l (record { count = count; places = places; finding = l.debts.finding })

module _ (l : Ledger) where
  -- A debt that settles at the moment itself has settled: the other one alone is listed.
  settled_at_the_moment_is_not_listed : listed (moment 5) (holding l 2 (owing 1 5 ∷ owing 2 6 ∷ [])) ≡ owing 2 6 ∷ []
  unfolding listed unsettled
  settled_at_the_moment_is_not_listed = refl

  -- A nanosecond before, both are listed, in the order of their places.
  both_are_listed_before : listed (moment 4) (holding l 2 (owing 1 5 ∷ owing 2 6 ∷ [])) ≡ owing 1 5 ∷ owing 2 6 ∷ []
  unfolding listed unsettled
  both_are_listed_before = refl

  -- What stands in a place past the count is no debt, and is not listed.
  unused_places_are_not_listed : listed (moment 0) (holding l 1 (owing 1 5 ∷ owing 2 6 ∷ no_debt ∷ [])) ≡ owing 1 5 ∷ []
  unfolding listed unsettled
  unused_places_are_not_listed = refl

  -- A count of 3 where there is room for 2 debts is refused as 5, also where too few records are lent. With a count of 2 it is 17.
  debt_count_is_told_before_records : ledger_refusal 2 (moment 0) 0 (holding l 3 (owing 1 5 ∷ owing 2 6 ∷ [])) ≡ 5
  unfolding listed unsettled debt_count_refusal records_refusal first_refusal
  debt_count_is_told_before_records = refl

  too_few_records_are_told : ledger_refusal 2 (moment 5) 0 (holding l 2 (owing 1 5 ∷ owing 2 6 ∷ [])) ≡ 17
  unfolding listed unsettled debt_count_refusal records_refusal first_refusal
  too_few_records_are_told = refl

  -- Two debts of one hash would be listed twice. In a ledger that finds each debt no two have one hash: that is why `listed_is_owed` asks for such a ledger.
  a_hash_held_twice_is_listed_twice : of_hash 1 (listed (moment 0) (holding l 3 (owing 1 5 ∷ owing 2 6 ∷ owing 1 7 ∷ []))) ≡ owing 1 5 ∷ owing 1 7 ∷ []
  unfolding listed unsettled of_hash
  a_hash_held_twice_is_listed_twice = refl

-- The debts are written over the first records. The last record stays.
the_other_records_stay : written (owing 1 5 ∷ []) (owing 8 8 ∷ owing 9 9 ∷ []) ≡ owing 1 5 ∷ owing 9 9 ∷ []
unfolding written
the_other_records_stay = refl

-- A bucket of 3 tokens. One token comes back every 10 nanoseconds, and a fresh bucket has the initial tokens.
abbrev three : ℕ → BucketConfig
three initial = record { capacity = 3; amount = 1; period = moment 10; initial = initial }

-- A debt that settles 1 nanosecond after the moment costs a whole token, and so does one that settles 10 nanoseconds after it. 11 nanoseconds cost two.
a_nanosecond_costs_a_token : tokens_left (three 3) (moment 5) (owing 1 6) ≡ 2
unfolding ceil_div
a_nanosecond_costs_a_token = refl

ten_nanoseconds_cost_a_token : tokens_left (three 3) (moment 5) (owing 1 15) ≡ 2
unfolding ceil_div
ten_nanoseconds_cost_a_token = refl

eleven_nanoseconds_cost_two : tokens_left (three 3) (moment 5) (owing 1 16) ≡ 1
unfolding ceil_div
eleven_nanoseconds_cost_two = refl

-- A debt of more than a full bucket leaves no token. A small debt leaves no more tokens than a fresh bucket has.
a_long_debt_leaves_none : tokens_left (three 3) (moment 5) (owing 1 100) ≡ 0
unfolding ceil_div
a_long_debt_leaves_none = refl

no_more_than_a_fresh_bucket : tokens_left (three 1) (moment 5) (owing 1 6) ≡ 1
unfolding ceil_div
no_more_than_a_fresh_bucket = refl
