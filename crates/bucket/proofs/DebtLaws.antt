-- The debt's arithmetic: the missing tokens taken apart and held to 64 bits, the cases of a charge and of a restored bucket, and what a restored bucket lacks.
use Prim.Native.Nat.{ℕ, ◌+◌, ◌*◌, ◌-◌, ◌/◌, ◌%◌, ◌≤◌, ◌<◌, ◌^◌, min, max}
use mathlib.Core.Path.{◌≡◌, refl, ap, sym, ◌∙◌}
use native.Mathlib.Nat.{mod-lt, div-add-mod', div-lt_iff_lt-mul, le-div_iff_mul-le, div-le_self, le_of_lt, lt_of_le_of_lt, mul-le-mul, mul-le-mul_right}
use native.Mathlib.Nat.{mul-div_cancel, sub_self, max-eq_left, le_refl}
use native.Mathlib.Omega.{arith}
use borrow.Author.Tests.{eq-eqb, ne_eqb}
use Rattle.arith.specs.Arith.{ceil_div, saturated}
use Rattle.arith.proofs.Cases.{by_le, by_eq}
use Rattle.arith.proofs.DivisionLaws.{ceil_div_only, ceil_div_split}
use Rattle.units.specs.declared.Nanos.{Nanos}
use Rattle.bucket.specs.declared.BucketConfig.{BucketConfig}
use Rattle.bucket.specs.declared.BucketCore.{BucketCore}
use Rattle.bucket.specs.Bucket.{Accepted, parts_of, full_parts, most_shortfall, shortfall_at, available_at, fresh}
use Rattle.bucket.specs.Debt.{missing_tokens, charged, taken_out, lacking, restored}
use Rattle.bucket.proofs.BucketLaws.{most_shortfall_fits, shortfall_most, parts_within, fall_saturated}

-- The missing tokens, with quotient and rest by the period taken apart. Of their sum, held to 64 bits, the first may be held before: so the code needs no
-- wider number.
missing_split : {c : BucketConfig} (remaining : ℕ) → Accepted c →
    missing_tokens c remaining ≡ remaining / c.period.0 * c.amount + ceil_div (remaining % c.period.0 * c.amount) c.period.0
missing_split {c} remaining a =
    ap (λ (n : ℕ). ceil_div (n * c.amount) c.period.0) (sym (div-add-mod' remaining c.period.0))
    ∙ ceil_div_split (remaining / c.period.0) (remaining % c.period.0) c.amount c.period.0 a.period_least

pub missing_saturated : {c : BucketConfig} (remaining : ℕ) → Accepted c →
    saturated (saturated (remaining / c.period.0 * c.amount) + ceil_div (remaining % c.period.0 * c.amount) c.period.0)
    ≡ saturated (missing_tokens c remaining)
missing_saturated remaining a = omega (arith, missing_split remaining a)

-- The rest is below the period, at most 2^46, so its product with the amount fits.
pub rest_product_fits : {c : BucketConfig} (remaining : ℕ) → Accepted c → remaining % c.period.0 * c.amount < 2 ^ 64
rest_product_fits {c} remaining a =
    let small : remaining % c.period.0 ≤ 2 ^ 46 = omega (arith, mod-lt remaining a.period_least, a.period_most) in
    omega (arith, mul-le-mul small a.amount_most)

-- More tokens than the most shortfall has are charged as the most.
pub charge_beyond_most : {c : BucketConfig} (b : BucketCore) (tokens : ℕ) (at : Nanos) → Accepted c → most_shortfall c / c.period.0 < tokens →
    record { shortfall = most_shortfall c; stamp = record { 0 = max b.stamp.0 at.0 } } ≡ charged c b tokens at
charge_beyond_most b tokens at a h =
    ap (λ (n : ℕ). record { shortfall = n; stamp = record { 0 = max b.stamp.0 at.0 } }) (omega (arith, (div-lt_iff_lt-mul a.period_least).0 h))

-- Fewer are charged in 64 bits: neither their parts nor the sum with a shortfall wraps.
pub charge_parts_most : {c : BucketConfig} (tokens : ℕ) → Accepted c → tokens ≤ most_shortfall c / c.period.0 → parts_of c tokens ≤ most_shortfall c
charge_parts_most tokens a h = (le-div_iff_mul-le a.period_least).0 h

pub charge_fits : {c : BucketConfig} (b : BucketCore) (tokens : ℕ) (at : Nanos) → Accepted c → tokens ≤ most_shortfall c / c.period.0 →
    shortfall_at c b at + parts_of c tokens < 2 ^ 64
charge_fits {c} b tokens at a h = omega (arith, shortfall_most c b at, charge_parts_most tokens a h, most_shortfall_fits a)

-- Tokens are taken out by a charge; none changes nothing.
pub none_taken_out : (c : BucketConfig) (b : BucketCore) (tokens : ℕ) (at : Nanos) → tokens ≡ 0 → b ≡ taken_out c b tokens at
unfolding taken_out
none_taken_out c b tokens at none = rw (eq-eqb _ _ none)

pub some_taken_out : (c : BucketConfig) (b : BucketCore) (tokens : ℕ) (at : Nanos) → (tokens ≡ 0 → ⊥) → charged c b tokens at ≡ taken_out c b tokens at
unfolding taken_out
some_taken_out c b tokens at some = rw (ne_eqb _ _ some)

-- Missing tokens held to 64 bits make the same debt as all of them: a token is at least one part, so what 64 bits cannot hold is past the most.
taken_out_saturated : {c : BucketConfig} (b : BucketCore) (missing : ℕ) (at : Nanos) → Accepted c →
    taken_out c b (saturated missing - c.capacity) at ≡ taken_out c b (missing - c.capacity) at
taken_out_saturated {c} b missing at a =
    let most : most_shortfall c / c.period.0 < 2 ^ 63 = lt_of_le_of_lt (div-le_self _ _) (most_shortfall_fits a) in
    by_le missing (2 ^ 64 - 1) (λ fits. ap (λ (n : ℕ). taken_out c b (n - c.capacity) at) (omega arith))
    (λ more.
    sym (some_taken_out c b (saturated missing - c.capacity) at (λ none. omega (arith, a.capacity_most)))
    ∙ sym (charge_beyond_most b _ at a (omega (arith, a.capacity_most)))
    ∙ charge_beyond_most b _ at a (omega (arith, a.capacity_most))
    ∙ some_taken_out c b (missing - c.capacity) at (λ none. omega (arith, a.capacity_most)))

pub restore_saturated : {c : BucketConfig} (b : BucketCore) (missing : ℕ) (at : Nanos) → Accepted c
    → lacking c b (saturated missing) at ≡ lacking c b missing at
unfolding lacking
restore_saturated {c} b missing at a = rw (fall_saturated c.capacity missing (omega (arith, a.capacity_most))) (taken_out_saturated _ missing at a)

-- The cut and the charge that put a bucket into debt, as the code makes them.
pub lacking_by_taking_out : (c : BucketConfig) (b : BucketCore) (missing : ℕ) (at : Nanos) →
    taken_out c (taken_out c b (available_at c b at - (c.capacity - missing)) at) (missing - c.capacity) at ≡ lacking c b missing at
unfolding lacking
lacking_by_taking_out c b missing at = refl

-- The two cases of a restored bucket: a settled debt, and one that is not.
pub restored_settled : (c : BucketConfig) (b : BucketCore) (at settles : Nanos) → settles.0 - at.0 ≡ 0 → b ≡ restored c b at settles
unfolding restored
restored_settled c b at settles e = rw (eq-eqb _ _ e)

pub restored_unsettled : (c : BucketConfig) (b : BucketCore) (at settles : Nanos) → (settles.0 - at.0 ≡ 0 → ⊥) →
    lacking c b (missing_tokens c (settles.0 - at.0)) at ≡ restored c b at settles
unfolding restored
restored_unsettled c b at settles n = rw (ne_eqb _ _ n)

-- A fresh bucket lacks what its initial tokens leave of the capacity, and has the initial tokens.
pub fresh_shortfall : {c : BucketConfig} (at : Nanos) → Accepted c → shortfall_at c (fresh c at) at ≡ parts_of c (c.capacity - c.initial)
unfolding shortfall_at
fresh_shortfall {c} at a = rw sub_self (omega (arith, parts_within c (c.capacity - c.initial) (omega arith)))

pub fresh_available : {c : BucketConfig} (at : Nanos) → Accepted c → available_at c (fresh c at) at ≡ c.initial
unfolding available_at
fresh_available {c} at a =
    let P : ℕ = c.period.0 in
    let whole : full_parts c ≡ (c.capacity - c.initial + c.initial) * P = ap (λ (n : ℕ). n * P) (omega arith) in
    let has : full_parts c - shortfall_at c (fresh c at) at ≡ c.initial * P = omega (arith, fresh_shortfall at a) in
    ap (λ (n : ℕ). n / P) has ∙ mul-div_cancel c.initial a.period_least

-- A charge at the moment of the stamp itself: nothing has come back.
charge_at_stamp : (c : BucketConfig) (lacks tokens : ℕ) (at : Nanos) → lacks ≤ most_shortfall c →
    charged c (record { shortfall = lacks; stamp = at }) tokens at ≡ record { shortfall = min (lacks + parts_of c tokens) (most_shortfall c); stamp = at }
unfolding shortfall_at
charge_at_stamp c lacks tokens at h =
    rw (sub_self, max-eq_left (le_refl at.0)) (ap (λ (n : ℕ). record { shortfall = n; stamp = at }) (omega arith))

-- So are tokens taken out then, even none.
taken_out_at_stamp : (c : BucketConfig) (lacks tokens : ℕ) (at : Nanos) → lacks ≤ most_shortfall c →
    taken_out c (record { shortfall = lacks; stamp = at }) tokens at ≡ record { shortfall = min (lacks + parts_of c tokens) (most_shortfall c); stamp = at }
taken_out_at_stamp c lacks tokens at h =
    by_eq tokens 0
    (λ none. sym (none_taken_out c _ tokens at none) ∙ ap (λ (n : ℕ). record { shortfall = n; stamp = at }) (omega (arith, ap (parts_of c) none)))
    (λ some. sym (some_taken_out c _ tokens at some) ∙ charge_at_stamp c lacks tokens at h)

-- The cut and the charge on a fresh bucket, in parts: the cut leaves the larger of what it lacks and the missing tokens within the capacity, the second charge
-- adds those beyond it.
two_charges_lack_the_larger : {c : BucketConfig} (missing : ℕ) → Accepted c →
    min
    (min (parts_of c (c.capacity - c.initial) + parts_of c (c.initial - (c.capacity - missing))) (most_shortfall c) + parts_of c (missing - c.capacity))
    (most_shortfall c)
    ≡ max (parts_of c (c.capacity - c.initial)) (min (parts_of c missing) (most_shortfall c))
two_charges_lack_the_larger {c} missing a =
    let P : ℕ = c.period.0 in
    let fresh_lacks : ℕ = c.capacity - c.initial in
    let cut : ℕ = c.initial - (c.capacity - missing) in
    let beyond : ℕ = missing - c.capacity in
    let within : fresh_lacks * P ≤ most_shortfall c = omega (arith, parts_within c fresh_lacks (omega arith)) in
    by_le fresh_lacks missing
    (λ more.
    let all : (fresh_lacks + cut + beyond) * P ≡ missing * P = ap (λ (n : ℕ). n * P) (omega arith) in
    omega (arith, mul-le-mul_right P more))
    (λ fewer.
    let all : (fresh_lacks + cut + beyond) * P ≡ fresh_lacks * P = ap (λ (n : ℕ). n * P) (omega arith) in
    omega (arith, mul-le-mul_right P (le_of_lt fewer)))

-- The same for the buckets themselves.
lacking_fresh : {c : BucketConfig} (missing : ℕ) (at : Nanos) → Accepted c →
    lacking c (fresh c at) missing at ≡ record {
      shortfall = max (parts_of c (c.capacity - c.initial)) (min (parts_of c missing) (most_shortfall c));
      stamp = at;
    }
unfolding lacking
lacking_fresh {c} missing at a =
    let kept : ℕ = c.capacity - missing in
    let fresh_lacks : ℕ = parts_of c (c.capacity - c.initial) in
    ap (λ (n : ℕ). taken_out c (taken_out c (fresh c at) (n - kept) at) (missing - c.capacity) at) (fresh_available at a)
    ∙ ap (λ (b : BucketCore). taken_out c b (missing - c.capacity) at)
    (taken_out_at_stamp c fresh_lacks (c.initial - kept) at (omega (arith, parts_within c (c.capacity - c.initial) (omega arith))))
    ∙ taken_out_at_stamp c (min (fresh_lacks + parts_of c (c.initial - kept)) (most_shortfall c)) (missing - c.capacity) at (omega arith)
    ∙ ap (λ (n : ℕ). record { shortfall = n; stamp = at }) (two_charges_lack_the_larger missing a)

-- In no time nothing comes back.
nothing_missing : {c : BucketConfig} (remaining : ℕ) → Accepted c → remaining ≡ 0 → missing_tokens c remaining ≡ 0
nothing_missing {c} remaining a e =
    let none : remaining * c.amount ≡ 0 * c.amount = ap (λ (n : ℕ). n * c.amount) e in
    ceil_div_only (remaining * c.amount) c.period.0 0 a.period_least (omega arith) (omega arith)

-- A restored bucket lacks the larger of what a fresh one lacks and the missing tokens, and at most the most. A settled debt is no exception.
pub restored_fresh : {c : BucketConfig} (at settles : Nanos) → Accepted c →
    restored c (fresh c at) at settles ≡ record {
      shortfall = max (parts_of c (c.capacity - c.initial)) (min (parts_of c (missing_tokens c (settles.0 - at.0))) (most_shortfall c));
      stamp = at;
    }
restored_fresh {c} at settles a =
    by_eq (settles.0 - at.0) 0
    (λ settled. sym (restored_settled c (fresh c at) at settles settled)
    ∙ ap (λ (n : ℕ). record { shortfall = n; stamp = at }) (omega (arith, ap (parts_of c) (nothing_missing (settles.0 - at.0) a settled))))
    (λ owing. sym (restored_unsettled c (fresh c at) at settles owing) ∙ lacking_fresh _ at a)
