-- The numbers of refusals, and what `?` hands on of them.
use Rattle.std.proofs.Common.{ℕ, ◌≡◌, sym, ◌∙◌, refl, Result, Ok, Err, arith}
use Rattle.std.specs.Result.{IsErrAnd, is_err}
use mathlib.Core.Bool.{true, false, true≢false, false≢true}
use Rattle.std.proofs.lemmas.Result.{err_from_is_err_and}
use Rattle.settings.specs.declared.refusal.Refusal.{Refusal}
use Rattle.settings.specs.declared.refusal.Refusal.TheVariants.{Amount, Period, Burst, Sizes, Memory, Moment, MaxWait, AddressLength, GroupAddress, Buffer}
use Rattle.settings.specs.declared.refusal.Refusal.TheVariants.{Class, Chain, Shard, Records, Twins, UsedPast}
use Rattle.settings.specs.Refusal.{number_of, numbered, GivenUnless}
use Rattle.settings.specs.Settings.{first_refusal}
use Rattle.settings.proofs.SettingsLaws.{first_refusal_stands, no_refusal_hands_on}

-- Each refusal has a number, and 0 is none.
pub has_a_number : (r : Refusal) → number_of r ≡ 0 → ⊥
has_a_number Amount none = omega (arith, none)
has_a_number Period none = omega (arith, none)
has_a_number Burst none = omega (arith, none)
has_a_number Sizes none = omega (arith, none)
has_a_number Memory none = omega (arith, none)
has_a_number Moment none = omega (arith, none)
has_a_number MaxWait none = omega (arith, none)
has_a_number AddressLength none = omega (arith, none)
has_a_number GroupAddress none = omega (arith, none)
has_a_number Buffer none = omega (arith, none)
has_a_number Class none = omega (arith, none)
has_a_number Chain none = omega (arith, none)
has_a_number Shard none = omega (arith, none)
has_a_number Records none = omega (arith, none)
has_a_number Twins none = omega (arith, none)
has_a_number UsedPast none = omega (arith, none)

-- The exit of a `?`: the function answers the refusal that it was handed.
pub handed_on : {A : Type 0} (result : Result A Refusal) (refusal : Refusal) → IsErrAnd result (λ r. r ≡ refusal) → numbered result ≡ number_of refusal
handed_on result refusal is = let p = err_from_is_err_and result is in rw (p.1, p.2) refl

-- Of two checks in turn, the first refuses.
pub stands : (refusal : Refusal) {first : ℕ} (second : ℕ) → number_of refusal ≡ first → number_of refusal ≡ first_refusal first second
stands r second number = number ∙ sym (first_refusal_stands _ second (λ none. has_a_number r (number ∙ none)))

pub first_refuses : {A : Type 0} (result : Result A Refusal) (refusal : Refusal) {first : ℕ} (second : ℕ) → IsErrAnd result (λ r. r ≡ refusal)
    → number_of refusal ≡ first → numbered result ≡ first_refusal first second
first_refuses result r second is number = handed_on result r is ∙ stands r second number

-- The first refuses nothing, and the second decides.
pub second_decides : {n first second : ℕ} → 0 ≡ first → n ≡ second → n ≡ first_refusal first second
second_decides passed number = number ∙ sym (no_refusal_hands_on _ _ (sym passed))

-- A refusal that is handed on gives no value.
pub gives_nothing : {A : Type 0} (result : Result A Refusal) (refusal : Refusal) {number : ℕ} (value : A) → IsErrAnd result (λ r. r ≡ refusal)
    → number_of refusal ≡ number → GivenUnless number value result
gives_nothing result refusal value is number = let p = err_from_is_err_and result is in rw (p.1, p.2) number

-- What `is_err` tells of a check.
pub err_is_refused : {A : Type 0} (result : Result A Refusal) → is_err result ≡ true → numbered result ≡ 0 → ⊥
err_is_refused (Ok x) err = absurd (false≢true err)
err_is_refused (Err r) err = has_a_number r

pub ok_is_accepted : {A : Type 0} (result : Result A Refusal) → is_err result ≡ false → numbered result ≡ 0
ok_is_accepted (Ok x) ok = refl
ok_is_accepted (Err r) ok = absurd (true≢false ok)
