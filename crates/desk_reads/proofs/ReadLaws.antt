-- What a read brought, by its answer; it lies within the input.
use Rattle.std.proofs.Common.{◌≡◌, ℕ, ◌+◌, ◌-◌, ◌≤◌, Bool, true, false, true≢false, eqb, List, length, Result, Ok, Err, IfOk, sym, ap, ◌∙◌, refl, arith}
use lib.IntN.{ℤ, pos, negsuc}
use lib.Signed.{lt_z}
use mir.Syntax.{w32}
use mir.Val.{SFits, of_z}
use borrow.Author.Tests.{ltb-true, eq-eqb, ne_eqb}
use Rattle.std.specs.Counts.{IsPrefixLen}
use Rattle.std.specs.declared.io.Error.{Error}
use Rattle.arith.proofs.Cases.{by_test}
use Rattle.desk_reads.specs.declared.Got.{Got}
use Rattle.desk_reads.specs.declared.Got.TheVariants.{More, End, Failed}
use Rattle.desk_reads.specs.Reads.{is_interrupt, brought_by, number_of, answer_of, error_of, count_of, Grows}

-- An error's number as the code compares it, by its bits.
pub is_interrupt_lem : (error : ℤ) → SFits w32 error → of_z w32 error ≡ 4 → is_interrupt error ≡ true
is_interrupt_lem (pos e) fits is = eq-eqb e 4 is
is_interrupt_lem (negsuc e) fits is = absurd (omega (arith, fits.sfits, is))

pub is_no_interrupt : (error : ℤ) → (of_z w32 error ≡ 4 → ⊥) → is_interrupt error ≡ false
is_no_interrupt (pos e) other = ne_eqb e 4 other
is_no_interrupt (negsuc e) other = refl

pub brings_none_yet : (answer error : ℤ) (pending count : ℕ) → lt_z answer (pos 0) ≡ true → is_interrupt error ≡ true
    → More pending ≡ brought_by answer error pending count
unfolding brought_by
brings_none_yet (pos k) error pending count negative is = absurd (omega (arith, ltb-true k 0 negative))
brings_none_yet (negsuc k) error pending count negative is = rw is

pub has_failed : (answer error : ℤ) (pending count : ℕ) → lt_z answer (pos 0) ≡ true → is_interrupt error ≡ false
    → Failed ≡ brought_by answer error pending count
unfolding brought_by
has_failed (pos k) error pending count negative other = absurd (omega (arith, ltb-true k 0 negative))
has_failed (negsuc k) error pending count negative other = rw other

pub is_at_end : (answer error : ℤ) (pending count : ℕ) → lt_z answer (pos 0) ≡ false → count ≡ 0 → End ≡ brought_by answer error pending count
unfolding brought_by
is_at_end (pos k) error pending count counts none = rw (eq-eqb count 0 none)
is_at_end (negsuc k) error pending count counts none = absurd (true≢false counts)

pub brings_more : (answer error : ℤ) (pending count : ℕ) → lt_z answer (pos 0) ≡ false → (count ≡ 0 → ⊥)
    → More (pending + count) ≡ brought_by answer error pending count
unfolding brought_by
brings_more (pos k) error pending count counts some = rw (ne_eqb count 0 some)
brings_more (negsuc k) error pending count counts some = absurd (true≢false counts)

-- It lies within the input.
pub grows : (answer error : ℤ) (pending count size : ℕ) → pending + count ≤ size → Grows pending size (brought_by answer error pending count)
unfolding brought_by
grows (pos k) error pending count size fits =
    by_test (eqb count 0) (λ none. rw none tt) (λ some. rw some (omega arith, fits))
grows (negsuc k) error pending count size fits = by_test (is_interrupt error) (λ is. rw is (omega arith, omega (arith, fits))) (λ other. rw other tt)

-- The same of a read's result.
pub result_grows : (read : Result ℕ Error) (pending size : ℕ) → pending ≤ size → IfOk read (λ count. pending + count ≤ size)
    → Grows pending size (brought_by (answer_of read) (error_of read) pending (count_of read))
unfolding brought_by
result_grows (Ok count) pending size room fits =
    by_test (eqb count 0) (λ none. rw none tt) (λ some. rw some (omega arith, fits))
result_grows (Err error) pending size room fits =
    by_test (is_interrupt (number_of error)) (λ is. rw is (omega arith, room)) (λ other. rw other tt)

-- The bytes of a read go into what is left of the input.
pub fits_after : (read : Result ℕ Error) (pending size : ℕ) (part : List ℕ) → pending ≤ size → length part ≡ size - pending
    → IfOk read (λ count. IsPrefixLen count part) → IfOk read (λ count. pending + count ≤ size)
fits_after (Ok count) pending size part room is prefix = omega (arith, room, is, prefix)
fits_after (Err error) pending size part room is prefix = tt

-- A read that brought a count of bytes has not failed.
abbrev did_fail : Got → Bool
did_fail (More end) = false
did_fail End = false
did_fail Failed = true

counted_has_not_failed : (count pending : ℕ) → did_fail (brought_by (answer_of (Ok count)) (error_of (Ok count)) pending (count_of (Ok count))) ≡ false
unfolding brought_by
counted_has_not_failed count pending = by_test (eqb count 0) (λ none. rw none refl) (λ some. rw some refl)

pub no_count_fails : (read : Result ℕ Error) (count pending : ℕ) → read ≡ Ok count
    → brought_by (answer_of read) (error_of read) pending (count_of read) ≡ Failed → ⊥
no_count_fails read count pending is failed = true≢false (sym (ap did_fail (rw is at failed)) ∙ counted_has_not_failed count pending)
