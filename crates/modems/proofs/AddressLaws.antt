-- Which number a slice is refused as, what a call tells with and without such a number, and one turn and the end of the loop that makes a key.
use Rattle.std.proofs.Common.{Result, Ok, Err}
use Rattle.settings.specs.declared.refusal.Refusal.{Refusal}
use Rattle.settings.specs.declared.refusal.Refusal.TheVariants.{AddressLength, GroupAddress}
use Rattle.settings.specs.Refusal.{number_of, numbered}
use Rattle.std.specs.Result.{IsErrAnd, is_err}
use Prim.Native.Nat.{ℕ, ◌+◌, ◌*◌, ◌^◌, ◌<◌, ◌≤◌}
use mathlib.Core.Path.{◌≡◌, refl, sym, ap, ◌∙◌}
use mathlib.Core.Bool.{Bool, true, false, cond, true≢false}
use mathlib.Core.List.{List}
use lib.Dec.{eqb}
use lib.ListN.{length, drop, get_or, drop_of_length-le}
use lib.Seq.{drop-cons}
use native.Mathlib.Nat.{pow-suc, pow-le-pow_right}
use native.Mathlib.Numerals.{add-one}
use native.Mathlib.Omega.{arith}
use borrow.Author.Tests.{eq-eqb, ne_eqb, eqb-true}
use Rattle.rows.specs.Outcome.{Outcome, outcome}
use Rattle.rules.specs.declared.Reply.{Reply}
use Rattle.rules.specs.declared.Reply.TheVariants.{Refused}
use Rattle.rules.specs.Rules.{unless_refused}
use Rattle.modems.specs.Address.{address_bytes, key_from, group_bit, address_refusal, identity_of, checked, identified}

module _ (address : List ℕ) where
  -- A slice of another length is refused as 11, whatever its bytes.
  pub other_lengths_are_refused_11 : (length address ≡ address_bytes → ⊥) → 11 ≡ address_refusal address
  unfolding address_refusal
  other_lengths_are_refused_11 other = rw (ne_eqb _ _ other)

  -- Six bytes with the group bit set are refused as 12.
  pub groups_are_refused_12 : length address ≡ address_bytes → (group_bit address ≡ 0 → ⊥) → 12 ≡ address_refusal address
  unfolding address_refusal
  groups_are_refused_12 six group = rw (eq-eqb _ _ six, ne_eqb _ _ group)

  -- Other six bytes are not refused.
  pub modems_are_not_refused : length address ≡ address_bytes → group_bit address ≡ 0 → 0 ≡ address_refusal address
  unfolding address_refusal
  modems_are_not_refused six single = rw (eq-eqb _ _ six, eq-eqb _ _ single)

  -- What is not refused is six bytes.
  pub not_refused_is_six_bytes : address_refusal address ≡ 0 → length address ≡ address_bytes
  unfolding address_refusal
  not_refused_is_six_bytes none = eqb-true (length address) address_bytes (six (eqb (length address) address_bytes) _ none)
    where
      six : (b : Bool) (n : ℕ) → cond b n 11 ≡ 0 → b ≡ true
      six true n none' = refl
      six false n none' = absurd (omega (arith, none'))

-- The check with the refusal in the place of its number: what is not six bytes, the address of a group, and any other six bytes.
module _ (address : List ℕ) where
  pub other_lengths_are_no_address : (length address ≡ address_bytes → ⊥) → Err AddressLength ≡ checked address
  unfolding checked
  other_lengths_are_no_address other = rw (ne_eqb _ _ other)

  pub groups_are_no_modem : length address ≡ address_bytes → (group_bit address ≡ 0 → ⊥) → Err GroupAddress ≡ checked address
  unfolding checked
  groups_are_no_modem six group = rw (eq-eqb _ _ six, ne_eqb _ _ group)

  pub modems_are_checked : length address ≡ address_bytes → group_bit address ≡ 0 → Ok (tt {0}) ≡ checked address
  unfolding checked
  modems_are_checked six single = rw (eq-eqb _ _ six, eq-eqb _ _ single)

  pub checked_is_numbered : numbered (checked address) ≡ address_refusal address
  unfolding checked address_refusal
  checked_is_numbered = alike (eqb (length address) address_bytes) (eqb (group_bit address) 0)
    where
      alike : (six single : Bool) → numbered (cond six (cond single (Ok (tt {0})) (Err GroupAddress)) (Err AddressLength)) ≡ cond six (cond single 0 12) 11
      alike true true = refl
      alike true false = refl
      alike false single = refl

  refused_has_a_number : {refusal : Refusal} → Err refusal ≡ checked address → number_of refusal ≡ 0 → ⊥
  unfolding checked
  refused_has_a_number is = has_one (eqb (length address) address_bytes) (eqb (group_bit address) 0) is
    where
      has_one : (six single : Bool) {r : Refusal} → Err r ≡ cond six (cond single (Ok (tt {0})) (Err GroupAddress)) (Err AddressLength) → number_of r ≡ 0 → ⊥
      has_one true true is' none = absurd (true≢false (ap is_err is'))
      has_one true false is' none = omega (arith, ap numbered is', none)
      has_one false single is' none = omega (arith, ap numbered is', none)

  pub checked_accepts : {accepted : Unit {0}} → Ok accepted ≡ checked address → address_refusal address ≡ 0
  checked_accepts is = sym (ap numbered is ∙ checked_is_numbered)

-- The outcome of the check, as the code comes to it: a refusal, or none.
by_check : {Q : Type 0} (check : Result (Unit {0}) Refusal) → ((accepted : Unit {0}) → Ok accepted ≡ check → Q)
    → ((refusal : Refusal) → Err refusal ≡ check → Q) → Q
by_check (Ok accepted) passed refused = passed accepted refl
by_check (Err refusal) passed refused = refused refusal refl

-- What a slice names, by the check: its refusal, or the modem of its identity.
module _ (address : List ℕ) where
  pub checked_names_no_modem : {refusal : Refusal} → Err refusal ≡ checked address → Err refusal ≡ identified address
  unfolding identified
  checked_names_no_modem is = rw (sym is)

  pub checked_names_a_modem : {accepted : Unit {0}} → Ok accepted ≡ checked address → Ok (identity_of address) ≡ identified address
  unfolding identified
  checked_names_a_modem is = rw (sym is)

-- What a slice names, by the number that it is refused as: no modem, for the refusal of that number, or the modem of its identity.
module _ (address : List ℕ) {told : ℕ} (is : told ≡ address_refusal address) where
  pub refused_names_no_modem : (told ≡ 0 → ⊥) → IsErrAnd (identified address) (λ refusal. number_of refusal ≡ told)
  refused_names_no_modem some =
      by_check (checked address)
      (λ accepted passed. absurd (some (is ∙ checked_accepts address passed)))
      (λ refusal refused. rw (sym (checked_names_no_modem address refused)) (ap numbered refused ∙ checked_is_numbered address ∙ sym is))

  pub not_refused_names_a_modem : told ≡ 0 → Ok (identity_of address) ≡ identified address
  not_refused_names_a_modem none =
      by_check (checked address)
      (λ accepted passed. checked_names_a_modem address passed)
      (λ refusal refused. absurd (refused_has_a_number address refused (ap numbered refused ∙ checked_is_numbered address ∙ sym is ∙ none)))

-- A call by address, by the number of its address: it tells that number and changes no word, or it is the limiter's call.
module _ (address ws : List ℕ) {told : ℕ} (is : told ≡ address_refusal address) where
  pub address_number_is_told : (accepted : Outcome Reply (List ℕ)) → (told ≡ 0 → ⊥)
      → outcome (Refused told) ws ≡ unless_refused (address_refusal address) ws accepted
  unfolding unless_refused
  address_number_is_told accepted some = rw (sym is, ne_eqb _ _ some)

  pub limiters_call_is_made : {accepted : Outcome Reply (List ℕ)} {made : Outcome Reply (List ℕ)} → told ≡ 0
      → made ≡ accepted → made ≡ unless_refused (address_refusal address) ws accepted
  unfolding unless_refused
  limiters_call_is_made none gave = rw (sym is, eq-eqb _ _ none) gave

-- The same by the check, as the code comes to it.
module _ (address ws : List ℕ) where
  pub checked_number_is_told : {refusal : Refusal} → Err refusal ≡ checked address → (accepted : Outcome Reply (List ℕ))
      → outcome (Refused (number_of refusal)) ws ≡ unless_refused (address_refusal address) ws accepted
  checked_number_is_told is accepted =
      address_number_is_told address ws (ap numbered is ∙ checked_is_numbered address) accepted (refused_has_a_number address is)

  pub checked_call_is_made : {done : Unit {0}} → Ok done ≡ checked address → {accepted : Outcome Reply (List ℕ)} {made : Outcome Reply (List ℕ)}
      → made ≡ accepted → made ≡ unless_refused (address_refusal address) ws accepted
  checked_call_is_made is gave = limiters_call_is_made address ws refl (checked_accepts address is) gave

-- Making the key from place i on takes the byte there, and goes on from the next place; past the last byte it is the number reached.
pub key_takes_next_byte : (high : ℕ) (bytes : List ℕ) (i : ℕ) → i < length bytes
    → key_from high (drop i bytes) ≡ key_from (256 * high + get_or bytes i 0) (drop (i + 1) bytes)
unfolding key_from
key_takes_next_byte high bytes i l = rw (add-one, drop-cons bytes i 0)

pub key_ends_after_last_byte : (high : ℕ) (bytes : List ℕ) (i : ℕ) → length bytes ≤ i → key_from high (drop i bytes) ≡ high
unfolding key_from
key_ends_after_last_byte high bytes i l = rw (drop_of_length-le bytes)

-- So many bytes make a number below that power of 256.
pub one_byte_more_fits : (high i byte : ℕ) → high < 256 ^ i → byte < 256 → 256 * high + byte < 256 ^ (i + 1)
one_byte_more_fits high i byte fits small = rw add-one (omega (arith, pow-suc 256 i))

pub five_bytes_fit_40_bits : (high i : ℕ) → high < 256 ^ i → i < address_bytes → high < 2 ^ 40
five_bytes_fit_40_bits high i fits few =
    let most : i ≤ 5 = omega arith in
    omega (arith, pow-le-pow_right {n = 256} (omega arith) most)
