-- The two cases of a call: refused by number or not.
use Prim.Native.Nat.{ℕ}
use Rattle.std.proofs.Common.{Result, Ok, Err}
use mathlib.Core.Path.{◌≡◌, refl, sym, ◌∙◌}
use mathlib.Core.List.{List, []}
use lib.ListN.{length, replicate}
use borrow.Author.Tests.{eq-eqb, ne_eqb}
use Rattle.arith.proofs.Cases.{by_eq}
use Rattle.rows.specs.Rows.{rows}
use Rattle.rows.specs.Outcome.{Outcome, outcome}
use Rattle.settings.specs.declared.Settings.{Settings}
use Rattle.settings.specs.Settings.{first_refusal, shape_of}
use Rattle.settings.proofs.SettingsLaws.{first_refusal_stands, no_refusal_hands_on}
use Rattle.classes.specs.Classes.{count_refusal, first_from, table_refusal}
use Rattle.classes.specs.Layout.{classes_in}
use Rattle.store.specs.declared.Part.{Part}
use Rattle.settings.specs.declared.refusal.Refusal.{Refusal}
use Rattle.settings.specs.Refusal.{number_of, numbered, GivenUnless}
use Rattle.store.specs.Memory.{memory_words}
use Rattle.store.specs.Refusals.{set_up_refusal}
use Rattle.store.specs.Lending.{number_in}
use Rattle.store.proofs.LendingLaws.{refused_number, numbered_by_refusals}
use Rattle.store.proofs.RefusalLaws.{set_up_not_refused}
use Rattle.rules.specs.declared.Reply.{Reply}
use Rattle.rules.specs.declared.Reply.TheVariants.{Done, Refused}
use Rattle.rules.specs.Asks.{with_table}
use Rattle.rules.specs.Rules.{unless_refused, set_up_in, set_up}

-- A call that is not refused gives what the rules give; one that is refused answers its number and changes nothing.
module _ (refusal : ℕ) {A : Type 0} (ws : A) (accepted : Outcome Reply A) where
  pub unless_refused_accepts : refusal ≡ 0 → unless_refused refusal ws accepted ≡ accepted
  unfolding unless_refused
  unless_refused_accepts none = rw (eq-eqb _ _ none)

  pub unless_refused_refuses : (refusal ≡ 0 → ⊥) → unless_refused refusal ws accepted ≡ outcome (Refused refusal) ws
  unfolding unless_refused
  unless_refused_refuses some = rw (ne_eqb _ _ some)

  -- As the code comes to it: by a number that it has found, or by what the call was lent.
  pub number_is_told : {told : ℕ} → told ≡ refusal → (told ≡ 0 → ⊥) → outcome (Refused told) ws ≡ unless_refused refusal ws accepted
  number_is_told is some = rw is (sym (unless_refused_refuses (λ none. some (is ∙ none))))

  pub unlent_is_refused : {lending : Result Part Refusal} (part' : Part) → GivenUnless refusal part' lending → {r : Refusal} → lending ≡ Err r
      → outcome (Refused (number_of r)) ws ≡ unless_refused refusal ws accepted
  unlent_is_refused part' is gave = let number = refused_number refusal part' is gave in number_is_told number.0 number.1

-- Of two numbers, as the code comes to them: the first that is not 0 is told, and where both are 0 the call is accepted.
module _ (first second : ℕ) {A : Type 0} (ws : A) (accepted : Outcome Reply A) where
  pub first_number_is_told : (first ≡ 0 → ⊥) → outcome (Refused first) ws ≡ unless_refused (first_refusal first second) ws accepted
  first_number_is_told some = rw (first_refusal_stands first second some) (sym (unless_refused_refuses first ws accepted some))

  pub second_number_is_told : {told : ℕ} → first ≡ 0 → told ≡ second → (told ≡ 0 → ⊥)
      → outcome (Refused told) ws ≡ unless_refused (first_refusal first second) ws accepted
  second_number_is_told none is some = rw (no_refusal_hands_on first second none) (number_is_told second ws accepted is some)

  pub neither_refuses_is_told : first ≡ 0 → second ≡ 0 → accepted ≡ unless_refused (first_refusal first second) ws accepted
  neither_refuses_is_told none no_other =
      sym (unless_refused_accepts (first_refusal first second) ws accepted (no_refusal_hands_on first second none ∙ no_other))

-- A refusal within a refusal is the first of the two.
pub first_of_two_refuses : (first second : ℕ) {A : Type 0} (ws : A) (accepted : Outcome Reply A)
    → unless_refused first ws (unless_refused second ws accepted) ≡ unless_refused (first_refusal first second) ws accepted
first_of_two_refuses first second ws accepted =
    by_eq first 0
    (λ none. rw (no_refusal_hands_on first second none) (unless_refused_accepts first ws (unless_refused second ws accepted) none))
    (λ some.
    rw (first_refusal_stands first second some)
    (unless_refused_refuses first ws (unless_refused second ws accepted) some ∙ sym (unless_refused_refuses first ws accepted some)))

-- Set-up and clear with a class table, as the code comes to them, for settings with the table's number of classes.
module _ (s : Settings) (table ws : List ℕ) where
  abbrev zeroed : Outcome Reply (List ℕ)
  zeroed = outcome Done (replicate (memory_words s) 0)

  pub settings_refusal_is_told : {told : ℕ} → told ≡ set_up_refusal s ws → (told ≡ 0 → ⊥) → outcome (Refused told) ws ≡ set_up_in (shape_of s) s table ws
  unfolding set_up_in
  settings_refusal_is_told is some =
      rw is (first_number_is_told (set_up_refusal s ws) (table_refusal (classes_in table)) ws zeroed (λ none. some (is ∙ none)))

  pub table_refusal_is_told : set_up_refusal s ws ≡ 0 → {told : ℕ} → told ≡ table_refusal (classes_in table) → (told ≡ 0 → ⊥)
      → outcome (Refused told) ws ≡ set_up_in (shape_of s) s table ws
  unfolding set_up_in
  table_refusal_is_told none is some = second_number_is_told (set_up_refusal s ws) (table_refusal (classes_in table)) ws zeroed none is some

  pub table_set_up_zeroes : set_up_refusal s ws ≡ 0 → table_refusal (classes_in table) ≡ 0
      → outcome Done (replicate (length ws) 0) ≡ set_up_in (shape_of s) s table ws
  unfolding set_up_in
  table_set_up_zeroes none sound =
      rw (set_up_not_refused s ws none).size
      (neither_refuses_is_told (set_up_refusal s ws) (table_refusal (classes_in table)) ws zeroed none sound)

-- The empty table is accepted.
pub empty_table_is_accepted : table_refusal (classes_in []) ≡ 0
unfolding rows classes_in count_refusal first_from first_refusal
empty_table_is_accepted = refl

-- So it is with set_up_lem and clear without a table.
module _ (s : Settings) (ws : List ℕ) {told : ℕ} (is : told ≡ set_up_refusal (with_table [] s) ws) where
  pub set_up_refusal_is_told : (told ≡ 0 → ⊥) → outcome (Refused told) ws ≡ set_up s ws
  set_up_refusal_is_told some = settings_refusal_is_told (with_table [] s) [] ws is some

  pub set_up_zeroes : told ≡ 0 → outcome Done (replicate (length ws) 0) ≡ set_up s ws
  set_up_zeroes none = table_set_up_zeroes (with_table [] s) [] ws (sym is ∙ none) empty_table_is_accepted

-- A reply by checks that know of the refusals of this library alone.
pub refused_or_told : (accepted further : Result (Unit {0}) Refusal) (memory : ℕ) {A : Type 0} (ws : A) (told : Outcome Reply A) {o : Outcome Reply A}
    → o ≡ unless_refused (first_refusal (number_in number_of accepted) (first_refusal memory (number_in number_of further))) ws told
    → o ≡ unless_refused (first_refusal (numbered accepted) (first_refusal memory (numbered further))) ws told
refused_or_told accepted further memory ws told is = rw (numbered_by_refusals accepted, numbered_by_refusals further) at is
