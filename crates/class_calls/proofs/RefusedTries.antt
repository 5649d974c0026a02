-- A try through a class that is refused, as the code comes to it: by the settings, then by what it is lent.
use Rattle.std.proofs.Common.{Result, Ok, Err}
use Prim.Native.Nat.{ℕ, ◌≤◌, ◌<◌, ◌^◌}
use native.Mathlib.Omega.{arith}
use mathlib.Core.Path.{◌≡◌, sym, ◌∙◌}
use mathlib.Core.List.{List}
use lib.ListN.{length}
use Rattle.rows.specs.Outcome.{outcome}
use Rattle.units.specs.declared.Nanos.{Nanos}
use Rattle.settings.specs.declared.Settings.{Settings}
use Rattle.settings.specs.declared.Shape.{Shape}
use Rattle.settings.specs.Settings.{first_refusal, settings_refusal, shape_of, shape_with, most_counted, ShapeOfAccepted}
use Rattle.settings.proofs.SettingsLaws.{refused_with_any_classes}
use Rattle.classes.specs.Layout.{class_count, classes_in}
use Rattle.classes.proofs.LayoutLaws.{class_count_lem}
use Rattle.shard.specs.declared.Identity.{Identity}
use Rattle.store.specs.declared.Part.{Part}
use Rattle.settings.specs.declared.refusal.Refusal.{Refusal}
use Rattle.settings.specs.Refusal.{number_of, GivenUnless}
use Rattle.store.specs.Memory.{part_in, part_of}
use Rattle.store.specs.Refusals.{shape_refusal}
use Rattle.store.proofs.LendingLaws.{accepted_shape, lent_by_settings, lent_part}
use Rattle.store.proofs.RefusalLaws.{settings_refuse_keyed, first_is_told}
use Rattle.rules.specs.declared.Reply.TheVariants.{Refused}
use Rattle.rules.specs.Asks.{passes, further_through, with_table}
use Rattle.rules.specs.Rules.{ask_refusal, class_try}
use Rattle.rules.proofs.KeyedLaws.{refusal_is_told, unlent_is_told}
use Rattle.class_calls.specs.code.Passing.{Passing}

-- The classes of a table in words that fit are few.
pub counted_classes_few : {n : ℕ} (table : List ℕ) → length table < 2 ^ 64 → n ≡ length (classes_in table) → n ≤ most_counted
counted_classes_few table fits is = omega (arith, is, class_count_lem table)

module _ (s : Settings) (table : List ℕ) (at : Nanos) (id : Identity) (class cost : ℕ) (ws : List ℕ) where
  pub settings_refuse_try : {told : ℕ} → told ≡ settings_refusal s → (told ≡ 0 → ⊥) → outcome (Refused told) ws ≡ class_try s table at id class cost ws
  settings_refuse_try is some =
      let given = with_table table s in
      let number = settings_refuse_keyed given id.hash ws (is ∙ sym (refused_with_any_classes (class_count table) s)) some in
      refusal_is_told given id (passes table class at cost) ws (first_is_told _ number some) some

  -- Accepted settings: the shape with the table's classes is that of the settings with them.
  module _ (none : settings_refusal s ≡ 0) {before shape : Shape} {classes : ℕ} (is_before : before ≡ shape_of s)
      (counted : classes ≡ length (classes_in table))
      (is_shape : shape ≡ shape_with classes before) where
    shape_is_given : shape ≡ shape_of (with_table table s)
    shape_is_given = rw (is_before, counted, class_count_lem table) at is_shape

    accepted : settings_refusal (with_table table s) ≡ 0
    accepted = refused_with_any_classes (class_count table) s ∙ none

    pub try_has_shape : length table < 2 ^ 64 → ShapeOfAccepted shape
    try_has_shape fits = accepted_shape (with_table table s) accepted (omega arith) shape_is_given

    asked : {further : ℕ} (lending : Result Part Refusal) → further ≡ further_through (classes_in table) class at
        → GivenUnless (first_refusal (shape_refusal shape id.hash ws) further) (part_in shape id.hash) lending
        → GivenUnless (ask_refusal (with_table table s) id (passes table class at cost) ws) (part_of (with_table table s) id.hash) lending
    asked {further = further} lending is_further is =
        rw is_further at (lent_by_settings (with_table table s) id.hash ws accepted shape_is_given lending further is)

    -- What it is lent, given the number for its other arguments.
    module _ {further : ℕ} {lending : Result Part Refusal} (is_further : further ≡ further_through (classes_in table) class at)
        (is : GivenUnless (first_refusal (shape_refusal shape id.hash ws) further) (part_in shape id.hash) lending) where
      pub unlent_try_is_told : {r : Refusal} → lending ≡ Err r → outcome (Refused (number_of r)) ws ≡ class_try s table at id class cost ws
      unlent_try_is_told gave = unlent_is_told (with_table table s) id (passes table class at cost) ws (asked lending is_further is) gave

      pub lent_try_passes : {part : Part} → lending ≡ Ok part → Passing s table at id class cost ws part
      lent_try_passes gave = let parts = lent_part _ _ (asked lending is_further is) gave in record { not_refused = parts.0; is_part = parts.1 }
