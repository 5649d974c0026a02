-- `check_set_up` checks the settings, whose check does not depend on the classes, and then the length.
use mathlib.Core.Path.{◌≡◌, sym, ap, ◌∙◌}
use Rattle.settings.specs.Settings.{settings_refusal, with_classes, shape_with, shape_of}
use Rattle.settings.proofs.RefusalLaws.{first_refuses, second_decides}
use Rattle.settings.proofs.SettingsLaws.{refused_with_any_classes}
use Rattle.store.proofs.LendingLaws.{accepted_shape}
use Rattle.store.proofs.refusals.check_set_up.Goals as goal

pub returns-in_err-check : goal.returns-in_err-check
returns-in_err-check c = first_refuses c.from_residual.result _ _ c.from_residual.ensures.1
    (c.in_err-check.ensures ∙ sym (refused_with_any_classes c.args.classes c.args.settings))

pub words_in-requires : goal.words_in-requires
words_in-requires c = let a = c.args in
    accepted_shape (with_classes a.classes a.settings) (sym (c.in_ok-check.ensures ∙ sym (refused_with_any_classes a.classes a.settings))) c.requires
    (c.with_classes.ensures ∙ ap (shape_with a.classes) c.shape.ensures)

pub returns : goal.returns
returns c = let a = c.args in
    second_decides (c.in_ok-check.ensures ∙ sym (refused_with_any_classes a.classes a.settings))
    (rw (c.words_in.ensures, c.with_classes.ensures, c.shape.ensures) at c.check_memory.ensures)
