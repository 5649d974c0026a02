-- `check` checks the settings, the lengths, and the words of the source.
use mathlib.Core.Path.{sym, ◌∙◌}
use Rattle.settings.proofs.SettingsLaws.{cap_least}
use Rattle.settings.proofs.RefusalLaws.{first_refuses}
use Rattle.converter.proofs.RefusalLaws.{size_is_accepted, source_length_is_told, target_length_is_told, words_are_told}
use Rattle.converter.proofs.check.Goals as goal

pub returns-in_err-check_settings : goal.returns-in_err-check_settings
returns-in_err-check_settings c = first_refuses c.from_residual.result _ _ c.from_residual.ensures.1 c.in_err-check_settings.ensures

pub words_for-requires : goal.words_for-requires
words_for-requires c = size_is_accepted c.args.settings (sym c.in_ok-check_settings.ensures)

pub returns-then-source-words_for : goal.returns-then-source-words_for
returns-then-source-words_for c = let a = c.args in
    source_length_is_told a.from a.settings a.source.now a.target.now c.in_ok-check_settings.ensures c.words_for.ensures c.if-source-words_for.true

pub words_for-requires-2 : goal.words_for-requires-2
words_for-requires-2 c = size_is_accepted c.args.settings (sym c.in_ok-check_settings.ensures)

pub returns-then-target-words_for : goal.returns-then-target-words_for
returns-then-target-words_for c = let a = c.args in
    target_length_is_told a.from a.settings a.source.now a.target.now c.in_ok-check_settings.ensures c.words_for.ensures c.if-source-words_for.false
    (rw c.other.ensures at c.words_for-2.ensures) c.if-target-words_for.true

pub check_source-requires : goal.check_source-requires
check_source-requires c = rw c.shape-shape.ensures (record { size = c.if-source-words_for.false ∙ c.words_for.ensures; room = cap_least c.args.settings })

pub returns : goal.returns
returns c = let a = c.args in
    words_are_told a.from a.settings a.source.now a.target.now c.in_ok-check_settings.ensures c.words_for.ensures c.if-source-words_for.false
    (rw c.other.ensures at c.words_for-2.ensures) c.if-target-words_for.false (rw c.shape-shape.ensures at c.check_source.ensures)
