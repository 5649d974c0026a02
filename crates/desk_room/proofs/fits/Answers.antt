-- `fits` asks whether the size is accepted, and then for its words.
use Rattle.settings.specs.Settings.{size_refusal}
use mathlib.Core.Path.{sym, ap, ◌∙◌}
use Rattle.desk_room.proofs.RoomLaws.{refused_does_not_fit, fits_by_words}
use Rattle.settings.proofs.RefusalLaws.{err_is_refused, ok_is_accepted}
use Rattle.desk_room.proofs.fits.Goals as goal

pub returns-then-is_err : goal.returns-then-is_err
returns-then-is_err c = let a = c.args in
    let is = c.check_sizes.ensures ∙ ap size_refusal c.sized-settings.ensures in
    refused_does_not_fit a.keys a.words a.shards (λ none. err_is_refused _ (sym c.is_err.ensures.value ∙ c.if-is_err.true) (is ∙ none))

pub returns : goal.returns
returns c = let sized' = c.sized-settings in
    let a = c.args in
    let accepted = sym (ap size_refusal sized'.ensures) ∙ sym c.check_sizes.ensures ∙ ok_is_accepted _ (sym c.is_err.ensures.value ∙ c.if-is_err.false) in
    rw (c.memory_words.ensures, sized'.ensures) (fits_by_words a.keys a.words a.shards accepted)
