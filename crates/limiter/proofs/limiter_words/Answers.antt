-- `limiter_words` goes by the refusal of the sizes, then by the number of classes.
use mathlib.Core.Path.{sym, ap, ◌∙◌}
use Rattle.settings.specs.Settings.{size_refusal}
use Rattle.limiter.proofs.ExportedLaws.{refused_sizes_have_no_words, too_many_classes_have_no_words, accepted_sizes_have_the_stores_words}
use Rattle.settings.proofs.RefusalLaws.{err_is_refused, ok_is_accepted}
use Rattle.limiter.proofs.limiter_words.Goals as goal

pub returns-then-is_err : goal.returns-then-is_err
returns-then-is_err c = let is = c.check_sizes.ensures ∙ ap size_refusal c.settings_of-settings.ensures in
    refused_sizes_have_no_words _ (λ none. err_is_refused _ (sym c.is_err.ensures.value ∙ c.if-is_err.true) (is ∙ none))

-- Once the sizes are accepted.
pub returns-then-settings-gt-MOST_CLASSES : goal.returns-then-settings-gt-MOST_CLASSES
returns-then-settings-gt-MOST_CLASSES c = let s = c.settings_of-settings.ensures in
    let accepted = sym (c.check_sizes.ensures ∙ ap size_refusal s) ∙ ok_is_accepted _ (sym c.is_err.ensures.value ∙ c.if-is_err.false) in
    too_many_classes_have_no_words _ accepted (rw s at c.if-settings-gt-MOST_CLASSES.true)

pub memory_words-requires : goal.memory_words-requires
memory_words-requires c = sym c.check_sizes.ensures ∙ ok_is_accepted _ (sym c.is_err.ensures.value ∙ c.if-is_err.false)

pub returns : goal.returns
returns c = let s = c.settings_of-settings.ensures in
    let accepted = sym (c.check_sizes.ensures ∙ ap size_refusal s) ∙ ok_is_accepted _ (sym c.is_err.ensures.value ∙ c.if-is_err.false) in
    rw (c.memory_words.ensures, s) (accepted_sizes_have_the_stores_words _ accepted (rw s at c.if-settings-gt-MOST_CLASSES.false))
