-- `old_words` tells 0 for a refused size and for too many keys, else the words of document 01's layout.
use Rattle.settings.proofs.RefusalLaws.{err_is_refused, ok_is_accepted}
use Rattle.converter.proofs.RefusalLaws.{refused_size_has_none, many_keys_have_none, words_to_lend_lem}
use mathlib.Core.Path.{◌∙◌, sym}
use Rattle.converter.proofs.old_words.Goals as goal

pub returns-then-is_err : goal.returns-then-is_err
returns-then-is_err c = refused_size_has_none _ c.check_sizes.ensures (err_is_refused _ (sym c.is_err.ensures.value ∙ c.if-is_err.true))

pub returns-then-settings-gt-MOST_KEYS : goal.returns-then-settings-gt-MOST_KEYS
returns-then-settings-gt-MOST_KEYS c =
    many_keys_have_none _ c.check_sizes.ensures (ok_is_accepted _ (sym c.is_err.ensures.value ∙ c.if-is_err.false)) c.if-settings-gt-MOST_KEYS.true

pub words_for-requires : goal.words_for-requires
words_for-requires c = sym c.check_sizes.ensures ∙ ok_is_accepted _ (sym c.is_err.ensures.value ∙ c.if-is_err.false)

pub returns : goal.returns
returns c =
    words_to_lend_lem _ c.check_sizes.ensures (ok_is_accepted _ (sym c.is_err.ensures.value ∙ c.if-is_err.false)) c.if-settings-gt-MOST_KEYS.false
    c.words_for.ensures
