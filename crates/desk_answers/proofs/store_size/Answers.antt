-- `store_size` is 0 where the sizes are refused, else the fewer of two counts.
use mathlib.Core.Path.{◌∙◌, sym}
use Rattle.desk_answers.proofs.DeskLaws.{no_size, size_is}
use Rattle.settings.proofs.RefusalLaws.{err_is_refused, ok_is_accepted}
use Rattle.desk_answers.proofs.store_size.Goals as goal

pub returns-then-is_err : goal.returns-then-is_err
returns-then-is_err c = no_size _ _ (rw (sym c.check_sizes.ensures) (err_is_refused _ (sym c.is_err.ensures.value ∙ c.if-is_err.true)))

pub returns : goal.returns
returns c = let accepted = sym c.check_sizes.ensures ∙ ok_is_accepted _ (sym c.is_err.ensures.value ∙ c.if-is_err.false) in
    rw c.memory_words.ensures at c.min.ensures ∙ size_is _ _ accepted
