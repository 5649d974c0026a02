-- `len` tells the refusal, else the total, which is there in memory of the right length.
use native.Mathlib.Omega.{arith}
use mathlib.Core.Path.{sym, ap, ◌∙◌}
use Rattle.store.proofs.RefusalLaws.{len_not_refused}
use Rattle.rules.specs.Rules.{len_in}
use Rattle.rules.proofs.RefusedLaws.{number_is_told, unless_refused_accepts}
use Rattle.settings.specs.Refusal.{numbered}
use Rattle.settings.proofs.RefusalLaws.{has_a_number}
use borrow.Author.Rules.{rules}
use Rattle.perkey.proofs.len.Goals as goal

pub returns-in-Err : goal.returns-in-Err
unfolding len_in
returns-in-Err c = rw c.into.ensures (number_is_told _ _ _ (rw c.in-Err.is at c.check_len.ensures) (has_a_number c.in-Err.refusal))

pub len-requires : goal.len-requires
len-requires c = let a = c.args in
    omega (arith, (len_not_refused a.settings a.ws.now (sym c.check_len.ensures ∙ ap numbered c.in_default.is)).0.size)

pub returns : goal.returns
unfolding len_in
returns c = rw c.len.ensures (sym (unless_refused_accepts _ _ _ (sym c.check_len.ensures ∙ ap numbered c.in_default.is)))
