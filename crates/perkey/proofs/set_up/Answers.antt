-- `set_up` tells the refusal, else zeroes all words, which are as many as the settings ask for.
use Rattle.rules.proofs.RefusedLaws.{set_up_refusal_is_told, set_up_zeroes}
use mathlib.Core.Path.{ap}
use Rattle.settings.specs.Refusal.{numbered}
use Rattle.settings.proofs.RefusalLaws.{has_a_number}
use borrow.Author.Rules.{rules}
use Rattle.perkey.proofs.set_up.Goals as goal

pub returns-in-Err : goal.returns-in-Err
returns-in-Err c = let a = c.args in
    rw c.into.ensures (set_up_refusal_is_told a.settings a.ws.now (rw c.in-Err.is at c.check_set_up.ensures) (has_a_number c.in-Err.refusal))

pub returns : goal.returns
returns c = let a = c.args in
    rw c.clear.ensures (set_up_zeroes a.settings a.ws.now c.check_set_up.ensures (ap numbered c.in_default.is))
