-- `finish` tells the number of a refused request, and lets in the key of any other.
use Rattle.requests.proofs.FinishLaws.{refused_request_is_told, reply_is_told}
use mathlib.Core.Path.{refl}
use borrow.Author.Rules.{rules}
use Rattle.requests.proofs.finish.Goals as goal

pub admit-decision-requires : goal.admit-decision-requires
admit-decision-requires c = rw c.in-New.is at c.requires

pub refuse-requires : goal.refuse-requires
refuse-requires c = rw c.check_further.ensures (rw c.in-Refused.is at c.requires)

pub returns-in-Refused : goal.returns-in-Refused
returns-in-Refused c = let a = c.args in
    rw c.refuse.ensures
    (refused_request_is_told a.settings a.at a.id a.ws.now a.request a.cost c.check_further.ensures refl (rw c.in-Refused.is at c.requires))

pub returns-in-New : goal.returns-in-New
returns-in-New c = reply_is_told c.reply_to.ensures c.admit-decision.ensures
