-- `charge` goes up the table as the chain does, on the words that the charge of the class left.
use Rattle.std.proofs.Common.{sym, ◌∙◌, arith}
use Rattle.classes.proofs.LayoutLaws.{class_has_words}
use Rattle.classes.proofs.ChainLaws.{no_class_no_charge, charge_at_the_top, charge_goes_up, first_takes, rest_takes}
use Rattle.classes.proofs.+charge.Goals as goal

pub returns-then-allowed-eq0 : goal.returns-then-allowed-eq0
returns-then-allowed-eq0 t c = no_class_no_charge _ _ _ _ _ _ c.if-allowed-eq0.true

pub charge_own-requires : goal.charge_own-requires
charge_own-requires t c = (first_takes _ _ _ _ c.requires.0 c.if-allowed-eq0.false, c.requires.1)

pub load_parent-parent-requires : goal.load_parent-parent-requires
load_parent-parent-requires t c = class_has_words _ _ c.requires.0.named

pub charge-requires : goal.charge-requires
charge-requires t c = (
  omega arith,
  (rest_takes _ _ _ _ c.requires.0 c.if-allowed-eq0.false (sym c.in-Some.ensures), c.charge_own.auto.buckets ∙ c.requires.1),
)

pub returns-in-None : goal.returns-in-None
returns-in-None t c = rw c.charge_own.ensures (charge_at_the_top _ _ _ _ _ _ c.if-allowed-eq0.false (sym c.in-None.ensures))

pub returns-in-Some : goal.returns-in-Some
returns-in-Some t c =
    rw (c.charge.ensures, c.charge_own.ensures) (charge_goes_up _ _ _ _ _ _ c.if-allowed-eq0.false (sym c.in-Some.ensures))
