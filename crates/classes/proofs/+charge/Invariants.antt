-- The measure is the number of classes still allowed.
use Rattle.classes.proofs.+charge.Given as goal

abbrev pub decreases-charge : goal.decreases-charge
decreases-charge l = l.allowed
