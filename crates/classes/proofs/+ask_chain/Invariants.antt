-- The measure is the number of classes still allowed.
use Rattle.classes.proofs.+ask_chain.Given as goal

abbrev pub decreases-ask_chain : goal.decreases-ask_chain
decreases-ask_chain l = l.allowed
