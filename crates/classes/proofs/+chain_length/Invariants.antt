-- The measure is the number of classes still allowed.
use Rattle.classes.proofs.+chain_length.Given as goal

abbrev pub decreases-chain_length : goal.decreases-chain_length
decreases-chain_length l = l.allowed
