-- `Rate::initial_tokens` is the smaller of the tokens that are set and the burst: one arm for each outcome of the comparison.
use native.Mathlib.Omega.{arith}
use Rattle.settings.proofs.rate.Rate.initial_tokens.Goals as goal

pub returns-then-tokens-capacity : goal.returns-then-tokens-capacity
returns-then-tokens-capacity c = rw (← c.capacity-capacity.ensures, ← c.unwrap_or-tokens.ensures) (omega arith)

pub returns-else-tokens-capacity : goal.returns-else-tokens-capacity
returns-else-tokens-capacity c = rw (← c.capacity-capacity.ensures, ← c.unwrap_or-tokens.ensures) (omega arith)
