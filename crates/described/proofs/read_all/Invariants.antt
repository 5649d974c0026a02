use Rattle.std.proofs.Common.{◌≡◌, ◌<◌, length}
use Rattle.described.proofs.read_all.Given as goal

abbrev pub invariant-loop-turn : goal.invariant-loop-turn
invariant-loop-turn g l = (l.size < length l.text) × (length l.text ≡ length l.initial.text)
