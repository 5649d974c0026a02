-- No promise rests on this page: it serves the inner contracts of the code.
-- The answer of a chain, class by class.
use Rattle.std.specs.Prelude.{ℕ, max, cond, ltb}
use Rattle.classes.specs.declared.ChainAnswer.{ChainAnswer}
use Rattle.classes.specs.declared.ChainAnswer.TheVariants.{Over, Wait}
use Rattle.classes.specs.Classes.{past_tokens}

-- The answer of no class.
abbrev pub none_asked : ℕ → ChainAnswer
none_asked cost = cond (ltb past_tokens cost) Over (Wait (record { 0 = 0 }))

-- The answer of the chain above a class, and the class's own wait.
abbrev pub with_own : ℕ → ChainAnswer → ChainAnswer
with_own own Over = Over
with_own own (Wait rest) = Wait (record { 0 = max own rest.0 })
