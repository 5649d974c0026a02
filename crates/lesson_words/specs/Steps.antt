-- Steps that may fail.
use Rattle.std.specs.Prelude.{Result, Ok, Err}

-- What a step gives goes into the next one. After a fault there is no next one: the first fault is the one that is told.
infixl 10 ◌>>=◌
abbrev pub ◌>>=◌ : {A B E : Type 0} → Result A E → (A → Result B E) → Result B E
Ok x >>= f = f x
Err e >>= f = Err e
