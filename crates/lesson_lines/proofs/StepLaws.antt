-- Steps that may fail, one after the other.
use Rattle.std.proofs.Common.{◌≡◌, refl, Result, Ok, Err}
use Rattle.std.specs.Result.{IfOk}
use Rattle.lesson_words.specs.Steps.{◌>>=◌}

-- What the second step gives has a property if it has that wherever the first one gave something.
pub holds_after : {A B E : Type 0} (Q : B → Type 0) (r : Result A E) (f : A → Result B E) → ((x : A) → r ≡ Ok x → IfOk (f x) Q) → IfOk (r >>= f) Q
holds_after Q (Ok x) f next = next x refl
holds_after Q (Err e) f next = tt
