-- What an operation gave, by its answer and by the state after it.
use mathlib.Core.Path.{◌≡◌, ap}
use Rattle.rows.specs.Outcome.{Outcome, outcome}

module _ {A S : Type 0} {a : A} {s : S} {o : Outcome A S} (gave : outcome a s ≡ o) where
  pub answer_is : a ≡ o.answer
  answer_is = ap (λ p. p.answer) gave

  pub after_is : s ≡ o.after
  after_is = ap (λ p. p.after) gave
