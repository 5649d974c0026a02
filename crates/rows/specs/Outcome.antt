-- What an operation on a state gives: its answer, and the state after it.
pub record Outcome (A S : Type 0) : Type 0 where
  pub answer : A
  pub after : S

abbrev pub outcome : {A S : Type 0} → A → S → Outcome A S
outcome a s = record { answer = a; after = s }
