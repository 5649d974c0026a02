-- What a call is lent, and what a caller's own check of its other arguments tells. Such a check may know of refusals that this library does not have.
use Rattle.std.specs.Prelude.{ℕ, ◌≡◌, Result, Ok, Err}
use Rattle.store.specs.declared.Part.{Part}

-- The number that a check tells: `number` gives that of its refusal. 0 is none.
abbrev pub number_in : {A E : Type 0} → (E → ℕ) → Result A E → ℕ
number_in number (Ok accepted) = 0
number_in number (Err refusal) = number refusal

-- A part is lent where the call is not refused: `refusal` is the number of its refusal, or 0.
abbrev pub LentUnless : {E : Type 0} → (E → ℕ) → ℕ → Part → Result Part E → Type 0
LentUnless number refusal part (Ok lent) = (refusal ≡ 0) × (lent ≡ part)
LentUnless number refusal part (Err told) = number told ≡ refusal
