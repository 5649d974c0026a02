-- The refusals and their numbers.
use Rattle.std.specs.Prelude.{ℕ, ◌≡◌, Result, Ok, Err}
use Rattle.settings.specs.declared.refusal.Refusal.{Refusal}
use Rattle.settings.specs.declared.refusal.Refusal.TheVariants.{Amount, Period, Burst, Sizes, Memory, Moment, MaxWait, AddressLength, GroupAddress, Buffer}
use Rattle.settings.specs.declared.refusal.Refusal.TheVariants.{Class, Chain, Shard, Records, Twins, UsedPast}

-- The number of a refusal.
abbrev pub number_of : Refusal → ℕ
number_of Amount = 1
number_of Period = 2
number_of Burst = 3
number_of Sizes = 4
number_of Memory = 5
number_of Moment = 6
number_of MaxWait = 7
number_of AddressLength = 11
number_of GroupAddress = 12
number_of Buffer = 13
number_of Class = 14
number_of Chain = 15
number_of Shard = 16
number_of Records = 17
number_of Twins = 18
number_of UsedPast = 19

-- The number that a check answers: that of its refusal, or 0 where it refuses nothing.
abbrev pub numbered : {A : Type 0} → Result A Refusal → ℕ
numbered (Ok accepted) = 0
numbered (Err refusal) = number_of refusal

-- A value that is given where nothing is refused: `number` is that of the refusal, or 0.
abbrev pub GivenUnless : {A : Type 0} → ℕ → A → Result A Refusal → Type 0
GivenUnless number value (Ok given) = (number ≡ 0) × (given ≡ value)
GivenUnless number value (Err refusal) = number_of refusal ≡ number
