-- A line is told a wait only with a retry or a reservation: every other answer has wait 0, since the rules tell it so.
use Prim.Native.Nat.{ℕ}
use native.Mathlib.Omega.{arith}
use mathlib.Core.Path.{◌≡◌, refl}
use mathlib.Core.List.{List}
use Rattle.settings.specs.declared.Settings.{Settings}
use Rattle.bucket.specs.declared.Request.TheVariants.{Acquire}
use Rattle.rules.specs.Asks.{requests, looks, undoes, peeks, refunds, removes}
use Rattle.rules.proofs.WaitLaws.{WaitsOnRetry, asks_are_prompt}
use Rattle.desk_lines.specs.declared.Request.{Request}
use Rattle.desk_lines.specs.declared.Line.{Line}
use Rattle.desk_lines.specs.declared.Line.TheVariants.{SetUp, Try, Peek, Reserve, Refund, Remove, Malformed}
use Rattle.rules.specs.declared.codes.Told.{Told}
use Rattle.desk_answers.specs.Desk.{tried, answered, identity_of}

-- Every line but a reservation.
abbrev pub PromptLine : Line → Told → Type 0
PromptLine (SetUp t) told = WaitsOnRetry told
PromptLine (Try q) told = WaitsOnRetry told
PromptLine (Peek q) told = WaitsOnRetry told
PromptLine (Reserve q longest) told = Unit {0}
PromptLine (Refund key cost) told = WaitsOnRetry told
PromptLine (Remove key) told = WaitsOnRetry told
PromptLine Malformed told = WaitsOnRetry told

pub waits_only_on_retry : (s : Settings) (line : Line) (ws : List ℕ) → PromptLine line (answered s line ws).answer
waits_only_on_retry s (SetUp t) ws = λ other. refl
waits_only_on_retry s (Try q) ws = asks_are_prompt s (identity_of q.key) (requests Acquire q.at q.cost) ws
waits_only_on_retry s (Peek q) ws = asks_are_prompt s (identity_of q.key) (looks (peeks q.at q.cost)) ws
waits_only_on_retry s (Reserve q longest) ws = tt
waits_only_on_retry s (Refund key cost) ws = asks_are_prompt s (identity_of key) (undoes (refunds cost)) ws
waits_only_on_retry s (Remove key) ws = asks_are_prompt s (identity_of key) (undoes removes) ws
waits_only_on_retry s Malformed ws = λ other. refl

-- So a granted try tells wait 0.
pub try_waits_nothing : (s : Settings) (q : Request) (ws : List ℕ) → (tried s q ws).answer.code ≡ 0 → (tried s q ws).answer.number ≡ 0
try_waits_nothing s q ws granted = waits_only_on_retry s (Try q) ws (λ retry. omega (arith, granted, retry))
