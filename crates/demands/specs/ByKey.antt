-- The calls, lists and demands at `by_key`: every call of a list names its key, and settings are written as they are.
use Rattle.std.specs.Prelude.{ℕ, Bool, List}
use Rattle.settings.specs.declared.Settings.{Settings}
use Rattle.settings.specs.declared.rate.Rate.{Rate}
use Rattle.shard.specs.declared.Identity.{Identity}
use Rattle.rules.specs.declared.Reply.{Reply}
use Rattle.rules.specs.Calls as Calls
use Rattle.rules.specs.Calls.{by_key}
use Rattle.demands.specs.Demands as Demands

abbrev pub Call : Type 0
Call = Calls.Call Settings Identity

abbrev pub Implementation : Type 0
Implementation = Calls.Implementation Settings Identity

abbrev pub Answered : Type 0
Answered = Calls.Answered Settings Identity

abbrev pub rules : Implementation
rules = Calls.rules by_key

abbrev pub replies : Implementation → List Call → List ℕ → List ℕ → List Answered
replies = Calls.replies by_key

abbrev pub accepted : Answered → Bool
accepted = Calls.accepted by_key

abbrev pub fits : Call → Bool
fits = Calls.fits by_key

abbrev pub all_fit : List Call → Bool
all_fit = Calls.all_fit by_key

abbrev pub Limiter : Type 0
Limiter = Demands.Limiter Settings Identity

abbrev pub answering : Implementation → Limiter
answering = Demands.answering by_key

abbrev pub Demand2 : Limiter → Type 0
Demand2 = Demands.Demand2 by_key

abbrev pub Window : Limiter → Type 0
Window = Demands.Window by_key

abbrev pub WindowAdding : ℕ → Limiter → Type 0
WindowAdding = Demands.WindowAdding by_key

abbrev pub OwnBucket : Limiter → Type 0
OwnBucket = Demands.OwnBucket by_key

abbrev pub Demand3 : Limiter → Type 0
Demand3 = Demands.Demand3 by_key

abbrev pub SameSettings : Settings → List Answered → Type 0
SameSettings = Demands.SameSettings by_key

abbrev pub TimesNeverFall : ℕ → List Answered → Type 0
TimesNeverFall = Demands.TimesNeverFall by_key

abbrev pub Agree : Answered → Answered → Type 0
Agree = Demands.Agree by_key

abbrev pub NoSharedHash : List Answered → Type 0
NoSharedHash = Demands.NoSharedHash by_key

abbrev pub NeverRefundedOrRemoved : Identity → List Answered → Type 0
NeverRefundedOrRemoved = Demands.NeverRefundedOrRemoved by_key

abbrev pub tokens_of : Identity → ℕ → ℕ → Call → Reply → ℕ
tokens_of = Demands.tokens_of by_key

abbrev pub tokens_usable : Identity → ℕ → ℕ → List Answered → ℕ
tokens_usable = Demands.tokens_usable by_key

abbrev pub DecidedBy : Answered → Call → Type 0
DecidedBy = Demands.DecidedBy by_key
