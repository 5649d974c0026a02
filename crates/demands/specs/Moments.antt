-- The moments told (request 1 of document 02). Every grant and every retry, of a request and of a peek, tells the moment of the call plus its wait; that of a
-- retry is held to 64 bits (request 5). From the moment of a grant on its tokens are usable. So the tokens counted by the moments told are those that the
-- window counts (`told_moments_count_alike`).
use Rattle.std.specs.Prelude.{ℕ, ◌+◌, ◌≡◌, true, List, [], ◌∷◌}
use Rattle.arith.specs.Arith.{saturated}
use Rattle.units.specs.declared.Nanos.{Nanos}
use Rattle.settings.specs.declared.decision.Decision.TheVariants.{Acquired, Retry, Impossible}
use Rattle.shard.specs.declared.Identity.{Identity}
use Rattle.rules.specs.declared.Reply.{Reply}
use Rattle.rules.specs.declared.Reply.TheVariants.{Tried, Reserved, Nothing, Done, Count, Refused}
use Rattle.rules.specs.Replies.{moment_of, of_grant}
use Rattle.rules.specs.Asks.{Look, peeks, tokens, turn_aways, Ask, requests, looks, undoes, passes, Manner, as_try, manner_of}
use Rattle.rules.specs.Widths.{lendable}
use Rattle.rules.specs.Calls.{Call, keyed, whole, Terms, Answered, replies, all_fit, Every}
use Rattle.demands.specs.Demands.{Limiter, usable, usable_from}

-- A try that is granted tells the moment of the call. A reservation that is granted tells that moment plus its wait, and so does a retry, held to 64 bits: on
-- damaged memory the wait of a retry may leave them. Other replies have no moment.
abbrev pub MomentTold : Manner → Nanos → Reply → Type 0
MomentTold m at (Tried (Acquired due)) = due.moment.0 ≡ usable_from m at 0
MomentTold m at (Tried (Retry due)) = due.moment.0 ≡ saturated (at.0 + due.wait.0)
MomentTold m at (Tried Impossible) = Unit {0}
MomentTold m at (Reserved due) = due.moment.0 ≡ usable_from m at due.wait.0
MomentTold m at Nothing = Unit {0}
MomentTold m at Done = Unit {0}
MomentTold m at (Count n) = Unit {0}
MomentTold m at (Refused n) = Unit {0}

-- A peek tells as a try does. Other looks tell no moment.
abbrev pub LookTells : Look → Reply → Type 0
LookTells (peeks at cost) reply = MomentTold as_try at reply
LookTells (tokens at) reply = moment_of reply ≡ 0
LookTells turn_aways reply = moment_of reply ≡ 0

abbrev pub AskTells : Ask → Reply → Type 0
AskTells (requests r at cost) reply = MomentTold (manner_of r) at reply
AskTells (looks l) reply = LookTells l reply
AskTells (undoes u) reply = moment_of reply ≡ 0
AskTells (passes table class at cost) reply = MomentTold as_try at reply

abbrev pub TellsItsMoment : {S N : Type 0} → Call S N → Reply → Type 0
TellsItsMoment (keyed s n ask) reply = AskTells ask reply
TellsItsMoment (whole s what) reply = moment_of reply ≡ 0

module _ {S N : Type 0} (terms : Terms S N) where
  -- So it is with every reply of a limiter, in every list of calls, from any words.
  abbrev pub TellsMoments : Limiter S N → Type 0
  TellsMoments l =
      (ws : List ℕ) (cs : List (Call S N)) → lendable ws ≡ true → all_fit terms cs ≡ true
      → Every (λ a. TellsItsMoment a.call a.reply) (replies terms l.answers cs ws ws)

  -- The tokens granted to a key for which a moment from t to u is told.
  abbrev pub tokens_told_of : Identity → ℕ → ℕ → Call S N → Reply → ℕ
  tokens_told_of k t u (keyed s n (requests r at cost)) reply = of_grant (λ wait. usable k t u (terms.identity n) (moment_of reply) cost) 0 reply
  tokens_told_of k t u (keyed s n (looks l)) reply = 0
  tokens_told_of k t u (keyed s n (undoes undo)) reply = 0
  tokens_told_of k t u (keyed s n (passes table class at cost)) reply = of_grant (λ wait. usable k t u (terms.identity n) (moment_of reply) cost) 0 reply
  tokens_told_of k t u (whole s what) reply = 0

  unfoldable pub tokens_told : Identity → ℕ → ℕ → List (Answered S N) → ℕ
  tokens_told k t u [] = 0
  tokens_told k t u (a ∷ rest) = tokens_told_of k t u a.call a.reply + tokens_told k t u rest
