-- What a closed limiter grants, a reply by its numbers, and the idle limit by which the store sweeps.
use Prim.Native.Nat.{ℕ}
use mathlib.Core.Path.{◌≡◌, ap}
use borrow.Author.Tests.{eq-eqb, ne_eqb}
use Rattle.rows.specs.Outcome.{Outcome, outcome}
use Rattle.units.specs.declared.Nanos.{Nanos}
use Rattle.bucket.specs.declared.Due.{Due}
use Rattle.settings.specs.declared.Limit.TheVariants.{Open}
use Rattle.settings.specs.declared.Settings.{Settings}
use Rattle.settings.specs.declared.decision.Decision.TheVariants.{Acquired, Impossible}
use Rattle.settings.specs.declared.rate.Rate.{Rate}
use Rattle.settings.specs.Settings.{idle_limit}
use Rattle.shard.specs.Model as OneShard
use Rattle.rules.specs.declared.Reply.{Reply}
use Rattle.rules.specs.declared.codes.Told.{Told}
use Rattle.rules.specs.Replies.{told_of, told}
use Rattle.rules.specs.Asks.{due_now, closed, policy_of}

-- An outcome, of words or of words and records, and the reply's numbers in its place.
pub outcome_is_told : {A : Type 0} {r : Reply} {t : Told} {left : A} {o : Outcome Reply A} → outcome r left ≡ o → t ≡ told_of r → outcome t left ≡ told o
outcome_is_told gave is = rw is (ap told gave)

-- A limiter without a rate.
module _ (at : Nanos) (cost : ℕ) where
  pub closed_grants_none : {due : Due} → due ≡ due_now at → cost ≡ 0 → Acquired due ≡ closed at cost
  unfolding closed
  closed_grants_none is none = rw (is, eq-eqb _ _ none)

  pub closed_grants_nothing_else : (cost ≡ 0 → ⊥) → Impossible ≡ closed at cost
  unfolding closed
  closed_grants_nothing_else some = rw (ne_eqb _ _ some)

-- The idle limit by which the store sweeps is that of the settings.
pub sweeps_by_the_idle_limit : (s : Settings) (rate : Rate) → s.limit ≡ Open rate → OneShard.idle_limit_in (policy_of s rate) ≡ idle_limit s
sweeps_by_the_idle_limit s rate is = rw is
