-- A wait comes with a retry alone: every other answer to a try, a peek, a refund or a removal has the number 0. A reservation's grant has its wait.
use Prim.Native.Nat.{ℕ}
use mathlib.Core.Path.{◌≡◌, refl}
use mathlib.Core.List.{List}
use Rattle.arith.proofs.Cases.{by_eq}
use Rattle.units.specs.declared.Nanos.{Nanos}
use Rattle.settings.specs.declared.Settings.{Settings}
use Rattle.shard.specs.declared.Identity.{Identity}
use Rattle.rules.specs.declared.Reply.{Reply}
use Rattle.rules.specs.declared.Reply.TheVariants.{Refused}
use Rattle.rules.specs.declared.codes.Told.{Told}
use Rattle.rules.specs.Replies.{told_of, Kind, decides, reserves, counts, knows}
use Rattle.rules.specs.Asks.{Ask, in_force, kind_of_ask}
use Rattle.rules.specs.Rules.{keyed_rule}
use Rattle.rules.specs.Calls.{Call, keyed, Terms, by_key, rules, kind_of}
use Rattle.rules.proofs.KindLaws.{OfKind, acquired, retried, impossible, reserved, not_reserved, counted, known, unknown}
use Rattle.rules.proofs.CallLaws.{by_key_is_the_rule, refusal_of, not_refused_is_ruled, refused_is_told, rule_answers_in_kind}

-- A number other than 0 comes with code 1 alone.
abbrev pub WaitsOnRetry : Told → Type 0
WaitsOnRetry t = (t.code ≡ 1 → ⊥) → t.number ≡ 0

-- So it is for every kind of reply but a reservation's, whose grant has a wait, and a count.
abbrev pub Prompt : Kind → Reply → Type 0
Prompt decides r = WaitsOnRetry (told_of r)
Prompt reserves r = Unit {0}
Prompt counts r = Unit {0}
Prompt knows r = WaitsOnRetry (told_of r)

in_kind_is_prompt : {at : Nanos} {kind : Kind} {r : Reply} → OfKind at kind r → Prompt kind r
in_kind_is_prompt acquired = λ other. refl
in_kind_is_prompt (retried wait) = λ other. absurd (other refl)
in_kind_is_prompt impossible = λ other. refl
in_kind_is_prompt (reserved wait) = tt
in_kind_is_prompt not_reserved = tt
in_kind_is_prompt (counted n) = tt
in_kind_is_prompt known = λ other. refl
in_kind_is_prompt unknown = λ other. refl

refusal_is_prompt : (kind : Kind) (n : ℕ) → Prompt kind (Refused n)
refusal_is_prompt decides n = λ other. refl
refusal_is_prompt reserves n = tt
refusal_is_prompt counts n = tt
refusal_is_prompt knows n = λ other. refl

pub rules_are_prompt : {S N : Type 0} (terms : Terms S N) (c : Call S N) (ws : List ℕ) → Prompt (kind_of c) (rules terms c ws).answer
rules_are_prompt terms c ws =
    by_eq (refusal_of terms c ws) 0
    (λ none. rw (not_refused_is_ruled terms c ws none) (in_kind_is_prompt (rule_answers_in_kind terms c ws)))
    (λ some. rw (refused_is_told terms c ws some) (refusal_is_prompt (kind_of c) (refusal_of terms c ws)))

pub asks_are_prompt : (s : Settings) (id : Identity) (ask : Ask) (ws : List ℕ) → Prompt (kind_of_ask ask) (keyed_rule (in_force ask s) id ask ws).answer
asks_are_prompt s id ask ws = rw (by_key_is_the_rule s id ask ws) at (rules_are_prompt by_key (keyed s id ask) ws)
