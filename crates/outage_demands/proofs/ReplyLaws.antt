-- What a try is told: a decision, or the number of a refusal. A denied try is told a moment that is not before it, on any memory.
use Prim.Native.Nat.{ℕ, ◌≤◌}
use native.Mathlib.Omega.{arith}
use mathlib.Core.Path.{◌≡◌, sym, ap, subst, ◌∙◌}
use mathlib.Core.List.{List}
use Rattle.arith.proofs.Cases.{by_eq}
use Rattle.rows.specs.Outcome.{Outcome}
use Rattle.units.specs.declared.Nanos.{Nanos}
use Rattle.bucket.specs.declared.Request.TheVariants.{Acquire}
use Rattle.settings.specs.declared.Settings.{Settings}
use Rattle.shard.specs.declared.Identity.{Identity}
use Rattle.store.specs.Refusals.{latest_moment}
use Rattle.rules.specs.declared.Reply.{Reply}
use Rattle.rules.specs.declared.Reply.TheVariants.{Refused}
use Rattle.rules.specs.Replies.{code_of, moment_of, decides}
use Rattle.rules.specs.Asks.{requests}
use Rattle.rules.specs.Rules.{unless_refused, try_acquire}
use Rattle.rules.specs.Calls.{Call, try, rules, by_key}
use Rattle.rules.proofs.KeyedLaws.{ask_not_refused, request_in_time}
use Rattle.rules.proofs.KindLaws.{OfKind, acquired, retried, impossible}
use Rattle.rules.proofs.CallLaws.{refusal_of, not_refused_is_ruled, refused_is_told, keyed_not_refused, rule_answers_in_kind}
use Rattle.rules.proofs.CallLaws.{by_key_is_the_rule}

-- A reply to a try at a moment.
pub data TryReply (at : Nanos) : Reply → Type 0 where
  decided : {r : Reply} → at.0 ≤ latest_moment → OfKind at decides r → TryReply at r
  refused : (n : ℕ) → TryReply at (Refused n)

pub try_reply : (s : Settings) (at : Nanos) (id : Identity) (cost : ℕ) (ws : List ℕ) → TryReply at (try_acquire s at id cost ws).answer
try_reply s at id cost ws =
    let ask = requests Acquire at cost in
    let c : Call Settings Identity = try s at id cost in
    let same = ap (λ (o : Outcome Reply (List ℕ)). o.answer) (by_key_is_the_rule s id ask ws) in
    by_eq (refusal_of by_key c ws) 0
    (λ none.
    let early = (request_in_time Acquire at (ask_not_refused s id ask ws (keyed_not_refused by_key s id ask ws none).1).1).0 in
    let ruled = ap (λ (o : Outcome Reply (List ℕ)). o.answer) (not_refused_is_ruled by_key c ws none) in
    subst (TryReply at) (sym ruled ∙ same) (decided early (rule_answers_in_kind by_key c ws)))
    (λ some.
    let told = ap (λ (o : Outcome Reply (List ℕ)). o.answer) (refused_is_told by_key c ws some) in
    subst (TryReply at) (sym told ∙ same) (refused (refusal_of by_key c ws)))

in_kind_later : {at : Nanos} {r : Reply} → at.0 ≤ latest_moment → OfKind at decides r → code_of r ≡ 1 → at.0 ≤ moment_of r
in_kind_later early acquired code = absurd (omega arith)
in_kind_later early (retried wait) code = omega arith
in_kind_later early impossible code = absurd (omega arith)

pub denied_later : {at : Nanos} {r : Reply} → TryReply at r → code_of r ≡ 1 → at.0 ≤ moment_of r
denied_later (decided early kind) code = in_kind_later early kind code
denied_later (refused n) code = absurd (omega arith)
