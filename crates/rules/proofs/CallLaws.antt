-- Every call alike: it is refused by its number and leaves the words as they are, or its rule decides. A rule answers in the kind of its call, and never
-- with a number of a refusal.
use Prim.Native.Nat.{ℕ}
use mathlib.Core.Path.{◌≡◌, refl, sym, ap, ◌∙◌}
use mathlib.Core.Bool.{true, false, not, true≢false}
use mathlib.Core.List.{List}
use lib.ListN.{length}
use Rattle.arith.proofs.Cases.{by_eq}
use Rattle.rows.specs.Outcome.{Outcome, outcome}
use Rattle.units.specs.declared.Nanos.{Nanos}
use Rattle.settings.specs.declared.Settings.{Settings}
use Rattle.settings.specs.Settings.{first_refusal, shape_of}
use Rattle.settings.proofs.SettingsLaws.{neither_refuses}
use Rattle.shard.specs.declared.Identity.{Identity}
use Rattle.store.specs.Memory.{total_of, shard_at, buckets_at}
use Rattle.store.specs.Refusals.{len_refusal}
use Rattle.rules.specs.declared.Reply.{Reply}
use Rattle.rules.specs.declared.Reply.TheVariants.{Count, Refused}
use Rattle.rules.specs.Replies.{numbered}
use Rattle.rules.specs.Asks.{Look, Ask, requests, looks, undoes, passes, in_force, looked_in}
use Rattle.rules.specs.Rules.{unless_refused, ask_refusal, keyed_outcome, keyed_rule_in, keyed_rule, len_in}
use Rattle.rules.specs.Debts.{listed, shard_numbered, debts_refusal_in, debts_in}
use Rattle.rules.specs.Calls.{Call, keyed, whole, Whole, len, debts, Terms, by_key, Answered, clock_after, kind_of, rules, accepted}
use Rattle.rules.proofs.RefusedLaws.{unless_refused_accepts, unless_refused_refuses, first_of_two_refuses}
use Rattle.rules.proofs.KeyedLaws.{ask_not_refused, in_shard_unchanged}
use Rattle.rules.proofs.KindLaws.{OfKind, counted, asks_are_answered_in_kind, in_kind_not_numbered}

-- The moment of a call; 0 for one that names none.
abbrev pub moment_of_call : {S N : Type 0} → Call S N → Nanos
moment_of_call c = record { 0 = clock_after c 0 }

-- A call by key follows the rule of what it asks, by the settings that it goes by.
pub by_key_is_the_rule : (s : Settings) (id : Identity) (ask : Ask) (ws : List ℕ) → rules by_key (keyed s id ask) ws ≡ keyed_rule (in_force ask s) id ask ws
by_key_is_the_rule s id ask ws = unless_refused_accepts 0 ws (keyed_rule (in_force ask s) id ask ws) refl

-- Looks change no word: a look at a key, and one that names no key.
pub data Reads {S N : Type 0} : Call S N → Type 0 where
  looks_at_key : {s : S} {n : N} {l : Look} → Reads (keyed s n (looks l))
  looks_at_all : {s : S} {what : Whole} → Reads (whole s what)

module _ {S N : Type 0} (terms : Terms S N) where
  -- The number by which a call is refused, 0 if it is not.
  abbrev pub refusal_of : Call S N → List ℕ → ℕ
  refusal_of (keyed s n ask) ws = first_refusal (terms.refusal n) (ask_refusal (in_force ask (terms.settings s)) (terms.identity n) ask ws)
  refusal_of (whole s len) ws = len_refusal (terms.settings s) ws
  refusal_of (whole s (debts at i room)) ws = let settings = terms.settings s in debts_refusal_in (shape_of settings) settings at i room ws

  -- What a call gives where it is not refused.
  abbrev pub rule_of : Call S N → List ℕ → Outcome Reply (List ℕ)
  rule_of (keyed s n ask) ws = let settings = in_force ask (terms.settings s) in keyed_outcome (shape_of settings) settings (terms.identity n) ask ws
  rule_of (whole s len) ws = outcome (Count (total_of ws)) ws
  rule_of (whole s (debts at i room)) ws = outcome (Count (length (listed at (shard_numbered (shape_of (terms.settings s)) i ws).ledger))) ws

  rules_are : (c : Call S N) (ws : List ℕ) → rules terms c ws ≡ unless_refused (refusal_of c ws) ws (rule_of c ws)
  unfolding keyed_rule_in len_in debts_in
  rules_are (keyed s n ask) ws =
      first_of_two_refuses (terms.refusal n) (ask_refusal (in_force ask (terms.settings s)) (terms.identity n) ask ws) ws (rule_of (keyed s n ask) ws)
  rules_are (whole s len) ws = refl
  rules_are (whole s (debts at i room)) ws = refl

  pub not_refused_is_ruled : (c : Call S N) (ws : List ℕ) → refusal_of c ws ≡ 0 → rules terms c ws ≡ rule_of c ws
  not_refused_is_ruled c ws none = rules_are c ws ∙ unless_refused_accepts (refusal_of c ws) ws (rule_of c ws) none

  pub refused_is_told : (c : Call S N) (ws : List ℕ) → (refusal_of c ws ≡ 0 → ⊥) → rules terms c ws ≡ outcome (Refused (refusal_of c ws)) ws
  refused_is_told c ws some = rules_are c ws ∙ unless_refused_refuses (refusal_of c ws) ws (rule_of c ws) some

  -- A call on a key that is not refused: neither its name is, nor what it asks.
  pub keyed_not_refused : (s : S) (n : N) (ask : Ask) (ws : List ℕ) → refusal_of (keyed s n ask) ws ≡ 0
      → (terms.refusal n ≡ 0) × (ask_refusal (in_force ask (terms.settings s)) (terms.identity n) ask ws ≡ 0)
  keyed_not_refused s n ask ws none = neither_refuses (terms.refusal n) (ask_refusal (in_force ask (terms.settings s)) (terms.identity n) ask ws) none

  -- Every rule answers in the kind of its call.
  pub rule_answers_in_kind : (c : Call S N) (ws : List ℕ) → OfKind (moment_of_call c) (kind_of c) (rule_of c ws).answer
  rule_answers_in_kind (keyed s n ask) ws =
      let settings = in_force ask (terms.settings s) in
      asks_are_answered_in_kind settings (terms.identity n) ask (buckets_at (shape_of settings) ws) (shard_at settings (terms.identity n).hash ws)
  rule_answers_in_kind (whole s len) ws = counted _
  rule_answers_in_kind (whole s (debts at i room)) ws = counted _

  rule_not_numbered : (c : Call S N) (ws : List ℕ) → numbered (rule_of c ws).answer ≡ false
  rule_not_numbered c ws = in_kind_not_numbered (rule_answers_in_kind c ws)

  -- So a call is refused by number exactly where it has a number.
  pub numbered_is_refused : (c : Call S N) (ws : List ℕ) → numbered (rules terms c ws).answer ≡ true → refusal_of c ws ≡ 0 → ⊥
  numbered_is_refused c ws told none =
      true≢false (sym told ∙ ap (λ (o : Outcome Reply (List ℕ)). numbered o.answer) (not_refused_is_ruled c ws none) ∙ rule_not_numbered c ws)

  pub taken_not_refused : (c : Call S N) (ws : List ℕ) → numbered (rules terms c ws).answer ≡ false → refusal_of c ws ≡ 0
  taken_not_refused c ws taken =
      by_eq (refusal_of c ws) 0 (λ none. none)
      (λ some. absurd (true≢false (sym (ap (λ (o : Outcome Reply (List ℕ)). numbered o.answer) (refused_is_told c ws some)) ∙ taken)))

  -- A call that is refused by number changes no word, whichever call it is.
  pub refused_changes_nothing : (c : Call S N) (ws : List ℕ) → numbered (rules terms c ws).answer ≡ true → (rules terms c ws).after ≡ ws
  refused_changes_nothing c ws told = ap (λ (o : Outcome Reply (List ℕ)). o.after) (refused_is_told c ws (numbered_is_refused c ws told))

  looked_unchanged : (c : Call S N) (ws : List ℕ) → Reads c → refusal_of c ws ≡ 0 → (rule_of c ws).after ≡ ws
  looked_unchanged (keyed s n (looks l)) ws looks_at_key none =
      let settings = terms.settings s in
      let id = terms.identity n in
      let accepted = (ask_not_refused settings id (looks l) ws (keyed_not_refused s n (looks l) ws none).1).0 in
      let reply = looked_in l settings.limit id (shard_at settings id.hash ws) in
      ap (λ (o : Outcome Reply (List ℕ)). o.after) (in_shard_unchanged settings id.hash ws accepted reply)
  looked_unchanged (keyed s n (requests _ _ _)) ws read none = elim read [ ]
  looked_unchanged (keyed s n (undoes _)) ws read none = elim read [ ]
  looked_unchanged (keyed s n (passes _ _ _ _)) ws read none = elim read [ ]
  looked_unchanged (whole s len) ws looks_at_all none = refl
  looked_unchanged (whole s (debts at i room)) ws looks_at_all none = refl

  pub looks_change_nothing : (c : Call S N) (ws : List ℕ) → Reads c → (rules terms c ws).after ≡ ws
  looks_change_nothing c ws reads =
      by_eq (refusal_of c ws) 0
      (λ none. ap (λ (o : Outcome Reply (List ℕ)). o.after) (not_refused_is_ruled c ws none) ∙ looked_unchanged c ws reads none)
      (λ some. ap (λ (o : Outcome Reply (List ℕ)). o.after) (refused_is_told c ws some))

  -- An accepted call has no number of a refusal, and is decided by its rule; one that is not accepted leaves the words as they are.
  pub accepted_not_refused : (a : Answered S N) → accepted terms a ≡ true → refusal_of a.call a.rules_words ≡ 0
  unfolding accepted
  accepted_not_refused a yes' =
      by_eq (refusal_of a.call a.rules_words) 0 (λ none. none)
      (λ some.
      absurd (true≢false (sym yes' ∙ ap (λ (o : Outcome Reply (List ℕ)). not (numbered o.answer)) (refused_is_told a.call a.rules_words some))))

  pub unaccepted_refused : (a : Answered S N) → accepted terms a ≡ false
      → rules terms a.call a.rules_words ≡ outcome (Refused (refusal_of a.call a.rules_words)) a.rules_words
  unfolding accepted
  unaccepted_refused a no' =
      by_eq (refusal_of a.call a.rules_words) 0
      (λ none.
      let ruled = ap (λ (o : Outcome Reply (List ℕ)). not (numbered o.answer)) (not_refused_is_ruled a.call a.rules_words none) in
      absurd (true≢false (ap not (sym (rule_not_numbered a.call a.rules_words)) ∙ sym ruled ∙ no')))
      (λ some. refused_is_told a.call a.rules_words some)
