-- Calls on a key are isolated: the claims of specs/Isolation.antt, of the rules and of every limiter that meets demand 2.
use Prim.Native.Nat.{ℕ}
use mathlib.Core.Path.{◌≡◌, refl, sym, ap, ◌∙◌}
use mathlib.Core.Bool.{cond}
use mathlib.Core.List.{List}
use lib.Dec.{eqb}
use lib.ListN.{length}
use Rattle.arith.proofs.Cases.{by_eq}
use Rattle.rows.specs.Outcome.{Outcome}
use Rattle.settings.specs.declared.Settings.{Settings}
use Rattle.settings.specs.Settings.{first_refusal, settings_refusal, shape_of, cap_of}
use Rattle.shard_map.specs.Model.{Shard}
use Rattle.shard.specs.declared.Identity.{Identity}
use Rattle.store.specs.Memory.{total_of, total_after, memory_words, room_in, shard_at, buckets_at}
use Rattle.store.specs.Refusals.{memory_refusal, count_refusal}
use Rattle.rules.specs.declared.Reply.{Reply}
use Rattle.rules.specs.Asks.{Ask, further_of, in_its_shard, buckets_after}
use Rattle.rules.specs.Rules.{ask_refusal}
use Rattle.rules.specs.Calls.{Call, keyed, Terms, rules, list_debts}
use Rattle.rules.proofs.KeyedLaws.{ask_not_refused}
use Rattle.rules.proofs.DebtLaws.{debts_look_at_one_shard}
use Rattle.rules.proofs.CallLaws.{refusal_of, rule_of, not_refused_is_ruled, refused_is_told, keyed_not_refused}
use Rattle.demands.specs.Demands.{Limiter, Demand2}
use Rattle.demands.specs.Grown.{Grown}
use Rattle.demands.specs.Isolation.{SameShard, SameShardAndTotal, AlikeInShard, settings_in, always, code_can_be_given, Isolated}
use Rattle.demands.proofs.OneShardLaws.{WorksInOneShard, asks_work_in_one_shard}
use Rattle.demands.proofs.GrownLaws.{grown_refusal_is_the_calls_own}

-- What is asked of a key, in the same shard beside the same class buckets.
module _ (s : Settings) (id : Identity) (ask : Ask) (ws vs : List ℕ) (like : SameShard s id.hash ws vs) where
  abbrev asked : List ℕ → Outcome Reply Shard
  asked us = in_its_shard s id ask (buckets_at (shape_of s) us) (shard_at s id.hash us)

  asked_alike : asked ws ≡ asked vs
  asked_alike = λ j. in_its_shard s id ask (like.buckets j) (like.shard j)

  module _ {o q : Outcome Reply (List ℕ)} (first : WorksInOneShard s id.hash ask ws o (asked ws))
      (second : WorksInOneShard s id.hash ask vs q (asked vs)) where
    worked_alike : AlikeInShard s id.hash o q
    worked_alike = record {
      answer = first.answer ∙ ap (λ (r : Outcome Reply Shard). r.answer) asked_alike ∙ sym second.answer;
      after = record {
        shard = first.own id.hash refl ∙ ap (λ (r : Outcome Reply Shard). r.after) asked_alike ∙ sym (second.own id.hash refl);
        buckets = first.buckets ∙ (λ j. buckets_after ask (asked_alike j).answer (like.buckets j)) ∙ sym second.buckets;
      };
    }

    total_moved_alike : total_of ws ≡ total_of vs → total_of o.after ≡ total_of q.after
    total_moved_alike same = first.total ∙ (λ j. total_after (same j) (like.shard j) (asked_alike j).after) ∙ sym second.total

-- A call on a key is refused for the length, the counts of its shard and the total: no other shard is looked at.
ask_refused_alike : (s : Settings) (id : Identity) (ask : Ask) (ws vs : List ℕ) → length ws ≡ length vs → SameShardAndTotal s id.hash ws vs
    → ask_refusal s id ask ws ≡ ask_refusal s id ask vs
unfolding memory_refusal
ask_refused_alike s id ask ws vs size like =
    let counts : ℕ → Shard → ℕ = λ total own. count_refusal (cap_of s) (room_in (shape_of s)) total own in
    λ j. first_refusal
    (first_refusal (first_refusal (settings_refusal s) (cond (eqb (size j) (memory_words s)) 0 5)) (counts (like.total j) (like.own.shard j)))
    (further_of ask)

module _ {S N : Type 0} (terms : Terms S N) where
  -- A call that is not refused works in its shard.
  works : (s : S) (n : N) (ask : Ask) (ws : List ℕ) → refusal_of terms (keyed s n ask) ws ≡ 0 →
      let settings = settings_in terms s ask in
      let id = terms.identity n in
      WorksInOneShard settings id.hash ask ws (rule_of terms (keyed s n ask) ws)
      (in_its_shard settings id ask (buckets_at (shape_of settings) ws) (shard_at settings id.hash ws))
  works s n ask ws none =
      let settings = settings_in terms s ask in
      let id = terms.identity n in
      asks_work_in_one_shard settings id ws (ask_not_refused settings id ask ws (keyed_not_refused terms s n ask ws none).1).0 ask

  pub rules_are_isolated : Isolated terms (always terms) (rules terms)
  rules_are_isolated = record {
    by_total = λ s n ask ws vs _ _ size like.
        let settings = settings_in terms s ask in
        let id = terms.identity n in
        let c : Call S N = keyed s n ask in
        let same : refusal_of terms c ws ≡ refusal_of terms c vs =
        ap (first_refusal (terms.refusal n)) (ask_refused_alike settings id ask ws vs size like) in
        by_eq (refusal_of terms c vs) 0
        (λ none.
        let first = works s n ask ws (same ∙ none) in
        let second = works s n ask vs none in
        let alike = worked_alike settings id ask ws vs like.own first second in
        rw (not_refused_is_ruled terms c ws (same ∙ none), not_refused_is_ruled terms c vs none)
        (record {
          answer = alike.answer;
          after = record { own = alike.after; total = total_moved_alike settings id ask ws vs like.own first second like.total };
        }))
        (λ some. rw (refused_is_told terms c ws (λ none. some (sym same ∙ none)), refused_is_told terms c vs some, same)
        (record { answer = refl; after = like }));
    when_grown = λ s n ask ws vs _ _ grown grown_too like.
        let settings = settings_in terms s ask in
        let id = terms.identity n in
        let c : Call S N = keyed s n ask in
        let same : refusal_of terms c ws ≡ refusal_of terms c vs =
        grown_refusal_is_the_calls_own terms grown c refl ∙ sym (grown_refusal_is_the_calls_own terms grown_too c refl) in
        by_eq (refusal_of terms c vs) 0
        (λ none. rw (not_refused_is_ruled terms c ws (same ∙ none), not_refused_is_ruled terms c vs none)
        (worked_alike settings id ask ws vs like (works s n ask ws (same ∙ none)) (works s n ask vs none)))
        (λ some. rw (refused_is_told terms c ws (λ none. some (sym same ∙ none)), refused_is_told terms c vs some, same)
        (record { answer = refl; after = like }));
    lists = λ s at i room ws vs _ _ size same.
        let settings = terms.settings s in
        debts_look_at_one_shard (shape_of settings) settings at i ws vs size same room;
  }

  -- So is every limiter that meets demand 2.
  pub limiters_are_isolated : (l : Limiter S N) → Demand2 terms l → Isolated terms (code_can_be_given terms) l.answers
  limiters_are_isolated l equal = record {
    by_total = λ s n ask ws vs made made_too size like.
        rw (equal.answers (keyed s n ask) ws made.0 made.1, equal.answers (keyed s n ask) vs made_too.0 made_too.1)
        (rules_are_isolated.by_total s n ask ws vs tt tt size like);
    when_grown = λ s n ask ws vs made made_too grown grown_too like.
        rw (equal.answers (keyed s n ask) ws made.0 made.1, equal.answers (keyed s n ask) vs made_too.0 made_too.1)
        (rules_are_isolated.when_grown s n ask ws vs tt tt grown grown_too like);
    lists = λ s at i room ws vs made made_too size same.
        rw (equal.answers (list_debts s at i room) ws made.0 made.1, equal.answers (list_debts s at i room) vs made_too.0 made_too.1)
        (rules_are_isolated.lists s at i room ws vs tt tt size same);
  }
