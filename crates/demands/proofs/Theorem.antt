-- The rules meet demand 3, both parts; so does every limiter that meets demand 2.
use Prim.Native.Nat.{ℕ, ◌+◌, ◌*◌, ◌-◌, ◌≤◌}
use mathlib.Core.Path.{◌≡◌, refl, sym, ap, ◌∙◌}
use mathlib.Core.Bool.{true, false}
use mathlib.Core.List.{List, [], ◌∷◌}
use native.Mathlib.Omega.{arith}
use lib.ListN.{replicate}
use Rattle.arith.proofs.Cases.{by_eq}
use Rattle.rows.specs.Outcome.{Outcome, outcome}
use Rattle.bucket.specs.Bucket.{Accepted}
use Rattle.settings.specs.declared.Limit.TheVariants.{Open}
use Rattle.settings.specs.declared.Settings.{Settings}
use Rattle.settings.specs.declared.eviction.WhenFull.TheVariants.{RefuseNew}
use Rattle.settings.specs.declared.rate.Rate.{Rate}
use Rattle.settings.specs.Rate.{burst_of, config_of}
use Rattle.settings.specs.Settings.{settings_refusal, shape_of}
use Rattle.classes.specs.declared.Class.{Class}
use Rattle.settings.proofs.RateLaws.{accepted_rate}
use Rattle.settings.proofs.SettingsLaws.{accepted_parts, neither_refuses}
use Rattle.shard.specs.declared.Identity.{Identity}
use Rattle.store.specs.Refusals.{set_up_refusal}
use Rattle.store.proofs.RefusalLaws.{set_up_not_refused}
use Rattle.rules.specs.declared.Reply.{Reply}
use Rattle.rules.specs.declared.Reply.TheVariants.{Done, Refused}
use Rattle.rules.specs.Asks.{forgets, policy_of}
use Rattle.rules.specs.Rules.{table_set_up_refusal_in, set_up_in, set_up_for}
use Rattle.rules.specs.Widths.{lendable}
use Rattle.rules.specs.Calls.{Call, Terms, rules, Answered, replies, fits, all_fit}
use Rattle.rules.proofs.RefusedLaws.{unless_refused_accepts, unless_refused_refuses}
use Rattle.demands.proofs.EveryLaws.{every_implies}
use Rattle.demands.proofs.WidthLaws.{both_true, NamesFit}
use Rattle.demands.specs.Demands.{SameSettings, TimesNeverFall, NoSharedHash, NeverRefundedOrRemoved, tokens_usable, WithinWindow}
use Rattle.demands.specs.Demands.{table_words, Limiter, set_up_by, settings_by, answering, Demand2, Window, OwnBucket, WithinClassWindows, ClassWindowAdding}
use Rattle.demands.specs.Demands.{Demand3}
use Rattle.demands.proofs.ClassTheorem.{rules_stay_within_class_windows}
use Rattle.demands.proofs.LendableTheorem.{rules_leave_words_lendable, set_up_leaves_words_lendable}
use Rattle.demands.proofs.LineBound.{BoundOf}
use Rattle.demands.proofs.GrantLaws.{within, window_from_bound, window_bound}
use Rattle.demands.proofs.OwnBucket.{rules_decide_by_own_bucket}
use Rattle.demands.proofs.GivenLaws.{happened, happened_within}
use Rattle.demands.proofs.CallSteps.{never_undone_is_as_allowed}
use Rattle.demands.proofs.RunLaws.{AlwaysAsAllowed, bound_holds_from_fresh}
use Rattle.store.specs.Memory.{memory_words}

-- Set-up that is accepted leaves zeros, of the length that the settings ask for.
pub record SetUp (s : Settings) (table ws : List ℕ) : Type 0 where
  pub settings : settings_refusal s ≡ 0
  pub words : (set_up_for s table ws).after ≡ replicate (memory_words s) 0

pub set_up_done : (s : Settings) (table ws : List ℕ) → (set_up_for s table ws).answer ≡ Done → SetUp s table ws
unfolding set_up_in
set_up_done s table ws done' =
    let number : ℕ = table_set_up_refusal_in (shape_of s) s table ws in
    let zeros : Outcome Reply (List ℕ) = outcome Done (replicate (memory_words s) 0) in
    by_eq number 0
    (λ none. record {
      settings = (set_up_not_refused s ws (neither_refuses (set_up_refusal s ws) _ none).0).settings;
      words = ap (λ (o : Outcome Reply (List ℕ)). o.after) (unless_refused_accepts number ws zeros none);
    })
    (λ some.
    let told : Refused number ≡ Done = ap (λ (o : Outcome Reply (List ℕ)). o.answer) (sym (unless_refused_refuses number ws zeros some)) ∙ done' in
    let z : ◌≡◌ {A = ℕ} 0 1 = cc in absurd (omega arith))

-- The window over a list from a fresh memory: the bound of the window holds of the grants to the key, and their sums are the tokens that demand 3 counts.
module _ {S N : Type 0} (terms : Terms S N) (s : Settings) (rate : Rate) (k : Identity) (a : Accepted (config_of rate))
    (never : (policy_of s rate).forget_debt ≡ false) (rated : s.limit ≡ Open rate) (cs : List (Call S N)) where
  abbrev window : BoundOf (config_of rate)
  window = window_bound rate.amount rate.period.0 (burst_of rate)

  abbrev answered : List (Answered S N)
  answered = replies terms (rules terms) cs (replicate (memory_words s) 0) (replicate (memory_words s) 0)

  never_undone : NeverRefundedOrRemoved terms k answered → AlwaysAsAllowed terms window k answered
  never_undone = every_implies _ _ (λ each never' taken. never_undone_is_as_allowed window k terms each.call (never' taken)) answered

  fresh_window : SameSettings terms s answered → TimesNeverFall terms 0 answered → NoSharedHash terms answered → NeverRefundedOrRemoved terms k answered
      → (t u : ℕ) → t ≤ u → tokens_usable terms k t u answered * rate.period.0 ≤ burst_of rate * rate.period.0 + (u - t + 1) * rate.amount
  unfolding within
  fresh_window same rising apart not_undone t u le =
      let grants = bound_holds_from_fresh terms s rate k window a never rated cs same rising apart (never_undone not_undone) in
      let counted : within t u (happened window terms k answered []) ≡ tokens_usable terms k t u answered =
      omega (arith, happened_within terms rate.amount rate.period.0 (burst_of rate) k t u answered []) in
      window_from_bound rate.amount rate.period.0 (burst_of rate) (tokens_usable terms k t u answered) t u le
      (rw counted at (grants.holds.window t u le))

module _ {S N : Type 0} (terms : Terms S N) where
  -- The first part, for settings, calls and words of any numbers.
  pub rules_stay_within_the_window : (s : Settings) (rate : Rate) (table ws : List ℕ) → s.limit ≡ Open rate → s.eviction.when_full ≡ RefuseNew
      → (set_up_for s table ws).answer ≡ Done → (cs : List (Call S N))
      → WithinWindow terms 1 s rate (replies terms (rules terms) cs (set_up_for s table ws).after (set_up_for s table ws).after)
  rules_stay_within_the_window s rate table ws rated refuses done' cs same rising apart k not_undone t u le =
      let up = set_up_done s table ws done' in
      let a : Accepted (config_of rate) = accepted_rate rate (rw rated at (accepted_parts s up.settings).0) in
      rw up.words
      (fresh_window terms s rate k a (ap forgets refuses) rated cs (rw up.words at same) (rw up.words at rising) (rw up.words at apart)
      (rw up.words at not_undone) t u le)

  -- The third part, with nothing added; one moment more allows no less.
  pub rules_keep_the_class_window_exactly : ClassWindowAdding terms 0 (answering terms (rules terms))
  rules_keep_the_class_window_exactly s table ws cs _ _ = rules_stay_within_class_windows terms s table ws cs

  pub within_with_one_more : (s : Settings) (cs : List Class) (answered : List (Answered S N)) → WithinClassWindows terms 0 s cs answered
      → WithinClassWindows terms 1 s cs answered
  within_with_one_more s cs answered exact same tabled rising number d inside t u le = omega (arith, exact same tabled rising number d inside t u le)

  -- Demand 3, whole.
  pub rules_meet_demand3 : Demand3 terms (answering terms (rules terms))
  rules_meet_demand3 = record {
    window = λ table s rate ws _ _ _ rated refuses done' cs _.
        rules_stay_within_the_window (settings_by terms table s) rate (table_words table) ws rated refuses done' cs;
    own_bucket = λ ws cs _ _. rules_decide_by_own_bucket terms ws cs;
    class_window = λ s table ws cs _ _. within_with_one_more s table _ (rules_stay_within_class_windows terms s table ws cs);
  }

-- A limiter that meets demand 2 gets through a list as the rules do: they leave words that can be lent again, where names mean numbers that fit.
module _ {S N : Type 0} (terms : Terms S N) (names : NamesFit terms) (l : Limiter S N) (equal : Demand2 terms l) where
  pub same_replies : (cs : List (Call S N)) (ws rules_words : List ℕ) → all_fit terms cs ≡ true → lendable ws ≡ true
      → replies terms l.answers cs ws rules_words ≡ replies terms (rules terms) cs ws rules_words
  unfolding replies
  same_replies [] ws rules_words = λ fit lent. refl
  same_replies (c ∷ cs) ws rules_words = λ fit lent.
      let both = both_true (fits terms c) (all_fit terms cs) fit in
      let next = rules_leave_words_lendable terms names c ws both.0 lent in
      rw (equal.answers c ws both.0 lent)
      (ap {B = List (Answered S N)} (λ rest. record { call = c; reply = (rules terms c ws).answer; rules_words = rules_words } ∷ rest)
      (same_replies cs (rules terms c ws).after (rules terms c rules_words).after both.1 next))

  -- So it meets demand 3 as well, from the words that its own set_up_lem leaves.
  keeps : Window terms l
  keeps table s rate ws few fit lent rated refuses =
      let settings : Settings = settings_by terms table s in
      let left : List ℕ = (set_up_by terms table s ws).after in
      let fresh = set_up_leaves_words_lendable settings (table_words table) ws lent in
      rw (equal.sets_up_lem table s ws few fit lent)
      (λ done' cs fits.
      rw (same_replies cs left left fits fresh) (rules_stay_within_the_window terms settings rate (table_words table) ws rated refuses done' cs))

  decides : OwnBucket terms l
  decides ws cs lent fits = rw (same_replies cs ws ws fits lent) (rules_decide_by_own_bucket terms ws cs)

  pub demand2_keeps_the_class_window_exactly : ClassWindowAdding terms 0 l
  demand2_keeps_the_class_window_exactly s table ws cs lent fits =
      rw (same_replies cs ws ws fits lent) (rules_stay_within_class_windows terms s table ws cs)

  pub demand2_gives_demand3 : Demand3 terms l
  demand2_gives_demand3 = record {
    window = keeps;
    own_bucket = decides;
    class_window = λ s table ws cs lent fits. within_with_one_more terms s table _ (demand2_keeps_the_class_window_exactly s table ws cs lent fits);
  }
