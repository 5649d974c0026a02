-- The window of a class over lists of calls, of the rules: the accepted tries through a class are a list of passings on the class buckets, and no other call
-- touches these.
use Prim.Native.Nat.{ℕ, ◌+◌, ◌*◌, ◌-◌, ◌≤◌, ◌<◌}
use mathlib.Core.Path.{◌≡◌, refl, sym, ap, ◌∙◌}
use mathlib.Core.Bool.{Bool, true, false, not, cond, true≢false}
use mathlib.Core.List.{List, [], ◌∷◌}
use native.Mathlib.Omega.{arith}
use native.Mathlib.Nat.{le_trans}
use lib.Dec.{leb, eqb}
use lib.ListN.{length}
use borrow.Author.Tests.{le-leb, eq-eqb, eqb-true}
use Rattle.arith.proofs.Cases.{by_test, by_eq}
use Rattle.rows.specs.Outcome.{Outcome}
use Rattle.units.specs.declared.Nanos.{Nanos}
use Rattle.bucket.specs.declared.BucketCore.{BucketCore}
use Rattle.settings.specs.declared.Settings.{Settings}
use Rattle.settings.specs.declared.decision.Decision.TheVariants.{Acquired, Retry, Impossible}
use Rattle.settings.specs.Settings.{shape_of}
use Rattle.settings.proofs.SettingsLaws.{neither_refuses}
use Rattle.classes.specs.declared.Class.{Class}
use Rattle.classes.specs.Classes.{class_at, table_refusal}
use Rattle.classes.specs.Chains.{among, least_burst, chain_wait}
use Rattle.classes.specs.Layout.{classes_in}
use Rattle.shard.specs.declared.Identity.{Identity}
use Rattle.store.specs.Memory.{memory_words, shard_at, buckets_at}
use Rattle.store.specs.Refusals.{set_up_refusal}
use Rattle.store.proofs.RefusalLaws.{set_up_not_refused}
use Rattle.store.proofs.ClassLaws.{buckets_at_length}
use Rattle.rules.specs.declared.Reply.{Reply}
use Rattle.rules.specs.declared.Reply.TheVariants.{Tried, Reserved, Nothing, Done, Count, Refused}
use Rattle.rules.specs.Replies.{of_grant}
use Rattle.rules.specs.Asks as Asks
use Rattle.rules.specs.Asks.{Ask, requests, looks, undoes, passes, in_force, in_its_shard, passed_in, grants_some, clock_after_ask}
use Rattle.rules.specs.Calls.{Call, keyed, whole, len, debts, clock_after_whole, Terms, rules, settings_of, Answered, replies, accepted, clock_after}
use Rattle.rules.proofs.KeyedLaws.{ask_not_refused, pass_in_time}
use Rattle.rules.proofs.PassLaws.{granted_pass}
use Rattle.rules.proofs.CallLaws.{refusal_of, rule_of, not_refused_is_ruled, keyed_not_refused, looks_at_all, looks_change_nothing}
use Rattle.rules.proofs.CallLaws.{accepted_not_refused, unaccepted_refused}
use Rattle.demands.specs.Demands.{through, ask_tokens_through, OfTable, CallOfTable, tokens_through_of, tokens_through, SameSettings, SameTable, clock}
use Rattle.demands.specs.Demands.{TimesNeverFall, WithinClassWindows}
use Rattle.demands.specs.Passings as Passings
use Rattle.demands.specs.Passings.{Passing, lets_pass, by_the_rules, tokens_passed, InOrder}
use Rattle.demands.proofs.OneShardLaws.{WorksInOneShard, asks_work_in_one_shard}
use Rattle.demands.proofs.OwnBucket.{ruled}
use Rattle.demands.proofs.PassingLaws.{class_window_exact}

-- What a reply grants of some tokens: all of them where it grants at least one, if no cost is no token.
granted_tokens : (tokens cost : ℕ) → (cost ≡ 0 → tokens ≡ 0) → (reply : Reply) → of_grant (λ wait. tokens) 0 reply ≡ cond (grants_some cost reply) tokens 0
granted_tokens tokens cost none (Tried (Acquired due)) =
    by_test (eqb cost 0) (λ zero. rw zero (none (eqb-true cost 0 zero))) (λ some. rw some)
granted_tokens tokens cost none (Tried (Retry due)) = refl
granted_tokens tokens cost none (Tried Impossible) = refl
granted_tokens tokens cost none (Reserved due) =
    by_test (eqb cost 0) (λ zero. rw zero (none (eqb-true cost 0 zero))) (λ some. rw some)
granted_tokens tokens cost none Nothing = refl
granted_tokens tokens cost none Done = refl
granted_tokens tokens cost none (Count n) = refl
granted_tokens tokens cost none (Refused n) = refl

through_none : (cs : List Class) (d t u class moment cost : ℕ) → cost ≡ 0 → through cs d t u class moment cost ≡ 0
unfolding through
through_none cs d t u class moment cost none =
    by_test (among d (Asks.chain_of cs class))
    (λ on. by_test (leb t moment) (λ from. by_test (leb moment u) (λ to. rw (on, from, to) none) (λ past. rw (on, from, past))) (λ before. rw (on, before)))
    (λ off. rw off)

-- An earlier first moment.
in_order_from : (n m : ℕ) (ps : List Passing) → n ≤ m → InOrder m ps → InOrder n ps
unfolding InOrder
in_order_from n m [] earlier order = tt
in_order_from n m (p ∷ ps) earlier order = (le_trans earlier order.0, order.1)

module _ {S N : Type 0} (terms : Terms S N) (s : Settings) (cs : List Class) where
  -- An accepted call of the settings found memory of the right length.
  set_up_size : (s' : S) (ws : List ℕ) → terms.settings s' ≡ s → set_up_refusal (terms.settings s') ws ≡ 0 → length ws ≡ memory_words s
  set_up_size s' ws same none = (set_up_not_refused (terms.settings s') ws none).size ∙ ap memory_words same

  accepted_size : (c : Call S N) (ws : List ℕ) → settings_of terms c ≡ s → refusal_of terms c ws ≡ 0 → length ws ≡ memory_words s
  accepted_size (keyed s' n ask) ws same none =
      let settings = in_force ask (terms.settings s') in
      (ask_not_refused settings (terms.identity n) ask ws (keyed_not_refused terms s' n ask ws none).1).0.set_up_lem.size ∙ ap memory_words same
  accepted_size (whole s' len) ws same none = set_up_size s' ws same (neither_refuses (set_up_refusal (terms.settings s') ws) _ none).0
  accepted_size (whole s' (debts at i room)) ws same none = set_up_size s' ws same (neither_refuses (set_up_refusal (terms.settings s') ws) _ none).0

  -- A call that is refused by number passes nothing.
  refused_passes_nothing : (d t u : ℕ) (c : Call S N) (n : ℕ) → tokens_through_of terms cs d t u c (Refused n) ≡ 0
  refused_passes_nothing d t u (keyed s' name (requests r at cost)) n = refl
  refused_passes_nothing d t u (keyed s' name (looks l)) n = refl
  refused_passes_nothing d t u (keyed s' name (undoes undo)) n = refl
  refused_passes_nothing d t u (keyed s' name (passes table class at cost)) n = refl
  refused_passes_nothing d t u (whole s' what) n = refl

  -- What an accepted call is to the classes: a passing, or nothing.
  abbrev call_passing : Call S N → Reply → List Passing → List Passing
  call_passing (keyed s' n (requests r at cost)) reply rest = rest
  call_passing (keyed s' n (looks l)) reply rest = rest
  call_passing (keyed s' n (undoes u)) reply rest = rest
  call_passing (keyed s' n (passes table class at cost)) reply rest =
      record { at = at; class = class; cost = cost; granted = grants_some cost reply } ∷ rest
  call_passing (whole s' what) reply rest = rest

  unfoldable passings_of : List (Call S N) → List ℕ → List Passing
  passings_of [] ws = []
  passings_of (c ∷ calls) ws =
      let rest = passings_of calls (rules terms c ws).after in
      cond (accepted terms (ruled terms c ws)) (call_passing c (rules terms c ws).answer rest) rest

  -- Their moments never fall where those of the calls do not.
  call_in_order : (c : Call S N) (reply : Reply) (n : ℕ) (rest : List Passing) → n ≤ clock_after c n → InOrder (clock_after c n) rest
      → InOrder n (call_passing c reply rest)
  unfolding InOrder
  call_in_order (keyed s' name (requests r at cost)) reply n rest later order = in_order_from n at.0 rest later order
  call_in_order (keyed s' name (looks l)) reply n rest later order = in_order_from n (Asks.clock_after_look l n) rest later order
  call_in_order (keyed s' name (undoes u)) reply n rest later order = order
  call_in_order (keyed s' name (passes table class at cost)) reply n rest later order = (later, order)
  call_in_order (whole s' what) reply n rest later order = in_order_from n (clock_after_whole what n) rest later order

  passings_in_order : (calls : List (Call S N)) (ws : List ℕ) (n : ℕ) → TimesNeverFall terms n (replies terms (rules terms) calls ws ws)
      → InOrder n (passings_of calls ws)
  unfolding replies TimesNeverFall passings_of InOrder
  passings_in_order [] ws n rising = tt
  passings_in_order (c ∷ calls) ws n rising =
      let rest = passings_in_order calls (rules terms c ws).after (clock terms n (ruled terms c ws)) rising.1 in
      by_test (accepted terms (ruled terms c ws))
      (λ taken. rw taken (call_in_order c (rules terms c ws).answer n _ (rw taken at rising.0) (rw taken at rest)))
      (λ refused. rw refused (rw refused at rest))

  -- A try through a class that is not refused is such a passing: it passes just where its reply grants tokens.
  module _ (id : Identity) (class : ℕ) (at : Nanos) (cost : ℕ) (ws : List ℕ) where
    abbrev buckets : List BucketCore
    buckets = buckets_at (shape_of s) ws

    abbrev told : Reply
    told = (passed_in s id cs class at cost buckets (shard_at s id.hash ws)).answer

    abbrev passing : Passing
    passing = record { at = at; class = class; cost = cost; granted = grants_some cost told }

    lets_granted_pass : lets_pass cs buckets passing ≡ grants_some cost told
    unfolding lets_pass
    lets_granted_pass =
        by_test (grants_some cost told)
        (λ grants.
        let pass = granted_pass s id cs class at cost buckets (shard_at s id.hash ws) grants in
        rw (
          grants,
          le-leb 1 cost pass.some,
          le-leb cost (least_burst cs (Asks.chain_of cs class)) pass.within,
          eq-eqb (chain_wait cs cost at buckets (Asks.chain_of cs class)) 0 pass.at_once,
        ))
        (λ denied. rw denied)

    passing_tokens : (d t u : ℕ) → tokens_passed cs (by_the_rules cs) d t u buckets passing ≡ of_grant (λ wait. through cs d t u class at.0 cost) 0 told
    unfolding tokens_passed through
    passing_tokens d t u =
        rw lets_granted_pass
        (sym (granted_tokens (through cs d t u class at.0 cost) cost (through_none cs d t u class at.0 cost) told))

    passing_leaves : Passings.buckets_after cs buckets passing ≡ cond (grants_some cost told) (Passings.charged_for cs passing buckets) buckets
    unfolding Passings.buckets_after
    passing_leaves = rw lets_granted_pass

  -- A call on a key of these settings that is not refused works in one shard and leaves the class buckets of its ask.
  ruled_works : (s' : S) (n : N) (ask : Ask) (ws : List ℕ) → settings_of terms (keyed s' n ask) ≡ s → refusal_of terms (keyed s' n ask) ws ≡ 0 →
      let id = terms.identity n in
      WorksInOneShard s id.hash ask ws (rules terms (keyed s' n ask) ws) (in_its_shard s id ask (buckets_at (shape_of s) ws) (shard_at s id.hash ws))
  ruled_works s' n ask ws same none =
      let id = terms.identity n in
      let asked = (ask_not_refused (in_force ask (terms.settings s')) id ask ws (keyed_not_refused terms s' n ask ws none).1).0 in
      rw (not_refused_is_ruled terms (keyed s' n ask) ws none, same) (asks_work_in_one_shard s id ws (rw same at asked) ask)

  -- What an accepted call passes, and what the passings after it pass on the class buckets that it leaves, is what its passing and those after it pass.
  module _ (d t u : ℕ) where
    abbrev passed : List ℕ → List Passing → ℕ
    passed ws ps = Passings.tokens_through cs (by_the_rules cs) d t u (buckets_at (shape_of s) ws) ps

    abbrev Counts : Call S N → List ℕ → Type 0
    Counts c ws =
        (rest : List Passing)
        → tokens_through_of terms cs d t u c (rules terms c ws).answer + passed (rules terms c ws).after rest
        ≡ passed ws (call_passing c (rules terms c ws).answer rest)

    -- Where the class buckets stay, nothing passes.
    kept_counts : (ws vs : List ℕ) → buckets_at (shape_of s) vs ≡ buckets_at (shape_of s) ws → (rest : List Passing) → 0 + passed vs rest ≡ passed ws rest
    kept_counts ws vs same rest = rw same (omega arith)

    pass_counts : (s' : S) (n : N) (table : List ℕ) (class : ℕ) (at : Nanos) (cost : ℕ) (ws : List ℕ) →
        let c = keyed s' n (passes table class at cost) in
        settings_of terms c ≡ s → refusal_of terms c ws ≡ 0 → classes_in table ≡ cs → Counts c ws
    unfolding Passings.tokens_through
    pass_counts s' n table class at cost ws same none own rest =
        let id = terms.identity n in
        let works = ruled_works s' n (passes table class at cost) ws same none in
        let answer : (rules terms (keyed s' n (passes table class at cost)) ws).answer ≡ told id class at cost ws = rw own at works.answer in
        let left = (rw own at works.buckets) ∙ sym (passing_leaves id class at cost ws) in
        rw (answer, left, passing_tokens id class at cost ws d t u)

    call_counts : (c : Call S N) (ws : List ℕ) → settings_of terms c ≡ s → refusal_of terms c ws ≡ 0 → CallOfTable terms (λ own. own ≡ cs) c → Counts c ws
    call_counts (keyed s' n (requests r at cost)) ws same none own = kept_counts ws _ (ruled_works s' n (requests r at cost) ws same none).buckets
    call_counts (keyed s' n (looks l)) ws same none own = kept_counts ws _ (ruled_works s' n (looks l) ws same none).buckets
    call_counts (keyed s' n (undoes undo)) ws same none own = kept_counts ws _ (ruled_works s' n (undoes undo) ws same none).buckets
    call_counts (keyed s' n (passes table class at cost)) ws same none own = pass_counts s' n table class at cost ws same none own
    call_counts (whole s' what) ws same none own =
        kept_counts ws _ (ap (buckets_at (shape_of s)) (looks_change_nothing terms (whole s' what) ws looks_at_all))

    -- So what a list of calls passes is what its passings pass.
    calls_count : (calls : List (Call S N)) (ws : List ℕ) → SameSettings terms s (replies terms (rules terms) calls ws ws)
        → SameTable terms cs (replies terms (rules terms) calls ws ws)
        → tokens_through terms cs d t u (replies terms (rules terms) calls ws ws) ≡ passed ws (passings_of calls ws)
    unfolding replies tokens_through passings_of Passings.tokens_through
    calls_count [] ws same tabled = refl
    calls_count (c ∷ calls) ws same tabled =
        let after : List ℕ = (rules terms c ws).after in
        let rest = calls_count calls after same.1 tabled.1 in
        by_test (accepted terms (ruled terms c ws))
        (λ taken.
        let none = accepted_not_refused terms (ruled terms c ws) taken in
        rw (taken, rest) (call_counts c ws (same.0 taken) none (tabled.0 taken) (passings_of calls after)))
        (λ refused.
        let told' = unaccepted_refused terms (ruled terms c ws) refused in
        rw (refused, rest, told', refused_passes_nothing d t u c (refusal_of terms c ws)) (omega arith))

    -- Where the memory has another length or the table is refused, no try through a class is accepted, and it stays so.
    abbrev Blocked : List ℕ → Type 0
    Blocked ws = length ws ≡ memory_words s → table_refusal cs ≡ 0 → ⊥

    blocked_call_passes_nothing : (c : Call S N) (ws : List ℕ) → settings_of terms c ≡ s → refusal_of terms c ws ≡ 0
        → CallOfTable terms (λ own. own ≡ cs) c → Blocked ws → tokens_through_of terms cs d t u c (rules terms c ws).answer ≡ 0
    blocked_call_passes_nothing (keyed s' n (requests r at cost)) ws same none own blocked = refl
    blocked_call_passes_nothing (keyed s' n (looks l)) ws same none own blocked = refl
    blocked_call_passes_nothing (keyed s' n (undoes undo)) ws same none own blocked = refl
    blocked_call_passes_nothing (keyed s' n (passes table class at cost)) ws same none own blocked =
        let ask : Ask = passes table class at cost in
        let asked = ask_not_refused (in_force ask (terms.settings s')) (terms.identity n) ask ws (keyed_not_refused terms s' n ask ws none).1 in
        absurd (blocked (accepted_size (keyed s' n ask) ws same none) (rw own at (pass_in_time (classes_in table) class at asked.1).accepted))
    blocked_call_passes_nothing (whole s' what) ws same none own blocked = refl

    blocked_passes_nothing : (calls : List (Call S N)) (ws : List ℕ) → SameSettings terms s (replies terms (rules terms) calls ws ws)
        → SameTable terms cs (replies terms (rules terms) calls ws ws) → Blocked ws
        → tokens_through terms cs d t u (replies terms (rules terms) calls ws ws) ≡ 0
    unfolding replies tokens_through
    blocked_passes_nothing [] ws same tabled blocked = refl
    blocked_passes_nothing (c ∷ calls) ws same tabled blocked =
        let after : List ℕ = (rules terms c ws).after in
        by_test (accepted terms (ruled terms c ws))
        (λ taken.
        let none = accepted_not_refused terms (ruled terms c ws) taken in
        let first = blocked_call_passes_nothing c ws (same.0 taken) none (tabled.0 taken) blocked in
        let rest = blocked_passes_nothing calls after same.1 tabled.1 (λ size sound. blocked (accepted_size c ws (same.0 taken) none) sound) in
        omega (arith, first, rest))
        (λ refused.
        let told' = unaccepted_refused terms (ruled terms c ws) refused in
        let unchanged : after ≡ ws = ap (λ (o : Outcome Reply (List ℕ)). o.after) told' in
        let first : tokens_through_of terms cs d t u c (rules terms c ws).answer ≡ 0 = rw told' (refused_passes_nothing d t u c (refusal_of terms c ws)) in
        let rest = blocked_passes_nothing calls after same.1 tabled.1 (rw unchanged blocked) in
        omega (arith, first, rest))

  -- The window of every class, with nothing added.
  pub rules_stay_within_class_windows : (ws : List ℕ) (calls : List (Call S N))
      → WithinClassWindows terms 0 s cs (replies terms (rules terms) calls ws ws)
  rules_stay_within_class_windows ws calls same tabled rising number d inside t u le =
      by_eq (length ws) (memory_words s)
      (λ size.
      by_eq (table_refusal cs) 0
      (λ sound.
      rw (calls_count d t u calls ws same tabled)
      (class_window_exact cs d (buckets_at (shape_of s) ws) 0 (passings_of calls ws) sound inside (buckets_at_length s ws size ∙ number)
      (passings_in_order calls ws 0 rising) t u le))
      (λ unsound. rw (blocked_passes_nothing d t u calls ws same tabled (λ _ sound. unsound sound)) (omega arith)))
      (λ other. rw (blocked_passes_nothing d t u calls ws same tabled (λ size _. other size)) (omega arith))
