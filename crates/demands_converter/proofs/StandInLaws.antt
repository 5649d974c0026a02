-- A list of answered calls that stands in for another in the windows: a window asks no more of it, and counts the same of it. A call that is refused can be
-- left out, and so can a look at a count. The words in which the rules decided may be others, if the rules decide alike in them.
use Prim.Native.Nat.{ℕ, ◌+◌, ◌-◌}
use native.Mathlib.Omega.{arith}
use mathlib.Core.Path.{◌≡◌, refl, sym, ap, ◌∙◌}
use mathlib.Core.Bool.{Bool, true, false, cond, not, true≢false, ◌&&◌}
use mathlib.Core.List.{List, [], ◌∷◌, ◌++◌}
use lib.Dec.{leb}
use Rattle.rows.specs.Outcome.{Outcome}
use Rattle.units.specs.declared.Nanos.{Nanos}
use Rattle.settings.specs.declared.Settings.{Settings}
use Rattle.settings.specs.declared.rate.Rate.{Rate}
use Rattle.shard.specs.declared.Identity.{Identity}
use Rattle.rules.specs.declared.Reply.{Reply}
use Rattle.rules.specs.declared.Reply.TheVariants.{Refused}
use Rattle.rules.specs.Replies.{numbered, of_grant}
use Rattle.rules.specs.Asks.{Ask, Manner, requests, looks, undoes, passes, peeks, tokens, turn_aways, refunds, removes}
use Rattle.rules.specs.Calls.{Call, keyed, whole, Terms, Answered, rules, accepted, clock_after, Every}
use Rattle.rules.proofs.CallLaws.{refusal_of, refused_is_told, numbered_is_refused, looks_change_nothing, looks_at_key}
use Rattle.demands.specs.Demands.{SameSettings, clock, TimesNeverFall, Agree, NoSharedHash, NeverRefundedOrRemoved, usable_from, tokens_of, tokens_usable}
use Rattle.demands.specs.Demands.{WithinWindow}
use Rattle.demands.specs.Refunds.{Counting, tokens_counted, if_between, refunded_between, of_named, of_request, of_own, in_span, reserves_it, removes_it}
use Rattle.demands.specs.Refunds.{called_of}
use Rattle.demands.specs.Refunds.{spanned_of, refunded_of, named}
use Rattle.demands.specs.Refunds.{FairTo, WithinRefunds, WithinRefundWindow, WithinSpanWindow}
use Rattle.demands.specs.TurnAways.{call_reads_turn_aways}
use Rattle.demands.proofs.EveryLaws.{every_implies}

-- A call as it was answered, in some words of the rules.
abbrev pub answered_in : {S N : Type 0} → Call S N → Reply → List ℕ → Answered S N
answered_in c reply ws = record { call = c; reply = reply; rules_words = ws }

-- What a window counts of an answered call: it is the same in all words, and 0 of a refusal and of a look at a count.
pub record Counts {S N : Type 0} (count : Counting S N) : Type 0 where
  pub words : (c : Call S N) (reply : Reply) (x y : List ℕ) → count (answered_in c reply x) ≡ count (answered_in c reply y)
  pub refused : (c : Call S N) (n : ℕ) (ws : List ℕ) → count (answered_in c (Refused n) ws) ≡ 0
  pub looked : (c : Call S N) (reply : Reply) (ws : List ℕ) → call_reads_turn_aways c ≡ true → count (answered_in c reply ws) ≡ 0

module _ {S N : Type 0} (terms : Terms S N) where
  -- No accepted call asks what a test finds.
  abbrev NoneAsks : (N → Ask → Bool) → List (Answered S N) → Type 0
  NoneAsks f = Every (λ a. accepted terms a ≡ true → of_named f false a.call ≡ false)

  -- The second list stands in for the first: what is asked of all accepted calls, that their moments do not fall, that hashes are not shared, and the counts.
  pub record StandsIn (xs ys : List (Answered S N)) : Type 0 where
    pub settings : (s : Settings) → SameSettings terms s xs → SameSettings terms s ys
    pub undone : (k : Identity) → NeverRefundedOrRemoved terms k xs → NeverRefundedOrRemoved terms k ys
    pub unasked : (f : N → Ask → Bool) → NoneAsks f xs → NoneAsks f ys
    pub times : (before : ℕ) → TimesNeverFall terms before xs → TimesNeverFall terms before ys
    pub agrees : (a : Answered S N) → Every (Agree terms a) xs → Every (Agree terms a) ys
    pub hashes : NoSharedHash terms xs → NoSharedHash terms ys
    pub counted : (count : Counting S N) → Counts count → tokens_counted count xs ≡ tokens_counted count ys
    pub between : (refunded granted : Counting S N) → Counts refunded → Counts granted → (before : ℕ)
        → refunded_between refunded granted before xs ≡ refunded_between refunded granted before ys

  pub stands_in_for_itself : (xs : List (Answered S N)) → StandsIn xs xs
  stands_in_for_itself xs = record {
    settings = λ s all. all;
    undone = λ k all. all;
    unasked = λ f all. all;
    times = λ before all. all;
    agrees = λ a all. all;
    hashes = λ all. all;
    counted = λ count counts. refl;
    between = λ refunded granted r g before. refl;
  }

  -- One more call in front of both, accepted alike.
  module _ (c : Call S N) (reply : Reply) (x y : List ℕ) (alike : accepted terms (answered_in c reply x) ≡ accepted terms (answered_in c reply y))
      (xs ys : List (Answered S N)) (for : StandsIn xs ys) where
    abbrev one : Answered S N
    one = answered_in c reply x

    abbrev two : Answered S N
    two = answered_in c reply y

    same_clock : (before : ℕ) → clock terms before one ≡ clock terms before two
    same_clock before = ap (λ taken. cond taken (clock_after c before) before) alike

    pub one_more_stands_in : StandsIn (one ∷ xs) (two ∷ ys)
    unfolding TimesNeverFall NoSharedHash tokens_counted refunded_between
    one_more_stands_in = record {
      settings = λ s all. ((λ taken. all.0 (alike ∙ taken)), for.settings s all.1);
      undone = λ k all. ((λ taken. all.0 (alike ∙ taken)), for.undone k all.1);
      unasked = λ f all. ((λ taken. all.0 (alike ∙ taken)), for.unasked f all.1);
      times = λ before all. (rw (same_clock before) at all.0, for.times _ (rw (same_clock before) at all.1));
      agrees = λ a all. ((λ taken other. all.0 taken (alike ∙ other)), for.agrees a all.1);
      hashes = λ all. (
        every_implies (Agree terms one) (Agree terms two) (λ b agree taken other. agree (alike ∙ taken) other) ys (for.agrees one all.0),
        for.hashes all.1,
      );
      counted = λ count counts. rw (counts.words c reply x y, for.counted count counts);
      between = λ refunded granted r g before.
          rw (r.words c reply x y, g.words c reply x y, for.counted granted g, for.between refunded granted r g (granted two + before));
    }

  -- A call that does not move the clock and of which nothing is counted.
  pub record Mute (a : Answered S N) : Type 0 where
    pub same_moment : (before : ℕ) → clock terms before a ≡ before
    pub uncounted : (count : Counting S N) → Counts count → count a ≡ 0

  -- Nothing is refunded between where nothing is refunded.
  none_between : (before after : ℕ) → if_between before after 0 ≡ 0
  unfolding if_between
  none_between before after = both_ways (leb 1 before) (leb 1 after)
    where
      both_ways : (b d : Bool) → ◌≡◌ {A = ℕ} (cond b (cond d 0 0) 0) 0
      both_ways true true = refl
      both_ways true false = refl
      both_ways false d = refl

  none_added : (n : ℕ) → 0 + n ≡ n
  none_added n = omega arith

  -- It can be left out.
  pub without_a_mute : (a : Answered S N) (xs ys : List (Answered S N)) → Mute a → StandsIn xs ys → StandsIn (a ∷ xs) ys
  unfolding TimesNeverFall NoSharedHash tokens_counted refunded_between
  without_a_mute a xs ys mute for = record {
    settings = λ s all. for.settings s all.1;
    undone = λ k all. for.undone k all.1;
    unasked = λ f all. for.unasked f all.1;
    times = λ before all. for.times before (rw (mute.same_moment before) at all.1);
    agrees = λ b all. for.agrees b all.1;
    hashes = λ all. for.hashes all.1;
    counted = λ count counts. omega (arith, mute.uncounted count counts, for.counted count counts);
    between = λ refunded granted r g before.
        rw (mute.uncounted refunded r, mute.uncounted granted g, none_between before (tokens_counted granted xs), none_added before)
        (none_added _ ∙ for.between refunded granted r g before);
  }

  -- A call that the rules refuse by number is one.
  pub refused_is_mute : (c : Call S N) (ws : List ℕ) → numbered (rules terms c ws).answer ≡ true → Mute (answered_in c (rules terms c ws).answer ws)
  unfolding accepted
  refused_is_mute c ws refused =
      let told = ap (λ (o : Outcome Reply (List ℕ)). o.answer) (refused_is_told terms c ws (numbered_is_refused terms c ws refused)) in
      record {
        same_moment = λ before. ap (λ taken. cond (not taken) (clock_after c before) before) refused;
        uncounted = λ count counts. ap (λ r. count (answered_in c r ws)) told ∙ counts.refused c (refusal_of terms c ws) ws;
      }

  same_either_way : (b : Bool) (n : ℕ) → cond b n n ≡ n
  same_either_way true n = refl
  same_either_way false n = refl

  -- A look at a count is one, and changes no word.
  clock_stays : (c : Call S N) (taken : Bool) (before : ℕ) → call_reads_turn_aways c ≡ true → cond taken (clock_after c before) before ≡ before
  clock_stays (keyed s n (looks turn_aways)) taken before reads = same_either_way taken before
  clock_stays (keyed s n (looks (peeks at cost))) taken before reads = absurd (true≢false (sym reads))
  clock_stays (keyed s n (looks (tokens at))) taken before reads = absurd (true≢false (sym reads))
  clock_stays (keyed s n (requests r at cost)) taken before reads = absurd (true≢false (sym reads))
  clock_stays (keyed s n (undoes u)) taken before reads = absurd (true≢false (sym reads))
  clock_stays (keyed s n (passes table class at cost)) taken before reads = absurd (true≢false (sym reads))
  clock_stays (whole s what) taken before reads = absurd (true≢false (sym reads))

  pub look_is_mute : (c : Call S N) (reply : Reply) (ws : List ℕ) → call_reads_turn_aways c ≡ true → Mute (answered_in c reply ws)
  look_is_mute c reply ws reads = record {
    same_moment = λ before. clock_stays c (accepted terms (answered_in c reply ws)) before reads;
    uncounted = λ count counts. counts.looked c reply ws reads;
  }

  pub look_changes_nothing : (c : Call S N) (ws : List ℕ) → call_reads_turn_aways c ≡ true → (rules terms c ws).after ≡ ws
  look_changes_nothing (keyed s n (looks l)) ws reads = looks_change_nothing terms (keyed s n (looks l)) ws looks_at_key
  look_changes_nothing (keyed s n (requests r at cost)) ws reads = absurd (true≢false (sym reads))
  look_changes_nothing (keyed s n (undoes u)) ws reads = absurd (true≢false (sym reads))
  look_changes_nothing (keyed s n (passes table class at cost)) ws reads = absurd (true≢false (sym reads))
  look_changes_nothing (whole s what) ws reads = absurd (true≢false (sym reads))

  -- The same calls in front of two lists.
  pub led_by_the_same : (first xs ys : List (Answered S N)) → StandsIn xs ys → StandsIn (first ++ xs) (first ++ ys)
  led_by_the_same [] xs ys for = for
  led_by_the_same (a ∷ first) xs ys for =
      one_more_stands_in a.call a.reply a.rules_words a.rules_words refl (first ++ xs) (first ++ ys) (led_by_the_same first xs ys for)

-- The counts of the windows are such. A call is a request, a look, an undoing or a try through a class, or it names no key.
module _ {S N : Type 0} (terms : Terms S N) (k : Identity) (t u : ℕ) where
  abbrev usable_of : Counting S N
  usable_of a = tokens_of terms k t u a.call a.reply

  usable_counts : Counts usable_of
  usable_counts = record {
    words = λ c reply x y. refl;
    refused = nothing;
    looked = λ c reply ws reads. unseen c reply reads;
  }
    where
      nothing : (c : Call S N) (n : ℕ) (ws : List ℕ) → usable_of (answered_in c (Refused n) ws) ≡ 0
      nothing (keyed s name (requests r at cost)) n ws = refl
      nothing (keyed s name (looks l)) n ws = refl
      nothing (keyed s name (undoes undo)) n ws = refl
      nothing (keyed s name (passes table class at cost)) n ws = refl
      nothing (whole s what) n ws = refl

      unseen : (c : Call S N) (reply : Reply) → call_reads_turn_aways c ≡ true → tokens_of terms k t u c reply ≡ 0
      unseen (keyed s name (looks l)) reply reads = refl
      unseen (keyed s name (requests r at cost)) reply reads = absurd (true≢false (sym reads))
      unseen (keyed s name (undoes undo)) reply reads = absurd (true≢false (sym reads))
      unseen (keyed s name (passes table class at cost)) reply reads = absurd (true≢false (sym reads))
      unseen (whole s what) reply reads = refl

  usable_is_counted : (xs : List (Answered S N)) → tokens_usable terms k t u xs ≡ tokens_counted usable_of xs
  unfolding tokens_usable tokens_counted
  usable_is_counted [] = refl
  usable_is_counted (a ∷ rest) = ap (λ n. usable_of a + n) (usable_is_counted rest)

-- A count of what is granted to a request, by its name, its manner, its moment, its cost and the wait.
module _ {S N : Type 0} (f : N → Manner → Nanos → ℕ → ℕ → ℕ) where
  abbrev grants_of : Counting S N
  grants_of a = of_named (λ n ask. of_request (λ m at cost. of_grant (λ wait. f n m at cost wait) 0 a.reply) 0 ask) 0 a.call

  grants_count : Counts grants_of
  grants_count = record { words = λ c reply x y. refl; refused = nothing; looked = unseen }
    where
      nothing : (c : Call S N) (n : ℕ) (ws : List ℕ) → grants_of (answered_in c (Refused n) ws) ≡ 0
      nothing (keyed s name (requests r at cost)) n ws = refl
      nothing (keyed s name (looks l)) n ws = refl
      nothing (keyed s name (undoes undo)) n ws = refl
      nothing (keyed s name (passes table class at cost)) n ws = refl
      nothing (whole s what) n ws = refl

      unseen : (c : Call S N) (reply : Reply) (ws : List ℕ) → call_reads_turn_aways c ≡ true → grants_of (answered_in c reply ws) ≡ 0
      unseen (keyed s name (looks l)) reply ws reads = refl
      unseen (keyed s name (requests r at cost)) reply ws reads = absurd (true≢false (sym reads))
      unseen (keyed s name (undoes undo)) reply ws reads = refl
      unseen (keyed s name (passes table class at cost)) reply ws reads = absurd (true≢false (sym reads))
      unseen (whole s what) reply ws reads = refl

module _ {S N : Type 0} (own : N → Bool) where
  refunded_counts : Counts {S = S} {N = N} (refunded_of own)
  refunded_counts = record { words = λ c reply x y. refl; refused = nothing; looked = unseen }
    where
      none_own : (b : Bool) → ◌≡◌ {A = ℕ} (cond b 0 0) 0
      none_own true = refl
      none_own false = refl

      nothing : (c : Call S N) (n : ℕ) (ws : List ℕ) → refunded_of own (answered_in c (Refused n) ws) ≡ 0
      nothing (keyed s name (requests r at cost)) n ws = refl
      nothing (keyed s name (looks l)) n ws = refl
      nothing (keyed s name (undoes (refunds cost))) n ws = none_own (own name)
      nothing (keyed s name (undoes removes)) n ws = refl
      nothing (keyed s name (passes table class at cost)) n ws = refl
      nothing (whole s what) n ws = refl

      unseen : (c : Call S N) (reply : Reply) (ws : List ℕ) → call_reads_turn_aways c ≡ true → refunded_of own (answered_in c reply ws) ≡ 0
      unseen (keyed s name (looks l)) reply ws reads = refl
      unseen (keyed s name (requests r at cost)) reply ws reads = refl
      unseen (keyed s name (undoes undo)) reply ws reads = absurd (true≢false (sym reads))
      unseen (keyed s name (passes table class at cost)) reply ws reads = refl
      unseen (whole s what) reply ws reads = refl

-- So a list stays within the windows if its stand-in does.
module _ {S N : Type 0} (terms : Terms S N) (s : Settings) (rate : Rate) (xs ys : List (Answered S N)) (for : StandsIn terms xs ys) where
  pub within_the_window_with_its_stand_in : (added : ℕ) → WithinWindow terms added s rate ys → WithinWindow terms added s rate xs
  within_the_window_with_its_stand_in added within same rising apart k never t u le =
      rw (usable_is_counted terms k t u xs ∙ for.counted _ (usable_counts terms k t u) ∙ sym (usable_is_counted terms k t u ys))
      (within (for.settings s same) (for.times 0 rising) (for.hashes apart) k
      (for.undone k never) t u le)

  fair_to : (k : Identity) → FairTo terms s k xs → FairTo terms s k ys
  fair_to k fair = record {
    same_settings = for.settings s fair.same_settings;
    rising = for.times 0 fair.rising;
    apart = for.hashes fair.apart;
    not_removed = for.unasked (λ n ask. removes_it ask && named terms k n) fair.not_removed;
  }

  allowed_alike : (refunded granted : Counting S N) → Counts refunded → Counts granted → (t u : ℕ) → WithinRefunds rate refunded granted t u ys
      → WithinRefunds rate refunded granted t u xs
  allowed_alike refunded granted r g t u within = rw (for.counted granted g, for.between refunded granted r g 0) within

  pub within_the_refund_window_with_its_stand_in : WithinRefundWindow terms refunded_of s rate ys → WithinRefundWindow terms refunded_of s rate xs
  within_the_refund_window_with_its_stand_in within k fair not_reserved t u le =
      allowed_alike (refunded_of (named terms k)) (called_of (named terms k) t u) (refunded_counts (named terms k))
      (grants_count (λ n m at cost wait. of_own (named terms k n) (in_span t u at.0 at.0 cost))) t u
      (within k (fair_to k fair) (for.unasked (λ n ask. reserves_it ask && named terms k n) not_reserved) t u le)

  pub within_the_span_window_with_its_stand_in : WithinSpanWindow terms s rate ys → WithinSpanWindow terms s rate xs
  within_the_span_window_with_its_stand_in within k fair t u le =
      allowed_alike (refunded_of (named terms k)) (spanned_of (named terms k) t u) (refunded_counts (named terms k))
      (grants_count (λ n m at cost wait. of_own (named terms k n) (in_span t u at.0 (usable_from m at wait) cost))) t u
      (within k (fair_to k fair) t u le)
