-- A try through a class that is not refused: what it may ask of the store and of the classes, and what it is told, case by case.
use Prim.Native.Nat.{ℕ, ◌+◌, ◌*◌, ◌-◌, ◌≤◌, ◌<◌}
use native.Mathlib.Omega.{arith}
use mathlib.Core.Path.{◌≡◌, refl, sym, ap, ◌∙◌}
use mathlib.Core.Bool.{false}
use mathlib.Core.List.{List}
use lib.ListN.{length}
use borrow.Author.Tests.{le-ltb, lt-ltb, eq-eqb, ne_eqb}
use borrow.Rule.Slice.PartMut.{put_mid}
use Rattle.arith.proofs.Cases.{by_eq}
use Rattle.rows.specs.Outcome.{Outcome, outcome}
use Rattle.rows.specs.Segments.{segment}
use Rattle.rows.proofs.SegmentLaws.{segment_length}
use Rattle.units.specs.declared.Nanos.{Nanos}
use Rattle.bucket.specs.declared.BucketCore.{BucketCore}
use Rattle.bucket.specs.declared.BucketDecision.{BucketDecision}
use Rattle.bucket.specs.declared.BucketDecision.TheVariants.{Allowed, Denied}
use Rattle.bucket.specs.declared.Due.{Due}
use Rattle.bucket.specs.declared.Request.TheVariants.{Through}
use Rattle.bucket.specs.Bucket as Bucket
use Rattle.settings.specs.declared.Limit.TheVariants.{Closed}
use Rattle.settings.specs.declared.Settings.{Settings}
use Rattle.settings.specs.declared.decision.Decision.{Decision}
use Rattle.settings.specs.declared.decision.Decision.TheVariants.{Acquired, Retry, Impossible}
use Rattle.settings.specs.declared.rate.Rate.{Rate}
use Rattle.settings.specs.Rate.{config_of, burst_of}
use Rattle.settings.specs.Settings.{shape_of}
use Rattle.settings.proofs.RateLaws.{accepted_rate}
use Rattle.settings.proofs.SettingsLaws.{accepted_parts}
use Rattle.classes.specs.Classes.{longest_chain}
use Rattle.classes.specs.Layout.{class_count, classes_in, bucket_width, buckets_in, words_of_buckets, words_for}
use Rattle.classes.specs.declared.ChainAnswer.{ChainAnswer}
use Rattle.classes.specs.declared.ChainAnswer.TheVariants.{Over, Wait}
use Rattle.classes.specs.Chains.{least_burst, answer, charged}
use Rattle.classes.specs.Lent.{NamedLent, ChainLent, charged_in}
use Rattle.classes.proofs.AnswerLaws.{over_a_burst, within_the_bursts, wait_is_the_largest}
use Rattle.classes.proofs.LayoutLaws.{class_count_lem}
use Rattle.classes.proofs.WordLaws.{words_of_buckets_lem}
use Rattle.classes.proofs.WholeChain.{accepted_class_is_named, accepted_chain_takes}
use Rattle.shard_map.specs.Model.{Shard, Sound}
use Rattle.shard.specs.declared.Identity.{Identity}
use Rattle.shard.specs.Model as OneShard
use Rattle.store.specs.declared.Part.{Part}
use Rattle.store.specs.Memory.{Placed, Counted, classes_at, class_words, shard_in, shard_at, in_part, in_shard, buckets_at}
use Rattle.store.proofs.ClassLaws.{with_same_buckets}
use Rattle.store.proofs.LendingLaws.{accepted_part, accepted_count}
use Rattle.store.proofs.RefusalLaws.{Accepted}
use Rattle.rules.specs.declared.Reply.{Reply}
use Rattle.rules.specs.declared.Reply.TheVariants.{Tried}
use Rattle.rules.specs.Asks.{Ask, passes, chain_of, as_try, reply_to, replied_as, due_now, closed, policy_of, asked_in, through_chain, passed_in, grants_some}
use Rattle.rules.specs.Asks.{with_table}
use Rattle.rules.specs.Rules.{shard_outcome, classes_stored, class_try}
use Rattle.rules.proofs.KeyedLaws.{PassesInTime, ask_not_refused, pass_in_time, not_refused_is_asked, in_shard_unchanged}
use Rattle.class_calls.specs.code.Passing.{Passing, UnderChain, AtRate, Asking}

module _ {s : Settings} {table : List ℕ} {at : Nanos} {id : Identity} {class cost : ℕ} {ws : List ℕ} {part : Part}
    (p : Passing s table at id class cost ws part) where
  -- The settings with the table's number of classes, and what is asked of the key.
  abbrev given : Settings
  given = with_table table s

  abbrev ask : Ask
  ask = passes table class at cost

  call : Accepted given id.hash ws
  call = (ask_not_refused given id ask ws p.not_refused).0

  in_time : PassesInTime (classes_in table) class at
  in_time = pass_in_time (classes_in table) class at (ask_not_refused given id ask ws p.not_refused).1

  -- What the call comes to, once the shard has answered: the class buckets are stored.
  abbrev stored : Outcome Reply (List ℕ) → Outcome Reply (List ℕ)
  stored o = outcome o.answer (classes_stored (shape_of given) ask o.answer o.after)

  pass_is_told : {o : Outcome Reply (List ℕ)} → o ≡ stored (shard_outcome (shape_of given) given id ask ws) → o ≡ class_try s table at id class cost ws
  pass_is_told gave = gave ∙ sym (not_refused_is_asked given id ask ws p.not_refused)

  -- A reply that grants nothing leaves them as they are.
  not_charged : (reply : Reply) (ws' : List ℕ) → length ws' ≡ length ws → grants_some cost reply ≡ false → stored (outcome reply ws') ≡ outcome reply ws'
  not_charged reply ws' same none = rw none (ap (outcome reply) (with_same_buckets given ws' (same ∙ call.set_up_lem.size)))

  -- A try that leaves the shard as it is, and is granted no token, leaves every word as it is.
  abbrev own : Shard
  own = shard_at given id.hash ws

  abbrev passed : Outcome Reply Shard
  passed = passed_in given id (classes_in table) class at cost (buckets_at (shape_of given) ws) own

  unchanged_is_told : (told : Reply) → grants_some cost told ≡ false → passed ≡ outcome told own → outcome told ws ≡ class_try s table at id class cost ws
  unchanged_is_told told none stays =
      let same = ap (in_shard given id.hash ws) stays ∙ in_shard_unchanged given id.hash ws call told in
      pass_is_told (sym (ap stored same ∙ not_charged told ws refl none))

  -- The class buckets are the last words, in memory of this length. They are lent from the word after which as many words lie as they have.
  module _ (ws' : List ℕ) (same : length ws' ≡ length ws) where
    pub classes_fit : bucket_width * class_count table ≤ length ws'
    classes_fit = omega (arith, same, call.set_up_lem.size)

    module _ (first : ℕ) (is_first : first + bucket_width * class_count table ≡ length ws') where
      starts : first ≡ classes_at (shape_of given)
      starts = omega (arith, is_first, same, call.set_up_lem.size)

      many : length ws' - first ≡ class_words (shape_of given)
      many = omega (arith, is_first)

      abbrev lent : List ℕ
      lent = segment first (length ws' - first) ws'

      lent_buckets : buckets_in lent ≡ buckets_at (shape_of given) ws'
      lent_buckets = rw (many, starts)

      lent_length : length lent ≡ words_for (classes_in table)
      lent_length =
          segment_length first (length ws' - first) ws' (omega (arith, is_first)) ∙ many ∙ ap (λ (n : ℕ). bucket_width * n) (sym (class_count_lem table))

  -- The chain may be asked.
  abbrev answered : List BucketCore → ChainAnswer
  answered bs = answer (classes_in table) cost at bs (chain_of (classes_in table) class)

  module _ (first : ℕ) (is_first : first + bucket_width * class_count table ≡ length ws) where
    pub chain_may_be_asked : NamedLent table (lent ws refl first is_first) class
    chain_may_be_asked = (accepted_class_is_named (classes_in table) class in_time.accepted in_time.named, lent_length ws refl first is_first)

    module _ {answer' : ChainAnswer} (gave : answer' ≡ answered (buckets_in (lent ws refl first is_first))) where
      chain_answers : answered (buckets_at (shape_of given) ws) ≡ answer'
      chain_answers = sym (gave ∙ ap answered (lent_buckets ws refl first is_first))

      pub chain_has_answered : {wait : Nanos} → answer' ≡ Wait wait → UnderChain wait s table at id class cost ws part
      chain_has_answered is = record { passing = p; answers = chain_answers ∙ is }

      -- A cost over a burst on the chain leaves every word as it is.
      pub over_is_told : answer' ≡ Over → outcome (Tried Impossible) ws ≡ class_try s table at id class cost ws
      unfolding passed_in
      over_is_told is =
          let more = over_a_burst (classes_in table) cost at (buckets_at (shape_of given) ws) (chain_of (classes_in table) class) (chain_answers ∙ is) in
          unchanged_is_told (Tried Impossible) refl (rw (lt-ltb _ _ more))

-- A cost that is not over a burst on the chain asks the key, with the wait of the chain in hand.
module _ {wait : Nanos} {s : Settings} {table : List ℕ} {at : Nanos} {id : Identity} {class cost : ℕ} {ws : List ℕ} {part : Part}
    (u : UnderChain wait s table at id class cost ws part) where
  under_chain : cost ≤ least_burst (classes_in table) (chain_of (classes_in table) class)
  under_chain = within_the_bursts (classes_in table) cost at (buckets_at (shape_of (with_table table s)) ws) (chain_of (classes_in table) class) u.answers

  through : through_chain (classes_in table) class at cost (buckets_at (shape_of (with_table table s)) ws) ≡ Through wait
  through =
      let largest =
      wait_is_the_largest (classes_in table) cost at (buckets_at (shape_of (with_table table s)) ws) (chain_of (classes_in table) class) u.answers in
      sym (ap (λ (w : Nanos). Through w) largest)

  asks_key : passed u.passing ≡ asked_in (Through wait) s.limit (with_table table s) at id cost (own u.passing)
  unfolding passed_in
  asks_key = rw (le-ltb _ _ under_chain, through)

  -- On a closed limiter it leaves every word as it is.
  pub closed_is_told : {told : Decision} → s.limit ≡ Closed → told ≡ closed at cost → outcome (Tried told) ws ≡ class_try s table at id class cost ws
  unfolding asked_in closed
  closed_is_told is_limit is =
      let grants_none : grants_some cost (Tried (closed at cost)) ≡ false =
      by_eq cost 0 (λ no_cost. rw (eq-eqb _ _ no_cost)) (λ some. rw (ne_eqb _ _ some)) in
      rw is (unchanged_is_told u.passing (Tried (closed at cost)) grants_none (asks_key ∙ rw is_limit))

-- Where there is a rate, so it is with a cost over its burst and with cost 0.
module _ {rate : Rate} {wait : Nanos} {s : Settings} {table : List ℕ} {at : Nanos} {id : Identity} {class cost : ℕ} {ws : List ℕ} {part : Part}
    (a : AtRate rate wait s table at id class cost ws part) where
  pub too_much_is_told : burst_of rate < cost → outcome (Tried Impossible) ws ≡ class_try s table at id class cost ws
  unfolding asked_in
  too_much_is_told more =
      unchanged_is_told a.under.passing (Tried Impossible) refl (asks_key a.under ∙ rw (a.is_limit, lt-ltb _ _ more))

  pub nothing_is_granted : {due : Due} → cost ≤ burst_of rate → cost ≡ 0 → due ≡ due_now at
      → outcome (Tried (Acquired due)) ws ≡ class_try s table at id class cost ws
  unfolding asked_in
  nothing_is_granted within no_cost is =
      rw is (unchanged_is_told a.under.passing (Tried (Acquired (due_now at))) (rw (eq-eqb _ _ no_cost))
      (asks_key a.under ∙ rw (a.is_limit, le-ltb _ _ within, eq-eqb _ _ no_cost)))

-- Any other asks the key's bucket, which may be asked.
module _ {rate : Rate} {wait : Nanos} {s : Settings} {table : List ℕ} {at : Nanos} {id : Identity} {class cost : ℕ} {ws : List ℕ} {part : Part}
    (a : Asking rate wait s table at id class cost ws part) where
  abbrev p : Passing s table at id class cost ws part
  p = a.at_rate.under.passing

  pub bucket_may_be_asked : Placed part ws × Sound (shard_in part ws) × Bucket.Accepted (config_of rate) × (cost ≤ (config_of rate).capacity)
      × Counted part ws
  bucket_may_be_asked =
      let placed = accepted_part (given p) id.hash ws (call p) p.is_part in
      let rated = accepted_rate rate (rw a.at_rate.is_limit at (accepted_parts (given p) (call p).set_up_lem.settings).0) in
      (placed.0, placed.1, rated, a.within, accepted_count (given p) id.hash ws (call p) p.is_part)

  -- What the store answers is what the rule answers in the key's shard.
  module _ {decision : BucketDecision} {ws' : List ℕ} (same : length ws' ≡ length ws)
      (gave : outcome decision ws' ≡ in_part part ws (OneShard.with_or_insert (policy_of s rate) id (Through wait) cost at (shard_in part ws))) where
    in_shard_lem : passed p ≡ replied_as (reply_to as_try) (OneShard.with_or_insert (policy_of s rate) id (Through wait) cost at (own p))
    unfolding asked_in
    in_shard_lem = asks_key a.at_rate.under ∙ rw (a.at_rate.is_limit, le-ltb _ _ a.within, ne_eqb _ _ a.some)

    shard_answers : outcome (reply_to as_try decision) ws' ≡ shard_outcome (shape_of (given p)) (given p) id (ask p) ws
    shard_answers =
        ap (λ (o : Outcome BucketDecision (List ℕ)). outcome (reply_to as_try o.answer) o.after) (rw p.is_part at gave)
        ∙ ap (in_shard (given p) id.hash ws) (sym in_shard_lem)

    -- A denial leaves the class buckets as they are.
    pub denied_is_told : {after : Due} → decision ≡ Denied after → outcome (Tried (Retry after)) ws' ≡ class_try s table at id class cost ws
    denied_is_told {after} is = pass_is_told p (sym (not_charged p (Tried (Retry after)) ws' same refl) ∙ ap (stored p) (rw is at shard_answers))

    -- A grant charges the chain: its buckets are lent, and come back in their place.
    pub buckets_fit : bucket_width * class_count table ≤ length ws'
    buckets_fit = classes_fit p ws' same

    module _ (first : ℕ) (is_first : first + bucket_width * class_count table ≡ length ws') where
      abbrev buckets : List ℕ
      buckets = lent p ws' same first is_first

      abbrev charged_from : List BucketCore → List BucketCore
      charged_from bs = charged (classes_in table) cost at bs (chain_of (classes_in table) class)

      pub chain_may_be_charged : ChainLent table buckets class longest_chain cost
      chain_may_be_charged =
          let time = in_time p in
          let takes = accepted_chain_takes (classes_in table) longest_chain class cost time.accepted time.named (under_chain a.at_rate.under) in
          (takes, lent_length p ws' same first is_first)

      pub granted_is_told : {due : Due} → decision ≡ Allowed due → (ys : List ℕ) → length ys ≡ length buckets
          → buckets_in ys ≡ charged_in table buckets class longest_chain cost at
          → outcome (Tried (Acquired due)) (put_mid first (length ws' - first) ws' ys) ≡ class_try s table at id class cost ws
      granted_is_told {due} is ys size gave_buckets =
          let words = words_of_buckets_lem (length (classes_in table)) ys (size ∙ lent_length p ws' same first is_first) in
          let written = sym words ∙ ap words_of_buckets (gave_buckets ∙ ap charged_from (lent_buckets p ws' same first is_first)) in
          let put : outcome (Tried (Acquired due)) (put_mid first (length ws' - first) ws' ys) ≡ stored p (outcome (Tried (Acquired due)) ws') =
          rw (many p ws' same first is_first, starts p ws' same first is_first, ne_eqb _ _ a.some, written) in
          pass_is_told p (put ∙ ap (stored p) (rw is at shard_answers))
