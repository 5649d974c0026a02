-- On two stores in place order that are equal but for the counts of tries turned away, every list of calls and clears answers alike but for the look at a
-- count.
use Prim.Native.Nat.{ℕ, ◌<◌}
use mathlib.Core.Path.{◌≡◌, refl, ap, ◌∙◌}
use mathlib.Core.Bool.{false}
use mathlib.Core.List.{List, [], ◌∷◌}
use lib.ListN.{length}
use borrow.Author.Tests.{eq-eqb, ne_eqb}
use Rattle.arith.proofs.Cases.{by_eq}
use Rattle.rows.specs.Outcome.{Outcome}
use Rattle.rows.proofs.SumLaws.{sum_same}
use Rattle.bucket.specs.declared.BucketCore.{BucketCore}
use Rattle.settings.specs.declared.Settings.{Settings}
use Rattle.settings.specs.Settings.{first_refusal, shape_of, shard_count, shard_of}
use Rattle.settings.proofs.SettingsLaws.{neither_refuses}
use Rattle.ledger.specs.Model.{Ledger}
use Rattle.classes.specs.Classes.{table_refusal}
use Rattle.classes.specs.Layout.{classes_in}
use Rattle.shard_map.specs.Model.{Shard, uncounted}
use Rattle.shard.specs.declared.Identity.{Identity}
use Rattle.store.specs.Refusals.{moment_refusal}
use Rattle.rules.specs.declared.Reply.{Reply}
use Rattle.rules.specs.declared.Reply.TheVariants.{Count}
use Rattle.rules.specs.Asks.{Ask, in_force, in_its_shard, buckets_after}
use Rattle.rules.specs.Debts.{listed, shard_refusal, records_refusal}
use Rattle.rules.specs.Calls.{Call, keyed, whole, len, debts, Terms, settings_of}
use Rattle.rules.proofs.DebtLaws.{of_such_a_shard, shard_not_refused}
use Rattle.demands.specs.Demands.{Table, table_words}
use Rattle.demands.specs.PlaceOrder.{Shards, asked_on_shards, refused_as, taken_on_shards, on_shards, cleared_on_shards, Turn, calls, clears}
use Rattle.demands.specs.PlaceOrder.{step_without_indexes, run}
use Rattle.demands.specs.PlaceOrder.{OfStore, AllOf}
use Rattle.demands.specs.TurnAways.{reads_turn_aways, call_reads_turn_aways, turn_reads_turn_aways, SameReplies}
use Rattle.demands.proofs.TurnAwayTheorem.{answer_decided_alike, leaves_alike, buckets_alike}
use Rattle.demands.proofs.GrownLaws.{of_every_shard}
use Rattle.demands_converter.specs.OldStore.{EqualButForCounts}

-- A turn on two such stores: the same answer, unless it looks at a count, and two such stores after it.
pub record AnsweredAlike (s : Settings) (o q : Outcome Reply Shards) (Reads : Type 0) : Type 0 where
  pub answer : Reads → o.answer ≡ q.answer
  pub after : EqualButForCounts s o.after q.after

module _ (s : Settings) (id : Identity) (ask : Ask) (a b : Shards) (like : EqualButForCounts s a b) where
  asked_alike : AnsweredAlike s (asked_on_shards s id ask a) (asked_on_shards s id ask b) (reads_turn_aways ask ≡ false)
  asked_alike =
      let own : ℕ = shard_of s id.hash in
      let x = a.numbered own in
      let y = b.numbered own in
      let same = like.shards id.hash in
      let buckets : List BucketCore = a.buckets in
      let other_buckets : in_its_shard s id ask buckets y ≡ in_its_shard s id ask b.buckets y =
      ap (λ (bs : List BucketCore). in_its_shard s id ask bs y) like.buckets in
      let answers : reads_turn_aways ask ≡ false → (in_its_shard s id ask buckets x).answer ≡ (in_its_shard s id ask b.buckets y).answer =
      λ blind. answer_decided_alike s id ask buckets x y same blind ∙ ap (λ (o : Outcome Reply Shard). o.answer) other_buckets in
      let left : uncounted (in_its_shard s id ask buckets x).after ≡ uncounted (in_its_shard s id ask b.buckets y).after =
      leaves_alike s id ask buckets x y same ∙ ap (λ (o : Outcome Reply Shard). uncounted o.after) other_buckets in
      record {
        answer = answers;
        after = record {
          shards = λ hash.
              by_eq (shard_of s hash) own
              (λ here. rw (eq-eqb _ _ here) left)
              (λ apart. rw (ne_eqb _ _ apart) (like.shards hash));
          buckets = buckets_alike ask buckets answers ∙ ap (buckets_after ask _) like.buckets;
        };
      }

-- The ledgers are the same, shard by shard: no count of tries turned away stands in a ledger.
ledgers_alike : (s : Settings) (a b : Shards) → EqualButForCounts s a b → (i : ℕ) → i < shard_count s → (a.numbered i).ledger ≡ (b.numbered i).ledger
ledgers_alike s a b like =
    of_every_shard s (λ i. (a.numbered i).ledger ≡ (b.numbered i).ledger) (λ hash. ap (λ (t : Shard). t.ledger) (like.shards hash))

module _ {S N : Type 0} (terms : Terms S N) where
  -- A call that is not refused.
  taken_alike : (c : Call S N) (a b : Shards) → EqualButForCounts (settings_of terms c) a b → refused_as terms a.numbered c ≡ 0
      → AnsweredAlike (settings_of terms c) (taken_on_shards terms c a) (taken_on_shards terms c b) (call_reads_turn_aways c ≡ false)
  taken_alike (keyed s n ask) a b like none = asked_alike (in_force ask (terms.settings s)) (terms.identity n) ask a b like
  taken_alike (whole s len) a b like none =
      let settings = terms.settings s in
      let counts = of_every_shard settings (λ i. (a.numbered i).slots.count ≡ (b.numbered i).slots.count)
      (λ hash. ap (λ (t : Shard). t.slots.count) (like.shards hash)) in
      record { answer = λ blind. ap Count (sum_same (shard_count settings) _ _ counts); after = like }
  taken_alike (whole s (debts at i room)) a b like none =
      let settings = terms.settings s in
      let further = (neither_refuses (moment_refusal at) _ none).1 in
      let below = shard_not_refused (shape_of settings) i (neither_refuses (shard_refusal (shape_of settings) i) _ further).0 in
      record { answer = λ blind. ap (λ (l : Ledger). Count (length (listed at l))) (ledgers_alike settings a b like i below); after = like }

  -- Both stores refuse a call by the same number.
  refused_alike : (c : Call S N) (a b : Shards) → EqualButForCounts (settings_of terms c) a b
      → refused_as terms a.numbered c ≡ refused_as terms b.numbered c
  refused_alike (keyed s n ask) a b like = refl
  refused_alike (whole s len) a b like = refl
  refused_alike (whole s (debts at i room)) a b like =
      let settings = terms.settings s in
      ap (first_refusal (moment_refusal at))
      (of_such_a_shard (shape_of settings) i _ _
      (λ below. ap (λ (l : Ledger). records_refusal room (length (listed at l))) (ledgers_alike settings a b like i below)))

  call_alike : (c : Call S N) (a b : Shards) → EqualButForCounts (settings_of terms c) a b
      → AnsweredAlike (settings_of terms c) (on_shards terms c a) (on_shards terms c b) (call_reads_turn_aways c ≡ false)
  unfolding on_shards
  call_alike c a b like =
      let same = refused_alike c a b like in
      by_eq (refused_as terms b.numbered c) 0
      (λ none. rw (eq-eqb _ _ none, eq-eqb _ _ (same ∙ none)) (taken_alike c a b like (same ∙ none)))
      (λ some. rw (ne_eqb _ _ some, same) (rw (ne_eqb _ _ some) (record { answer = λ blind. refl; after = like })))

  module _ (s : Settings) where
    clear_alike : (table : Table) (a b : Shards) → EqualButForCounts s a b
        → AnsweredAlike s (cleared_on_shards terms s table a) (cleared_on_shards terms s table b) (◌≡◌ {A = ℕ} 0 0)
    unfolding cleared_on_shards
    clear_alike table a b like =
        by_eq (table_refusal (classes_in (table_words table))) 0
        (λ sound. rw (eq-eqb _ _ sound) (record { answer = λ blind. refl; after = record { shards = λ hash. refl; buckets = refl } }))
        (λ unsound. rw (ne_eqb _ _ unsound) (record { answer = λ blind. refl; after = like }))

    pub turn_alike : (t : Turn S N) (a b : Shards) → OfStore terms s t → EqualButForCounts s a b
        → AnsweredAlike s (step_without_indexes terms s t a) (step_without_indexes terms s t b) (turn_reads_turn_aways t ≡ false)
    turn_alike (calls c) a b same like = rw same at (call_alike c a b (rw same like))
    turn_alike (clears table) a b of_store like =
        let cleared = clear_alike table a b like in record { answer = λ blind. cleared.answer refl; after = cleared.after }

    -- A list.
    pub run_alike : (ts : List (Turn S N)) (a b : Shards) → AllOf terms s ts → EqualButForCounts s a b
        → SameReplies ts (run (step_without_indexes terms s) ts a).answer (run (step_without_indexes terms s) ts b).answer
    unfolding run
    run_alike [] a b all like = tt
    run_alike (t ∷ ts) a b all like =
        let first = turn_alike t a b all.0 like in
        (first.answer, run_alike ts (step_without_indexes terms s t a).after (step_without_indexes terms s t b).after all.1 first.after)
