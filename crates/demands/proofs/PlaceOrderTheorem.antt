-- Lookup by an index changes nothing (request 3 of document 02): a store that has grown from fresh gives the answers of a store without indexes, its refusals
-- among them, and has its slots, debts, hands, sweeps and cursors. The theorem is over lists of calls and clears.
use Prim.Native.Nat.{ℕ, ◌<◌}
use mathlib.Core.Path.{◌≡◌, refl, sym, ap, subst, ◌∙◌}
use mathlib.Core.Bool.{true}
use mathlib.Core.List.{List, [], ◌∷◌, ◌++◌}
use lib.ListN.{length}
use borrow.Author.Tests.{eq-eqb, ne_eqb}
use Rattle.arith.proofs.Cases.{by_test, by_eq}
use Rattle.rows.specs.Outcome.{Outcome, outcome}
use Rattle.rows.proofs.SumLaws.{sum_same}
use Rattle.units.specs.declared.Nanos.{Nanos}
use Rattle.bucket.specs.declared.BucketCore.{BucketCore}
use Rattle.settings.specs.declared.Settings.{Settings}
use Rattle.settings.specs.Settings.{first_refusal, shape_of, shard_count, shard_of, with_classes}
use Rattle.classes.specs.Classes.{table_refusal}
use Rattle.classes.specs.Layout.{class_count, classes_in}
use Rattle.shard_map.specs.Model.{Shard, in_place_order}
use Rattle.shard_map.proofs.ReadBack.{Empty}
use Rattle.shard.specs.declared.Identity.{Identity}
use Rattle.shard.proofs.PlaceOrderLaws.{SameAsPlaceOrder}
use Rattle.store.specs.Memory.{shard_at, buckets_at}
use Rattle.store.specs.Refusals.{moment_refusal}
use Rattle.store.proofs.MemoryLaws.{fresh_shards_are_empty}
use Rattle.rules.specs.declared.Reply.{Reply}
use Rattle.rules.specs.declared.Reply.TheVariants.{Done, Count}
use Rattle.rules.specs.Replies.{numbered}
use Rattle.rules.specs.Asks.{Ask, in_force, in_its_shard, buckets_after}
use Rattle.rules.specs.Rules.{set_up_for}
use Rattle.rules.specs.Widths.{lendable}
use Rattle.rules.specs.Debts.{listed, records_refusal}
use Rattle.rules.specs.Calls.{Call, keyed, whole, len, debts, Terms, rules, settings_of, fits, Every}
use Rattle.rules.proofs.KeyedLaws.{ask_not_refused}
use Rattle.rules.proofs.DebtLaws.{listed_in_place_order, of_such_a_shard, debts_not_refused}
use Rattle.rules.proofs.CallLaws.{refusal_of, rule_of, not_refused_is_ruled, refused_is_told, refused_changes_nothing, keyed_not_refused}
use Rattle.demands.specs.Grown.{Grown, set_up_lem, cleared, called}
use Rattle.demands.specs.Demands.{Table, tabled, table_words, table_fits, Limiter, set_up_by, settings_by, Demand2}
use Rattle.demands.specs.PlaceOrder.{refused_as, shard_numbered, Shards, fresh_shards, asked_on_shards, taken_on_shards, on_shards, cleared_on_shards}
use Rattle.demands.specs.PlaceOrder.{Turn, calls, clears, by_rules}
use Rattle.demands.specs.PlaceOrder.{step_without_indexes, run, OfStore, AllOf, LeftByTurns, SameWithoutIndexes, NoIndex}
use Rattle.demands.proofs.WidthLaws.{NamesFit}
use Rattle.demands.proofs.LendableTheorem.{rules_leave_words_lendable, set_up_leaves_words_lendable}
use Rattle.demands.proofs.Theorem.{set_up_done}
use Rattle.demands.proofs.OneShardLaws.{WorksInOneShard, asks_work_in_one_shard, call_same_as_place_order}
use Rattle.demands.proofs.GrownLaws.{SoundMemory, sound_kept_by_calls, of_every_shard, grown_indexes_are_exact_by_number}
use Rattle.demands.proofs.GrownLaws.{grown_memory_is_sound, clear_is_accepted, clear_is_refused, grown_clear_is_accepted, sound_refusal_is_the_calls_own}

-- The shards in some words are, in place order, those of a store without indexes, and the class buckets are its class buckets.
pub record SamePlaces (s : Settings) (ws : List ℕ) (store : Shards) : Type 0 where
  pub shards : (hash : ℕ) → in_place_order (shard_at s hash ws) ≡ store.numbered (shard_of s hash)
  pub buckets : buckets_at (shape_of s) ws ≡ store.buckets

-- The same by the numbers of the shards.
same_by_number : (s : Settings) (ws : List ℕ) (store : Shards) → SamePlaces s ws store → (i : ℕ) → i < shard_count s
    → in_place_order (shard_numbered s i ws) ≡ store.numbered i
same_by_number s ws store places = of_every_shard s (λ j. in_place_order (shard_numbered s j ws) ≡ store.numbered j) places.shards

-- So the same debts are listed.
same_debts : (s : Settings) (ws : List ℕ) (store : Shards) → SamePlaces s ws store → (at : Nanos) (i : ℕ) → i < shard_count s
    → listed at (shard_numbered s i ws).ledger ≡ listed at (store.numbered i).ledger
same_debts s ws store places at i below =
    sym (listed_in_place_order at (shard_numbered s i ws).ledger) ∙ ap (λ (own : Shard). listed at own.ledger) (same_by_number s ws store places i below)

-- What a turn or a list of turns gives on words is what it gives on a store without indexes.
pub record SameOutcome {A : Type 0} (s : Settings) (words : Outcome A (List ℕ)) (without : Outcome A Shards) : Type 0 where
  pub answer : words.answer ≡ without.answer
  pub places : SamePlaces s words.after without.after

-- What is asked of a key, and not refused.
keyed_call_same : (s : Settings) (id : Identity) (ask : Ask) (ws : List ℕ) (store : Shards) → SoundMemory s ws → SamePlaces s ws store
    → {gives : Outcome Reply (List ℕ)} → WorksInOneShard s id.hash ask ws gives (in_its_shard s id ask (buckets_at (shape_of s) ws) (shard_at s id.hash ws))
    → SameOutcome s gives (asked_on_shards s id ask store)
keyed_call_same s id ask ws store memory places works =
    let own : Shard = shard_at s id.hash ws in
    let buckets : List BucketCore = buckets_at (shape_of s) ws in
    let is : SameAsPlaceOrder (in_its_shard s id ask buckets) own = call_same_as_place_order own (memory.finds_each id.hash) s id ask buckets in
    let alike : in_its_shard s id ask buckets (in_place_order own) ≡ in_its_shard s id ask store.buckets (store.numbered (shard_of s id.hash)) =
    λ j. in_its_shard s id ask (places.buckets j) (places.shards id.hash j) in
    let answer_is = works.answer ∙ sym is.answer ∙ ap (λ (o : Outcome Reply Shard). o.answer) alike in
    record {
      answer = answer_is;
      places = record {
        shards = λ other.
            by_eq (shard_of s other) (shard_of s id.hash)
            (λ same. rw (works.own other same, eq-eqb _ _ same) (sym is.after ∙ ap (λ (o : Outcome Reply Shard). o.after) alike))
            (λ apart. rw (works.others other apart, ne_eqb _ _ apart) (places.shards other));
        buckets = works.buckets ∙ (λ j. buckets_after ask ((sym works.answer ∙ answer_is) j) (places.buckets j));
      };
    }

-- A fresh memory.
fresh_same : (s : Settings) (table ws : List ℕ) → (set_up_for s table ws).answer ≡ Done → SameOutcome s (set_up_for s table ws) (outcome Done (fresh_shards s))
fresh_same s table ws done =
    let zeros = (set_up_done s table ws done).words in
    record { answer = done; places = record { shards = λ hash. rw zeros; buckets = rw zeros } }

-- A fresh store without indexes holds nothing.
pub fresh_shards_hold_nothing : (s : Settings) (i : ℕ) → i < shard_count s → Empty ((fresh_shards s).numbered i)
fresh_shards_hold_nothing s = of_every_shard s (λ j. Empty ((fresh_shards s).numbered j)) (λ hash.
    let empty = fresh_shards_are_empty s hash in
    record { slots = empty.slots; hand = empty.hand; sweep = empty.sweep; debts = empty.debts; cursor = empty.cursor })

module _ {S N : Type 0} (terms : Terms S N) where
  -- A call that is not refused.
  taken_call_same : (c : Call S N) (ws : List ℕ) (shards : Shards) → SoundMemory (settings_of terms c) ws → SamePlaces (settings_of terms c) ws shards
      → refusal_of terms c ws ≡ 0 → SameOutcome (settings_of terms c) (rule_of terms c ws) (taken_on_shards terms c shards)
  taken_call_same (keyed s n ask) ws shards memory places none =
      let settings = in_force ask (terms.settings s) in
      let id = terms.identity n in
      let accepted = (ask_not_refused settings id ask ws (keyed_not_refused terms s n ask ws none).1).0 in
      keyed_call_same settings id ask ws shards memory places (asks_work_in_one_shard settings id ws accepted ask)
  taken_call_same (whole s len) ws shards memory places none =
      let settings = terms.settings s in
      record {
        answer = ap Count
            (memory.total
            ∙ sum_same (shard_count settings) _ _ (λ i below. ap (λ t. t.slots.count) (same_by_number settings ws shards places i below)));
        places = places;
      }
  taken_call_same (whole s (debts at i room)) ws shards memory places none =
      let settings = terms.settings s in
      let below = (debts_not_refused settings at i room ws none).shard in
      record { answer = ap (λ ds. Count (length ds)) (same_debts settings ws shards places at i below); places = places }

  -- Both stores refuse a call by the same number.
  refused_same : (c : Call S N) (ws : List ℕ) (shards : Shards) → SamePlaces (settings_of terms c) ws shards
      → refused_as terms (λ i. shard_numbered (settings_of terms c) i ws) c ≡ refused_as terms shards.numbered c
  refused_same (keyed s n ask) ws shards places = refl
  refused_same (whole s len) ws shards places = refl
  refused_same (whole s (debts at i room)) ws shards places =
      let settings = terms.settings s in
      ap (first_refusal (moment_refusal at))
      (of_such_a_shard (shape_of settings) i _ _
      (λ below. ap (λ ds. records_refusal room (length ds)) (same_debts settings ws shards places at i below)))

  -- A call, refused or not.
  pub call_same : (c : Call S N) (ws : List ℕ) (shards : Shards) → SoundMemory (settings_of terms c) ws → SamePlaces (settings_of terms c) ws shards
      → SameOutcome (settings_of terms c) (rules terms c ws) (on_shards terms c shards)
  unfolding on_shards
  call_same c ws shards memory places =
      let own : refusal_of terms c ws ≡ refused_as terms shards.numbered c =
      sound_refusal_is_the_calls_own terms memory c refl ∙ refused_same c ws shards places in
      by_eq (refused_as terms shards.numbered c) 0
      (λ none. rw (eq-eqb _ _ none, not_refused_is_ruled terms c ws (own ∙ none)) (taken_call_same c ws shards memory places (own ∙ none)))
      (λ some. rw (ne_eqb _ _ some, refused_is_told terms c ws (λ none. some (sym own ∙ none)), own) (record { answer = refl; places = places }))

  module _ (s : Settings) where
    -- A clear: both stores refuse it for its table.
    clear_same : (table : Table) (ws : List ℕ) (store : Shards) → SoundMemory s ws → SamePlaces s ws store
        → SameOutcome s (set_up_for s (table_words table) ws) (cleared_on_shards terms s table store)
    unfolding cleared_on_shards
    clear_same table ws store memory places =
        by_eq (table_refusal (classes_in (table_words table))) 0
        (λ sound. rw (eq-eqb _ _ sound) (fresh_same s (table_words table) ws (clear_is_accepted s ws memory (table_words table) sound)))
        (λ unsound. rw (ne_eqb _ _ unsound, clear_is_refused s ws memory (table_words table) unsound) (record { answer = refl; places = places }))

    -- A turn.
    pub turn_same : (t : Turn S N) (ws : List ℕ) (shards : Shards) → SoundMemory s ws → SamePlaces s ws shards → OfStore terms s t
        → SameOutcome s (by_rules terms s t ws) (step_without_indexes terms s t shards)
    turn_same (calls c) ws shards memory places same = rw same at (call_same c ws shards (rw same memory) (rw same places))
    turn_same (clears table) ws store memory places of_store = clear_same table ws store memory places

    pub turn_keeps_sound : (t : Turn S N) (ws : List ℕ) → SoundMemory s ws → OfStore terms s t → SoundMemory s (by_rules terms s t ws).after
    turn_keeps_sound (calls c) ws memory same =
        by_test (numbered (rules terms c ws).answer)
        (λ refused. rw (refused_changes_nothing terms c ws refused) memory)
        (λ taken. (sound_kept_by_calls terms s).call c ws same taken memory)
    turn_keeps_sound (clears table) ws memory of_store =
        by_eq (table_refusal (classes_in (table_words table))) 0
        (λ sound. (sound_kept_by_calls terms s).fresh (table_words table) ws (clear_is_accepted s ws memory (table_words table) sound))
        (λ unsound. rw (clear_is_refused s ws memory (table_words table) unsound) memory)

    -- A list of turns, from any sound memory.
    pub run_same : (ts : List (Turn S N)) (ws : List ℕ) (shards : Shards) → SoundMemory s ws → SamePlaces s ws shards → AllOf terms s ts
        → SameOutcome s (run (by_rules terms s) ts ws) (run (step_without_indexes terms s) ts shards)
    unfolding run
    run_same [] ws shards memory places all = record { answer = refl; places = places }
    run_same (t ∷ ts) ws shards memory places all =
        let first = turn_same t ws shards memory places all.0 in
        let rest =
        run_same ts (by_rules terms s t ws).after (step_without_indexes terms s t shards).after (turn_keeps_sound t ws memory all.0) first.places
        all.1 in
        record { answer = rw (first.answer, rest.answer); places = rest.places }

    -- It leaves a grown store. A call that is refused leaves the words as they are.
    turn_is_grown : (t : Turn S N) (ws : List ℕ) → Grown terms s ws → OfStore terms s t → Grown terms s (by_rules terms s t ws).after
    turn_is_grown (calls c) ws grown same =
        by_test (numbered (rules terms c ws).answer)
        (λ refused. rw (refused_changes_nothing terms c ws refused) grown)
        (λ taken. called c ws grown same taken)
    turn_is_grown (clears table) ws grown of_store =
        by_eq (table_refusal (classes_in (table_words table))) 0
        (λ sound. cleared (table_words table) ws of_store grown (grown_clear_is_accepted terms grown (table_words table) sound))
        (λ unsound. rw (clear_is_refused s ws (grown_memory_is_sound terms grown) (table_words table) unsound) grown)

    pub run_is_grown : (ts : List (Turn S N)) (ws : List ℕ) → Grown terms s ws → AllOf terms s ts → Grown terms s (run (by_rules terms s) ts ws).after
    unfolding run
    run_is_grown [] ws grown all = grown
    run_is_grown (t ∷ ts) ws grown all = run_is_grown ts (by_rules terms s t ws).after (turn_is_grown t ws grown all.0) all.1

  -- The theorem: from an accepted set_up_lem, by any calls of the store's settings, refused or not, and clears.
  pub grown_store_is_as_without_indexes : (s : Settings) (table ws : List ℕ) → class_count table ≡ s.classes → (set_up_for s table ws).answer ≡ Done
      → (ts : List (Turn S N)) → AllOf terms s ts → SameWithoutIndexes terms (by_rules terms s) s ts (set_up_for s table ws).after
  grown_store_is_as_without_indexes s table ws own done ts all =
      let fresh : List ℕ = (set_up_for s table ws).after in
      let words : List ℕ = (run (by_rules terms s) ts fresh).after in
      let same = run_same s ts fresh (fresh_shards s) ((sound_kept_by_calls terms s).fresh table ws done) (fresh_same s table ws done).places all in
      record {
        answers = same.answer;
        shards = same_by_number s words _ same.places;
        buckets = same.places.buckets;
        indexes = grown_indexes_are_exact_by_number terms (run_is_grown s ts fresh (set_up_lem table ws own done) all);
      }

  -- The store without indexes has none to the end.
  pub store_without_indexes_never_gets_one : (s : Settings) (table ws : List ℕ) → class_count table ≡ s.classes → (set_up_for s table ws).answer ≡ Done
      → (ts : List (Turn S N)) → AllOf terms s ts
      → (i : ℕ) → i < shard_count s → NoIndex ((run (step_without_indexes terms s) ts (fresh_shards s)).after.numbered i)
  store_without_indexes_never_gets_one s table ws own done ts all i below =
      subst NoIndex ((grown_store_is_as_without_indexes s table ws own done ts all).shards i below) (record { slots = refl; debts = refl })

-- A run of one turn more: what that turn leaves of what the run left.
one_turn_more : {T X : Type 0} (step : T → X → Outcome Reply X) (ts : List T) (t : T) (state : X)
    → (run step (ts ++ t ∷ []) state).after ≡ (step t (run step ts state).after).after
unfolding run
one_turn_more step [] t state = refl
one_turn_more step (first ∷ ts) t state = one_turn_more step ts t (step first state).after

module _ {S N : Type 0} (terms : Terms S N) where
  one_more_of_store : (s : Settings) (ts : List (Turn S N)) (t : Turn S N) → AllOf terms s ts → OfStore terms s t → AllOf terms s (ts ++ t ∷ [])
  one_more_of_store s [] t all last = (last, tt)
  one_more_of_store s (first ∷ ts) t all last = (all.0, one_more_of_store s ts t all.1 last)

  one_turn_longer : {s : Settings} {ws : List ℕ} → LeftByTurns terms s ws → (t : Turn S N) → OfStore terms s t
      → LeftByTurns terms s (by_rules terms s t ws).after
  one_turn_longer {s} r t last = record {
    table = r.table;
    before = r.before;
    own_table = r.own_table;
    done = r.done;
    turns = r.turns ++ t ∷ [];
    of_store = one_more_of_store s r.turns t r.of_store last;
    left = one_turn_more (by_rules terms s) r.turns t (set_up_for s r.table r.before).after
        ∙ ap (λ (left : List ℕ). (by_rules terms s t left).after) r.left;
  }

  -- Every grown store is left by an accepted set_up_lem and such a list. So the theorem is of every grown store.
  pub grown_is_a_run : {s : Settings} {ws : List ℕ} → Grown terms s ws → LeftByTurns terms s ws
  unfolding run
  grown_is_a_run (set_up_lem table ws own done) =
      record { table = table; before = ws; own_table = own; done = done; turns = []; of_store = tt; left = refl }
  grown_is_a_run (cleared table ws own grown done) = one_turn_longer (grown_is_a_run grown) (clears (tabled table)) own
  grown_is_a_run (called c ws grown same taken) = one_turn_longer (grown_is_a_run grown) (calls c) same

-- So it is with every limiter that meets demand 2: code as the contracts tell, and the exports. In a turn by a limiter a clear writes the settings as
-- set_up_lem did.
abbrev pub by_limiter : {S N : Type 0} → Limiter S N → S → Turn S N → List ℕ → Outcome Reply (List ℕ)
by_limiter l written (calls c) ws = l.answers c ws
by_limiter l written (clears table) ws = l.clears table written ws

abbrev pub TurnFits : {S N : Type 0} → Terms S N → Turn S N → Type 0
TurnFits terms (calls c) = fits terms c ≡ true
TurnFits terms (clears table) = table_fits table ≡ true

-- The store has the settings of a set_up_lem with some table.
module _ {S N : Type 0} (terms : Terms S N) (names : NamesFit terms) (l : Limiter S N) (equal : Demand2 terms l) (written : S)
    (fit : terms.settings_fit written ≡ true) (first : Table) where
  abbrev s : Settings
  s = settings_by terms first written

  turn_alike : (t : Turn S N) (ws : List ℕ) → TurnFits terms t → OfStore terms s t → lendable ws ≡ true → by_limiter l written t ws ≡ by_rules terms s t ws
  turn_alike (calls c) ws fits' own lent = equal.answers c ws fits' lent
  turn_alike (clears table) ws fits' own lent =
      equal.clears table written ws fits' fit lent
      ∙ ap (λ (n : ℕ). set_up_for (with_classes n (terms.settings written)) (table_words table) ws) own

  turn_leaves_lendable : (t : Turn S N) (ws : List ℕ) → TurnFits terms t → lendable ws ≡ true → lendable (by_rules terms s t ws).after ≡ true
  turn_leaves_lendable (calls c) ws fits' lent = rules_leave_words_lendable terms names c ws fits' lent
  turn_leaves_lendable (clears table) ws fits' lent = set_up_leaves_words_lendable s (table_words table) ws lent

  pub runs_alike : (ts : List (Turn S N)) (ws : List ℕ) → Every (TurnFits terms) ts → AllOf terms s ts → lendable ws ≡ true
      → run (by_limiter l written) ts ws ≡ run (by_rules terms s) ts ws
  unfolding run
  runs_alike [] ws every all lent = refl
  runs_alike (t ∷ ts) ws every all lent =
      let same = turn_alike t ws every.0 all.0 lent in
      let rest = runs_alike ts (by_rules terms s t ws).after every.1 all.1 (turn_leaves_lendable t ws every.0 lent) in
      rw (same, rest)

  pub limiter_is_as_without_indexes : table_fits first ≡ true → (ws : List ℕ) → lendable ws ≡ true → (set_up_by terms first written ws).answer ≡ Done
      → (ts : List (Turn S N)) → Every (TurnFits terms) ts → AllOf terms s ts
      → SameWithoutIndexes terms (by_limiter l written) s ts (l.sets_up_lem first written ws).after
  limiter_is_as_without_indexes few ws lent done ts fits' all =
      let fresh = set_up_leaves_words_lendable s (table_words first) ws lent in
      let same = grown_store_is_as_without_indexes terms s (table_words first) ws refl done ts all in
      let alike = runs_alike ts (set_up_by terms first written ws).after fits' all fresh in
      rw (equal.sets_up_lem first written ws few fit lent)
      (record {
        answers = ap (λ (o : Outcome (List Reply) (List ℕ)). o.answer) alike ∙ same.answers;
        shards = λ i below. rw alike (same.shards i below);
        buckets = rw alike same.buckets;
        indexes = λ i below. rw alike (same.indexes i below);
      })
