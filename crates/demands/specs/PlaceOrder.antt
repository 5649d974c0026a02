-- A store without indexes (request 3 of document 02): its slots and debts are found in the order of their places. A store that has grown from fresh gives the
-- same answers and has the same shards (`grown_store_is_as_without_indexes`). It refuses the same calls by the same numbers.
use Rattle.std.specs.Prelude.{ℕ, ◌<◌, ◌≡◌, cond, List, [], ◌∷◌, eqb, length, replicate}
use Rattle.rows.specs.Places.{sum}
use Rattle.rows.specs.Outcome.{Outcome, outcome}
use Rattle.bucket.specs.declared.BucketCore.{BucketCore}
use Rattle.settings.specs.declared.Settings.{Settings}
use Rattle.settings.specs.Settings.{first_refusal, shape_of, shard_count, shard_of}
use Rattle.classes.specs.Classes.{table_refusal}
use Rattle.classes.specs.Layout.{class_count, classes_in}
use Rattle.index.specs.Exact.{Exact}
use Rattle.held.specs.Held.{in_order, hash_at}
use Rattle.held.specs.Layout.{index_words}
use Rattle.ledger.specs.Model.{debt_items}
use Rattle.shard_map.specs.Model.{Shard, slot_items, in_place_order}
use Rattle.shard.specs.declared.Identity.{Identity}
use Rattle.store.specs.Memory.{memory_words, buckets_at}
use Rattle.store.specs.Refusals.{moment_refusal}
use Rattle.rules.specs.declared.Reply.{Reply}
use Rattle.rules.specs.declared.Reply.TheVariants.{Done, Count, Refused}
use Rattle.rules.specs.Asks.{Ask, in_force, further_of, in_its_shard, buckets_after}
use Rattle.rules.specs.Rules.{set_up_for}
use Rattle.rules.specs.Debts as Debts
use Rattle.rules.specs.Debts.{listed, shard_refusal, records_refusal}
use Rattle.rules.specs.Calls.{Call, keyed, whole, len, debts, Terms, rules, settings_of, Every}
use Rattle.demands.specs.Demands.{Table, table_words}

-- The shard in the words of a store, by its number.
abbrev pub shard_numbered : Settings → ℕ → List ℕ → Shard
shard_numbered s i ws = Debts.shard_numbered (shape_of s) i ws

-- A store without indexes: its shards by their numbers, and the class buckets. No words and no index stand in it.
pub record Shards : Type 0 where
  pub numbered : ℕ → Shard
  pub buckets : List BucketCore

-- A fresh one: the shards of a fresh memory, with nothing in them, found in place order, and its class buckets.
abbrev pub fresh_shards : Settings → Shards
fresh_shards s =
    let fresh : List ℕ = replicate (memory_words s) 0 in
    record { numbered = λ i. in_place_order (shard_numbered s i fresh); buckets = buckets_at (shape_of s) fresh }

-- What is asked of a key, in the shard of the key; the other shards stay as they are. A granted try through a class charges the buckets on its chain.
abbrev pub asked_on_shards : Settings → Identity → Ask → Shards → Outcome Reply Shards
asked_on_shards s id ask store =
    let o = in_its_shard s id ask store.buckets (store.numbered (shard_of s id.hash)) in
    outcome o.answer (record {
      numbered = λ i. cond (eqb i (shard_of s id.hash)) o.after (store.numbered i);
      buckets = buckets_after ask o.answer store.buckets;
    })

-- A turn: a call, or a clear.
pub data Turn (S N : Type 0) : Type 0 where
  calls : Call S N → Turn S N
  clears : Table → Turn S N

-- A list of turns, each on what the turn before it left: the answers in their order, and what is left in the end.
unfoldable pub run : {T X : Type 0} → (T → X → Outcome Reply X) → List T → X → Outcome (List Reply) X
run step [] state = outcome [] state
run step (t ∷ ts) state =
    let o = step t state in
    let rest = run step ts o.after in
    outcome (o.answer ∷ rest.answer) rest.after

-- Every item of a shard stands in its index once, on its walk, and no other place is in use (`Exact`). So it is with the slots and with the debts.
pub record IndexesExact (own : Shard) : Type 0 where
  pub slots : Exact (hash_at slot_items own.slots) own.slots.count (index_words own.slots.finding)
  pub debts : Exact (hash_at debt_items own.ledger.debts) own.ledger.debts.count (index_words own.ledger.debts.finding)

-- A shard that has no index.
pub record NoIndex (own : Shard) : Type 0 where
  pub slots : own.slots.finding ≡ in_order
  pub debts : own.ledger.debts.finding ≡ in_order

module _ {S N : Type 0} (terms : Terms S N) where
  -- The number by which a call of the store's settings is refused, 0 if it is not, given the shards by their numbers (`grown_refusal_is_the_calls_own`). The
  -- settings, the length and the counts of a grown store are accepted. So only the name and what is asked can be refused. What the shards hold matters to one
  -- call alone: a list of debts may need more records than are lent.
  abbrev pub refused_as : (ℕ → Shard) → Call S N → ℕ
  refused_as shards (keyed s n ask) = first_refusal (terms.refusal n) (further_of ask)
  refused_as shards (whole s len) = 0
  refused_as shards (whole s (debts at i room)) =
      first_refusal (moment_refusal at)
      (first_refusal (shard_refusal (shape_of (terms.settings s)) i) (records_refusal room (length (listed at (shards i).ledger))))

  -- A call that is not refused, on a store without indexes. The length is the number of slots in all shards.
  abbrev pub taken_on_shards : Call S N → Shards → Outcome Reply Shards
  taken_on_shards (keyed s n ask) store = asked_on_shards (in_force ask (terms.settings s)) (terms.identity n) ask store
  taken_on_shards (whole s len) store = outcome (Count (sum (shard_count (terms.settings s)) (λ i. (store.numbered i).slots.count))) store
  taken_on_shards (whole s (debts at i room)) store = outcome (Count (length (listed at (store.numbered i).ledger))) store

  -- A call on a store without indexes. One that is refused answers its number and changes no shard.
  unfoldable pub on_shards : Call S N → Shards → Outcome Reply Shards
  on_shards c store =
      let refusal = refused_as store.numbered c in
      cond (eqb refusal 0) (taken_on_shards c store) (outcome (Refused refusal) store)

  -- A clear on a store without indexes is refused for its table alone.
  unfoldable pub cleared_on_shards : Settings → Table → Shards → Outcome Reply Shards
  cleared_on_shards s table store =
      let refusal = table_refusal (classes_in (table_words table)) in
      cond (eqb refusal 0) (outcome Done (fresh_shards s)) (outcome (Refused refusal) store)

  -- A turn by the rules, on words; and on a store without indexes.
  abbrev pub by_rules : Settings → Turn S N → List ℕ → Outcome Reply (List ℕ)
  by_rules s (calls c) ws = rules terms c ws
  by_rules s (clears table) ws = set_up_for s (table_words table) ws

  abbrev pub step_without_indexes : Settings → Turn S N → Shards → Outcome Reply Shards
  step_without_indexes s (calls c) store = on_shards c store
  step_without_indexes s (clears table) store = cleared_on_shards s table store

  -- A turn of a store: its call has the settings of the store, and a clear has a table with the store's number of classes. Both may be refused.
  abbrev pub OfStore : Settings → Turn S N → Type 0
  OfStore s (calls c) = settings_of terms c ≡ s
  OfStore s (clears table) = class_count (table_words table) ≡ s.classes

  abbrev pub AllOf : Settings → List (Turn S N) → Type 0
  AllOf s ts = Every (OfStore s) ts

  -- Some words are left by an accepted set_up_lem and a list of turns of the store.
  pub record LeftByTurns (s : Settings) (ws : List ℕ) : Type 0 where
    pub table : List ℕ
    pub before : List ℕ
    pub own_table : class_count table ≡ s.classes
    pub done : (set_up_for s table before).answer ≡ Done
    pub turns : List (Turn S N)
    pub of_store : AllOf s turns
    pub left : (run (by_rules s) turns (set_up_for s table before).after).after ≡ ws

  -- Indexes change nothing in a list of turns on words. A limiter's steps give the answers that the list gives on a fresh store without indexes. In the end
  -- every shard in the words is, in place order, the shard of that store: all slots, debts, counts, hands, sweeps and cursors are the same. So are the class
  -- buckets. And all indexes are exact.
  pub record SameWithoutIndexes (step : Turn S N → List ℕ → Outcome Reply (List ℕ)) (s : Settings) (ts : List (Turn S N)) (ws : List ℕ) : Type 0 where
    pub answers : (run step ts ws).answer ≡ (run (step_without_indexes s) ts (fresh_shards s)).answer
    pub shards : (i : ℕ) → i < shard_count s
        → in_place_order (shard_numbered s i (run step ts ws).after) ≡ (run (step_without_indexes s) ts (fresh_shards s)).after.numbered i
    pub buckets : buckets_at (shape_of s) (run step ts ws).after ≡ (run (step_without_indexes s) ts (fresh_shards s)).after.buckets
    pub indexes : (i : ℕ) → i < shard_count s → IndexesExact (shard_numbered s i (run step ts ws).after)
