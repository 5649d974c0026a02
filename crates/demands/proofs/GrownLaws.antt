-- What every call keeps, a grown store has. So in its shards lookup finds each slot and each debt: none holds more items than it has room for, lookup misses
-- none, and no two slots are of one key. Their indexes are exact, and the total is the sum of their slots. Whether a call of the store is refused follows from
-- the call alone, and a clear is accepted.
use Prim.Native.Nat.{ℕ, zero, suc, ◌+◌, ◌*◌, ◌/◌, ◌%◌, ◌≤◌, ◌<◌, ◌^◌}
use native.Mathlib.Omega.{arith}
use native.Mathlib.Nat.{mul-div_cancel, mod-eq_of_lt}
use mathlib.Core.Path.{◌≡◌, refl, sym, ap, subst, ◌∙◌}
use mathlib.Core.List.{List}
use lib.ListN.{length, replicate, length-replicate, get_or-replicate}
use Rattle.arith.proofs.Cases.{by_eq}
use Rattle.rows.specs.Places.{sum}
use Rattle.rows.specs.Outcome.{Outcome, outcome}
use Rattle.rows.proofs.SumLaws.{sum_of_zeros, sum_changed, term_le_sum}
use Rattle.index.specs.Exact.{Exact}
use Rattle.held.specs.Held.{Held, Items, hash_at, Complete, in_order_is_complete, exact_is_complete}
use Rattle.held.specs.Layout.{index_words}
use Rattle.held.proofs.FindingLaws.{ordered, indexed, kind_of}
use Rattle.settings.specs.declared.Settings.{Settings}
use Rattle.settings.specs.Settings.{first_refusal, settings_refusal, shape_of, shard_count, cap_of, shard_of}
use Rattle.classes.specs.Classes.{table_refusal}
use Rattle.classes.specs.Layout.{classes_in}
use Rattle.settings.proofs.SettingsLaws.{no_refusal_hands_on, shard_is_remainder, shard_below}
use Rattle.ledger.specs.Model.{debt_items}
use Rattle.shard_map.specs.Model.{Shard, slot_items}
use Rattle.shard_map.proofs.PlaceOrderLaws.{FindsEach, found_is_sound, found_is_complete, empty_finds_each}
use Rattle.shard.specs.declared.Identity.{Identity}
use Rattle.store.specs.Memory.{total_of, memory_words, room_in, shard_at, buckets_at, slot_count}
use Rattle.store.specs.Refusals.{set_up_refusal, keyed_refusal, total_refusal, moment_refusal}
use Rattle.store.proofs.MemoryLaws.{shard_at_cap, shard_at_debt_cap, shard_at_sized, fresh_sound, fresh_shards_are_complete, fresh_shards_are_empty}
use Rattle.store.proofs.MemoryLaws.{fresh_slots_are_free, fresh_debts_are_free}
use Rattle.store.proofs.RefusalLaws.{set_up_is_accepted, keyed_is_accepted, total_is_accepted}
use Rattle.rules.specs.declared.Reply.{Reply}
use Rattle.rules.specs.declared.Reply.TheVariants.{Done, Count, Refused}
use Rattle.rules.specs.Asks.{Ask, in_force, further_of, in_its_shard}
use Rattle.rules.specs.Rules.{set_up_for}
use Rattle.rules.specs.Debts.{listed, records_refusal, ledger_refusal}
use Rattle.rules.specs.Calls.{Call, keyed, whole, len, debts, Terms, rules, settings_of}
use Rattle.rules.proofs.RefusedLaws.{table_refusal_is_told, table_set_up_zeroes}
use Rattle.rules.proofs.KeyedLaws.{ask_not_refused}
use Rattle.rules.proofs.DebtLaws.{of_such_a_shard, debt_count_is_accepted}
use Rattle.rules.proofs.CallLaws.{refusal_of, not_refused_is_ruled, keyed_not_refused, taken_not_refused, looks_at_all, looks_change_nothing}
use Rattle.demands.specs.Grown.{slots_of, Grown, set_up_lem, cleared, called, KeptByCalls}
use Rattle.demands.specs.PlaceOrder.{refused_as, shard_numbered, IndexesExact}
use Rattle.demands.proofs.Theorem.{set_up_done}
use Rattle.demands.proofs.OneShardLaws.{WorksInOneShard, asks_work_in_one_shard, call_same_as_place_order}

pub grown_keeps : {S N : Type 0} (terms : Terms S N) {s : Settings} {ws : List ℕ} {P : List ℕ → Type 0} → KeptByCalls terms s P → Grown terms s ws → P ws
grown_keeps terms kept (set_up_lem table ws own done) = kept.fresh table ws done
grown_keeps terms kept (cleared table ws own grown done) = kept.fresh table ws done
grown_keeps terms kept (called c ws grown same taken) = kept.call c ws same taken (grown_keeps terms kept grown)

-- Every shard is the shard of some hash: its number, from bit 40 on. So what holds of the shard of each hash holds of every shard, by its number.
every_shard_has_a_hash : (s : Settings) (i : ℕ) → i < shard_count s → shard_of s (i * 2 ^ 40) ≡ i
every_shard_has_a_hash s i below =
    let number : i * 2 ^ 40 / 2 ^ 40 ≡ i = mul-div_cancel i (omega arith) in
    shard_is_remainder s (i * 2 ^ 40) ∙ ap (λ (n : ℕ). n % shard_count s) number ∙ mod-eq_of_lt below

pub of_every_shard : (s : Settings) (Q : ℕ → Type 0) → ((hash : ℕ) → Q (shard_of s hash)) → (i : ℕ) → i < shard_count s → Q i
of_every_shard s Q holds i below = subst Q (every_shard_has_a_hash s i below) (holds (i * 2 ^ 40))

-- Accepted settings and a memory of the right size, in whose shards lookup finds each slot and each debt. Such shards are sound and complete. The total is
-- the slots of all shards.
pub record SoundMemory (s : Settings) (ws : List ℕ) : Type 0 where
  pub settings : settings_refusal s ≡ 0
  pub size : length ws ≡ memory_words s
  pub total : total_of ws ≡ slots_of s ws
  pub finds_each : (hash : ℕ) → FindsEach (shard_at s hash ws)

-- The slots of one shard alone change by a call on a key, so all slots change as the total does.
total_moves_with_the_slots : (s : Settings) (hash : ℕ) (ask : Ask) (ws : List ℕ) {gives : Outcome Reply (List ℕ)} (o : Outcome Reply Shard)
    → WorksInOneShard s hash ask ws gives o → total_of ws ≡ slots_of s ws → total_of gives.after ≡ slots_of s gives.after
total_moves_with_the_slots s hash ask ws {gives} o works is =
    let before : ℕ → ℕ = λ i. slot_count (cap_of s) i ws in
    let after : ℕ → ℕ = λ i. slot_count (cap_of s) i gives.after in
    let others = of_every_shard s (λ i. (i ≡ shard_of s hash → ⊥) → before i ≡ after i)
    (λ other apart. ap (λ (t : Shard). t.slots.count) (sym (works.others other apart))) in
    let changed = sum_changed (shard_count s) before after (shard_of s hash) (shard_below s hash) others in
    let own : after (shard_of s hash) ≡ o.after.slots.count = ap (λ (t : Shard). t.slots.count) (works.own hash refl) in
    omega (arith, works.total, is, changed, own)

-- A call on a key leaves such a shard for the key, and the other shards as they are; a look at the length changes nothing.
keyed_call_keeps_sound : (s : Settings) (id : Identity) (ask : Ask) (ws : List ℕ) {gives : Outcome Reply (List ℕ)}
    → WorksInOneShard s id.hash ask ws gives (in_its_shard s id ask (buckets_at (shape_of s) ws) (shard_at s id.hash ws)) → SoundMemory s ws
    → SoundMemory s gives.after
keyed_call_keeps_sound s id ask ws works memory = record {
  settings = memory.settings;
  size = works.size;
  total = total_moves_with_the_slots s id.hash ask ws _ works memory.total;
  finds_each = λ other.
      by_eq (shard_of s other) (shard_of s id.hash)
      (λ same.
      rw (works.own other same)
      (call_same_as_place_order (shard_at s id.hash ws) (memory.finds_each id.hash) s id ask (buckets_at (shape_of s) ws)).finds_each)
      (λ apart. rw (works.others other apart) (memory.finds_each other));
}

module _ {S N : Type 0} (terms : Terms S N) where
  call_keeps_sound : (c : Call S N) (ws : List ℕ) → refusal_of terms c ws ≡ 0 → SoundMemory (settings_of terms c) ws
      → SoundMemory (settings_of terms c) (rules terms c ws).after
  call_keeps_sound (keyed s n ask) ws none memory =
      let settings = in_force ask (terms.settings s) in
      let id = terms.identity n in
      let accepted = (ask_not_refused settings id ask ws (keyed_not_refused terms s n ask ws none).1).0 in
      rw (not_refused_is_ruled terms (keyed s n ask) ws none)
      (keyed_call_keeps_sound settings id ask ws (asks_work_in_one_shard settings id ws accepted ask) memory)
  call_keeps_sound (whole s what) ws none memory = rw (looks_change_nothing terms (whole s what) ws looks_at_all) memory

fresh_shard_finds_each : (s : Settings) (hash : ℕ) → FindsEach (shard_at s hash (replicate (memory_words s) 0))
fresh_shard_finds_each s hash =
    let empty = fresh_shards_are_empty s hash in
    empty_finds_each _ (fresh_sound s hash) (fresh_shards_are_complete s hash) empty.slots empty.debts (fresh_slots_are_free s hash)
    (fresh_debts_are_free s hash)

fresh_total_is_the_sum : (s : Settings) → total_of (replicate (memory_words s) 0) ≡ slots_of s (replicate (memory_words s) 0)
fresh_total_is_the_sum s =
    let fresh : List ℕ = replicate (memory_words s) 0 in
    get_or-replicate (memory_words s) 0 0 0 (omega arith)
    ∙ sym (sum_of_zeros (shard_count s) _ (of_every_shard s (λ i. slot_count (cap_of s) i fresh ≡ 0) (λ hash. (fresh_shards_are_empty s hash).slots)))

module _ {S N : Type 0} (terms : Terms S N) where
  pub sound_kept_by_calls : (s : Settings) → KeptByCalls terms s (SoundMemory s)
  sound_kept_by_calls s = record {
    fresh = λ table ws done.
        let up = set_up_done s table ws done in
        rw up.words (record {
          settings = up.settings;
          size = length-replicate (memory_words s) 0;
          total = fresh_total_is_the_sum s;
          finds_each = fresh_shard_finds_each s;
        });
    call = λ c ws same taken memory. rw same at (call_keeps_sound terms c ws (taken_not_refused terms c ws taken) (rw same memory));
  }

  pub grown_memory_is_sound : {s : Settings} {ws : List ℕ} → Grown terms s ws → SoundMemory s ws
  grown_memory_is_sound {s} grown = grown_keeps terms (sound_kept_by_calls s) grown

  pub grown_finds_each : {s : Settings} {ws : List ℕ} → Grown terms s ws → (hash : ℕ) → FindsEach (shard_at s hash ws)
  grown_finds_each grown hash = (grown_memory_is_sound grown).finds_each hash

-- Lookup by an index misses no item only where the index is exact.
complete_index_is_exact : {A : Type 0} (items : Items A) (h : Held A) (n : ℕ) → kind_of h.finding ≡ indexed n → Complete items h
    → Exact (hash_at items h) h.count (index_words h.finding)
complete_index_is_exact items h n kind (in_order_is_complete order) =
    let no_index : ordered ≡ indexed n = rw order at kind in
    let z : ◌≡◌ {A = ℕ} 0 1 = cc in absurd (omega arith)
complete_index_is_exact items h n kind (exact_is_complete ix by size exact) = rw by exact

-- So every item of such a store stands in its index once, on its walk, and no other place is in use.
pub sound_indexes_are_exact : {s : Settings} {ws : List ℕ} → SoundMemory s ws → (hash : ℕ) → IndexesExact (shard_at s hash ws)
sound_indexes_are_exact {s} {ws} memory hash =
    let complete = found_is_complete (memory.finds_each hash) in
    let sized = shard_at_sized s hash ws memory.size in
    record {
      slots = complete_index_is_exact slot_items (shard_at s hash ws).slots _ sized.slots_kind complete.slots;
      debts = complete_index_is_exact debt_items (shard_at s hash ws).ledger.debts _ sized.debts_kind complete.ledger;
    }

pub sound_indexes_are_exact_by_number : {s : Settings} {ws : List ℕ} → SoundMemory s ws → (i : ℕ) → i < shard_count s → IndexesExact (shard_numbered s i ws)
sound_indexes_are_exact_by_number {s} {ws} memory = of_every_shard s (λ j. IndexesExact (shard_numbered s j ws)) (sound_indexes_are_exact memory)

pub grown_indexes_are_exact_by_number : {S N : Type 0} (terms : Terms S N) {s : Settings} {ws : List ℕ} → Grown terms s ws
    → (i : ℕ) → i < shard_count s → IndexesExact (shard_numbered s i ws)
grown_indexes_are_exact_by_number terms grown i below = sound_indexes_are_exact_by_number (grown_memory_is_sound terms grown) i below

-- Terms that are each within a bound.
sum_within : (n most : ℕ) (f : ℕ → ℕ) → ((i : ℕ) → i < n → f i ≤ most) → sum n f ≤ n * most
unfolding sum
sum_within zero most f each = omega arith
sum_within (suc n) most f each = omega (arith, sum_within n most f (λ i below. each i (omega arith)), each n (omega arith))

-- In a sound memory only what a call itself asks can be refused.
module _ (s : Settings) (ws : List ℕ) (memory : SoundMemory s ws) where
  -- No shard has more slots than the cap, so the total is no more than there is room for.
  slots_are_within_the_cap : (i : ℕ) → i < shard_count s → slot_count (cap_of s) i ws ≤ cap_of s
  slots_are_within_the_cap =
      of_every_shard s (λ j. slot_count (cap_of s) j ws ≤ cap_of s)
      (λ hash. rw (shard_at_cap s hash ws) at (found_is_sound (memory.finds_each hash)).count_fits)

  -- Nor more debts.
  debts_are_within_the_cap : (i : ℕ) → i < shard_count s → (shard_numbered s i ws).ledger.debts.count ≤ cap_of s
  debts_are_within_the_cap =
      of_every_shard s (λ j. (shard_numbered s j ws).ledger.debts.count ≤ cap_of s)
      (λ hash. rw (shard_at_debt_cap s hash ws) at (found_is_sound (memory.finds_each hash)).ledger.count_fits)

  pub total_is_within : total_of ws ≤ room_in (shape_of s)
  total_is_within = rw memory.total (sum_within (shard_count s) (cap_of s) _ slots_are_within_the_cap)

  key_is_not_refused : (hash : ℕ) → keyed_refusal s hash ws ≡ 0
  key_is_not_refused hash =
      keyed_is_accepted s hash ws
      (record {
        set_up_lem = record { settings = memory.settings; size = memory.size };
        sound = found_is_sound (memory.finds_each hash);
        covers = rw memory.total (term_le_sum (shard_count s) (λ i. slot_count (cap_of s) i ws) (shard_of s hash) (shard_below s hash));
        within = total_is_within;
      })

  settings_and_length_are_not_refused : set_up_refusal s ws ≡ 0
  settings_and_length_are_not_refused = set_up_is_accepted s ws (record { settings = memory.settings; size = memory.size })

  -- A clear is refused for its table alone.
  pub clear_is_accepted : (table : List ℕ) → table_refusal (classes_in table) ≡ 0 → (set_up_for s table ws).answer ≡ Done
  clear_is_accepted table sound =
      ap (λ (o : Outcome Reply (List ℕ)). o.answer) (sym (table_set_up_zeroes s table ws settings_and_length_are_not_refused sound))

  pub clear_is_refused : (table : List ℕ) → (table_refusal (classes_in table) ≡ 0 → ⊥)
      → set_up_for s table ws ≡ outcome (Refused (table_refusal (classes_in table))) ws
  clear_is_refused table unsound = sym (table_refusal_is_told s table ws settings_and_length_are_not_refused refl unsound)

module _ {S N : Type 0} (terms : Terms S N) where
  refusal_is_the_calls_own : (c : Call S N) (ws : List ℕ) → SoundMemory (settings_of terms c) ws
      → refusal_of terms c ws ≡ refused_as terms (λ i. shard_numbered (settings_of terms c) i ws) c
  refusal_is_the_calls_own (keyed s n ask) ws memory =
      let settings = in_force ask (terms.settings s) in
      ap (first_refusal (terms.refusal n)) (no_refusal_hands_on _ (further_of ask) (key_is_not_refused settings ws memory (terms.identity n).hash))
  refusal_is_the_calls_own (whole s len) ws memory =
      let settings = terms.settings s in
      no_refusal_hands_on _ (total_refusal (room_in (shape_of settings)) (total_of ws)) (settings_and_length_are_not_refused settings ws memory)
      ∙ total_is_accepted (room_in (shape_of settings)) (total_of ws) (total_is_within settings ws memory)
  refusal_is_the_calls_own (whole s (debts at i room)) ws memory =
      let settings = terms.settings s in
      let l = (shard_numbered settings i ws).ledger in
      no_refusal_hands_on _ _ (settings_and_length_are_not_refused settings ws memory)
      ∙ ap (first_refusal (moment_refusal at))
      (of_such_a_shard (shape_of settings) i (ledger_refusal (cap_of settings) at room l) (records_refusal room (length (listed at l)))
      (λ below. no_refusal_hands_on _ _ (debt_count_is_accepted (cap_of settings) l (debts_are_within_the_cap settings ws memory i below))))

  pub sound_refusal_is_the_calls_own : {s : Settings} {ws : List ℕ} → SoundMemory s ws → (c : Call S N) → settings_of terms c ≡ s
      → refusal_of terms c ws ≡ refused_as terms (λ i. shard_numbered s i ws) c
  sound_refusal_is_the_calls_own {ws = ws} memory c same = rw same at (refusal_is_the_calls_own c ws (rw same memory))

  -- So it is with a grown store: whether a call of its settings is refused, and by which number, follows from the call (for a list of debts also from how
  -- many debts are listed); and a clear is accepted.
  pub grown_refusal_is_the_calls_own : {s : Settings} {ws : List ℕ} → Grown terms s ws → (c : Call S N) → settings_of terms c ≡ s
      → refusal_of terms c ws ≡ refused_as terms (λ i. shard_numbered s i ws) c
  grown_refusal_is_the_calls_own grown c same = sound_refusal_is_the_calls_own (grown_memory_is_sound terms grown) c same

  pub grown_clear_is_accepted : {s : Settings} {ws : List ℕ} → Grown terms s ws → (table : List ℕ) → table_refusal (classes_in table) ≡ 0
      → (set_up_for s table ws).answer ≡ Done
  grown_clear_is_accepted {s} {ws} grown = clear_is_accepted s ws (grown_memory_is_sound terms grown)

  -- The total of a grown store is the slots of all shards, so the length is that number.
  pub grown_total_is_the_sum : {s : Settings} {ws : List ℕ} → Grown terms s ws → total_of ws ≡ slots_of s ws
  grown_total_is_the_sum grown = (grown_memory_is_sound terms grown).total

  pub grown_length_is_the_sum : (written : S) (ws : List ℕ) → Grown terms (terms.settings written) ws
      → rules terms (whole written len) ws ≡ outcome (Count (slots_of (terms.settings written) ws)) ws
  grown_length_is_the_sum written ws grown =
      not_refused_is_ruled terms (whole written len) ws (grown_refusal_is_the_calls_own grown (whole written len) refl)
      ∙ ap (λ (n : ℕ). outcome (Count n) ws) (grown_total_is_the_sum grown)
