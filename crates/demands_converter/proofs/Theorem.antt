-- Lists of calls before and after a conversion: the claims of specs/OldStore.antt.
use Prim.Native.Nat.{ℕ, ◌≤◌, ◌<◌}
use native.Mathlib.Omega.{arith}
use mathlib.Core.Path.{◌≡◌, refl, sym, ap, ◌∙◌}
use mathlib.Core.Bool.{true}
use mathlib.Core.List.{List, [], ◌∷◌}
use lib.ListN.{length}
use borrow.Author.Tests.{eq-eqb}
use Rattle.rows.specs.Rows.{rows}
use Rattle.rows.specs.Outcome.{Outcome}
use Rattle.units.specs.declared.Nanos.{Nanos}
use Rattle.bucket.specs.declared.Request.{Request}
use Rattle.settings.specs.declared.Limit.TheVariants.{Open}
use Rattle.settings.specs.declared.Settings.{Settings}
use Rattle.settings.specs.declared.rate.Rate.{Rate}
use Rattle.settings.specs.Rate.{burst_of, config_of}
use Rattle.settings.specs.Settings.{shape_of, shard_count, cap_of, shard_of}
use Rattle.settings.proofs.SettingsLaws.{refused_with_any_classes, shard_below}
use Rattle.classes.specs.Layout.{class_count, buckets_in}
use Rattle.shard_map.specs.Model.{Shard, Sound, in_place_order, uncounted}
use Rattle.shard_map.proofs.TurnAwayLaws.{equal_but_for_turn_aways, uncounted_alike}
use Rattle.shard_map.proofs.RoomLaws.{found_is_sound}
use Rattle.shard.specs.declared.Identity.{Identity}
use Rattle.shard.specs.Model.{own_decision, holds}
use Rattle.store.specs.Memory.{shard_at, buckets_at}
use Rattle.rules.specs.declared.Reply.{Reply}
use Rattle.rules.specs.declared.Reply.TheVariants.{Done}
use Rattle.rules.specs.Asks.{requests, manner_of, reply_to, asked_in}
use Rattle.rules.specs.Rules.{set_up_for}
use Rattle.rules.specs.Calls.{Call, keyed, Terms, rules, Every}
use Rattle.converter_shards.specs.Checks.{indexes_exact}
use Rattle.converter_shards.proofs.ExactTestLaws.{exact_is_exactly}
use Rattle.converter.specs.declared.Layout.TheVariants.{Old, Present}
use Rattle.converter.specs.Layouts as Layouts
use Rattle.converter.specs.Conversion.{keys_refusal, words_for, moved_words, forth, back}
use Rattle.converter.proofs.RefusalLaws.{Accepted, source_undamaged}
use Rattle.converter.proofs.MovedLaws.{moved_words_long}
use Rattle.converter.proofs.Theorem.{done_is_accepted, accepted_is_done, forth_is_in_place_order, forth_finds_all, forth_total, forth_long}
use Rattle.converter.proofs.Theorem.{Found, found_goes_back, back_is_alike, becoming_goes_forth, accepted_finds_each, accepted_total}
use Rattle.demands.specs.Grown.{Grown}
use Rattle.demands.specs.PlaceOrder.{shard_numbered, Shards, fresh_shards, refused_as, on_shards, Turn, calls, by_rules, step_without_indexes, run}
use Rattle.demands.specs.PlaceOrder.{AllOf}
use Rattle.demands.specs.TurnAways.{SameReplies}
use Rattle.demands.proofs.GrownLaws.{SoundMemory, of_every_shard, grown_memory_is_sound, sound_indexes_are_exact_by_number, sound_kept_by_calls}
use Rattle.demands.proofs.PlaceOrderTheorem.{SamePlaces, SameOutcome, run_same, call_same, turn_keeps_sound, grown_store_is_as_without_indexes}
use Rattle.demands.proofs.OwnBucket.{own_bucket_answers}
use Rattle.demands_converter.specs.OldStore.{classless, old_store, EqualButForCounts, OldHolds}
use Rattle.demands_converter.proofs.CountLaws.{run_alike}

-- A store without classes has no class buckets.
pub no_buckets : (s : Settings) (ws : List ℕ) → buckets_at (shape_of (classless s)) ws ≡ []
unfolding buckets_in rows
no_buckets s ws = refl

-- A conversion forth leaves a sound memory, whose shards in place order are those of the old store.
module _ (s : Settings) (source target : List ℕ) (done : (forth s source target).answer ≡ Done) where
  abbrev pub accepted : Accepted Old s source target
  accepted = done_is_accepted Old s source target done

  abbrev pub left : List ℕ
  left = moved_words Old (shard_count s) (cap_of s) source

  pub forth_leaves : (forth s source target).after ≡ left
  forth_leaves = ap (λ (o : Outcome Reply (List ℕ)). o.after) (accepted_is_done Old s source target accepted)

  pub forth_sound : SoundMemory (classless s) left
  forth_sound = record {
    settings = refused_with_any_classes 0 s ∙ accepted.settings;
    size = omega (arith, forth_long s source target accepted);
    total = forth_total s source target accepted;
    finds_each = λ hash. forth_finds_all s source target accepted (shard_of s hash) (shard_below s hash);
  }

  pub forth_places : SamePlaces (classless s) left (old_store s source)
  forth_places = record {
    shards = λ hash. forth_is_in_place_order s source target accepted (shard_of s hash) (shard_below s hash);
    buckets = no_buckets s left;
  }

  module _ {S N : Type 0} (terms : Terms S N) where
    -- Every list of calls and clears answers alike, before and after.
    forth_same : (ts : List (Turn S N)) → AllOf terms (classless s) ts
        → SameOutcome (classless s) (run (by_rules terms (classless s)) ts left) (run (step_without_indexes terms (classless s)) ts (old_store s source))
    forth_same ts all = run_same terms (classless s) ts left (old_store s source) forth_sound forth_places all

    pub forth_answers_alike : (ts : List (Turn S N)) → AllOf terms (classless s) ts
        → (run (by_rules terms (classless s)) ts (forth s source target).after).answer
        ≡ (run (step_without_indexes terms (classless s)) ts (old_store s source)).answer
    forth_answers_alike ts all = rw forth_leaves (forth_same ts all).answer

-- A sound memory goes back.
module _ (s : Settings) (ws : List ℕ) (memory : SoundMemory (classless s) ws) (few : keys_refusal s ≡ 0) where
  exact_by_number : (i : ℕ) → i < shard_count s → indexes_exact (shard_numbered (classless s) i ws) ≡ true
  unfolding indexes_exact
  exact_by_number i below =
      let exact = sound_indexes_are_exact_by_number memory i below in
      rw (exact_is_exactly _ _ _ exact.slots) (exact_is_exactly _ _ _ exact.debts)

  found : Found s ws
  found = record {
    settings = sym (refused_with_any_classes 0 s) ∙ memory.settings;
    keys = few;
    size = omega (arith, memory.size);
    each = of_every_shard s _ memory.finds_each;
    exact = exact_by_number;
    total = memory.total;
  }

  pub sound_goes_back : (target : List ℕ) → length target ≡ words_for Old s → (back s ws target).answer ≡ Done
  sound_goes_back target long =
      ap (λ (o : Outcome Reply (List ℕ)). o.answer) (accepted_is_done Present s ws target (found_goes_back s ws found target long))

-- Words of document 01 that hold such a store go forth.
module _ (s : Settings) (ws : List ℕ) (memory : SoundMemory (classless s) ws) (few : keys_refusal s ≡ 0) where
  pub sound_goes_forth : (old : List ℕ) → length old ≡ words_for Old s
      → ((i : ℕ) → i < shard_count s → (old_store s old).numbered i ≡ in_place_order (uncounted (shard_numbered (classless s) i ws)))
      → (target : List ℕ) → length target ≡ words_for Present s → (forth s old target).answer ≡ Done
  sound_goes_forth old long held target also =
      ap (λ (o : Outcome Reply (List ℕ)). o.answer)
      (accepted_is_done Old s old target (becoming_goes_forth s ws (found s ws memory few) old long held target also))

-- A list of calls and clears leaves a sound memory sound.
module _ {S N : Type 0} (terms : Terms S N) (s : Settings) where
  turns_keep_sound : (ts : List (Turn S N)) (ws : List ℕ) → SoundMemory s ws → AllOf terms s ts → SoundMemory s (run (by_rules terms s) ts ws).after
  unfolding run
  turns_keep_sound [] ws memory all = memory
  turns_keep_sound (t ∷ ts) ws memory all =
      turns_keep_sound ts (by_rules terms s t ws).after (turn_keeps_sound terms s t ws memory all.0) all.1

module _ {S N : Type 0} (terms : Terms S N) where
  -- A store that has come forth and has worked on goes back.
  pub came_forth_goes_back : (s : Settings) (source target : List ℕ) → (forth s source target).answer ≡ Done → (ts : List (Turn S N))
      → AllOf terms (classless s) ts → (again : List ℕ) → length again ≡ words_for Old s
      → (back s (run (by_rules terms (classless s)) ts (forth s source target).after).after again).answer ≡ Done
  came_forth_goes_back s source target done ts all again long =
      let came : SoundMemory (classless s) (forth s source target).after = rw (forth_leaves s source target done) (forth_sound s source target done) in
      let left_words : List ℕ = (run (by_rules terms (classless s)) ts (forth s source target).after).after in
      sound_goes_back s left_words (turns_keep_sound terms (classless s) ts (forth s source target).after came all) (accepted s source target done).keys again
      long

  -- What document 01's layout would have grown by a list, from a fresh store in place order, goes forth.
  pub old_grown_goes_forth : (s : Settings) (table fresh : List ℕ) → class_count table ≡ 0 → (set_up_for (classless s) table fresh).answer ≡ Done
      → (ts : List (Turn S N)) → AllOf terms (classless s) ts → keys_refusal s ≡ 0
      → (old : List ℕ) → length old ≡ words_for Old s
      → ((i : ℕ) → i < shard_count s
      → (old_store s old).numbered i ≡ uncounted ((run (step_without_indexes terms (classless s)) ts (fresh_shards (classless s))).after.numbered i))
      → (target : List ℕ) → length target ≡ words_for Present s → (forth s old target).answer ≡ Done
  old_grown_goes_forth s table fresh none set_up_lem ts all few old long held target also =
      let start : List ℕ = (set_up_for (classless s) table fresh).after in
      let ws : List ℕ = (run (by_rules terms (classless s)) ts start).after in
      let same = grown_store_is_as_without_indexes terms (classless s) table fresh none set_up_lem ts all in
      let sound = turns_keep_sound terms (classless s) ts start ((sound_kept_by_calls terms (classless s)).fresh table fresh set_up_lem) all in
      sound_goes_forth s ws sound few old long (λ i below. held i below ∙ sym (ap uncounted (same.shards i below))) target also

  pub grown_goes_back : (s : Settings) (ws target : List ℕ) → Grown terms (classless s) ws → keys_refusal s ≡ 0 → length target ≡ words_for Old s
      → (back s ws target).answer ≡ Done
  grown_goes_back s ws target grown few long = sound_goes_back s ws (grown_memory_is_sound terms grown) few target long

-- The words that a conversion back leaves hold the store of the present ones.
module _ (s : Settings) (source target : List ℕ) (done : (back s source target).answer ≡ Done) where
  abbrev accepted_back : Accepted Present s source target
  accepted_back = done_is_accepted Present s source target done

  pub back_leaves : (back s source target).after ≡ moved_words Present (shard_count s) (cap_of s) source
  back_leaves = ap (λ (o : Outcome Reply (List ℕ)). o.after) (accepted_is_done Present s source target accepted_back)

  pub back_long : length (back s source target).after ≡ words_for Old s
  back_long = ap length back_leaves ∙ moved_words_long Present (shard_count s) (cap_of s) source (source_undamaged accepted_back)

  pub back_shard : (i : ℕ) → i < shard_count s
      → (old_store s (back s source target).after).numbered i ≡ in_place_order (uncounted (shard_numbered (classless s) i source))
  back_shard i below =
      ap (λ (w : List ℕ). (old_store s w).numbered i) back_leaves ∙ back_is_alike s source target accepted_back i below

  -- What it is made of was a sound memory.
  back_sound : SoundMemory (classless s) source
  back_sound = record {
    settings = refused_with_any_classes 0 s ∙ accepted_back.settings;
    size = omega (arith, accepted_back.source_size);
    total = accepted_total s source target accepted_back;
    finds_each = λ hash. accepted_finds_each s source target accepted_back (shard_of s hash) (shard_below s hash);
  }

  module _ {S N : Type 0} (terms : Terms S N) where
    abbrev present : Shards
    present = record { numbered = λ i. in_place_order (shard_numbered (classless s) i source); buckets = [] }

    present_places : SamePlaces (classless s) source present
    present_places = record { shards = λ hash. refl; buckets = no_buckets s source }

    equal_but_for_counts : EqualButForCounts (classless s) present (old_store s (back s source target).after)
    equal_but_for_counts = record {
      shards = λ hash. sym (ap uncounted (back_shard (shard_of s hash) (shard_below s hash))
          ∙ equal_but_for_turn_aways (uncounted_alike (in_place_order (shard_at (classless s) hash source))));
      buckets = refl;
    }

    -- Every list of calls and clears answers alike, but for the look at a count.
    pub back_answers_alike : (ts : List (Turn S N)) → AllOf terms (classless s) ts
        → SameReplies ts (run (by_rules terms (classless s)) ts source).answer
        (run (step_without_indexes terms (classless s)) ts (old_store s (back s source target).after)).answer
    back_answers_alike ts all =
        rw (run_same terms (classless s) ts source present back_sound present_places all).answer
        (run_alike terms (classless s) ts present (old_store s (back s source target).after) all equal_but_for_counts)

-- A grown store becomes what document 01's layout would have grown by the same list, from a fresh store in place order.
module _ {S N : Type 0} (terms : Terms S N) (s : Settings) where
  pub grown_back_is_the_old_store : (table fresh target : List ℕ) → class_count table ≡ 0 → (set_up_for (classless s) table fresh).answer ≡ Done
      → (ts : List (Turn S N)) → AllOf terms (classless s) ts
      → (let ws = (run (by_rules terms (classless s)) ts (set_up_for (classless s) table fresh).after).after in (back s ws target).answer ≡ Done
      → (i : ℕ) → i < shard_count s
      → (old_store s (back s ws target).after).numbered i
      ≡ uncounted ((run (step_without_indexes terms (classless s)) ts (fresh_shards (classless s))).after.numbered i))
  grown_back_is_the_old_store table fresh target none set_up_lem ts all done i below =
      let ws : List ℕ = (run (by_rules terms (classless s)) ts (set_up_for (classless s) table fresh).after).after in
      let same = grown_store_is_as_without_indexes terms (classless s) table fresh none set_up_lem ts all in
      back_shard s ws target done i below ∙ ap uncounted (same.shards i below)

-- A key that holds a slot or a debt on the old store is decided by it on the new one.
module _ (s : Settings) (source target : List ℕ) (done : (forth s source target).answer ≡ Done) where
  abbrev shard_of_lem : Identity → Shard
  shard_of_lem id = (old_store s source).numbered (shard_of s id.hash)

  old_is_sound : (id : Identity) → Sound (shard_of_lem id)
  old_is_sound id =
      let a = done_is_accepted Old s source target done in
      let i = shard_of s id.hash in
      let below = shard_below s id.hash in
      let sound = found_is_sound (forth_finds_all s source target a i below) in
      rw (forth_is_in_place_order s source target a i below) at
      (in_place_order_is_sound (Layouts.shard_at Present (cap_of s) i (left s source target done)) sound)
    where
      in_place_order_is_sound : (t : Shard) → Sound t → Sound (in_place_order t)
      in_place_order_is_sound t sound = record {
        room = sound.room;
        count_fits = sound.count_fits;
        ledger = record { room = sound.ledger.room; count_fits = sound.ledger.count_fits };
      }

  pub forth_decides_by_the_old_debt : {S N : Type 0} (terms : Terms S N) (written : S) (n : N) (r : Request) (at : Nanos) (cost : ℕ) (rate : Rate)
      → terms.settings written ≡ classless s → refused_as terms (old_store s source).numbered (keyed written n (requests r at cost)) ≡ 0 → s.limit ≡ Open rate
      → 1 ≤ cost → cost ≤ burst_of rate → holds (terms.identity n) (shard_of_lem (terms.identity n)) ≡ true
      → (rules terms (keyed written n (requests r at cost)) (forth s source target).after).answer
      ≡ reply_to (manner_of r) (own_decision (config_of rate) (terms.identity n) r cost at (shard_of_lem (terms.identity n)))
  unfolding on_shards
  forth_decides_by_the_old_debt {S} {N} terms written n r at cost rate same taken rated least most holding =
      let c : Call S N = keyed written n (requests r at cost) in
      let id = terms.identity n in
      let words : List ℕ = left s source target done in
      let both = call_same terms c words (old_store s source) (rw same (forth_sound s source target done)) (rw same (forth_places s source target done)) in
      let asked : (on_shards terms c (old_store s source)).answer ≡ (asked_in r s.limit (classless s) at id cost (shard_of_lem id)).answer =
      rw (eq-eqb _ _ taken, same) in
      ap (λ (w : List ℕ). (rules terms c w).answer) (forth_leaves s source target done) ∙ both.answer ∙ asked
      ∙ own_bucket_answers (classless s) id r at cost (shard_of_lem id) (old_is_sound id) rate rated least most holding
