-- The windows across a conversion: over a list of calls that begins on one box and goes on, converted forth, on another (specs/OldStore.antt).
use Prim.Native.Nat.{ℕ}
use mathlib.Core.Path.{◌≡◌, refl, sym, ap, ◌∙◌}
use mathlib.Core.Bool.{true, false, cond, not}
use mathlib.Core.List.{List, [], ◌∷◌, ◌++◌, map}
use lib.ListN.{length}
use Rattle.arith.proofs.Cases.{by_test}
use Rattle.settings.specs.declared.Limit.TheVariants.{Open}
use Rattle.settings.specs.declared.Settings.{Settings}
use Rattle.settings.specs.declared.eviction.WhenFull.TheVariants.{RefuseNew}
use Rattle.settings.specs.declared.rate.Rate.{Rate}
use Rattle.settings.specs.Settings.{shard_of}
use Rattle.settings.proofs.SettingsLaws.{shard_below}
use Rattle.shard_map.specs.Model.{in_place_order, uncounted}
use Rattle.shard_map.proofs.TurnAwayLaws.{equal_but_for_turn_aways, uncounted_alike}
use Rattle.store.specs.Memory.{shard_at}
use Rattle.rules.specs.declared.Reply.{Reply}
use Rattle.rules.specs.declared.Reply.TheVariants.{Done}
use Rattle.rules.specs.Replies.{numbered}
use Rattle.rules.specs.Rules.{set_up_for}
use Rattle.rules.specs.Calls.{Call, Terms, Answered, rules, replies, accepted, settings_of, Every}
use Rattle.rules.proofs.CallLaws.{refused_changes_nothing}
use Rattle.classes.specs.Layout.{class_count}
use Rattle.converter.specs.declared.Layout.TheVariants.{Old, Present}
use Rattle.converter.specs.Conversion.{keys_refusal, words_for, forth, back}
use Rattle.demands.specs.Demands.{SameSettings, WithinWindow}
use Rattle.demands.specs.Refunds.{refunded_of, WithinRefundWindow, WithinSpanWindow}
use Rattle.demands.specs.PlaceOrder.{shard_numbered, Shards, fresh_shards, on_shards, calls, by_rules, step_without_indexes, run, AllOf}
use Rattle.demands.specs.TurnAways.{call_reads_turn_aways}
use Rattle.demands.proofs.GrownLaws.{SoundMemory, sound_kept_by_calls}
use Rattle.demands.proofs.PlaceOrderTheorem.{SamePlaces, turn_same, turn_keeps_sound, grown_store_is_as_without_indexes}
use Rattle.demands.proofs.Theorem.{rules_stay_within_the_window}
use Rattle.demands.proofs.RefundTheorem.{rules_stay_within_the_refund_window, rules_stay_within_the_span_window}
use Rattle.demands_converter.specs.OldStore.{classless, old_store, EqualButForCounts, left_by, OldHolds, across_boxes}
use Rattle.demands_converter.proofs.CountLaws.{turn_alike}
use Rattle.demands_converter.proofs.StandInLaws.{StandsIn, stands_in_for_itself, answered_in, one_more_stands_in, within_the_window_with_its_stand_in}
use Rattle.demands_converter.proofs.StandInLaws.{within_the_refund_window_with_its_stand_in, within_the_span_window_with_its_stand_in}
use Rattle.demands_converter.proofs.StandInLaws.{without_a_mute, refused_is_mute, look_is_mute, look_changes_nothing, led_by_the_same}
use Rattle.demands_converter.proofs.Theorem.{left, forth_leaves, forth_sound, forth_places, no_buckets, sound_goes_back, sound_goes_forth, back_long}
use Rattle.demands_converter.proofs.Theorem.{back_shard}

module _ {S N : Type 0} (terms : Terms S N) (s : Settings) where
  -- Two memories whose stores in place order are equal but for counts.
  pub record AlikeMemories (x y : List ℕ) : Type 0 where
    pub first : SoundMemory s x
    pub second : SoundMemory s y
    pub first_store : Shards
    pub second_store : Shards
    pub first_places : SamePlaces s x first_store
    pub second_places : SamePlaces s y second_store
    pub stores : EqualButForCounts s first_store second_store

  -- A call of the store that looks at no count answers alike on both, and leaves two such memories.
  call_keeps_alike : (c : Call S N) (x y : List ℕ) → AlikeMemories x y → settings_of terms c ≡ s → call_reads_turn_aways c ≡ false
      → ((rules terms c x).answer ≡ (rules terms c y).answer) × AlikeMemories (rules terms c x).after (rules terms c y).after
  call_keeps_alike c x y alike own blind =
      let one = turn_same terms s (calls c) x alike.first_store alike.first alike.first_places own in
      let two = turn_same terms s (calls c) y alike.second_store alike.second alike.second_places own in
      let between = turn_alike terms s (calls c) alike.first_store alike.second_store own alike.stores in (
        one.answer ∙ between.answer blind ∙ sym two.answer,
        record {
          first = turn_keeps_sound terms s (calls c) x alike.first own;
          second = turn_keeps_sound terms s (calls c) y alike.second own;
          first_store = (on_shards terms c alike.first_store).after;
          second_store = (on_shards terms c alike.second_store).after;
          first_places = one.places;
          second_places = two.places;
          stores = between.after;
        },
      )

  -- Of a list of calls, those that are accepted and look at no count.
  unfoldable sifted : List (Call S N) → List ℕ → List (Call S N)
  sifted [] ws = []
  sifted (c ∷ cs) ws =
      cond (numbered (rules terms c ws).answer) (sifted cs ws)
      (cond (call_reads_turn_aways c) (sifted cs ws) (c ∷ sifted cs (rules terms c ws).after))

  -- A list as it is answered, each call in the words that the calls before it left.
  abbrev answered : List (Call S N) → List ℕ → List (Answered S N)
  answered cs ws = replies terms (rules terms) cs ws ws

  -- A call that is not refused is accepted, and has the settings of the store where all accepted calls have them.
  taken_is_accepted : (c : Call S N) (r : Reply) (ws : List ℕ) → numbered (rules terms c ws).answer ≡ false → accepted terms (answered_in c r ws) ≡ true
  unfolding accepted
  taken_is_accepted c r ws taken = ap not taken

  accepted_alike : (c : Call S N) (r : Reply) (x y : List ℕ) → (rules terms c x).answer ≡ (rules terms c y).answer
      → accepted terms (answered_in c r x) ≡ accepted terms (answered_in c r y)
  unfolding accepted
  accepted_alike c r x y same = ap (λ reply. not (numbered reply)) same

  -- What is answered on one memory has a stand-in: the calls that count, answered on the other.
  sifted_stands_in : (ds : List (Call S N)) (x y : List ℕ) → AlikeMemories x y → SameSettings terms s (answered ds x)
      → StandsIn terms (answered ds x) (answered (sifted ds x) y)
  unfolding replies sifted
  sifted_stands_in [] x y alike same = stands_in_for_itself terms []
  sifted_stands_in (c ∷ ds) x y alike same =
      let reply : Reply = (rules terms c x).answer in
      let left_out : (rules terms c x).after ≡ x → StandsIn terms (answered ds x) (answered (sifted ds x) y) =
      λ unchanged. sifted_stands_in ds x y alike (rw unchanged at same.1) in
      by_test (numbered reply)
      (λ refused.
      rw (refused, refused_changes_nothing terms c x refused)
      (without_a_mute terms (answered_in c reply x) _ _ (refused_is_mute terms c x refused) (left_out (refused_changes_nothing terms c x refused))))
      (λ taken.
      by_test (call_reads_turn_aways c)
      (λ looks.
      rw (taken, looks, look_changes_nothing terms c x looks)
      (without_a_mute terms (answered_in c reply x) _ _ (look_is_mute terms c reply x looks) (left_out (look_changes_nothing terms c x looks))))
      (λ blind.
      let both = call_keeps_alike c x y alike (same.0 (taken_is_accepted c reply x taken)) blind in
      rw (taken, blind, sym both.0)
      (one_more_stands_in terms c reply x y (accepted_alike c reply x y both.0) _ _
      (sifted_stands_in ds (rules terms c x).after (rules terms c y).after both.1 same.1))))

  -- A list whose accepted calls have the settings of the store leaves a sound memory sound.
  list_keeps_sound : (cs : List (Call S N)) (ws : List ℕ) → SoundMemory s ws → SameSettings terms s (answered cs ws) → SoundMemory s (left_by terms cs ws)
  unfolding replies left_by
  list_keeps_sound [] ws memory same = memory
  list_keeps_sound (c ∷ cs) ws memory same =
      let reply : Reply = (rules terms c ws).answer in
      by_test (numbered reply)
      (λ refused.
      let unchanged = refused_changes_nothing terms c ws refused in rw unchanged (list_keeps_sound cs ws memory (rw unchanged at same.1)))
      (λ taken.
      list_keeps_sound cs (rules terms c ws).after (turn_keeps_sound terms s (calls c) ws memory (same.0 (taken_is_accepted c reply ws taken))) same.1)

-- One list after the other.
pub replies_joined : {S N : Type 0} (terms : Terms S N) (cs ds : List (Call S N)) (ws : List ℕ)
    → replies terms (rules terms) cs ws ws ++ replies terms (rules terms) ds (left_by terms cs ws) (left_by terms cs ws)
    ≡ replies terms (rules terms) (cs ++ ds) ws ws
unfolding replies left_by
replies_joined terms [] ds ws = refl
replies_joined {S} {N} terms (c ∷ cs) ds ws =
    ap {B = List (Answered S N)} (λ rest. record { call = c; reply = (rules terms c ws).answer; rules_words = ws } ∷ rest)
    (replies_joined terms cs ds (rules terms c ws).after)

-- What holds of every member of two lists in a row holds of every member of each.
every_of_both : {A : Type 0} (Q : A → Type 0) (xs ys : List A) → Every Q (xs ++ ys) → Every Q xs × Every Q ys
every_of_both Q [] ys all = (tt, all)
every_of_both Q (x ∷ xs) ys all = let rest = every_of_both Q xs ys all.1 in ((all.0, rest.0), rest.1)

-- The first calls, from a fresh store, leave the words `grown`. The old box holds the same store by document 01. The last calls are made on what the
-- conversion leaves of it.
module _ {S N : Type 0} (terms : Terms S N) (s : Settings) (table ws : List ℕ) (set_up_lem : (set_up_for (classless s) table ws).answer ≡ Done)
    (cs : List (Call S N)) (old target : List ℕ) (held : OldHolds s (left_by terms cs (set_up_for (classless s) table ws).after) old)
    (done : (forth s old target).answer ≡ Done) where
  abbrev fresh : List ℕ
  fresh = (set_up_for (classless s) table ws).after

  abbrev grown : List ℕ
  grown = left_by terms cs fresh

  abbrev came : List ℕ
  came = (forth s old target).after

  converted_alike : SoundMemory (classless s) grown → AlikeMemories terms (classless s) came grown
  converted_alike sound = record {
    first = rw (forth_leaves s old target done) (forth_sound s old target done);
    second = sound;
    first_store = old_store s old;
    second_store = record { numbered = λ i. in_place_order (shard_numbered (classless s) i grown); buckets = [] };
    first_places = rw (forth_leaves s old target done) (forth_places s old target done);
    second_places = record { shards = λ hash. refl; buckets = no_buckets s grown };
    stores = record {
      shards = λ hash.
          ap uncounted (held (shard_of s hash) (shard_below s hash))
          ∙ equal_but_for_turn_aways (uncounted_alike (in_place_order (shard_at (classless s) hash grown)));
      buckets = refl;
    };
  }

  -- One list from the fresh store stands in for both parts.
  one_list_stands_in : (ds : List (Call S N)) → SameSettings terms (classless s) (across_boxes terms (rules terms) cs ds fresh came)
      → StandsIn terms (across_boxes terms (rules terms) cs ds fresh came)
      (replies terms (rules terms) (cs ++ sifted terms (classless s) ds came) fresh fresh)
  one_list_stands_in ds same =
      let parts = every_of_both _ (replies terms (rules terms) cs fresh fresh) (replies terms (rules terms) ds came came) same in
      let sound = list_keeps_sound terms (classless s) cs fresh ((sound_kept_by_calls terms (classless s)).fresh table ws set_up_lem) parts.0 in
      let rest = sifted_stands_in terms (classless s) ds came grown (converted_alike sound) parts.1 in
      rw (sym (replies_joined terms cs (sifted terms (classless s) ds came) fresh))
      (led_by_the_same terms (replies terms (rules terms) cs fresh fresh) _ _ rest)

  -- So a claim holds of both parts where all accepted calls have the settings of the store.
  module _ (rate : Rate) (rated : s.limit ≡ Open rate) (turns_away : s.eviction.when_full ≡ RefuseNew) (ds : List (Call S N)) where
    abbrev both : List (Answered S N)
    both = across_boxes terms (rules terms) cs ds fresh came

    abbrev one_list : List (Call S N)
    one_list = cs ++ sifted terms (classless s) ds came

    pub converted_store_stays_within_the_window : WithinWindow terms 1 (classless s) rate both
    converted_store_stays_within_the_window same =
        within_the_window_with_its_stand_in terms (classless s) rate both _ (one_list_stands_in ds same) 1
        (rules_stay_within_the_window terms (classless s) rate table ws rated turns_away set_up_lem one_list) same

    pub converted_store_stays_within_the_refund_window : WithinRefundWindow terms refunded_of (classless s) rate both
    converted_store_stays_within_the_refund_window k fair =
        within_the_refund_window_with_its_stand_in terms (classless s) rate both _ (one_list_stands_in ds fair.same_settings)
        (rules_stay_within_the_refund_window terms (classless s) rate table ws rated turns_away set_up_lem one_list) k fair

    pub converted_store_stays_within_the_span_window : WithinSpanWindow terms (classless s) rate both
    converted_store_stays_within_the_span_window k fair =
        within_the_span_window_with_its_stand_in terms (classless s) rate both _ (one_list_stands_in ds fair.same_settings)
        (rules_stay_within_the_span_window terms (classless s) rate table ws rated turns_away set_up_lem one_list) k fair

-- There is such a box, and its words go forth: for every list from a fresh store whose accepted calls have the settings of the store.
module _ {S N : Type 0} (terms : Terms S N) (s : Settings) (few : keys_refusal s ≡ 0) (table ws : List ℕ)
    (set_up_lem : (set_up_for (classless s) table ws).answer ≡ Done) (cs : List (Call S N)) where
  abbrev start : List ℕ
  start = (set_up_for (classless s) table ws).after

  pub an_old_box_can_hold_it : SameSettings terms (classless s) (replies terms (rules terms) cs start start)
      → (old target : List ℕ) → length old ≡ words_for Old s → length target ≡ words_for Present s
      → (let held : List ℕ = (back s (left_by terms cs start) old).after in
      OldHolds s (left_by terms cs start) held × ((forth s held target).answer ≡ Done))
  an_old_box_can_hold_it same old target long also =
      let grown : List ℕ = left_by terms cs start in
      let sound = list_keeps_sound terms (classless s) cs start ((sound_kept_by_calls terms (classless s)).fresh table ws set_up_lem) same in
      let done = sound_goes_back s grown sound few old long in (
        back_shard s grown old done,
        sound_goes_forth s grown sound few (back s grown old).after (back_long s grown old done) (back_shard s grown old done) target also,
      )

-- What was answered in a list.
abbrev answers_of : {S N : Type 0} → List (Answered S N) → List Reply
answers_of answered = map (λ a. a.reply) answered

-- A run of calls by the rules answers as the list does.
run_answers : {S N : Type 0} (terms : Terms S N) (s : Settings) (cs : List (Call S N)) (ws : List ℕ)
    → answers_of (replies terms (rules terms) cs ws ws) ≡ (run (by_rules terms s) (map calls cs) ws).answer
unfolding replies run
run_answers terms s [] ws = refl
run_answers terms s (c ∷ cs) ws = ap (λ rest. (rules terms c ws).answer ∷ rest) (run_answers terms s cs (rules terms c ws).after)

-- The first part is what a box in document 01's words answers, from a fresh store, if all its calls have the settings of the store.
pub the_old_box_answers_so : {S N : Type 0} (terms : Terms S N) (s : Settings) (table ws : List ℕ) → class_count table ≡ 0
    → (set_up_for (classless s) table ws).answer ≡ Done → (cs : List (Call S N)) → AllOf terms (classless s) (map calls cs)
    → (let fresh = (set_up_for (classless s) table ws).after in
    answers_of (replies terms (rules terms) cs fresh fresh)
    ≡ (run (step_without_indexes terms (classless s)) (map calls cs) (fresh_shards (classless s))).answer)
the_old_box_answers_so terms s table ws none set_up_lem cs all =
    run_answers terms (classless s) cs (set_up_for (classless s) table ws).after
    ∙ (grown_store_is_as_without_indexes terms (classless s) table ws none set_up_lem (map calls cs) all).answers
