-- A list of calls with the settings of the store, none of which looks at a count after a conversion forth, is answered on the two boxes as on one
-- (specs/OldStore.antt).
use Prim.Native.Nat.{ℕ, ◌<◌}
use mathlib.Core.Path.{◌≡◌, refl, sym, ap, ◌∙◌}
use mathlib.Core.List.{List, [], ◌∷◌, ◌++◌}
use Rattle.settings.specs.declared.Limit.TheVariants.{Open}
use Rattle.settings.specs.declared.Settings.{Settings}
use Rattle.settings.specs.declared.eviction.WhenFull.TheVariants.{RefuseNew}
use Rattle.settings.specs.declared.rate.Rate.{Rate}
use Rattle.settings.specs.Settings.{shard_count, shard_of}
use Rattle.settings.proofs.SettingsLaws.{shard_below}
use Rattle.shard_map.specs.Model.{in_place_order, uncounted}
use Rattle.shard_map.proofs.TurnAwayLaws.{equal_but_for_turn_aways, uncounted_alike}
use Rattle.store.specs.Memory.{shard_at}
use Rattle.rules.specs.declared.Reply.TheVariants.{Done}
use Rattle.rules.specs.Rules.{set_up_for}
use Rattle.rules.specs.Calls.{Call, Terms, Answered, rules, replies, settings_of, Every}
use Rattle.converter.specs.Conversion.{forth}
use Rattle.demands.specs.Demands.{WithinWindow}
use Rattle.demands.specs.PlaceOrder.{shard_numbered, on_shards, calls}
use Rattle.demands.proofs.GrownLaws.{SoundMemory, sound_kept_by_calls}
use Rattle.demands.proofs.PlaceOrderTheorem.{turn_same, turn_keeps_sound}
use Rattle.demands.proofs.Theorem.{rules_stay_within_the_window}
use Rattle.demands_converter.specs.OldStore.{classless, old_store, left_by, Blind}
use Rattle.demands_converter.proofs.CountLaws.{turn_alike}
use Rattle.demands_converter.proofs.Theorem.{left, forth_leaves, forth_sound, forth_places, no_buckets}
use Rattle.demands_converter.proofs.WindowTheorem.{AlikeMemories, replies_joined}

module _ {S N : Type 0} (terms : Terms S N) (s : Settings) where
  call_keeps_alike : (c : Call S N) (x y : List ℕ) → AlikeMemories terms s x y → Blind terms s c
      → ((rules terms c x).answer ≡ (rules terms c y).answer) × AlikeMemories terms s (rules terms c x).after (rules terms c y).after
  call_keeps_alike c x y alike blind =
      let one = turn_same terms s (calls c) x alike.first_store alike.first alike.first_places blind.0 in
      let two = turn_same terms s (calls c) y alike.second_store alike.second alike.second_places blind.0 in
      let between = turn_alike terms s (calls c) alike.first_store alike.second_store blind.0 alike.stores in (
        one.answer ∙ between.answer blind.1 ∙ sym two.answer,
        record {
          first = turn_keeps_sound terms s (calls c) x alike.first blind.0;
          second = turn_keeps_sound terms s (calls c) y alike.second blind.0;
          first_store = (on_shards terms c alike.first_store).after;
          second_store = (on_shards terms c alike.second_store).after;
          first_places = one.places;
          second_places = two.places;
          stores = between.after;
        },
      )

  -- They answer every list of such calls alike.
  replies_alike : (cs : List (Call S N)) (x y w : List ℕ) → AlikeMemories terms s x y → Every (Blind terms s) cs
      → replies terms (rules terms) cs x w ≡ replies terms (rules terms) cs y w
  unfolding replies
  replies_alike [] x y w alike all = refl
  replies_alike (c ∷ cs) x y w alike all =
      let both = call_keeps_alike c x y alike all.0 in
      let rest = replies_alike cs (rules terms c x).after (rules terms c y).after (rules terms c w).after both.1 all.1 in
      λ j. record { call = c; reply = both.0 j; rules_words = w } ∷ rest j

  list_keeps_sound : (cs : List (Call S N)) (ws : List ℕ) → SoundMemory s ws → Every (λ c. settings_of terms c ≡ s) cs → SoundMemory s (left_by terms cs ws)
  unfolding left_by
  list_keeps_sound [] ws memory all = memory
  list_keeps_sound (c ∷ cs) ws memory all =
      list_keeps_sound cs (rules terms c ws).after (turn_keeps_sound terms s (calls c) ws memory all.0) all.1

-- The window over a list that begins on one box and goes on, converted, on another. The first calls, from a fresh store, leave the words `grown`; the old box
-- holds the same store by document 01. The last calls are made on what the conversion leaves of it.
module _ {S N : Type 0} (terms : Terms S N) (s : Settings) (rate : Rate) (rated : s.limit ≡ Open rate) (turns_away : s.eviction.when_full ≡ RefuseNew)
    (table ws : List ℕ) (set_up_lem : (set_up_for (classless s) table ws).answer ≡ Done) (cs ds : List (Call S N))
    (own : Every (λ c. settings_of terms c ≡ classless s) cs) (blind : Every (Blind terms (classless s)) ds) (old target : List ℕ)
    (held : (i : ℕ) → i < shard_count s
    → (old_store s old).numbered i
    ≡ in_place_order (uncounted (shard_numbered (classless s) i (left_by terms cs (set_up_for (classless s) table ws).after))))
    (done : (forth s old target).answer ≡ Done) where
  abbrev fresh : List ℕ
  fresh = (set_up_for (classless s) table ws).after

  abbrev grown : List ℕ
  grown = left_by terms cs fresh

  grown_sound : SoundMemory (classless s) grown
  grown_sound = list_keeps_sound terms (classless s) cs fresh ((sound_kept_by_calls terms (classless s)).fresh table ws set_up_lem) own

  converted_alike : AlikeMemories terms (classless s) (left s old target done) grown
  converted_alike = record {
    first = forth_sound s old target done;
    second = grown_sound;
    first_store = old_store s old;
    second_store = record { numbered = λ i. in_place_order (shard_numbered (classless s) i grown); buckets = [] };
    first_places = forth_places s old target done;
    second_places = record { shards = λ hash. refl; buckets = no_buckets s grown };
    stores = record {
      shards = λ hash.
          ap uncounted (held (shard_of s hash) (shard_below s hash))
          ∙ equal_but_for_turn_aways (uncounted_alike (in_place_order (shard_at (classless s) hash grown)));
      buckets = refl;
    };
  }

  pub converted_list_is_one_list : replies terms (rules terms) cs fresh fresh ++ replies terms (rules terms) ds (forth s old target).after grown
      ≡ replies terms (rules terms) (cs ++ ds) fresh fresh
  converted_list_is_one_list =
      ap (λ (rest : List (Answered S N)). replies terms (rules terms) cs fresh fresh ++ rest)
      (ap (λ (x : List ℕ). replies terms (rules terms) ds x grown) (forth_leaves s old target done)
      ∙ replies_alike terms (classless s) ds (left s old target done) grown grown converted_alike blind)
      ∙ replies_joined terms cs ds fresh

  pub converted_store_stays_within_the_window : WithinWindow terms 1 (classless s) rate
      (replies terms (rules terms) cs fresh fresh ++ replies terms (rules terms) ds (forth s old target).after grown)
  converted_store_stays_within_the_window =
      rw converted_list_is_one_list (rules_stay_within_the_window terms (classless s) rate table ws rated turns_away set_up_lem (cs ++ ds))
