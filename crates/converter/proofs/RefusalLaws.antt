-- The refusals as the code comes to them, and what holds where nothing is refused.
use Prim.Native.Nat.{ℕ, ◌≤◌, ◌<◌}
use native.Mathlib.Omega.{arith}
use mathlib.Core.Path.{◌≡◌, refl, sym, ◌∙◌}
use mathlib.Core.Bool.{Bool, true, false, cond, not}
use mathlib.Core.List.{List}
use lib.ListN.{length}
use borrow.Author.Tests.{eq-eqb, ne_eqb, lt-ltb, le-ltb}
use lib.Dec.{eqb}
use Rattle.arith.proofs.Cases.{by_test}
use Rattle.settings.specs.declared.Settings.{Settings}
use Rattle.settings.specs.declared.refusal.Refusal.TheVariants.{Memory}
use Rattle.settings.proofs.RefusalLaws.{stands, second_decides}
use Rattle.settings.specs.Settings.{first_refusal, settings_refusal, size_refusal, shard_count, cap_of}
use Rattle.settings.proofs.SettingsLaws.{neither_refuses, no_refusal_hands_on, accepted_parts, cap_least}
use Rattle.store.specs.Memory.{total_of}
use Rattle.store.specs.Refusals.{memory_refusal}
use Rattle.store.proofs.RefusalLaws.{length_not_refused, length_is_accepted, other_length_is_refused}
use Rattle.converter.specs.declared.Layout.{Layout}
use Rattle.converter.specs.declared.Layout.TheVariants.{Old, Present}
use Rattle.converter.specs.Layouts.{other, slots_of, total_wrong}
use Rattle.converter.specs.Conversion.{any_refused_by, source_refusal, most_keys_moved, keys_refusal, old_words, words_for, lengths_refusal, refusal_of}
use Rattle.converter.specs.code.Moving.{InShards}
use Rattle.converter.specs.code.Moving.{Undamaged}

-- Too many keys.
module _ (s : Settings) where
  pub more_keys_are_refused : most_keys_moved < s.eviction.max_keys → 4 ≡ keys_refusal s
  unfolding keys_refusal
  more_keys_are_refused more = rw (lt-ltb _ _ more)

  pub keys_are_accepted : s.eviction.max_keys ≤ most_keys_moved → 0 ≡ keys_refusal s
  unfolding keys_refusal
  keys_are_accepted few = rw (le-ltb _ _ few)

  -- Settings that are not refused have an accepted size.
  pub size_is_accepted : first_refusal (settings_refusal s) (keys_refusal s) ≡ 0 → size_refusal s ≡ 0
  size_is_accepted none = (accepted_parts s (neither_refuses (settings_refusal s) (keys_refusal s) none).0).1

  -- The words to lend, by the tests of the code.
  module _ {told : ℕ} (is : told ≡ size_refusal s) where
    pub refused_size_has_none : (told ≡ 0 → ⊥) → 0 ≡ old_words s
    unfolding old_words
    refused_size_has_none some = rw (← is, ne_eqb told 0 some)

    pub many_keys_have_none : told ≡ 0 → most_keys_moved < s.eviction.max_keys → 0 ≡ old_words s
    unfolding old_words
    many_keys_have_none none more = rw (← is, eq-eqb told 0 none, lt-ltb _ _ more)

    pub words_to_lend_lem : told ≡ 0 → s.eviction.max_keys ≤ most_keys_moved → {n : ℕ} → n ≡ words_for Old s → n ≡ old_words s
    unfolding old_words
    words_to_lend_lem none few words = rw (← is, eq-eqb told 0 none, le-ltb _ _ few) words

-- The total, by the tests of the code.
module _ (shards cap : ℕ) (ws : List ℕ) {total slots : ℕ} (stored : total ≡ total_of ws) (counted : slots ≡ slots_of Present shards cap ws) where
  pub total_compared : not (eqb total slots) ≡ total_wrong Present shards cap ws
  total_compared = rw (← stored, ← counted) (by_test (eqb total slots) (λ t. rw t) (λ t. rw t))

-- The words of the source.
module _ (layout : Layout) (shards cap : ℕ) (ws : List ℕ) {a : Bool} (damage : a ≡ any_refused_by layout 5 shards cap ws) where
  pub damage_is_told : a ≡ true → 5 ≡ source_refusal layout shards cap ws
  unfolding source_refusal
  damage_is_told is = rw (sym damage ∙ is)

  module _ (none : a ≡ false) {b : Bool} (total : b ≡ total_wrong layout shards cap ws) where
    pub wrong_total_is_told : b ≡ true → 5 ≡ source_refusal layout shards cap ws
    unfolding source_refusal
    wrong_total_is_told is = rw (sym damage ∙ none, sym total ∙ is)

    module _ (right : b ≡ false) {c : Bool} (twins : c ≡ any_refused_by layout 18 shards cap ws) where
      pub twins_are_told : c ≡ true → 18 ≡ source_refusal layout shards cap ws
      unfolding source_refusal
      twins_are_told is = rw (sym damage ∙ none, sym total ∙ right, sym twins ∙ is)

      module _ (single : c ≡ false) {d : Bool} (past : d ≡ any_refused_by layout 19 shards cap ws) where
        pub past_is_told : d ≡ true → 19 ≡ source_refusal layout shards cap ws
        unfolding source_refusal
        past_is_told is = rw (sym damage ∙ none, sym total ∙ right, sym twins ∙ single, sym past ∙ is)

        pub nothing_is_told : d ≡ false → 0 ≡ source_refusal layout shards cap ws
        unfolding source_refusal
        nothing_is_told is = rw (sym damage ∙ none, sym total ∙ right, sym twins ∙ single, sym past ∙ is)

-- What holds of words that are not refused.
pub record Sound (layout : Layout) (shards cap : ℕ) (ws : List ℕ) : Type 0 where
  pub whole : any_refused_by layout 5 shards cap ws ≡ false
  pub total : total_wrong layout shards cap ws ≡ false
  pub single : any_refused_by layout 18 shards cap ws ≡ false
  pub clean : any_refused_by layout 19 shards cap ws ≡ false

-- A test that refuses by a number: where nothing is refused it fails, and the rest refuses nothing.
test_fails : (b : Bool) (number rest : ℕ) → 0 < number → cond b number rest ≡ 0 → (b ≡ false) × (rest ≡ 0)
test_fails true number rest some none = absurd (omega (arith, none))
test_fails false number rest some none = (refl, none)

module _ (layout : Layout) (shards cap : ℕ) (ws : List ℕ) where
  pub not_refused_is_sound : source_refusal layout shards cap ws ≡ 0 → Sound layout shards cap ws
  unfolding source_refusal
  not_refused_is_sound none =
      let whole = test_fails (any_refused_by layout 5 shards cap ws) 5 _ (omega arith) none in
      let total = test_fails (total_wrong layout shards cap ws) 5 _ (omega arith) whole.1 in
      let single = test_fails (any_refused_by layout 18 shards cap ws) 18 _ (omega arith) total.1 in
      let clean = test_fails (any_refused_by layout 19 shards cap ws) 19 0 (omega arith) single.1 in
      record { whole = whole.0; total = total.0; single = single.0; clean = clean.0 }

  pub sound_is_not_refused : Sound layout shards cap ws → source_refusal layout shards cap ws ≡ 0
  sound_is_not_refused sound = sym (nothing_is_told layout shards cap ws refl sound.whole refl sound.total refl sound.single refl sound.clean)

-- What holds where a conversion is not refused.
pub record Accepted (from : Layout) (s : Settings) (source target : List ℕ) : Type 0 where
  pub settings : settings_refusal s ≡ 0
  pub keys : keys_refusal s ≡ 0
  pub source_size : length source ≡ words_for from s
  pub target_size : length target ≡ words_for (other from) s
  pub sound : Sound from (shard_count s) (cap_of s) source

module _ (from : Layout) (s : Settings) (source target : List ℕ) where
  abbrev first : ℕ
  first = first_refusal (settings_refusal s) (keys_refusal s)

  abbrev words : ℕ
  words = source_refusal from (shard_count s) (cap_of s) source

  pub not_refused_is_accepted : refusal_of from s source target ≡ 0 → Accepted from s source target
  not_refused_is_accepted none =
      let parts = neither_refuses first (first_refusal (lengths_refusal from s source target) words) none in
      let own = neither_refuses (settings_refusal s) (keys_refusal s) parts.0 in
      let rest = neither_refuses (lengths_refusal from s source target) words parts.1 in
      let lengths = neither_refuses (memory_refusal (words_for from s) source) (memory_refusal (words_for (other from) s) target) rest.0 in
      record {
        settings = own.0;
        keys = own.1;
        source_size = length_not_refused (words_for from s) source lengths.0;
        target_size = length_not_refused (words_for (other from) s) target lengths.1;
        sound = not_refused_is_sound from (shard_count s) (cap_of s) source rest.1;
      }

  lengths_right : length source ≡ words_for from s → length target ≡ words_for (other from) s → lengths_refusal from s source target ≡ 0
  lengths_right long also =
      no_refusal_hands_on (memory_refusal (words_for from s) source) (memory_refusal (words_for (other from) s) target)
      (length_is_accepted (words_for from s) source long)
      ∙ length_is_accepted (words_for (other from) s) target also

  pub accepted_is_not_refused : Accepted from s source target → refusal_of from s source target ≡ 0
  accepted_is_not_refused a =
      no_refusal_hands_on first (first_refusal (lengths_refusal from s source target) words)
      (no_refusal_hands_on (settings_refusal s) (keys_refusal s) a.settings ∙ a.keys)
      ∙ no_refusal_hands_on (lengths_refusal from s source target) words (lengths_right a.source_size a.target_size)
      ∙ sound_is_not_refused from (shard_count s) (cap_of s) source a.sound

  -- As the code comes to them, where the settings are accepted.
  module _ (none : 0 ≡ first) where
    pub source_length_is_told : {n : ℕ} → n ≡ words_for from s → (length source ≡ n → ⊥) → 5 ≡ refusal_of from s source target
    source_length_is_told {n} long differs =
        second_decides none (stands Memory words (stands Memory (memory_refusal (words_for (other from) s) target)
        (sym (other_length_is_refused (words_for from s) source (λ same. differs (same ∙ sym long))))))

    pub target_length_is_told : {n m : ℕ} → n ≡ words_for from s → length source ≡ n → m ≡ words_for (other from) s → (length target ≡ m → ⊥)
        → 5 ≡ refusal_of from s source target
    target_length_is_told {n} {m} long same also differs =
        second_decides none (stands Memory words
        (second_decides (sym (length_is_accepted (words_for from s) source (same ∙ long)))
        (sym (other_length_is_refused (words_for (other from) s) target (λ e. differs (e ∙ sym also))))))

    pub words_are_told : {n m r : ℕ} → n ≡ words_for from s → length source ≡ n → m ≡ words_for (other from) s → length target ≡ m → r ≡ words
        → r ≡ refusal_of from s source target
    words_are_told long same also same_too is = second_decides none (second_decides (sym (lengths_right (same ∙ long) (same_too ∙ also))) is)

-- The source of a conversion that is not refused, and its target, as the loops need them.
pub source_undamaged : {from : Layout} {s : Settings} {source target : List ℕ} → Accepted from s source target
    → Undamaged from (shard_count s) (cap_of s) source
source_undamaged {from} {s} a = record { in_shards = record { size = a.source_size; room = cap_least s }; whole = a.sound.whole }

pub target_in_shards : {from : Layout} {s : Settings} {source target : List ℕ} → Accepted from s source target
    → InShards (other from) (shard_count s) (cap_of s) target
target_in_shards {from} {s} a = record { size = a.target_size; room = cap_least s }
