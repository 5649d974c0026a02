-- What a call that is not refused by number may count on, and the other way round: each check refuses nothing just where what it looks at is right.
use Prim.Native.Nat.{ℕ, suc, ◌≤◌, ◌<◌}
use native.Mathlib.Omega.{arith}
use mathlib.Core.Path.{◌≡◌, sym, ap, ◌∙◌}
use mathlib.Core.Bool.{cond}
use mathlib.Core.List.{List}
use lib.Dec.{ltb}
use lib.ListN.{length}
use Rattle.arith.proofs.Cases.{by_le, by_eq}
use Rattle.units.specs.declared.Nanos.{Nanos}
use Rattle.settings.specs.declared.Settings.{Settings}
use Rattle.settings.specs.Settings.{first_refusal, settings_refusal, cap_of, shape_of}
use Rattle.settings.proofs.SettingsLaws.{first_refusal_stands, no_refusal_hands_on, neither_refuses}
use Rattle.shard_map.specs.Model as Shard
use Rattle.store.specs.Memory.{total_of, shard_at, room_in}
use Rattle.store.specs.Refusals.{latest_moment, longest_max_wait, memory_refusal, set_up_refusal, count_refusal, counts_refusal, keyed_refusal}
use Rattle.store.specs.Refusals.{moment_refusal, wait_refusal, total_refusal, len_refusal}
use Rattle.store.proofs.MemoryLaws.{shard_at_cap, shard_at_debt_cap, sound_shard}
use Rattle.store.specs.Memory.{memory_words}
use borrow.Author.Tests.{le-ltb, lt-ltb, eq-eqb, ne_eqb}

-- A number over its bound is refused, so where nothing is refused it is within the bound, and the rest of the checks refuse nothing.
within_bound : (bound number refusal rest : ℕ) → cond (ltb bound number) (suc refusal) rest ≡ 0 → (number ≤ bound) × (rest ≡ 0)
within_bound bound number refusal rest none =
    by_le number bound
    (λ within. (within, rw (le-ltb bound number within) at none))
    (λ over. absurd (omega (arith, rw (lt-ltb bound number over) at none)))

-- Where the rest of the checks refuse as 5, a check before them that refuses as 5 changes nothing.
refused_anyway : (bound number : ℕ) {rest : ℕ} → rest ≡ 5 → cond (ltb bound number) 5 rest ≡ 5
refused_anyway bound number told =
    by_le number bound
    (λ within. rw (le-ltb bound number within) told)
    (λ over. rw (lt-ltb bound number over))

-- A check refuses nothing just where what it looks at is right; here for each check, both ways. First the length of the memory.
module _ (words : ℕ) (ws : List ℕ) where
  pub length_not_refused : memory_refusal words ws ≡ 0 → length ws ≡ words
  unfolding memory_refusal
  length_not_refused none = by_eq (length ws) words (λ same. same) (λ other. absurd (omega (arith, rw (ne_eqb _ _ other) at none)))

  pub length_is_accepted : length ws ≡ words → memory_refusal words ws ≡ 0
  unfolding memory_refusal
  length_is_accepted same = rw (eq-eqb _ _ same)

  pub other_length_is_refused : (length ws ≡ words → ⊥) → memory_refusal words ws ≡ 5
  unfolding memory_refusal
  other_length_is_refused other = rw (ne_eqb _ _ other)

-- The total.
module _ (room total : ℕ) where
  pub total_not_refused : total_refusal room total ≡ 0 → total ≤ room
  unfolding total_refusal
  total_not_refused none = (within_bound _ total 4 0 none).0

  pub total_is_accepted : total ≤ room → total_refusal room total ≡ 0
  unfolding total_refusal
  total_is_accepted within = rw (le-ltb _ _ within)

  pub total_over_is_refused : room < total → total_refusal room total ≡ 5
  unfolding total_refusal
  total_over_is_refused over = rw (lt-ltb _ _ over)

  total_is_refused_5 : (total_refusal room total ≡ 0 → ⊥) → total_refusal room total ≡ 5
  total_is_refused_5 some = by_le total room (λ within. absurd (some (total_is_accepted within))) total_over_is_refused

-- The two counts of a shard, and the total.
pub record CountsFit (cap room total : ℕ) (sh : Shard.Shard) : Type 0 where
  pub slots : sh.slots.count ≤ cap
  pub debts : sh.ledger.debts.count ≤ cap
  pub covers : sh.slots.count ≤ total
  pub within : total ≤ room

module _ (cap room total : ℕ) (sh : Shard.Shard) where
  pub counts_not_refused : count_refusal cap room total sh ≡ 0 → CountsFit cap room total sh
  unfolding count_refusal
  counts_not_refused none =
      let slots = within_bound cap sh.slots.count 4 _ none in
      let debts = within_bound cap sh.ledger.debts.count 4 _ slots.1 in
      let covers = within_bound total sh.slots.count 4 _ debts.1 in
      record { slots = slots.0; debts = debts.0; covers = covers.0; within = total_not_refused room total covers.1 }

  pub counts_are_accepted : CountsFit cap room total sh → count_refusal cap room total sh ≡ 0
  unfolding count_refusal
  counts_are_accepted fit =
      rw (le-ltb _ _ fit.slots, le-ltb _ _ fit.debts, le-ltb _ _ fit.covers) (total_is_accepted room total fit.within)

  -- Any one of them that is wrong is refused, whatever the others are. So the code may look at them in any order.
  pub slots_over_are_refused : cap < sh.slots.count → count_refusal cap room total sh ≡ 5
  unfolding count_refusal
  slots_over_are_refused over = rw (lt-ltb _ _ over)

  pub debts_over_are_refused : cap < sh.ledger.debts.count → count_refusal cap room total sh ≡ 5
  unfolding count_refusal
  debts_over_are_refused over = refused_anyway cap sh.slots.count (rw (lt-ltb cap sh.ledger.debts.count over))

  pub total_under_is_refused : total < sh.slots.count → count_refusal cap room total sh ≡ 5
  unfolding count_refusal
  total_under_is_refused under =
      refused_anyway cap sh.slots.count (refused_anyway cap sh.ledger.debts.count (rw (lt-ltb total sh.slots.count under)))

  pub total_over_the_room_is_refused : (total_refusal room total ≡ 0 → ⊥) → count_refusal cap room total sh ≡ 5
  unfolding count_refusal
  total_over_the_room_is_refused some =
      by_le total room
      (λ within. absurd (some (total_is_accepted room total within)))
      (λ over. refused_anyway cap sh.slots.count
      (refused_anyway cap sh.ledger.debts.count (refused_anyway total sh.slots.count (total_over_is_refused room total over))))

  pub total_alone_refused : (total_refusal room total ≡ 0 → ⊥) → total_refusal room total ≡ count_refusal cap room total sh
  total_alone_refused some = total_is_refused_5 room total some ∙ sym (total_over_the_room_is_refused some)

-- A moment, and the longest wait of a reservation.
module _ (t : Nanos) where
  pub moment_not_refused : moment_refusal t ≡ 0 → t.0 ≤ latest_moment
  unfolding moment_refusal
  moment_not_refused none = (within_bound latest_moment t.0 5 0 none).0

  pub moment_is_accepted : t.0 ≤ latest_moment → moment_refusal t ≡ 0
  unfolding moment_refusal
  moment_is_accepted early = rw (le-ltb _ _ early)

  pub late_moment_is_refused : latest_moment < t.0 → moment_refusal t ≡ 6
  unfolding moment_refusal
  late_moment_is_refused late = rw (lt-ltb _ _ late)

  pub wait_not_refused : wait_refusal t ≡ 0 → t.0 ≤ longest_max_wait
  unfolding wait_refusal
  wait_not_refused none = (within_bound longest_max_wait t.0 6 0 none).0

  pub wait_is_accepted : t.0 ≤ longest_max_wait → wait_refusal t ≡ 0
  unfolding wait_refusal
  wait_is_accepted short = rw (le-ltb _ _ short)

  pub long_wait_is_refused : longest_max_wait < t.0 → wait_refusal t ≡ 7
  unfolding wait_refusal
  long_wait_is_refused long = rw (lt-ltb _ _ long)

-- What every call may count on where it is not refused: accepted settings, and memory of the right length.
pub record SetUp (s : Settings) (ws : List ℕ) : Type 0 where
  pub settings : settings_refusal s ≡ 0
  pub size : length ws ≡ memory_words s

-- A set_up_lem is not refused just where that holds.
module _ (s : Settings) (ws : List ℕ) where
  pub set_up_not_refused : set_up_refusal s ws ≡ 0 → SetUp s ws
  set_up_not_refused none =
      let parts = neither_refuses (settings_refusal s) (memory_refusal (memory_words s) ws) none in
      record { settings = parts.0; size = length_not_refused (memory_words s) ws parts.1 }

  pub set_up_is_accepted : SetUp s ws → set_up_refusal s ws ≡ 0
  set_up_is_accepted a =
      no_refusal_hands_on (settings_refusal s) (memory_refusal (memory_words s) ws) a.settings ∙ length_is_accepted (memory_words s) ws a.size

-- A look at the length that is not refused: the total is no more than there is room for.
pub len_not_refused : (s : Settings) (ws : List ℕ) → len_refusal s ws ≡ 0 → SetUp s ws × (total_of ws ≤ room_in (shape_of s))
len_not_refused s ws none =
    let parts = neither_refuses (set_up_refusal s ws) (total_refusal (room_in (shape_of s)) (total_of ws)) none in
    (set_up_not_refused s ws parts.0, total_not_refused (room_in (shape_of s)) (total_of ws) parts.1)

-- What a call with a key may count on: a sound shard for the key, too, and a total that counts its slots and is no more than there is room for.
pub record Accepted (s : Settings) (hash : ℕ) (ws : List ℕ) : Type 0 where
  pub set_up_lem : SetUp s ws
  pub sound : Shard.Sound (shard_at s hash ws)
  pub covers : (shard_at s hash ws).slots.count ≤ total_of ws
  pub within : total_of ws ≤ room_in (shape_of s)

module _ (s : Settings) (hash : ℕ) (ws : List ℕ) where
  abbrev Fit : Type 0
  Fit = CountsFit (cap_of s) (room_in (shape_of s)) (total_of ws) (shard_at s hash ws)

  -- A call with a key is not refused just where that holds.
  pub keyed_not_refused : keyed_refusal s hash ws ≡ 0 → Accepted s hash ws
  keyed_not_refused none =
      let parts = neither_refuses (set_up_refusal s ws) (counts_refusal (shape_of s) hash ws) none in
      let fit : Fit = counts_not_refused (cap_of s) (room_in (shape_of s)) (total_of ws) (shard_at s hash ws) parts.1 in
      record {
        set_up_lem = set_up_not_refused s ws parts.0;
        sound = sound_shard s hash ws (fit.slots, fit.debts);
        covers = fit.covers;
        within = fit.within;
      }

  pub keyed_is_accepted : Accepted s hash ws → keyed_refusal s hash ws ≡ 0
  keyed_is_accepted a =
      no_refusal_hands_on (set_up_refusal s ws) (counts_refusal (shape_of s) hash ws) (set_up_is_accepted s ws a.set_up_lem)
      ∙ counts_are_accepted (cap_of s) (room_in (shape_of s)) (total_of ws) (shard_at s hash ws) (record {
        slots = rw (shard_at_cap s hash ws) at a.sound.count_fits;
        debts = rw (shard_at_debt_cap s hash ws) at a.sound.ledger.count_fits;
        covers = a.covers;
        within = a.within;
      })

-- Of three refusals in a row the first that there is stands, however they are taken together.
pub refusals_in_a_row : (a b c : ℕ) → first_refusal (first_refusal a b) c ≡ first_refusal a (first_refusal b c)
refusals_in_a_row a b c =
    by_eq a 0
    (λ none. ap (λ (n : ℕ). first_refusal n c) (no_refusal_hands_on a b none) ∙ sym (no_refusal_hands_on a (first_refusal b c) none))
    (λ some. ap (λ (n : ℕ). first_refusal n c) (first_refusal_stands a b some) ∙ first_refusal_stands a c some
    ∙ sym (first_refusal_stands a (first_refusal b c) some))

-- No refusal after one changes nothing.
pub no_further_refusal : (a : ℕ) → first_refusal a 0 ≡ a
no_further_refusal a = by_eq a 0 (λ none. no_refusal_hands_on a 0 none ∙ sym none) (λ some. first_refusal_stands a 0 some)

-- The refusals as the code comes to them: the first that is not 0 is told, else what the next check tells.
pub first_is_told : {told first : ℕ} (second : ℕ) → told ≡ first → (told ≡ 0 → ⊥) → told ≡ first_refusal first second
first_is_told {first = first} second is some = is ∙ sym (first_refusal_stands first second (λ none. some (is ∙ none)))

pub second_is_told : {checked first told second : ℕ} → checked ≡ first → checked ≡ 0 → told ≡ second → told ≡ first_refusal first second
second_is_told {first = first} {second = second} is none then = then ∙ sym (no_refusal_hands_on first second (sym is ∙ none))

-- So a refusal of the settings is that of every operation on a key.
module _ (s : Settings) (hash : ℕ) (ws : List ℕ) {told : ℕ} (is : told ≡ settings_refusal s) (some : told ≡ 0 → ⊥) where
  pub settings_refuse_keyed : told ≡ keyed_refusal s hash ws
  settings_refuse_keyed = first_is_told _ (first_is_told _ is some) some
