-- Forth and then back, into any memory of the right length, is accepted and gives the first memory again. A present store whose shards are as grown ones is
-- accepted on the way back. After a conversion each shard is, in place order and without counts of tries turned away, the shard that it was.
use Prim.Native.Nat.{ℕ, zero, suc, ◌+◌, ◌*◌, ◌≤◌, ◌<◌}
use native.Mathlib.Omega.{arith}
use mathlib.Core.Path.{◌≡◌, refl, ap, sym, ◌∙◌}
use mathlib.Core.Bool.{true, false}
use mathlib.Core.List.{List}
use lib.ListN.{length, take, drop}
use lib.Seq.{take_all, take-add}
use borrow.Author.Tests.{eq-eqb, ne_eqb}
use Rattle.arith.proofs.Cases.{by_eq, by_test}
use Rattle.rows.specs.Outcome.{Outcome, outcome}
use Rattle.rows.proofs.SumLaws.{sum_same}
use Rattle.settings.specs.declared.Settings.{Settings}
use Rattle.settings.specs.Settings.{settings_refusal, shard_count, cap_of}
use Rattle.settings.proofs.SettingsLaws.{cap_least}
use Rattle.shard_map.specs.Model.{Shard, in_place_order}
use Rattle.shard_map.proofs.RoomLaws.{FindsEach, found_is_sound}
use Rattle.shard_map.proofs.LayoutLaws.{cap_is}
use Rattle.shard_map.proofs.ReadBack.{debt_cap_is, shard_sized}
use Rattle.store.specs.Memory.{total_of}
use Rattle.rules.specs.declared.Reply.{Reply}
use Rattle.rules.specs.declared.Reply.TheVariants.{Done, Refused}
use Rattle.rules.proofs.RefusedLaws.{unless_refused_accepts, unless_refused_refuses}
use Rattle.converter_shards.specs.Layout01.{shard_words01, words01}
use Rattle.converter_shards.specs.Checks.{shard_twins, shard_used_past, count_over, indexes_exact}
use Rattle.converter_shards.specs.code.RowChecks.{Counted}
use Rattle.converter_shards.specs.Forth as Shards
use Rattle.converter_shards.proofs.CheckLaws.{both_ways, none_passes, none_of}
use Rattle.converter_shards.proofs.Layout01Laws.{shard01_of_words, words01_of_back}
use Rattle.converter_shards.proofs.ShardLaws.{none_over_cap}
use Rattle.converter_shards.proofs.ForthLaws.{present_sized01}
use Rattle.converter_shards.proofs.ConvertedLaws.{forth_has_twins_alike, forth_is_used_past_alike, forth_counts_alike, forth_in_place_order_is_the_same}
use Rattle.converter_shards.proofs.ConvertedLaws.{forth_in_place_order, forth_words_read_back, back_of_forth_is_the_first, forth_indexes_are_exact}
use Rattle.converter_shards.proofs.ConvertedLaws.{forth_finds_each}
use Rattle.converter_shards.proofs.ConvertedLaws.{found_has_no_twins, found_is_not_used_past, not_refused_finds_each}
use Rattle.converter_shards.proofs.ConvertedLaws.{back_has_no_twins, back_is_not_used_past, back_counts_alike}
use Rattle.converter.specs.declared.Layout.{Layout}
use Rattle.converter.specs.declared.Layout.TheVariants.{Old, Present}
use Rattle.converter.specs.Layouts.{start_of, part, shard_of, shard_at, damaged, past_used, slots_of, total_wrong}
use Rattle.converter.specs.Conversion.{keys_refusal, words_for, refusal_of, moved_up_to, moved_words, converted, forth, back}
use Rattle.converter.specs.code.Moving.{Undamaged}
use Rattle.converter.proofs.ShardLaws.{part_ends, part_long, refused_by_5, refused_by_18, refused_by_19, none_damaged}
use Rattle.converter.proofs.RefusalLaws.{Sound, Accepted, not_refused_is_accepted, accepted_is_not_refused, source_undamaged}
use Rattle.converter.proofs.MovedLaws.{moved_words_long, part_of_moved}

-- A conversion that is done was not refused; one that is not refused is done, and leaves the moved words.
pub done_is_accepted : (from : Layout) (s : Settings) (source target : List ℕ) → (converted from s source target).answer ≡ Done → Accepted from s source target
done_is_accepted from s source target done =
    let refusal = refusal_of from s source target in
    let accepted = outcome Done (moved_words from (shard_count s) (cap_of s) source) in
    by_eq refusal 0
    (λ none. not_refused_is_accepted from s source target none)
    (λ some. absurd (not_done (sym (ap (λ (o : Outcome Reply (List ℕ)). o.answer) (unless_refused_refuses refusal target accepted some)) ∙ done)))
  where
    not_done : {n : ℕ} → Refused n ≡ Done → ⊥
    not_done same = let z : ◌≡◌ {A = ℕ} 0 1 = cc in omega arith

pub accepted_is_done : (from : Layout) (s : Settings) (source target : List ℕ) → Accepted from s source target
    → converted from s source target ≡ outcome Done (moved_words from (shard_count s) (cap_of s) source)
accepted_is_done from s source target a =
    unless_refused_accepts (refusal_of from s source target) target _ (accepted_is_not_refused from s source target a)

-- Words are not refused if none of their shards is, and the total is right.
pub every_shard_is_sound : (layout : Layout) (shards cap : ℕ) (ws : List ℕ) → ((i : ℕ) → i < shards → damaged layout cap (shard_at layout cap i ws) ≡ false)
    → total_wrong layout shards cap ws ≡ false → ((i : ℕ) → i < shards → shard_twins (shard_at layout cap i ws) ≡ false)
    → ((i : ℕ) → i < shards → past_used layout (shard_at layout cap i ws) ≡ false) → Sound layout shards cap ws
every_shard_is_sound layout shards cap ws whole total single clean = record {
  whole = none_of shards _ (λ i below. sym (refused_by_5 layout cap (shard_at layout cap i ws) refl) ∙ whole i below);
  total = total;
  single = none_of shards _ (λ i below. sym (refused_by_18 layout cap (shard_at layout cap i ws) refl) ∙ single i below);
  clean = none_of shards _ (λ i below. sym (refused_by_19 layout cap (shard_at layout cap i ws) (λ e. omega arith) (λ e. omega arith)) ∙ clean i below);
}

-- And each shard of words that are not refused has no twins and no word in use past a count.
module _ {layout : Layout} {shards cap : ℕ} {ws : List ℕ} (sound : Sound layout shards cap ws) (i : ℕ) (below : i < shards) where
  pub shard_is_single : shard_twins (shard_at layout cap i ws) ≡ false
  shard_is_single = refused_by_18 layout cap (shard_at layout cap i ws) refl ∙ none_passes shards _ sound.single i below

  pub shard_is_clean : past_used layout (shard_at layout cap i ws) ≡ false
  shard_is_clean = refused_by_19 layout cap (shard_at layout cap i ws) (λ e. omega arith) (λ e. omega arith) ∙ none_passes shards _ sound.clean i below

-- A total that is the sum is not wrong.
pub total_is_not_wrong : (shards cap : ℕ) (ws : List ℕ) → total_of ws ≡ slots_of Present shards cap ws → total_wrong Present shards cap ws ≡ false
total_is_not_wrong shards cap ws same = rw (eq-eqb (total_of ws) (slots_of Present shards cap ws) same)

-- Forth.
module _ (s : Settings) (source target : List ℕ) (a : Accepted Old s source target) where
  abbrev shards : ℕ
  shards = shard_count s

  abbrev cap : ℕ
  cap = cap_of s

  abbrev left : List ℕ
  left = moved_words Old shards cap source

  free : Undamaged Old shards cap source
  free = source_undamaged a

  abbrev was : ℕ → Shard
  was i = shard_at Old cap i source

  module _ (i : ℕ) (below : i < shards) where
    counted : Counted cap (part Old cap i source)
    counted = record {
      size = part_long Old cap i source (part_ends free.in_shards i below);
      fits = none_damaged Old shards cap source free.whole i below;
    }

    pub went_forth : shard_at Present cap i left ≡ Shards.forth cap (was i)
    went_forth = ap (shard_of Present cap) (part_of_moved Old shards cap source free i below) ∙ forth_words_read_back counted

    -- In place order and without counts of tries turned away it is the shard that it was, and lookup finds each of its slots and debts.
    pub forth_is_alike : Shards.back (shard_at Present cap i left) ≡ was i
    forth_is_alike = ap Shards.back went_forth ∙ forth_in_place_order_is_the_same counted

    pub forth_is_in_place_order : in_place_order (shard_at Present cap i left) ≡ was i
    forth_is_in_place_order = ap in_place_order went_forth ∙ forth_in_place_order counted

    pub forth_finds_all : FindsEach (shard_at Present cap i left)
    forth_finds_all = rw went_forth (forth_finds_each counted (cap_least s) (shard_is_single a.sound i below) (shard_is_clean a.sound i below))

    forth_again : words01 (Shards.back (shard_at Present cap i left)) ≡ part Old cap i source
    forth_again =
        ap (λ (w : List ℕ). words01 (Shards.back (shard_of Present cap w))) (part_of_moved Old shards cap source free i below)
        ∙ back_of_forth_is_the_first counted

    forth_whole : damaged Present cap (shard_at Present cap i left) ≡ false
    forth_whole =
        rw (went_forth, forth_counts_alike cap (was i), counted.fits, forth_indexes_are_exact counted (cap_least s))

    forth_single : shard_twins (shard_at Present cap i left) ≡ false
    forth_single = rw went_forth (forth_has_twins_alike cap (was i) ∙ shard_is_single a.sound i below)

    forth_clean : shard_used_past (shard_at Present cap i left) ≡ false
    forth_clean = rw went_forth (forth_is_used_past_alike cap (part Old cap i source) ∙ shard_is_clean a.sound i below)

    forth_count : (was i).slots.count ≡ (shard_at Present cap i left).slots.count
    forth_count = sym (ap (λ (t : Shard). t.slots.count) forth_is_alike)

  pub forth_total : total_of left ≡ slots_of Present shards cap left
  forth_total = sum_same shards _ _ forth_count

  pub forth_long : length left ≡ words_for Present s
  forth_long = moved_words_long Old shards cap source free

  -- The way back refuses nothing of it.
  forth_is_sound : Sound Present shards cap left
  forth_is_sound = every_shard_is_sound Present shards cap left forth_whole (total_is_not_wrong shards cap left forth_total) forth_single forth_clean

  forth_goes_back : (again : List ℕ) → length again ≡ length source → Accepted Present s left again
  forth_goes_back again long = record {
    settings = a.settings;
    keys = a.keys;
    source_size = forth_long;
    target_size = long ∙ a.source_size;
    sound = forth_is_sound;
  }

  -- And gives the first words again.
  first_again : (n : ℕ) → n ≤ shards → moved_up_to Present n cap left ≡ take (n * shard_words01 cap) source
  unfolding moved_up_to
  first_again zero within = let none : 0 * shard_words01 cap ≡ 0 = omega arith in rw none
  first_again (suc n) within =
      let w : ℕ = shard_words01 cap in
      let next : suc n * w ≡ n * w + w = omega arith in
      let begins : start_of Old cap n ≡ n * w = omega arith in
      let there : part Old cap n source ≡ take w (drop (n * w) source) = ap (λ (k : ℕ). take w (drop k source)) begins in
      rw (first_again n (omega arith), forth_again n (omega arith) ∙ there, next) (sym (take-add (n * w) w source))

  all_again : moved_words Present shards cap left ≡ source
  all_again = first_again shards (omega arith) ∙ take_all (shards * shard_words01 cap) source (omega (arith, a.source_size))

-- Forth, then back into any memory of the length: accepted, and the first memory again.
pub forth_then_back_is_the_first : (s : Settings) (source target again : List ℕ) → (forth s source target).answer ≡ Done → length again ≡ length source
    → back s (forth s source target).after again ≡ outcome Done source
forth_then_back_is_the_first s source target again done long =
    let a = done_is_accepted Old s source target done in
    let words : List ℕ = moved_words Old (shard_count s) (cap_of s) source in
    ap (λ (o : Outcome Reply (List ℕ)). back s o.after again) (accepted_is_done Old s source target a)
    ∙ accepted_is_done Present s words again (forth_goes_back s source target a again long)
    ∙ ap (λ (w : List ℕ). outcome Done w) (all_again s source target a)

-- Back of a store in whose shards lookup finds each slot and each debt, whose indexes are exact and whose total is the sum.
pub record Found (s : Settings) (ws : List ℕ) : Type 0 where
  pub settings : settings_refusal s ≡ 0
  pub keys : keys_refusal s ≡ 0
  pub size : length ws ≡ words_for Present s
  pub each : (i : ℕ) → i < shard_count s → FindsEach (shard_at Present (cap_of s) i ws)
  pub exact : (i : ℕ) → i < shard_count s → indexes_exact (shard_at Present (cap_of s) i ws) ≡ true
  pub total : total_of ws ≡ slots_of Present (shard_count s) (cap_of s) ws

module _ (s : Settings) (ws : List ℕ) (found : Found s ws) where
  found_fits : (i : ℕ) → i < shard_count s → count_over (cap_of s) (shard_at Present (cap_of s) i ws) ≡ false
  found_fits i below =
      let cap : ℕ = cap_of s in
      let own = shard_at Present cap i ws in
      let sound = found_is_sound (found.each i below) in
      sym (none_over_cap cap own refl (rw (cap_is cap (part Present cap i ws)) at sound.count_fits) refl
      (rw (debt_cap_is cap (part Present cap i ws)) at sound.ledger.count_fits))

  found_whole : (i : ℕ) → i < shard_count s → damaged Present (cap_of s) (shard_at Present (cap_of s) i ws) ≡ false
  found_whole i below =
      rw (found_fits i below, found.exact i below)

  pub found_goes_back : (target : List ℕ) → length target ≡ words_for Old s → Accepted Present s ws target
  found_goes_back target long = record {
    settings = found.settings;
    keys = found.keys;
    source_size = found.size;
    target_size = long;
    sound = every_shard_is_sound Present (shard_count s) (cap_of s) ws found_whole
        (total_is_not_wrong (shard_count s) (cap_of s) ws found.total)
        (λ i below. found_has_no_twins (found.each i below)) (λ i below. found_is_not_used_past (found.each i below));
  }

  -- Words of document 01 go forth if their shards are those that a conversion back makes of the found shards.
  pub becoming_goes_forth : (old : List ℕ) → length old ≡ words_for Old s
      → ((i : ℕ) → i < shard_count s → shard_at Old (cap_of s) i old ≡ Shards.back (shard_at Present (cap_of s) i ws))
      → (target : List ℕ) → length target ≡ words_for Present s → Accepted Old s old target
  becoming_goes_forth old long is target also = record {
    settings = found.settings;
    keys = found.keys;
    source_size = long;
    target_size = also;
    sound = every_shard_is_sound Old (shard_count s) (cap_of s) old
        (λ i below. rw (is i below, back_counts_alike (cap_of s) (shard_at Present (cap_of s) i ws)) (found_fits i below)) refl
        (λ i below. rw (is i below) (back_has_no_twins (found.each i below))) (λ i below. rw (is i below) (back_is_not_used_past (found.each i below)));
  }

-- After a conversion back each shard is the shard that it was, in place order and without counts of tries turned away.
module _ (s : Settings) (source target : List ℕ) (a : Accepted Present s source target) where
  pub back_is_alike : (i : ℕ) → i < shard_count s
      → shard_at Old (cap_of s) i (moved_words Present (shard_count s) (cap_of s) source) ≡ Shards.back (shard_at Present (cap_of s) i source)
  back_is_alike i below =
      let cap : ℕ = cap_of s in
      let own = shard_at Present cap i source in
      ap (shard_of Old cap) (part_of_moved Present (shard_count s) cap source (source_undamaged a) i below ∙ words01_of_back own)
      ∙ shard01_of_words cap own (present_sized01 cap (part Present cap i source))

  -- Before it lookup finds each slot and each debt, and the total is the sum.
  abbrev present : ℕ → Shard
  present i = shard_at Present (cap_of s) i source

  present_exact : (i : ℕ) → i < shard_count s → (count_over (cap_of s) (present i) ≡ false) × (indexes_exact (present i) ≡ true)
  present_exact i below =
      let whole = none_damaged Present (shard_count s) (cap_of s) source a.sound.whole i below in
      by_test (count_over (cap_of s) (present i)) (λ over. both_ways (rw over) whole)
      (λ fits. (fits, by_test (indexes_exact (present i)) (λ exact. exact) (λ not_exact. both_ways (rw (fits, not_exact)) whole)))

  pub accepted_finds_each : (i : ℕ) → i < shard_count s → FindsEach (present i)
  accepted_finds_each i below =
      let free = source_undamaged a in
      let sized = shard_sized (cap_of s) (part Present (cap_of s) i source) (part_long Present (cap_of s) i source (part_ends free.in_shards i below)) in
      let tests = present_exact i below in
      not_refused_finds_each sized (cap_least s) tests.0 tests.1 (shard_is_single a.sound i below) (shard_is_clean a.sound i below)

  pub accepted_total : total_of source ≡ slots_of Present (shard_count s) (cap_of s) source
  accepted_total =
      by_eq (total_of source) (slots_of Present (shard_count s) (cap_of s) source) (λ same. same)
      (λ other. both_ways (rw (ne_eqb _ _ other)) a.sound.total)
