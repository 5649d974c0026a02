-- The loop that moves the shards: the first words of the target are those before the first shard, and the words of the shards that are done.
use Prim.Native.Nat.{ℕ, suc, ◌+◌, ◌-◌, ◌≤◌, ◌<◌}
use native.Mathlib.Omega.{arith}
use native.Mathlib.Nat.{add-sub_cancel_left}
use mathlib.Core.Path.{◌≡◌, refl, ap, sym, ◌∙◌}
use mathlib.Core.Bool.{false}
use mathlib.Core.List.{List, [], ◌∷◌, ◌++◌, append-nil, append_assoc}
use lib.ListN.{length, set, take, drop, length-set}
use lib.Seq.{take_all}
use borrow.Rule.Slice.PartMut.{put_mid}
use Rattle.rows.specs.Outcome.{outcome}
use Rattle.settings.specs.declared.Settings.{Settings}
use Rattle.settings.specs.Settings.{shard_count, cap_of}
use Rattle.settings.proofs.SettingsLaws.{cap_least}
use Rattle.store.specs.Memory.{total_at}
use Rattle.rules.specs.declared.Reply.TheVariants.{Done}
use Rattle.rules.proofs.RefusedLaws.{unless_refused_accepts}
use Rattle.converter_shards.proofs.Layout01Laws.{words01_length, words01_of_back}
use Rattle.converter_shards.proofs.CarryLaws.{filled_next, put_length}
use Rattle.converter_shards.proofs.ForthLaws.{present_sized01}
use Rattle.converter_shards.proofs.ConvertedLaws.{forth_words_are_a_shards}
use Rattle.converter.specs.declared.Layout.{Layout}
use Rattle.converter.specs.declared.Layout.TheVariants.{Old, Present}
use Rattle.converter.specs.Layouts.{other, first_word, shard_size, start_of, end_of, shard_of, part, shard_at, moved, damaged, slots_of}
use Rattle.converter.specs.Conversion.{refusal_of, moved_up_to, moved_words, converted}
use Rattle.converter.specs.code.Moving.{with_moved, with_total, InShards, Undamaged}
use Rattle.converter.proofs.ShardLaws.{part_ends, part_long, lent_shard, none_damaged}
use Rattle.converter.proofs.RefusalLaws.{Accepted, accepted_is_not_refused}

-- The words of a shard in the other layout are as many as they have to be.
pub moved_long : (layout : Layout) (cap : ℕ) (ws : List ℕ) → length ws ≡ shard_size layout cap → damaged layout cap (shard_of layout cap ws) ≡ false
    → length (moved layout cap (shard_of layout cap ws)) ≡ shard_size (other layout) cap
moved_long Old cap ws size none = forth_words_are_a_shards (record { size = size; fits = none })
moved_long Present cap ws size none = rw (words01_of_back (shard_of Present cap ws)) (words01_length cap (shard_of Present cap ws) (present_sized01 cap ws))

-- The part of the target comes back with the words of the shard.
module _ (from : Layout) (cap i : ℕ) (source target : List ℕ) {f v a w : ℕ} (start : f ≡ start_of from cap i) (size : v ≡ shard_size from cap)
    (onto : a ≡ start_of (other from) cap i) (room : w ≡ shard_size (other from) cap) where
  pub part_moved : {new : List ℕ} → new ≡ moved from cap (shard_of from cap (take (f + v - f) (drop f source)))
      → put_mid a (a + w - a) target new ≡ with_moved from cap i source target
  part_moved is = rw (is, lent_shard from cap i source start size, onto, room, add-sub_cancel_left)

pub record Moving (from : Layout) (shards cap : ℕ) (source target₀ target : List ℕ) (i : ℕ) : Type 0 where
  pub within : i ≤ shards
  pub same : length target ≡ length target₀
  pub done : take (start_of (other from) cap i) target ≡ take (first_word (other from)) target₀ ++ moved_up_to from i cap source

pub moving_start : (from : Layout) (shards cap : ℕ) (source target₀ : List ℕ) → Moving from shards cap source target₀ target₀ 0
unfolding moved_up_to
moving_start from shards cap source target₀ =
    let none : start_of (other from) cap 0 ≡ first_word (other from) = omega arith in
    record { within = omega arith; same = refl; done = rw none (sym (append-nil (take (first_word (other from)) target₀))) }

module _ {from : Layout} {shards cap : ℕ} {source target₀ target : List ℕ} {i : ℕ} (free : Undamaged from shards cap source)
    (held : InShards (other from) shards cap target₀) (M : Moving from shards cap source target₀ target i) where
  pub target_part_ends : i < shards → end_of (other from) cap i ≤ length target
  target_part_ends below = rw M.same (part_ends held i below)

  pub source_undamaged_at : i < shards → damaged from cap (shard_at from cap i source) ≡ false
  source_undamaged_at below = none_damaged from shards cap source free.whole i below

  pub moving_next : i < shards → {after : List ℕ} → after ≡ with_moved from cap i source target → Moving from shards cap source target₀ after (i + 1)
  unfolding moved_up_to
  moving_next below {after} is =
      let to = other from in
      let a : ℕ = start_of to cap i in
      let w : ℕ = shard_size to cap in
      let new : List ℕ = moved from cap (shard_at from cap i source) in
      let ends = target_part_ends below in
      let long : length new ≡ w =
      moved_long from cap (part from cap i source) (part_long from cap i source (part_ends free.in_shards i below)) (source_undamaged_at below) in
      let next : i + 1 ≡ suc i = omega arith in
      let far : start_of to cap (i + 1) ≡ a + w = omega arith in
      record {
        within = omega arith;
        same = rw is (put_length a w target new ends long) ∙ M.same;
        done = rw (is, far)
            (filled_next a w target new ends long (take (first_word to) target₀ ++ moved_up_to from i cap source) M.done
            ∙ append_assoc (take (first_word to) target₀) (moved_up_to from i cap source) new ∙ rw next);
      }

  pub moving_over : shards ≤ i → target ≡ take (first_word (other from)) target₀ ++ moved_up_to from shards cap source
  moving_over end =
      let all : i ≡ shards = omega (arith, M.within) in
      sym (take_all (start_of (other from) cap i) target (rw all (omega (arith, M.same, held.size)))) ∙ M.done ∙ rw all

-- The target with the total is as long.
pub total_same : (from : Layout) (n : ℕ) (ws : List ℕ) → length (with_total from n ws) ≡ length ws
total_same Old n ws = length-set ws total_at n
total_same Present n ws = refl

pub total_in_shards : (from : Layout) (shards cap n : ℕ) (before : List ℕ) → InShards (other from) shards cap before
    → {after : List ℕ} → after ≡ with_total from n before → InShards (other from) shards cap after
total_in_shards from shards cap n before held is = record { size = rw is (total_same from n before) ∙ held.size; room = held.room }

first_is_set : (ws : List ℕ) (n : ℕ) → 0 < length ws → take 1 (set ws 0 n) ≡ n ∷ []
first_is_set [] n some = absurd (omega arith)
first_is_set (w ∷ ws) n some = refl

-- The total, then the shards: all words of the target.
pub total_then_shards : (from : Layout) (shards cap : ℕ) (source target : List ℕ) → InShards (other from) shards cap target
    → take (first_word (other from)) (with_total from (slots_of from shards cap source) target) ++ moved_up_to from shards cap source
    ≡ moved_words from shards cap source
total_then_shards Old shards cap source target held =
    ap (λ (front : List ℕ). front ++ moved_up_to Old shards cap source)
    (first_is_set target (slots_of Old shards cap source) (omega (arith, held.size)))
total_then_shards Present shards cap source target held = refl

-- A conversion that is not refused, as the code comes to its end.
pub conversion_done : (from : Layout) (s : Settings) (source target : List ℕ) → Accepted from s source target → {totalled after : List ℕ}
    → totalled ≡ with_total from (slots_of from (shard_count s) (cap_of s) source) target
    → after ≡ take (first_word (other from)) totalled ++ moved_up_to from (shard_count s) (cap_of s) source
    → outcome Done after ≡ converted from s source target
conversion_done from s source target a {totalled} {after} first then =
    let held : InShards (other from) (shard_count s) (cap_of s) target = record { size = a.target_size; room = cap_least s } in
    rw (then, first, total_then_shards from (shard_count s) (cap_of s) source target held)
    (sym (unless_refused_accepts (refusal_of from s source target) target _ (accepted_is_not_refused from s source target a)))
