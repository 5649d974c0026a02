-- The part of one shard in the words of a whole store: it fits, an operation's shard reads back from it, and the other shards stay as they are.
use Prim.Native.Nat.{ℕ, ◌+◌, ◌*◌, ◌≤◌, ◌<◌, ◌^◌}
use native.Mathlib.Omega.{arith}
use native.Mathlib.Nat.{mul-le-mul, mul-le-mul_right, le_trans}
use mathlib.Core.Path.{◌≡◌, refl, ap, sym, ◌∙◌}
use mathlib.Core.List.{List}
use lib.ListN.{length, length-set, get_or, replicate, length-replicate, get_or-replicate, get_or-eq_default}
use lib.Seq.{get_or-set_same}
use borrow.Rule.Slice.PartMut.{same_len_mid}
use Rattle.arith.proofs.Cases.{by_le}
use Rattle.rows.specs.Segments.{segment}
use Rattle.rows.specs.Outcome.{Outcome}
use Rattle.rows.proofs.SegmentLaws.{segment_length, segment_back, segment_set_below, segment_kept_below, segment_kept_above}
use Rattle.rows.proofs.ZeroLaws.{zeros_segment}
use Rattle.settings.specs.declared.Settings.{Settings}
use Rattle.settings.specs.declared.Shape.{Shape}
use Rattle.settings.specs.Settings.{size_refusal, most_keys_in_shard, most_shards, cap_of, shape_of, ShapeOfAccepted, shard_of, shard_count, index_in}
use Rattle.settings.proofs.SettingsLaws.{shards_most, shard_below, cap_least, cap_most, accepted_cap_most, accepted_classes_few}
use Rattle.ledger.specs.Model as Ledger
use Rattle.shard_map.specs.Model as Shard
use Rattle.shard_map.specs.Layout as Layout
use Rattle.shard_map.specs.Layout.{shard_words}
use Rattle.shard_map.proofs.LayoutLaws.{cap_is}
use Rattle.shard_map.proofs.ReadBack.{Sized, Empty, words_length, shard_of_words, debt_cap_is, shard_sized, zeros_empty, zeros_complete}
use Rattle.shard_map.proofs.ReadBack.{zeros_are_free_slots, zeros_are_free_debts}
use Rattle.shard.proofs.ShardLaws.{SameRoom}
use Rattle.store.specs.Memory.{with_segment, total_at, total_of, total_after, shards_at, shard_start, shard_end, room_in, classes_at, words_in, memory_words}
use Rattle.store.specs.Memory.{part_start, part_of, Placed, shard_at, in_shard}

-- A shard ends before one of a higher number begins.
pub shard_ends_before : (cap i j : ℕ) → i < j → shard_end cap i ≤ shard_start cap j
shard_ends_before cap i j below = omega (arith, mul-le-mul_right (shard_words cap) below)

-- The words of shard i replaced: those of every other shard are as they were.
other_shard_kept : (cap i j : ℕ) (ws new : List ℕ) → shard_end cap i ≤ length ws → length new ≡ shard_words cap → (j ≡ i → ⊥)
    → segment (shard_start cap j) (shard_words cap) (with_segment (shard_start cap i) (shard_words cap) ws new)
    ≡ segment (shard_start cap j) (shard_words cap) ws
other_shard_kept cap i j ws new fits same other =
    let w : ℕ = shard_words cap in
    by_le i j
    (λ past. segment_kept_above (shard_start cap i) w ws new fits same (shard_start cap j) w (shard_ends_before cap i j (omega arith)))
    (λ before. segment_kept_below (shard_start cap i) w ws new fits same (shard_start cap j) w (shard_ends_before cap j i before))

-- The words of all shards are few enough to be counted in 64 bits, if the sizes are accepted, and so are those of the class buckets with them.
shards_end_early : (s : Settings) → size_refusal s ≡ 0 → classes_at (shape_of s) ≤ shards_at + most_shards * shard_words most_keys_in_shard
shards_end_early s accepted =
    omega (arith, mul-le-mul {m₁ = shard_words (cap_of s)} {m₂ = shard_words most_keys_in_shard} (shards_most s) (omega (arith, cap_most s accepted)))

pub accepted_shards_end_early : {shape : Shape} → ShapeOfAccepted shape → classes_at shape ≤ shards_at + most_shards * shard_words most_keys_in_shard
accepted_shards_end_early shaped = rw shaped.is (shards_end_early shaped.settings shaped.accepted)

-- There is room for few slots.
pub room_small : (s : Settings) → size_refusal s ≡ 0 → room_in (shape_of s) ≤ most_shards * most_keys_in_shard
room_small s accepted = mul-le-mul (shards_most s) (cap_most s accepted)

pub accepted_room_small : {shape : Shape} → ShapeOfAccepted shape → room_in shape ≤ most_shards * most_keys_in_shard
accepted_room_small shaped = rw shaped.is (room_small shaped.settings shaped.accepted)

pub accepted_words_fit : {shape : Shape} → ShapeOfAccepted shape → words_in shape < 2 ^ 64
accepted_words_fit shaped = omega (arith, accepted_shards_end_early shaped, accepted_classes_few shaped)

pub shard_words_few : {shape : Shape} → ShapeOfAccepted shape → shard_words shape.cap < 2 ^ 64
shard_words_few shaped = omega (arith, accepted_cap_most shaped)

-- The part of a hash's shard lies within memory of the length that the settings ask for.
pub shard_fits : (s : Settings) (hash : ℕ) (ws : List ℕ) → length ws ≡ memory_words s → part_start (shape_of s) hash + shard_words (cap_of s) ≤ length ws
shard_fits s hash ws size = omega (arith, size, shard_ends_before (cap_of s) (shard_of s hash) (shard_count s) (shard_below s hash))

pub part_placed : (s : Settings) (hash : ℕ) (ws : List ℕ) → length ws ≡ memory_words s → Placed (part_of s hash) ws
part_placed s hash ws size = record { begins = omega arith; ends = refl; within = shard_fits s hash ws size }

-- A part ends at a small number if the sizes are accepted.
pub part_ends_early : {shape : Shape} (i : ℕ) → ShapeOfAccepted shape → i < shape.shards
    → shard_end shape.cap i ≤ shards_at + most_shards * shard_words most_keys_in_shard
part_ends_early {shape} i shaped below = le_trans (shard_ends_before shape.cap i shape.shards below) (accepted_shards_end_early shaped)

pub index_below : {shape : Shape} (hash : ℕ) → ShapeOfAccepted shape → index_in shape hash < shape.shards
index_below hash shaped = rw shaped.is (shard_below shaped.settings hash)

-- The part of a shard by its number lies within the memory, too.
pub shard_ends : (s : Settings) (i : ℕ) (ws : List ℕ) → length ws ≡ memory_words s → i < shard_count s → shard_end (cap_of s) i ≤ length ws
shard_ends s i ws size below = omega (arith, size, shard_ends_before (cap_of s) i (shard_count s) below)

-- Hashes of one shard have the same shard.
pub same_shard : (s : Settings) (hash other : ℕ) (ws : List ℕ) → shard_of s other ≡ shard_of s hash → shard_at s other ws ≡ shard_at s hash ws
same_shard s hash other ws same = ap (λ (i : ℕ). Layout.shard (cap_of s) (segment (shard_start (cap_of s) i) (shard_words (cap_of s)) ws)) same

-- An operation on the shard of a hash, in memory of the right length, whose outcome has the size of a shard.
module _ {A : Type 0} (s : Settings) (hash : ℕ) (ws : List ℕ) (o : Outcome A Shard.Shard)
    (size : length ws ≡ memory_words s) (sized : Sized (cap_of s) o.after) where
  -- The new words are as many as those that they replace.
  new_length : length (Layout.words_of o.after) ≡ shard_words (cap_of s)
  new_length = words_length (cap_of s) o.after sized

  -- The words with the shard in its place, before the total is stored.
  abbrev placed' : List ℕ
  placed' = with_segment (part_start (shape_of s) hash) (shard_words (cap_of s)) ws (Layout.words_of o.after)

  placed_length : length placed' ≡ memory_words s
  placed_length =
      same_len_mid (part_start (shape_of s) hash) (shard_words (cap_of s)) ws (Layout.words_of o.after)
      (new_length ∙ sym (segment_length (part_start (shape_of s) hash) (shard_words (cap_of s)) ws (shard_fits s hash ws size)))
      ∙ size

  -- The memory keeps its length.
  pub in_shard_length : length (in_shard s hash ws o).after ≡ memory_words s
  in_shard_length = rw length-set placed_length

  -- The total moves with the slots.
  pub in_shard_total : total_of (in_shard s hash ws o).after ≡ total_after (total_of ws) (shard_at s hash ws) o.after
  in_shard_total = get_or-set_same placed' total_at _ 0 (omega (arith, placed_length))

  -- The words behind the total are those with the shard in its place.
  pub behind_the_total : (a n : ℕ) → shards_at ≤ a → segment a n (in_shard s hash ws o).after ≡ segment a n placed'
  behind_the_total a n behind = segment_set_below a n placed' total_at _ (omega arith)

  -- The shard of the hash is the one that the operation leaves.
  pub in_shard_reads_back : shard_at s hash (in_shard s hash ws o).after ≡ o.after
  in_shard_reads_back =
      ap (Layout.shard (cap_of s))
      (behind_the_total (part_start (shape_of s) hash) (shard_words (cap_of s)) (omega arith)
      ∙ segment_back (part_start (shape_of s) hash) (shard_words (cap_of s)) ws (Layout.words_of o.after) (shard_fits s hash ws size) new_length)
      ∙ shard_of_words (cap_of s) o.after sized

  -- So it is for every hash of that shard.
  pub in_shard_reads_back_for : (other : ℕ) → shard_of s other ≡ shard_of s hash → shard_at s other (in_shard s hash ws o).after ≡ o.after
  in_shard_reads_back_for other same = same_shard s hash other (in_shard s hash ws o).after same ∙ in_shard_reads_back

  -- A hash of another shard: its words, and so its shard, stay as they are.
  module _ (other : ℕ) (apart : shard_of s other ≡ shard_of s hash → ⊥) where
    pub in_shard_leaves_other_words : segment (part_start (shape_of s) other) (shard_words (cap_of s)) (in_shard s hash ws o).after
        ≡ segment (part_start (shape_of s) other) (shard_words (cap_of s)) ws
    in_shard_leaves_other_words =
        behind_the_total (part_start (shape_of s) other) (shard_words (cap_of s)) (omega arith)
        ∙ other_shard_kept (cap_of s) (shard_of s hash) (shard_of s other) ws (Layout.words_of o.after) (shard_fits s hash ws size) new_length apart

    pub in_shard_leaves_others : shard_at s other (in_shard s hash ws o).after ≡ shard_at s other ws
    in_shard_leaves_others = ap (Layout.shard (cap_of s)) in_shard_leaves_other_words

-- Words that are all 0 read as 0 everywhere, also past their end.
zeros_read : (n i : ℕ) → ◌≡◌ {A = ℕ} (get_or (replicate n 0) i 0) 0
zeros_read n i =
    by_le n i
    (λ past. get_or-eq_default (replicate n 0) 0 (rw (length-replicate {A = ℕ} n 0) past))
    (λ inside. get_or-replicate n i 0 0 inside)

-- In memory as set_up_lem leaves it every shard is empty, and lookup misses none in it.
module _ (s : Settings) (hash : ℕ) where
  fresh_words : (i : ℕ) → get_or (segment (part_start (shape_of s) hash) (shard_words (cap_of s)) (replicate (memory_words s) 0)) i 0 ≡ 0
  fresh_words = zeros_segment (part_start (shape_of s) hash) (shard_words (cap_of s)) (replicate (memory_words s) 0) (zeros_read (memory_words s))

  pub fresh_shards_are_empty : Empty (shard_at s hash (replicate (memory_words s) 0))
  fresh_shards_are_empty = zeros_empty (cap_of s) _ fresh_words

  pub fresh_slots_are_free : (i : ℕ) → Shard.slot_at (shard_at s hash (replicate (memory_words s) 0)) i ≡ Shard.no_slot
  fresh_slots_are_free = zeros_are_free_slots (cap_of s) _ fresh_words

  pub fresh_debts_are_free : (i : ℕ) → Ledger.debt_at (shard_at s hash (replicate (memory_words s) 0)).ledger i ≡ Ledger.no_debt
  fresh_debts_are_free = zeros_are_free_debts (cap_of s) _ fresh_words

  pub fresh_shards_are_complete : Shard.Complete (shard_at s hash (replicate (memory_words s) 0))
  fresh_shards_are_complete =
      let fresh : List ℕ = replicate (memory_words s) 0 in
      let fits = shard_fits s hash fresh (length-replicate (memory_words s) 0) in
      zeros_complete (cap_of s) _ (cap_least s) (segment_length (part_start (shape_of s) hash) (shard_words (cap_of s)) fresh fits) fresh_words

module _ (s : Settings) (hash : ℕ) (ws : List ℕ) where
  -- The shard of a hash has the cap's room for slots and debts.
  pub shard_at_cap : Shard.cap_of (shard_at s hash ws) ≡ cap_of s
  shard_at_cap = cap_is (cap_of s) _

  pub shard_at_debt_cap : Ledger.cap_of (shard_at s hash ws).ledger ≡ cap_of s
  shard_at_debt_cap = debt_cap_is (cap_of s) _

  -- It has the size of a shard, and so has one with the same room.
  pub shard_at_sized : length ws ≡ memory_words s → Sized (cap_of s) (shard_at s hash ws)
  shard_at_sized size = shard_sized (cap_of s) _ (segment_length (part_start (shape_of s) hash) (shard_words (cap_of s)) ws (shard_fits s hash ws size))

  pub same_room_sized : length ws ≡ memory_words s → {t : Shard.Shard} → SameRoom (shard_at s hash ws) t → Sized (cap_of s) t
  same_room_sized size room =
      let own = shard_at_sized size in
      record {
        slots = room.cap ∙ own.slots;
        slots_kind = room.kind ∙ own.slots_kind;
        debts = room.ledger_room.cap ∙ own.debts;
        debts_kind = room.ledger_room.kind ∙ own.debts_kind;
        others = room.ledger_room.others ∙ own.others;
      }

  -- The shard of a hash is sound where its counts are at most the cap.
  pub sound_shard : ((shard_at s hash ws).slots.count ≤ cap_of s) × ((shard_at s hash ws).ledger.debts.count ≤ cap_of s) → Shard.Sound (shard_at s hash ws)
  sound_shard within = record {
    room = rw shard_at_cap (cap_least s);
    count_fits = rw shard_at_cap within.0;
    ledger = record { room = rw shard_at_debt_cap (cap_least s); count_fits = rw shard_at_debt_cap within.1 };
  }

-- A fresh shard is sound.
pub fresh_sound : (s : Settings) (hash : ℕ) → Shard.Sound (shard_at s hash (replicate (memory_words s) 0))
fresh_sound s hash =
    let empty = fresh_shards_are_empty s hash in
    let room : 0 < cap_of s = cap_least s in
    record {
      room = rw (shard_at_cap s hash (replicate (memory_words s) 0)) room;
      count_fits = rw empty.slots (omega arith);
      ledger = record { room = rw (shard_at_debt_cap s hash (replicate (memory_words s) 0)) room; count_fits = rw empty.debts (omega arith) };
    }
