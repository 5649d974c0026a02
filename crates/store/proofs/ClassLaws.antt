-- The class buckets in the words of a whole store: they lie behind the last shard, no operation on a shard touches them, and other buckets in their place leave
-- every shard as it is.
use Prim.Native.Nat.{ℕ, ◌+◌, ◌≤◌}
use native.Mathlib.Omega.{arith}
use mathlib.Core.Path.{◌≡◌, ap, sym, ◌∙◌}
use mathlib.Core.List.{List}
use lib.ListN.{length, take-append-drop}
use borrow.Rule.Slice.PartMut.{same_len_mid}
use Rattle.rows.specs.Segments.{segment}
use Rattle.rows.specs.Outcome.{Outcome}
use Rattle.rows.proofs.SegmentLaws.{segment_length, segment_back, word_kept, segment_kept_below, segment_kept_above}
use Rattle.bucket.specs.declared.BucketCore.{BucketCore}
use Rattle.settings.specs.declared.Settings.{Settings}
use Rattle.settings.specs.Settings.{cap_of, shape_of, shard_of, shard_count}
use Rattle.settings.proofs.SettingsLaws.{shard_below}
use Rattle.classes.specs.Layout.{buckets_in, words_of_buckets}
use Rattle.classes.proofs.LayoutLaws.{bucket_count_lem}
use Rattle.classes.proofs.WordLaws.{words_of_buckets_lem, words_of_buckets_length, buckets_of_words}
use Rattle.shard_map.specs.Model as Shard
use Rattle.shard_map.specs.Layout as Layout
use Rattle.shard_map.specs.Layout.{shard_words}
use Rattle.shard_map.proofs.ReadBack.{Sized, words_length}
use Rattle.store.specs.Memory.{total_at, total_of, classes_at, class_words, memory_words, part_start, shard_at, in_shard, buckets_at, with_buckets}
use Rattle.store.proofs.MemoryLaws.{shard_fits, shard_ends_before, behind_the_total}

module _ (s : Settings) (ws : List ℕ) (size : length ws ≡ memory_words s) where
  -- Where the class buckets begin, how many words they are, and these words.
  abbrev first : ℕ
  first = classes_at (shape_of s)

  abbrev many : ℕ
  many = class_words (shape_of s)

  abbrev own : List ℕ
  own = segment first many ws

  own_length : length own ≡ many
  own_length = segment_length first many ws (omega (arith, size))

  -- There is a bucket for each class.
  pub buckets_at_length : length (buckets_at (shape_of s) ws) ≡ s.classes
  buckets_at_length = bucket_count_lem own ∙ omega (arith, own_length)

  -- The same buckets leave every word as it is.
  pub with_same_buckets : with_buckets (shape_of s) ws (buckets_at (shape_of s) ws) ≡ ws
  with_same_buckets = rw (words_of_buckets_lem s.classes own own_length, take-append-drop, take-append-drop)

  -- Every shard ends before them.
  shard_before_classes : (hash : ℕ) → part_start (shape_of s) hash + shard_words (cap_of s) ≤ first
  shard_before_classes hash = shard_ends_before (cap_of s) (shard_of s hash) (shard_count s) (shard_below s hash)

  -- An operation on the shard of a hash, whose outcome has the size of a shard.
  pub in_shard_leaves_buckets : {A : Type 0} (hash : ℕ) (o : Outcome A Shard.Shard) → Sized (cap_of s) o.after
      → buckets_at (shape_of s) (in_shard s hash ws o).after ≡ buckets_at (shape_of s) ws
  in_shard_leaves_buckets hash o sized =
      ap buckets_in
      (behind_the_total s hash ws o size sized first many (omega arith)
      ∙ segment_kept_above (part_start (shape_of s) hash) (shard_words (cap_of s)) ws (Layout.words_of o.after) (shard_fits s hash ws size)
      (words_length (cap_of s) o.after sized) first many (shard_before_classes hash))

  -- Other buckets, one for each class.
  module _ (bs : List BucketCore) (each : length bs ≡ s.classes) where
    new_length : length (words_of_buckets bs) ≡ many
    new_length = words_of_buckets_length bs ∙ omega (arith, each)

    pub with_buckets_length : length (with_buckets (shape_of s) ws bs) ≡ memory_words s
    with_buckets_length = same_len_mid first many ws (words_of_buckets bs) (new_length ∙ sym own_length) ∙ size

    -- The total stays.
    pub with_buckets_leaves_total : total_of (with_buckets (shape_of s) ws bs) ≡ total_of ws
    with_buckets_leaves_total = word_kept first many ws (words_of_buckets bs) (omega (arith, size)) new_length total_at (omega arith)

    pub with_buckets_reads_back : buckets_at (shape_of s) (with_buckets (shape_of s) ws bs) ≡ bs
    with_buckets_reads_back = ap buckets_in (segment_back first many ws (words_of_buckets bs) (omega (arith, size)) new_length) ∙ buckets_of_words bs

    pub with_buckets_leaves_shards : (hash : ℕ) → shard_at s hash (with_buckets (shape_of s) ws bs) ≡ shard_at s hash ws
    with_buckets_leaves_shards hash =
        ap (Layout.shard (cap_of s)) (segment_kept_below first many ws (words_of_buckets bs) (omega (arith, size)) new_length (part_start (shape_of s) hash)
        (shard_words (cap_of s)) (shard_before_classes hash))
