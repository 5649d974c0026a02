-- The words that a conversion leaves: each shard of them is the shard of the source in the other layout.
use Prim.Native.Nat.{ℕ, zero, suc, ◌*◌, ◌≤◌, ◌<◌}
use native.Mathlib.Omega.{arith}
use mathlib.Core.Path.{◌≡◌}
use mathlib.Core.List.{List}
use lib.ListN.{length, drop, length-append, length-drop}
use lib.Seq.{drop_at, take_all, take-append-le, drop-append-le}
use Rattle.arith.proofs.Cases.{by_eq}
use Rattle.rows.specs.Segments.{segment}
use Rattle.converter.specs.declared.Layout.{Layout}
use Rattle.converter.specs.declared.Layout.TheVariants.{Old, Present}
use Rattle.converter.specs.Layouts.{other, shard_size, start_of, part, shard_at, moved}
use Rattle.converter.specs.Conversion.{moved_up_to, moved_words}
use Rattle.converter.specs.code.Moving.{Undamaged}
use Rattle.converter.proofs.ShardLaws.{rows_within, part_ends, part_long, none_damaged}
use Rattle.converter.proofs.MoveLaws.{moved_long}

module _ (from : Layout) (shards cap : ℕ) (source : List ℕ) (free : Undamaged from shards cap source) where
  abbrev new : ℕ → List ℕ
  new i = moved from cap (shard_at from cap i source)

  abbrev size : ℕ
  size = shard_size (other from) cap

  pub new_long : (i : ℕ) → i < shards → length (new i) ≡ size
  new_long i below =
      moved_long from cap (part from cap i source) (part_long from cap i source (part_ends free.in_shards i below))
      (none_damaged from shards cap source free.whole i below)

  up_to_long : (n : ℕ) → n ≤ shards → length (moved_up_to from n cap source) ≡ n * size
  unfolding moved_up_to
  up_to_long zero within = omega arith
  up_to_long (suc n) within = simp length-append (omega (arith, up_to_long n (omega arith), new_long n (omega arith)))

  part_of_up_to : (n i : ℕ) → n ≤ shards → i < n → segment (i * size) size (moved_up_to from n cap source) ≡ new i
  unfolding moved_up_to
  part_of_up_to zero i within below = absurd (omega arith)
  part_of_up_to (suc n) i within below =
      let front : List ℕ = moved_up_to from n cap source in
      let long : length front ≡ n * size = up_to_long n (omega arith) in
      by_eq i n
      (λ e. rw (e, drop_at front (new n) (n * size) long) (take_all size (new n) (omega (arith, new_long n (omega arith)))))
      (λ differ.
      let ends = rows_within size n i (omega (arith, differ)) in
      let d = length-drop (i * size) front in
      rw (drop-append-le (i * size) front (new n) (omega arith), take-append-le size (drop (i * size) front) (new n) (omega arith))
      (part_of_up_to n i (omega arith) (omega (arith, differ))))

-- So it is with all words of the target.
pub moved_words_long : (from : Layout) (shards cap : ℕ) (source : List ℕ) → Undamaged from shards cap source
    → length (moved_words from shards cap source) ≡ start_of (other from) cap shards
moved_words_long Old shards cap source free = omega (arith, up_to_long Old shards cap source free shards (omega arith))
moved_words_long Present shards cap source free = omega (arith, up_to_long Present shards cap source free shards (omega arith))

pub part_of_moved : (from : Layout) (shards cap : ℕ) (source : List ℕ) → Undamaged from shards cap source → (i : ℕ) → i < shards
    → part (other from) cap i (moved_words from shards cap source) ≡ moved from cap (shard_at from cap i source)
part_of_moved Old shards cap source free i below =
    let w : ℕ = shard_size Present cap in
    let next : start_of Present cap i ≡ suc (i * w) = omega arith in
    rw next (part_of_up_to Old shards cap source free shards i (omega arith) below)
part_of_moved Present shards cap source free i below =
    let w : ℕ = shard_size Old cap in
    let none : start_of Old cap i ≡ i * w = omega arith in
    rw none (part_of_up_to Present shards cap source free shards i (omega arith) below)
