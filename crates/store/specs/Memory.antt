-- The lent words of a whole store, and the part of one shard in them.
use Rattle.std.specs.Prelude.{ℕ, ◌+◌, ◌*◌, ◌-◌, ◌≤◌, ◌<◌, ◌^◌, ◌≡◌, List, ◌++◌, take, drop, length, get_or, set}
use Rattle.rows.specs.Segments.{segment}
use Rattle.rows.specs.Outcome.{Outcome, outcome}
use Rattle.bucket.specs.declared.BucketCore.{BucketCore}
use Rattle.settings.specs.declared.Settings.{Settings}
use Rattle.settings.specs.declared.Shape.{Shape}
use Rattle.settings.specs.Settings.{shape_of, index_in}
use Rattle.classes.specs.Layout.{bucket_width, buckets_in, words_of_buckets}
use Rattle.shard_map.specs.Model.{Shard}
use Rattle.shard_map.specs.Layout.{shard_words, shard, words_of}
use Rattle.store.specs.declared.Part.{Part}

-- The words with other words in the place of a segment.
abbrev pub with_segment : ℕ → ℕ → List ℕ → List ℕ → List ℕ
with_segment a n ws new = take a ws ++ (new ++ drop n (drop a ws))

-- The first word is the total: on a grown store, how many slots all shards have.
abbrev pub total_at : ℕ
total_at = 0

abbrev pub total_of : List ℕ → ℕ
total_of ws = get_or ws total_at 0

-- The first shard begins at the word after it. The shards lie side by side: the word at which one begins, by its number, and the word after it.
abbrev pub shards_at : ℕ
shards_at = total_at + 1

abbrev pub shard_start : ℕ → ℕ → ℕ
shard_start cap i = shards_at + i * shard_words cap

abbrev pub shard_end : ℕ → ℕ → ℕ
shard_end cap i = shard_start cap i + shard_words cap

-- The class buckets begin at the word after the last shard. They are the last words of the memory.
abbrev pub classes_at : Shape → ℕ
classes_at shape = shard_start shape.cap shape.shards

-- How many slots all shards have room for.
abbrev pub room_in : Shape → ℕ
room_in shape = shape.shards * shape.cap

abbrev pub class_words : Shape → ℕ
class_words shape = bucket_width * shape.classes

-- The words of a memory, and those that settings ask for.
abbrev pub words_in : Shape → ℕ
words_in shape = classes_at shape + class_words shape

abbrev pub memory_words : Settings → ℕ
memory_words s = words_in (shape_of s)

-- The part of a shard, by its number: where it begins, the word after it, and the places of the shard.
abbrev pub part_at : Shape → ℕ → Part
part_at shape i = record { start = shard_start shape.cap i; end = shard_end shape.cap i; cap = shape.cap }

-- The part of a hash's shard, and where it begins.
abbrev pub part_in : Shape → ℕ → Part
part_in shape hash = part_at shape (index_in shape hash)

abbrev pub part_start : Shape → ℕ → ℕ
part_start shape hash = (part_in shape hash).start

abbrev pub part_of : Settings → ℕ → Part
part_of s hash = part_in (shape_of s) hash

-- The shard that lies in a part; that of a hash.
abbrev pub shard_in : Part → List ℕ → Shard
shard_in p ws = shard p.cap (segment p.start (shard_words p.cap) ws)

abbrev pub shard_at : Settings → ℕ → List ℕ → Shard
shard_at s hash ws = shard_in (part_of s hash) ws

-- The total after an operation that leaves another shard: each slot that it added or removed moves it by 1.
abbrev pub total_after : ℕ → Shard → Shard → ℕ
total_after total before after = total + after.slots.count - before.slots.count

-- What an operation on the shard in a part gives, and all words after it: the total moves with the slots, the other shards and the class buckets stay as they
-- are.
abbrev pub in_part : {A : Type 0} → Part → List ℕ → Outcome A Shard → Outcome A (List ℕ)
in_part p ws o =
    let moved = with_segment p.start (shard_words p.cap) ws (words_of o.after) in
    outcome o.answer (set moved total_at (total_after (total_of ws) (shard_in p ws) o.after))

abbrev pub in_shard : {A : Type 0} → Settings → ℕ → List ℕ → Outcome A Shard → Outcome A (List ℕ)
in_shard s hash ws o = in_part (part_of s hash) ws o

-- The class buckets in the memory, and the memory with other class buckets: all shards stay as they are.
abbrev pub buckets_at : Shape → List ℕ → List BucketCore
buckets_at shape ws = buckets_in (segment (classes_at shape) (class_words shape) ws)

abbrev pub with_buckets : Shape → List ℕ → List BucketCore → List ℕ
with_buckets shape ws bs = with_segment (classes_at shape) (class_words shape) ws (words_of_buckets bs)

-- A part has the words of its shard and lies in the memory, behind the total.
pub record Placed (p : Part) (ws : List ℕ) : Type 0 where
  pub begins : shards_at ≤ p.start
  pub ends : p.end ≡ p.start + shard_words p.cap
  pub within : p.end ≤ length ws

-- The total is no less than the slot count of the shard in a part, and is small enough to grow.
pub record Counted (p : Part) (ws : List ℕ) : Type 0 where
  pub covers : (shard_in p ws).slots.count ≤ total_of ws
  pub small : total_of ws < 2 ^ 63

-- The slot count of a shard, by its number.
abbrev pub slot_count : ℕ → ℕ → List ℕ → ℕ
slot_count cap i ws = (shard cap (segment (shard_start cap i) (shard_words cap) ws)).slots.count
