-- No promise rests on this page: it serves the inner contracts of the code.
-- What the loops over the shards need of the words, and what one step of a conversion leaves in the target.
use Rattle.std.specs.Prelude.{ℕ, ◌<◌, ◌≡◌, false, List, length, set}
use Rattle.store.specs.Memory.{total_at, with_segment}
use Rattle.converter.specs.declared.Layout.{Layout}
use Rattle.converter.specs.declared.Layout.TheVariants.{Old, Present}
use Rattle.converter.specs.Layouts.{other, shard_size, start_of, shard_at, moved}
use Rattle.converter.specs.Conversion.{any_refused_by}

-- The target with the words of one shard in their place; and with the total, which going forth is its first word.
abbrev pub with_moved : Layout → ℕ → ℕ → List ℕ → List ℕ → List ℕ
with_moved from cap i source target =
    with_segment (start_of (other from) cap i) (shard_size (other from) cap) target (moved from cap (shard_at from cap i source))

abbrev pub with_total : Layout → ℕ → List ℕ → List ℕ
with_total Old total ws = set ws total_at total
with_total Present total ws = ws

-- The words of all shards, each with room.
pub record InShards (layout : Layout) (shards cap : ℕ) (ws : List ℕ) : Type 0 where
  pub size : length ws ≡ start_of layout cap shards
  pub room : 0 < cap

-- Such words without damage.
pub record Undamaged (layout : Layout) (shards cap : ℕ) (ws : List ℕ) : Type 0 where
  pub in_shards : InShards layout shards cap ws
  pub whole : any_refused_by layout 5 shards cap ws ≡ false
