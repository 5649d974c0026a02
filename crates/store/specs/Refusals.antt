-- The refusals by number, operation by operation, each the first that applies; 0 is none.
use Rattle.std.specs.Prelude.{ℕ, ◌^◌, cond, List, ltb, eqb, length}
use Rattle.units.specs.declared.Nanos.{Nanos}
use Rattle.settings.specs.declared.Settings.{Settings}
use Rattle.settings.specs.declared.Shape.{Shape}
use Rattle.settings.specs.Settings.{first_refusal, settings_refusal, shape_of}
use Rattle.shard_map.specs.Model.{Shard}
use Rattle.store.specs.Memory.{total_of, part_in, shard_in, room_in, words_in}

-- The latest moment, and the longest wait that a reservation may ask for, in nanoseconds.
abbrev pub latest_moment : ℕ
latest_moment = 2 ^ 62

abbrev pub longest_max_wait : ℕ
longest_max_wait = 2 ^ 46

-- 5 where the memory has not the length that is asked for.
unfoldable pub memory_refusal : ℕ → List ℕ → ℕ
memory_refusal words ws = cond (eqb (length ws) words) 0 5

-- Set-up and clear, in memory of a shape: the settings, then the length. A set_up_lem without a class table is in memory of the shape with no classes.
abbrev pub set_up_refusal_in : Shape → Settings → List ℕ → ℕ
set_up_refusal_in shape s ws = first_refusal (settings_refusal s) (memory_refusal (words_in shape) ws)

abbrev pub set_up_refusal : Settings → List ℕ → ℕ
set_up_refusal s ws = set_up_refusal_in (shape_of s) s ws

-- 5 where the total is over the slots that there is room for.
unfoldable pub total_refusal : ℕ → ℕ → ℕ
total_refusal room total = cond (ltb room total) 5 0

-- 5 where a count of a shard is over the cap, or the total is under its slot count or over the slots that there is room for in all shards.
unfoldable pub count_refusal : ℕ → ℕ → ℕ → Shard → ℕ
count_refusal cap room total s =
    cond (ltb cap s.slots.count) 5
    (cond (ltb cap s.ledger.debts.count) 5
    (cond (ltb total s.slots.count) 5 (total_refusal room total)))

-- The counts in memory of a shape: those of the shard of a hash, and the total.
abbrev pub counts_refusal : Shape → ℕ → List ℕ → ℕ
counts_refusal shape hash ws = count_refusal shape.cap (room_in shape) (total_of ws) (shard_in (part_in shape hash) ws)

-- The memory alone: its length, then these counts.
abbrev pub shape_refusal : Shape → ℕ → List ℕ → ℕ
shape_refusal shape hash ws = first_refusal (memory_refusal (words_in shape) ws) (counts_refusal shape hash ws)

-- A call on a key: the settings, then the length by the classes of its settings, then the counts. Of its other arguments, 6 for a moment that is too late, and
-- 7 for a longest wait that is too long.
abbrev pub keyed_refusal_in : Shape → Settings → ℕ → List ℕ → ℕ
keyed_refusal_in shape s hash ws = first_refusal (set_up_refusal_in shape s ws) (counts_refusal shape hash ws)

abbrev pub keyed_refusal : Settings → ℕ → List ℕ → ℕ
keyed_refusal s hash ws = keyed_refusal_in (shape_of s) s hash ws

unfoldable pub moment_refusal : Nanos → ℕ
moment_refusal at = cond (ltb latest_moment at.0) 6 0

unfoldable pub wait_refusal : Nanos → ℕ
wait_refusal longest = cond (ltb longest_max_wait longest.0) 7 0

-- Length: the settings, then the size by the classes of its settings, then 5 for the total. No shard is looked at.
abbrev pub len_refusal_in : Shape → Settings → List ℕ → ℕ
len_refusal_in shape s ws = first_refusal (set_up_refusal_in shape s ws) (total_refusal (room_in shape) (total_of ws))

abbrev pub len_refusal : Settings → List ℕ → ℕ
len_refusal s ws = len_refusal_in (shape_of s) s ws
