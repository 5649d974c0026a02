-- One shard: the slots of its keys, the hand and the sweep that go round them, and the ledger. No word offset stands here.
use Rattle.std.specs.Prelude.{ℕ, ◌≤◌, ◌<◌, Bool, false, cond, length, Option}
use Rattle.units.specs.declared.Nanos.{Nanos}
use Rattle.units.specs.declared.Millis.{Millis}
use Rattle.units.specs.Units.{millis_of}
use Rattle.bucket.specs.declared.BucketConfig.{BucketConfig}
use Rattle.held.specs.Held.{Held, Items, Finding, wrapped, item_at, position, removed, appended, stored, found_otherwise}
use Rattle.held.specs.Held as Held
use Rattle.held.specs.Round.{Round}
use Rattle.held.specs.Round as Round
use Rattle.rows.specs.Outcome.{Outcome, outcome}
use Rattle.slot.specs.declared.Slot.{Slot}
use Rattle.slot.specs.Slot.{is_key, expired, lossless}
use Rattle.slot.specs.Slot as Slot
use Rattle.ledger.specs.Model as Ledger

pub record Shard : Type 0 where
  pub slots : Held Slot
  pub hand : ℕ
  pub sweep : ℕ
  pub ledger : Ledger.Ledger

-- What stands in a place that holds no slot.
abbrev pub no_slot : Slot
no_slot = record { hash = 0; key = 0; bucket = record { shortfall = 0; stamp = record { 0 = 0 } }; mark = 0; seen = record { 0 = 0 }; turned_away = 0 }

-- The slots as items: they are found by their hashes.
abbrev pub slot_items : Items Slot
slot_items = record { free = no_slot; hash = λ slot. slot.hash }

-- How many slots there is room for.
abbrev pub cap_of : Shard → ℕ
cap_of s = length s.slots.places

-- There is room for a slot and for a debt, and no more of either are held than there is room for.
pub record Sound (s : Shard) : Type 0 where
  pub room : 0 < cap_of s
  pub count_fits : s.slots.count ≤ cap_of s
  pub ledger : Ledger.Sound s.ledger

-- Lookup misses no slot and no debt.
pub record Complete (s : Shard) : Type 0 where
  pub slots : Held.Complete slot_items s.slots
  pub ledger : Ledger.Complete s.ledger

abbrev pub slot_at : Shard → ℕ → Slot
slot_at s i = item_at slot_items s.slots i

abbrev pub with_slots : Shard → Held Slot → Shard
with_slots s slots = record { slots = slots; hand = s.hand; sweep = s.sweep; ledger = s.ledger }

abbrev pub with_count : Shard → ℕ → Shard
with_count s n = with_slots s (record { count = n; places = s.slots.places; finding = s.slots.finding })

abbrev pub with_finding : Shard → Finding → Shard
with_finding s f = with_slots s (found_otherwise s.slots f)

abbrev pub with_slot : Shard → ℕ → Slot → Shard
with_slot s i slot = with_slots s (stored s.slots i slot)

abbrev pub with_hand : Shard → ℕ → Shard
with_hand s hand = record { slots = s.slots; hand = hand; sweep = s.sweep; ledger = s.ledger }

abbrev pub with_sweep : Shard → ℕ → Shard
with_sweep s sweep = record { slots = s.slots; hand = s.hand; sweep = sweep; ledger = s.ledger }

abbrev pub with_ledger : Shard → Ledger.Ledger → Shard
with_ledger s l = record { slots = s.slots; hand = s.hand; sweep = s.sweep; ledger = l }

-- The same shard, with its slots and its debts found in the order of their places.
abbrev pub in_place_order : Shard → Shard
in_place_order s = record { slots = Held.in_place_order s.slots; hand = s.hand; sweep = s.sweep; ledger = Ledger.in_place_order s.ledger }

-- The same shard with all counts of tries turned away 0, in unused places too.
abbrev pub uncounted : Shard → Shard
uncounted s = record { slots = Held.mapped Slot.uncounted s.slots; hand = s.hand; sweep = s.sweep; ledger = s.ledger }

-- What an operation of the ledger gives, in its shard.
abbrev pub in_ledger : {A : Type 0} → Shard → Outcome A Ledger.Ledger → Outcome A Shard
in_ledger s o = outcome o.answer (with_ledger s o.after)

-- The hand and the sweep as they are read: the first place where they stand at or past the count.
abbrev pub hand_of : Shard → ℕ
hand_of s = wrapped s.hand s.slots.count

abbrev pub sweep_of : Shard → ℕ
sweep_of s = wrapped s.sweep s.slots.count

-- Lookup by hash and key: the first place with both on the walk of the hash, or the lowest where there is no index.
unfoldable pub place_of : Shard → ℕ → ℕ → Option ℕ
place_of s hash key = position slot_items s.slots hash (is_key hash key)

-- A slot leaves, and the last one moves into the gap. A new slot comes last.
unfoldable pub remove_at : Shard → ℕ → Shard
remove_at s p = with_slots s (removed slot_items s.slots p)

unfoldable pub insert : Shard → Slot → Shard
insert s slot = with_slots s (appended slot_items s.slots slot)

-- A slot may go for being idle where it has been idle for the limit and its bucket is full.
abbrev pub reclaimable : BucketConfig → Nanos → Millis → Slot → Bool
reclaimable c at limit slot = cond (expired slot (millis_of at) limit) (lossless c slot at) false

-- The idle sweep goes round the slots from the sweep's place on.
abbrev pub round_of : Shard → Round Slot
round_of s = record { items = s.slots; next = s.sweep }

abbrev pub with_round : Shard → Round Slot → Shard
with_round s r = record { slots = r.items; hand = s.hand; sweep = r.next; ledger = s.ledger }

-- The next look of the idle sweep, and an idle sweep of n looks: slots that may be reclaimed go.
unfoldable pub idle_look : BucketConfig → Nanos → Millis → Shard → Shard
idle_look c at limit s = with_round s (Round.look slot_items (reclaimable c at limit) (round_of s))

unfoldable pub sweep_idle : BucketConfig → Nanos → Millis → ℕ → Shard → Shard
sweep_idle c at limit n s = with_round s (Round.sweep slot_items (reclaimable c at limit) n (round_of s))
