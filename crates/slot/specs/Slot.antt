-- A slot: one key's identity, its bucket, its mark, when it was last seen, and how often its bucket turned a try away.
use Rattle.std.specs.Prelude.{ℕ, ◌+◌, ◌-◌, ◌^◌, min, max, Bool, false, cond, not, leb, eqb}
use Rattle.units.specs.declared.Nanos.{Nanos}
use Rattle.units.specs.declared.Millis.{Millis}
use Rattle.units.specs.Units.{millis_of}
use Rattle.bucket.specs.declared.BucketConfig.{BucketConfig}
use Rattle.bucket.specs.declared.BucketCore.{BucketCore}
use Rattle.bucket.specs.declared.BucketOutcome.{BucketOutcome}
use Rattle.bucket.specs.Bucket.{full_at, recovery_at}
use Rattle.slot.specs.declared.Slot.{Slot}

-- The identity of a key is its hash and its key together.
abbrev pub is_key : ℕ → ℕ → Slot → Bool
is_key hash key s = cond (eqb s.hash hash) (eqb s.key key) false

-- A mark that is not 0 is set.
abbrev pub marked : Slot → Bool
marked s = not (eqb s.mark 0)

abbrev pub with_mark : Slot → ℕ → Slot
with_mark s mark = record {
  hash = s.hash;
  key = s.key;
  bucket = s.bucket;
  mark = mark;
  seen = s.seen;
  turned_away = s.turned_away;
}

abbrev pub with_bucket : Slot → BucketCore → Slot
with_bucket s b = record {
  hash = s.hash;
  key = s.key;
  bucket = b;
  mark = s.mark;
  seen = s.seen;
  turned_away = s.turned_away;
}

-- The largest count of tries turned away. A larger word reads as this.
abbrev pub most_turned_away : ℕ
most_turned_away = 2 ^ 32 - 1

-- How many tries were turned away, as the word is read.
abbrev pub read_turned_away : Slot → ℕ
read_turned_away s = min s.turned_away most_turned_away

-- The count after an answer: one more where a try was turned away, up to the largest; else the word as it stands.
abbrev pub count_after : Bool → ℕ → ℕ
count_after turns_away count = cond turns_away (min (count + 1) most_turned_away) count

-- The slot after its bucket was asked: the bucket and the count are those after the answer.
abbrev pub with_asked : Slot → BucketOutcome → Slot
with_asked s outcome = record {
  hash = s.hash;
  key = s.key;
  bucket = outcome.bucket;
  mark = s.mark;
  seen = s.seen;
  turned_away = count_after outcome.turns_away s.turned_away;
}

-- The same slot with the count 0.
abbrev pub uncounted : Slot → Slot
uncounted s = record { hash = s.hash; key = s.key; bucket = s.bucket; mark = s.mark; seen = s.seen; turned_away = 0 }

-- A touch sets the mark and, where idle times are tracked, raises last-seen to the moment's idle stamp.
abbrev pub touched : Slot → Nanos → Bool → Slot
touched s at track = record {
  hash = s.hash;
  key = s.key;
  bucket = s.bucket;
  mark = 1;
  seen = record { 0 = cond track (max s.seen.0 (millis_of at).0) s.seen.0 };
  turned_away = s.turned_away;
}

-- A new slot has no mark, was last seen now, and no try on it has been turned away.
abbrev pub new_slot : ℕ → ℕ → BucketCore → Millis → Slot
new_slot hash key b stamp = record { hash = hash; key = key; bucket = b; mark = 0; seen = stamp; turned_away = 0 }

-- Idle for at least the limit. A last-seen that is later than the stamp counts as not idle at all.
abbrev pub expired : Slot → Millis → Millis → Bool
expired s stamp limit = leb limit.0 (stamp.0 - s.seen.0)

-- A slot whose bucket is full can go without loss.
abbrev pub lossless : BucketConfig → Slot → Nanos → Bool
lossless c s at = full_at c s.bucket at

-- How long until the bucket is full again.
abbrev pub recovery : BucketConfig → Slot → Nanos → ℕ
recovery c s at = recovery_at c s.bucket at
