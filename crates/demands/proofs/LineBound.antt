-- Bounds on what happened to one key, by its line alone. A bucket that lacks s parts at moment n has the line n × A + s, for amount A, period P and burst C.
-- The line never falls as time passes, since at most A parts come back each nanosecond; a grant raises it by the parts granted, and a refund lowers it by no
-- more than the parts refunded. So a bound that is kept in these steps is kept by a store.
use Prim.Native.Nat.{ℕ, ◌+◌, ◌*◌, ◌-◌, ◌≤◌, ◌<◌}
use Rattle.bucket.specs.declared.BucketConfig.{BucketConfig}

-- A wait is the first span in which so many parts come back.
pub record Soonest (A lack wait : ℕ) : Type 0 where
  pub enough : lack ≤ wait * A
  pub soonest : wait * A < lack + A

pub record LineBound (A P C : ℕ) : Type 1 where
  -- What happened to the key so far, and what is claimed of it and of the line.
  pub History : Type 0
  pub Holds : ℕ → History → Type 0
  -- Nothing happened yet.
  pub start : History
  pub at_start : (line : ℕ) → Holds line start
  -- A higher line: time passes, or a step loses nothing of what the key lacks.
  pub raised : {line more : ℕ} {g : History} → line ≤ more → Holds line g → Holds more g
  -- A grant at moment n of so many tokens, usable after a wait, to a bucket that lacks s: then no more is lacking than a full bucket has, and not before.
  pub grant : (n wait cost : ℕ) → History → History
  pub granted : (n s cost wait : ℕ) {g : History} → cost ≤ C → Soonest A (s + cost * P - C * P) wait
      → Holds (n * A + s) g → Holds (n * A + (s + cost * P)) (grant n wait cost g)
  -- A grant of no tokens, whatever the bucket lacks.
  pub granted_none : (n s : ℕ) {g : History} → Holds (n * A + s) g → Holds (n * A + s) (grant n 0 0 g)
  -- A refund to the key, under bounds that allow for it.
  pub Refundable : Type 0
  pub refund : (cost : ℕ) → History → History
  pub refunded : {line less : ℕ} (cost : ℕ) {g : History} → Refundable → line ≤ less + cost * P → Holds line g → Holds less (refund cost g)

-- The bounds for a bucket's settings.
abbrev pub BoundOf : BucketConfig → Type 1
BoundOf c = LineBound c.amount c.period.0 c.capacity
