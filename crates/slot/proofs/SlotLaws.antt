-- What a touch leaves alone, when a slot is a key's, and the count of tries turned away at its largest.
use mathlib.Core.Path.{◌≡◌, refl}
use Prim.Native.Nat.{ℕ, ◌≤◌}
use native.Mathlib.Omega.{arith}
use mathlib.Core.Bool.{Bool, true, false, cond}
use borrow.Author.Tests.{eqb-true, eq-eqb}
use Rattle.units.specs.declared.Nanos.{Nanos}
use Rattle.slot.specs.declared.Slot.{Slot}
use Rattle.slot.specs.Slot.{is_key, touched, most_turned_away, read_turned_away, count_after}

-- A touch moves no key to another identity, and gives no tokens and takes none.
pub touch_keeps_identity : (s : Slot) (at : Nanos) (track : Bool) →
    ((touched s at track).hash ≡ s.hash) × ((touched s at track).key ≡ s.key)
touch_keeps_identity s at track = (refl, refl)

pub touch_keeps_bucket : (s : Slot) (at : Nanos) (track : Bool) → (touched s at track).bucket ≡ s.bucket
touch_keeps_bucket s at track = refl

-- A count at its largest stays, and reads as itself. A larger word reads as the largest count; a try that is turned away brings it down to that, and any other
-- answer leaves it.
module _ (count : ℕ) (large : most_turned_away ≤ count) where
  pub large_count_stops : count_after true count ≡ most_turned_away
  large_count_stops = omega arith

  pub large_count_is_read_as_the_most : (s : Slot) → s.turned_away ≡ count → read_turned_away s ≡ most_turned_away
  large_count_is_read_as_the_most s is = omega arith

  pub large_count_is_left : count_after false count ≡ count
  large_count_is_left = refl

-- Where two tests both have to hold and do, each of them holds.
both_hold : (a b : Bool) → cond a b false ≡ true → (a ≡ true) × (b ≡ true)
both_hold true b h = (refl, h)
both_hold false b h = (h, cc)

-- A slot is a key's exactly when hash and key are both equal.
pub is_key_iff : (hash key : ℕ) (s : Slot) →
    (is_key hash key s ≡ true → (s.hash ≡ hash) × (s.key ≡ key)) × ((s.hash ≡ hash) × (s.key ≡ key) → is_key hash key s ≡ true)
is_key_iff hash key s = (
  λ h. let both = both_hold _ _ h in (eqb-true _ _ both.0, eqb-true _ _ both.1),
  λ h. rw (eq-eqb _ _ h.0) (eq-eqb _ _ h.1),
)
