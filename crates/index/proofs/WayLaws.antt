-- How many steps a walk takes from one place to another. `way` says it in equations, and arithmetic does the rest.
use Rattle.std.proofs.Common.{◌≡◌, ℕ, ◌+◌, ◌-◌, ◌<◌, ◌≤◌, min, arith, le-leb}
use borrow.Author.Tests.{lt-leb}
use Rattle.arith.proofs.Cases.{by_le}
use Rattle.index.specs.Walk.{onward}
use Rattle.index.specs.Exact.{Before, mid, low, high}
use Rattle.index.specs.code.Trail.{steps}
use Rattle.index.proofs.CycleLaws.{Follows, on, back, onward_follows, follows_below}

-- The steps, by the test of the code.
pub steps_on : (size a z : ℕ) → a ≤ z → z - a ≡ steps size a z
unfolding steps
steps_on size a z straight = rw (le-leb a z straight)

pub steps_round : (size a z : ℕ) → z < a → size - a + z ≡ steps size a z
unfolding steps
steps_round size a z past = rw (lt-leb a z past)

-- The walk of r steps from place a ends at place z, straight on or after one round. One of `round` and `rest` is 0, and the other is the number of places.
pub record Way (size a z r : ℕ) : Type 0 where
  pub round : ℕ
  pub rest : ℕ
  pub ends : a + r ≡ z + round
  pub whole : round + rest ≡ size
  pub either : min round rest ≡ 0
  pub below : r < size

pub way : {size : ℕ} (a z : ℕ) → a < size → z < size → Way size a z (steps size a z)
way {size} a z inside inside' =
    by_le a z
    (λ straight.
    let e = steps_on size a z straight in
    record { round = 0; rest = size; ends = omega arith; whole = omega arith; either = omega arith; below = omega arith })
    (λ past.
    let e = steps_round size a z past in
    record { round = size; rest = 0; ends = omega arith; whole = omega arith; either = omega arith; below = omega arith })

module _ {size q : ℕ} (below : q < size) where
  -- No step leads to the place itself, and to any other place there is one.
  pub no_steps : steps size q q ≡ 0
  no_steps = omega (arith, way q q below below)

  pub some_steps : (y : ℕ) → y < size → (y ≡ q → ⊥) → 0 < steps size y q
  some_steps y inside other = omega (arith, way y q inside below)

  -- From one place alone it takes this many steps.
  pub same_place : (x y : ℕ) → x < size → y < size → steps size x q ≡ steps size y q → x ≡ y
  same_place x y inside inside' same = omega (arith, way x q inside below, way y q inside' below)

  -- To the place that follows, the walk takes one step more.
  pub one_step_more : (y : ℕ) → y < size → (y ≡ onward size q → ⊥) → steps size y (onward size q) ≡ steps size y q + 1
  one_step_more y inside other = go (onward_follows size q below)
    where
      go : Follows size q (onward size q) → steps size y (onward size q) ≡ steps size y q + 1
      go (on a b) = omega (arith, way y q inside below, way y (onward size q) inside (follows_below below (on a b)))
      go (back a b) = omega (arith, way y q inside below, way y (onward size q) inside (follows_below below (back a b)))

  -- Place x lies no further before q than place a. What comes before x on the way from a lies between them, and what lies between them comes before x.
  module _ (a x y : ℕ) (inside : a < size) (inside' : x < size) (inside'' : y < size) where
    pub passed_between : Before a x y → steps size x q ≤ steps size a q → (steps size x q < steps size y q) × (steps size y q ≤ steps size a q)
    passed_between (mid b c) nearer = omega (arith, way a q inside below, way x q inside' below, way y q inside'' below)
    passed_between (low b c) nearer = omega (arith, way a q inside below, way x q inside' below, way y q inside'' below)
    passed_between (high b c) nearer = omega (arith, way a q inside below, way x q inside' below, way y q inside'' below)

    pub between_passed : steps size x q < steps size y q → steps size y q ≤ steps size a q → Before a x y
    between_passed more less =
        let from = way a q inside below in
        let to = way x q inside' below in
        let there = way y q inside'' below in
        by_le a x
        (λ straight. mid (omega arith) (omega arith))
        (λ past. by_le a y (λ straight. high past straight) (λ past'. low (omega arith) past))
