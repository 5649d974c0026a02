-- No promise rests on this page: it serves the inner contracts of the code.
-- What the pass over the places after an emptied one knows on its way, so that it seldom has to walk from an item's home.
use Rattle.std.specs.Prelude.{◌≡◌, ℕ, ◌+◌, ◌-◌, ◌%◌, ◌<◌, ◌≤◌, cond, List, ◌==◌, ◌≢◌, nat_le}
use Rattle.index.specs.declared.Pass.{Pass}
use Rattle.index.specs.Walk.{at}

-- How many steps a walk takes from place a to place z: straight on, or past the last place.
unfoldable pub steps : ℕ → ℕ → ℕ → ℕ
steps size a z = cond (nat_le a z) (z - a) (size - a + z)

-- The steps to place q from the home of the item that a word names. Where it names none they are more than a walk can take.
unfoldable pub from_home : (ℕ → ℕ) → ℕ → ℕ → ℕ → ℕ → ℕ
from_home hash n size q word = cond (nat_le word n) (steps size (hash (word - 1) % size) q) (size + 1)

-- The pass is at place q. The gap is the last place that it left empty, and `run` places lie between the gap and q. Of the `known` places before q all are in
-- use but the gap.
pub record Trail (size : ℕ) (ix : List ℕ) (q : ℕ) (pass : Pass) : Type 0 where
  pub inside : pass.gap < size
  pub free : at ix pass.gap ≡ 0
  pub behind : (q ≢ pass.gap) → steps size pass.gap q ≡ pass.run + 1
  pub further : pass.run < pass.known
  pub bounded : pass.known ≤ size
  pub used : (y : ℕ) → y < size → 0 < steps size y q → steps size y q ≤ pass.known → (y ≢ pass.gap) → 0 < at ix y

-- After a walk from a home that lies `back` steps before: the places of which it is known that they are in use, by the word in the last place left empty.
unfoldable pub known_after : ℕ → ℕ → ℕ → ℕ
known_after word back run = cond (word == 0) run back
