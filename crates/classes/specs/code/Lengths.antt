-- No promise rests on this page: it serves the inner contracts of the code.
-- The lengths of chains that the check of a table keeps, one for each class: 0 where a length is not known.
use Rattle.std.specs.Prelude.{ℕ, ◌+◌, ◌-◌, ◌≤◌, ◌<◌, ◌≡◌, true, false, cond, List, eqb, leb, length, get_or, Some}
use Rattle.classes.specs.declared.Class.{Class}
use Rattle.classes.specs.Classes.{most_classes, longest_chain, class_at, ends}

-- The length of a chain: it ends within so many classes and not within fewer, and it is not too long.
pub record Long (cs : List Class) (i n : ℕ) : Type 0 where
  pub in_time : ends n cs i ≡ true
  pub no_sooner : ends (n - 1) cs i ≡ false
  pub few : n ≤ longest_chain

-- A length that is kept or found is that of the chain, unless it is 0.
abbrev pub Known : List Class → ℕ → ℕ → Type 0
Known cs i n = (n ≡ 0 → ⊥) → Long cs i n

pub record Kept (cs : List Class) (ns : List ℕ) : Type 0 where
  pub right : (i : ℕ) → Known cs i (get_or ns i 0)

-- The length of a chain, by that of the chain from the class above; 0 where either is too long.
unfoldable pub one_longer : ℕ → ℕ
one_longer n = cond (eqb n 0) 0 (cond (leb longest_chain n) 0 (n + 1))

-- A table whose chains may be followed: it has no more classes than may be, and every parent is in it.
pub record Placed (cs : List Class) : Type 0 where
  pub few : length cs ≤ most_classes
  pub parents : (i parent : ℕ) → i < length cs → (class_at cs i).parent ≡ Some parent → parent < length cs

-- What is asked for the length of a chain: a class of such a table, an allowance that is not too long, and lengths that are right.
pub record Asked (cs : List Class) (ns : List ℕ) (i allowed : ℕ) : Type 0 where
  pub placed : Placed cs
  pub named : i < length cs
  pub within : allowed ≤ longest_chain
  pub kept : Kept cs ns

-- What is found: the length, or that the chain does not end within the classes that are allowed; and the lengths that are kept are right.
pub record Found (cs : List Class) (ns : List ℕ) (i allowed n : ℕ) : Type 0 where
  pub known : Known cs i n
  pub too_long : n ≡ 0 → ends allowed cs i ≡ false
  pub kept : Kept cs ns
