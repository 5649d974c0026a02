-- What holds of every member of a list holds of every member of what is read from it, cut from it, put together of it or changed in it.
use Prim.Native.Nat.{ℕ, zero, suc}
use mathlib.Core.Bool.{Bool, true, false, cond}
use mathlib.Core.List.{List, [], ◌∷◌, ◌++◌, map}
use lib.ListN.{get_or, take, drop, set, replicate}
use Rattle.rows.specs.Segments.{segment}
use Rattle.rows.specs.Rows.{rows, unrow}
use Rattle.rules.specs.Calls.{Every}

-- What holds of both outcomes of a test holds of the one that is taken.
pub of_either : {A : Type 0} (Q : A → Type 0) (b : Bool) (x y : A) → Q x → Q y → Q (cond b x y)
of_either Q true x y first second = first
of_either Q false x y first second = second

module _ {A : Type 0} (Q : A → Type 0) where
  pub of_item : (xs : List A) (i : ℕ) (other : A) → Q other → Every Q xs → Q (get_or xs i other)
  of_item [] i other q every = q
  of_item (x ∷ xs) zero other q every = every.0
  of_item (x ∷ xs) (suc i) other q every = of_item xs i other q every.1

  pub every_taken : (n : ℕ) (xs : List A) → Every Q xs → Every Q (take n xs)
  every_taken zero xs every = tt
  every_taken (suc n) [] every = tt
  every_taken (suc n) (x ∷ xs) every = (every.0, every_taken n xs every.1)

  pub every_left : (n : ℕ) (xs : List A) → Every Q xs → Every Q (drop n xs)
  every_left zero xs every = every
  every_left (suc n) [] every = tt
  every_left (suc n) (x ∷ xs) every = every_left n xs every.1

  pub every_joined : (xs ys : List A) → Every Q xs → Every Q ys → Every Q (xs ++ ys)
  every_joined [] ys every more = more
  every_joined (x ∷ xs) ys every more = (every.0, every_joined xs ys every.1 more)

  pub every_set : (xs : List A) (i : ℕ) (new : A) → Q new → Every Q xs → Every Q (set xs i new)
  every_set [] i new q every = tt
  every_set (x ∷ xs) zero new q every = (q, every.1)
  every_set (x ∷ xs) (suc i) new q every = (every.0, every_set xs i new q every.1)

  pub every_copy : (n : ℕ) (x : A) → Q x → Every Q (replicate n x)
  every_copy zero x q = tt
  every_copy (suc n) x q = (q, every_copy n x q)

-- What follows for every member, and what is made of every member.
pub every_implies : {A : Type 0} (Q R : A → Type 0) → ((x : A) → Q x → R x) → (xs : List A) → Every Q xs → Every R xs
every_implies Q R implies [] every = tt
every_implies Q R implies (x ∷ xs) every = (implies x every.0, every_implies Q R implies xs every.1)

pub every_made : {A B : Type 0} (Q : A → Type 0) (R : B → Type 0) (make : A → B) → ((x : A) → Q x → R (make x))
    → (xs : List A) → Every Q xs → Every R (map make xs)
every_made Q R make makes [] every = tt
every_made Q R make makes (x ∷ xs) every = (makes x every.0, every_made Q R make makes xs every.1)

-- Words in rows, and rows of words put together.
module _ (Q : ℕ → Type 0) where
  pub every_in_part : (a n : ℕ) (ws : List ℕ) → Every Q ws → Every Q (segment a n ws)
  every_in_part a n ws every = every_taken Q n (drop a ws) (every_left Q a ws every)

  pub every_in_rows : (w n : ℕ) (ws : List ℕ) → Every Q ws → Every (Every Q) (rows w n ws)
  unfolding rows
  every_in_rows w zero ws every = tt
  every_in_rows w (suc n) ws every = (every_taken Q w ws every, every_in_rows w n (drop w ws) (every_left Q w ws every))

  pub every_of_rows : (rs : List (List ℕ)) → Every (Every Q) rs → Every Q (unrow rs)
  unfolding unrow
  every_of_rows [] every = tt
  every_of_rows (row ∷ rs) every = every_joined Q row (unrow rs) every.0 (every_of_rows rs every.1)
