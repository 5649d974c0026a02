-- A part of lent words: after a store, and after another part has been lent and come back (`put_mid` is the borrow checker's word for that).
use Prim.Native.Nat.{ℕ, zero, suc, ◌+◌, ◌-◌, ◌≤◌, ◌<◌}
use native.Mathlib.Omega.{arith}
use mathlib.Core.Path.{◌≡◌, refl, ap, sym, ◌∙◌}
use mathlib.Core.List.{List, [], ◌∷◌, ◌++◌, append-nil}
use lib.ListN.{length, get_or, set, take, drop, length-drop, get_or-append, take-append-drop, drop_of_length-le}
use native.Mathlib.Nat.{add-suc}
use lib.Seq.{sets, take-take, take-set-lt, take-set-le, drop-set-lt, drop-set-add, drop-drop, drop-append-le, take-append-le, take_at, drop_at, length-take-le}
use lib.Seq.{get_or-take}
use borrow.Rule.Slice.PartMut.{put_mid}
use Rattle.rows.specs.Segments.{segment}

-- A store in the part, and before it; how long a part is within the words.
module _ (a n : ℕ) (ws : List ℕ) where
  pub segment_set : (i v : ℕ) → i < n → segment a n (set ws (a + i) v) ≡ set (segment a n ws) i v
  segment_set i v h = rw (drop-set-add, take-set-lt n (drop a ws) i v h)

  pub segment_set_below : (i v : ℕ) → i < a → segment a n (set ws i v) ≡ segment a n ws
  segment_set_below i v h = rw (drop-set-lt a ws i v h)

  pub segment_length : a + n ≤ length ws → length (segment a n ws) ≡ n
  segment_length h = let d = length-drop a ws in length-take-le n (drop a ws) (omega arith)

-- A part that lies in the front of two lists, and what lies past a part.
segment_of_first : (b m : ℕ) (xs zs : List ℕ) → b + m ≤ length xs → segment b m (xs ++ zs) ≡ segment b m xs
segment_of_first b m xs zs h =
    let d = length-drop b xs in
    rw (drop-append-le b xs zs (omega arith), take-append-le m (drop b xs) zs (omega arith))

past : (a n b : ℕ) (ws : List ℕ) → a + n ≤ b → drop b ws ≡ drop (b - (a + n)) (drop n (drop a ws))
past a n b ws h = let e : b ≡ a + n + (b - (a + n)) = omega arith in rw (drop-drop n a ws, drop-drop (b - (a + n)) (a + n) ws) (ap (λ (k : ℕ). drop k ws) e)

-- Another part in its place: what was lent has come back.
module _ (a n : ℕ) (ws ys : List ℕ) (h : a + n ≤ length ws) (k : length ys ≡ n) where
  front_long : length (take a ws) ≡ a
  front_long = length-take-le a ws (omega arith)

  back : drop a (put_mid a n ws ys) ≡ ys ++ drop n (drop a ws)
  back = drop_at (take a ws) (ys ++ drop n (drop a ws)) a front_long

  pub segment_back : segment a n (put_mid a n ws ys) ≡ ys
  segment_back = ap (take n) back ∙ take_at ys (drop n (drop a ws)) n k

  pub word_kept : (j : ℕ) → j < a → get_or (put_mid a n ws ys) j 0 ≡ get_or ws j 0
  word_kept j b = get_or-append (take a ws) _ 0 j (rw front_long b) ∙ get_or-take a ws j 0 b

  pub segment_kept_below : (b m : ℕ) → b + m ≤ a → segment b m (put_mid a n ws ys) ≡ segment b m ws
  segment_kept_below b m d =
      let l = front_long in
      segment_of_first b m (take a ws) (ys ++ drop n (drop a ws)) (omega arith)
      ∙ rw take-append-drop at (sym (segment_of_first b m (take a ws) (drop a ws) (omega arith)))

  pub segment_kept_above : (b m : ℕ) → a + n ≤ b → segment b m (put_mid a n ws ys) ≡ segment b m ws
  segment_kept_above b m d =
      ap (take m)
      (past a n b (put_mid a n ws ys) d
      ∙ ap (drop (b - (a + n))) (ap (drop n) back ∙ drop_at ys (drop n (drop a ws)) n k)
      ∙ sym (past a n b ws d))

-- What was lent to the end has come back: from its start on, the words are the new ones.
pub rest_back : (a : ℕ) (ws ys : List ℕ) → a ≤ length ws → length ys ≡ length ws - a → drop a (put_mid a (length ws - a) ws ys) ≡ ys
rest_back a ws ys h k =
    back a (length ws - a) ws ys (omega arith) k
    ∙ rw (drop_of_length-le (drop a ws) {i = length ws - a} (omega (arith, length-drop a ws))) (append-nil ys)

-- A run of stores in the part, before all that lies from a word on, and past the first words.
pub segment_sets : (a n : ℕ) (ws : List ℕ) (i : ℕ) (vs : List ℕ) → i + length vs ≤ n → segment a n (sets ws (a + i) vs) ≡ sets (segment a n ws) i vs
segment_sets a n ws i [] h = refl
segment_sets a n ws i (v ∷ vs) h = rw (← add-suc) (segment_sets a n (set ws (a + i) v) (suc i) vs (omega arith) ∙ rw (segment_set a n ws i v (omega arith)))

pub drop_sets_below : (a : ℕ) (ws : List ℕ) (i : ℕ) (vs : List ℕ) → i + length vs ≤ a → drop a (sets ws i vs) ≡ drop a ws
drop_sets_below a ws i [] h = refl
drop_sets_below a ws i (v ∷ vs) h = drop_sets_below a (set ws i v) (suc i) vs (omega arith) ∙ drop-set-lt a ws i v (omega arith)

pub take_sets_above : (a : ℕ) (ws : List ℕ) (i : ℕ) (vs : List ℕ) → a ≤ i → take a (sets ws i vs) ≡ take a ws
take_sets_above a ws i [] h = refl
take_sets_above a ws i (v ∷ vs) h = take_sets_above a (set ws i v) (suc i) vs (omega arith) ∙ take-set-le a ws i v h

-- A part, and what lies past it.
pub segment_and_rest : (a n : ℕ) (ws : List ℕ) → segment a n ws ++ drop (a + n) ws ≡ drop a ws
segment_and_rest a n ws = rw (← drop-drop n a ws) (take-append-drop n (drop a ws))

-- A part of the front of a list is that part of the list.
segment_of_front : (b m n : ℕ) (ws : List ℕ) → b + m ≤ n → segment b m (take n ws) ≡ segment b m ws
segment_of_front zero m n ws h = take-take m n ws (omega arith)
segment_of_front (suc b) m zero ws h = absurd (omega arith)
segment_of_front (suc b) m (suc n) [] h = refl
segment_of_front (suc b) m (suc n) (x ∷ ws) h = segment_of_front b m n ws (omega arith)

-- A part of a part is a part.
pub segment_of_segment : (a n b m : ℕ) (ws : List ℕ) → b + m ≤ n → segment b m (segment a n ws) ≡ segment (a + b) m ws
segment_of_segment a n b m ws h = segment_of_front b m n (drop a ws) h ∙ rw (drop-drop b a ws)
