-- Words in rows: what a read and a store mean for them, and the way back from rows to words. At every width.
use Prim.Native.Nat.{ℕ, zero, suc, ◌+◌, ◌*◌, ◌≤◌, ◌<◌}
use native.Mathlib.Omega.{arith}
use native.Mathlib.Nat.{mul-suc, mul-zero, zero-add, add-zero, add-suc, mul-le-mul_left}
use mathlib.Core.Path.{◌≡◌, refl, ap, sym, ◌∙◌, subst}
use mathlib.Core.List.{List, [], ◌∷◌, map, append-nil}
use lib.ListN.{length, get_or, set, take, drop, length-append, length-drop, get_or-map, drop_of_length-le}
use lib.Seq.{drop-drop, take-set-lt, take-set-le, drop-set-lt, drop-set-add, get_or-take, get_or-drop, length-take-le, sets, get_or-set_same}
use lib.Seq.{set-get_or, set-set, take-add, take_all, take_at, drop_at, sets-eq}
use Rattle.rows.specs.Rows.{rows, unrow}
use Rattle.rows.specs.Segments.{segment}

pub rows_length : (w n : ℕ) (ws : List ℕ) → length (rows w n ws) ≡ n
unfolding rows
rows_length w zero ws = refl
rows_length w (suc n) ws = ap suc (rows_length w n (drop w ws))

next_row : (w i : ℕ) → w * suc i ≡ w + w * i
next_row w i = rw mul-suc (omega arith)

pub row_at : (w n : ℕ) (ws : List ℕ) (i : ℕ) → i < n → get_or (rows w n ws) i [] ≡ take w (drop (w * i) ws)
unfolding rows
row_at w zero ws i b = absurd (omega arith)
row_at w (suc n) ws zero b = rw mul-zero
row_at w (suc n) ws (suc i) b = row_at w n (drop w ws) i (omega arith) ∙ rw (drop-drop, next_row)

-- A store to word f of row i.
pub row_put : (w n : ℕ) (ws : List ℕ) (i f v : ℕ) → i < n → f < w
    → rows w n (set ws (w * i + f) v) ≡ set (rows w n ws) i (set (get_or (rows w n ws) i []) f v)
unfolding rows
row_put w zero ws i f v b c = absurd (omega arith)
row_put w (suc n) ws zero f v b c =
    rw (mul-zero, zero-add, take-set-lt w ws f v c, drop-set-lt w ws f v c)
row_put w (suc n) ws (suc i) f v b c =
    let e : w * suc i + f ≡ w + (w * i + f) = rw next_row (omega arith) in
    rw (e, take-set-le w ws (w + (w * i + f)) v (omega arith), drop-set-add)
    (ap {B = List (List ℕ)} (λ r. take w ws ∷ r) (row_put w n (drop w ws) i f v (omega arith) c))

-- A row has w words where there are words for all rows.
pub row_length : (w n : ℕ) (ws : List ℕ) (i : ℕ) → i < n → w * n ≤ length ws → length (get_or (rows w n ws) i []) ≡ w
row_length w n ws i b c =
    let m : w * suc i ≤ w * n = mul-le-mul_left w b in
    let e = next_row w i in
    let d = length-drop (w * i) ws in
    rw (row_at w n ws i b) (length-take-le w (drop (w * i) ws) (omega arith))

-- A list of known length, written out word by word.
abbrev pub tabulate : ℕ → (ℕ → ℕ) → List ℕ
tabulate zero f = []
tabulate (suc n) f = f 0 ∷ tabulate n (λ i. f (suc i))

pub listed : (n : ℕ) (row : List ℕ) → length row ≡ n → tabulate n (λ i. get_or row i 0) ≡ row
listed zero [] e = refl
listed zero (a ∷ row) e = absurd (omega arith)
listed (suc n) [] e = absurd (omega arith)
listed (suc n) (a ∷ row) e = ap {B = List ℕ} (λ r. a ∷ r) (listed n row (omega arith))

-- What holds of every list that is written out holds of the row.
pub by_listed : (n : ℕ) (P : List ℕ → Type 0) → ((f : ℕ → ℕ) → P (tabulate n f)) → (row : List ℕ) → length row ≡ n → P row
by_listed n P p row e = subst P (listed n row e) (p (λ i. get_or row i 0))

pub map_set : {A B : Type 0} (f : A → B) (l : List A) (i : ℕ) (a : A) → map f (set l i a) ≡ set (map f l) i (f a)
map_set f [] i a = refl
map_set f (x ∷ l) zero a = refl
map_set {B = B} f (x ∷ l) (suc i) a = ap {B = List B} (λ r. f x ∷ r) (map_set f l i a)

row_puts_from : (w n : ℕ) (ws : List ℕ) (i f : ℕ) (vs : List ℕ) → i < n → f + length vs ≤ w
    → rows w n (sets ws (w * i + f) vs) ≡ set (rows w n ws) i (sets (get_or (rows w n ws) i []) f vs)
row_puts_from w n ws i f [] b c = sym (set-get_or (rows w n ws) i [])
row_puts_from w n ws i f (v ∷ vs) b c =
    let R = rows w n ws in
    let h : i < length R = rw (rows_length w n ws) b in
    rw (← add-suc) (row_puts_from w n (set ws (w * i + f) v) i (suc f) vs b (omega arith)
    ∙ rw (row_put w n ws i f v b (omega arith), get_or-set_same R i (set (get_or R i []) f v) [] h, set-set))

-- A whole row stored.
pub row_puts : (w n : ℕ) (ws : List ℕ) (i : ℕ) (vs : List ℕ) → i < n → length vs ≤ w
    → rows w n (sets ws (w * i) vs) ≡ set (rows w n ws) i (sets (get_or (rows w n ws) i []) 0 vs)
row_puts w n ws i vs b c = rw (add-zero (w * i)) at (row_puts_from w n ws i 0 vs b (omega arith))

-- Row i as a part of the words, and where it ends.
pub row_segment : (w n : ℕ) (ws : List ℕ) (i : ℕ) → i < n → segment (w * i) w ws ≡ get_or (rows w n ws) i []
row_segment w n ws i b = sym (row_at w n ws i b)

pub row_end : (w n i : ℕ) → i < n → w * i + w ≤ w * n
row_end w n i b = let m : w * suc i ≤ w * n = mul-le-mul_left w b in let e = next_row w i in omega arith

-- The rows of words, put one after the other, are the words.
unrow_front : (w n : ℕ) (ws : List ℕ) → w * n ≤ length ws → unrow (rows w n ws) ≡ take (w * n) ws
unfolding rows unrow
unrow_front w zero ws h = rw mul-zero
unrow_front w (suc n) ws h =
    let e = next_row w n in
    let d = length-drop w ws in
    rw (unrow_front w n (drop w ws) (omega arith), e) (sym (take-add w (w * n) ws))

pub unrow_rows : (w n : ℕ) (ws : List ℕ) → length ws ≡ w * n → unrow (rows w n ws) ≡ ws
unrow_rows w n ws e = unrow_front w n ws (omega arith) ∙ take_all (w * n) ws (omega arith)

-- Records read from rows and written as rows give the rows.
pub rows_round : {A : Type 0} (f : List ℕ → A) (g : A → List ℕ) (w n : ℕ) (ws : List ℕ)
    → ((row : List ℕ) → length row ≡ w → g (f row) ≡ row) → w * n ≤ length ws → map g (map f (rows w n ws)) ≡ rows w n ws
unfolding rows
rows_round f g w zero ws r h = refl
rows_round f g w (suc n) ws r h =
    let e = next_row w n in
    let d = length-drop w ws in
    rw (r (take w ws) (length-take-le w ws (omega arith)), rows_round f g w n (drop w ws) r (omega arith))

-- Items written as rows and read back. `write` gives the words of an item, w of them.
module _ {A : Type 0} (write : A → List ℕ) (w : ℕ) (long : (x : A) → length (write x) ≡ w) where
  -- The items take w words each.
  pub written_length : (items : List A) → length (unrow (map write items)) ≡ w * length items
  unfolding unrow
  written_length [] = sym (mul-zero w)
  written_length (x ∷ items) = rw (length-append, long x, written_length items, mul-suc) (omega arith)

  -- `read` makes an item of its words. The rows of written items, read, are the items.
  pub rows_of_written : (read : List ℕ → A) → ((x : A) → read (write x) ≡ x) → (items : List A)
      → map read (rows w (length items) (unrow (map write items))) ≡ items
  unfolding rows unrow
  rows_of_written read back [] = refl
  rows_of_written read back (x ∷ items) =
      rw (
        take_at (write x) (unrow (map write items)) w (long x),
        drop_at (write x) (unrow (map write items)) w (long x),
        back x,
        rows_of_written read back items,
      )

-- Records of w words, where f reads a record from its row.
sets_all : (row vs : List ℕ) → length vs ≡ length row → sets row 0 vs ≡ vs
sets_all row vs e =
    sets-eq vs row 0 (omega arith) ∙ rw (drop_of_length-le row {i = 0 + length vs} (omega arith)) (append-nil vs)

module _ {A : Type 0} (f : List ℕ → A) (w n : ℕ) (ws : List ℕ) (i : ℕ) (b : i < n) where
  pub record_at : get_or (map f (rows w n ws)) i (f []) ≡ f (segment (w * i) w ws)
  record_at = get_or-map f (rows w n ws) i [] ∙ ap f (row_at w n ws i b)

  pub record_put : (vs : List ℕ) → length vs ≡ w → w * n ≤ length ws → map f (rows w n (sets ws (w * i) vs)) ≡ set (map f (rows w n ws)) i (f vs)
  record_put vs k c =
      let l = row_length w n ws i b c in
      rw (row_puts w n ws i vs b (omega arith), sets_all (get_or (rows w n ws) i []) vs (omega arith), map_set)

  pub record_put_word : (k v : ℕ) → k < w → map f (rows w n (set ws (w * i + k) v)) ≡ set (map f (rows w n ws)) i (f (set (segment (w * i) w ws) k v))
  record_put_word k v c = rw (row_put w n ws i k v b c, map_set, row_segment w n ws i b)

-- Word f of a part.
pub segment_word : (a w : ℕ) (ws : List ℕ) (f : ℕ) → f < w → get_or (segment a w ws) f 0 ≡ get_or ws (a + f) 0
segment_word a w ws f c = rw (get_or-take w (drop a ws) f 0 c, get_or-drop)
