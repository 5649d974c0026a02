-- Words carried from one memory to another: word by word, row by row, and the words of a shard whose slots get another width.
use Prim.Native.Nat.{ℕ, zero, suc, ◌+◌, ◌-◌, ◌*◌, ◌≤◌, ◌<◌}
use native.Mathlib.Omega.{arith}
use native.Mathlib.Nat.{mul-zero, mul-suc, mul-le-mul_left, add-sub_cancel_left}
use mathlib.Core.Path.{◌≡◌, refl, ap, sym, ◌∙◌}
use mathlib.Core.List.{List, [], ◌∷◌, ◌++◌, map, append-nil, append_assoc}
use lib.ListN.{length, get_or, set, take, drop, replicate, length-append, length-set, length-drop}
use lib.Seq.{ext_get_or, get_or-set_same, get_or-set_other, take_at, take_all, drop-drop, length-take-le}
use borrow.Rule.Slice.PartMut.{put_mid}
use Rattle.arith.proofs.Cases.{by_eq}
use Rattle.rows.specs.Segments.{segment}
use Rattle.rows.specs.Rows.{rows, unrow}
use Rattle.rows.proofs.SegmentLaws.{segment_length}
use Rattle.shard_map.specs.Layout.{slots_at}
use Rattle.converter_shards.specs.code.Carried.{carried, carried_rows, carried_shard}

-- Words carried over: a word of them, their number, and what they are where the source is shorter.
pub carried_length : (n : ℕ) (ws : List ℕ) → length (carried n ws) ≡ n
unfolding carried
carried_length zero ws = refl
carried_length (suc n) [] = ap suc (carried_length n [])
carried_length (suc n) (w ∷ ws) = ap suc (carried_length n ws)

carried_word : (n : ℕ) (ws : List ℕ) (k : ℕ) → k < n → get_or (carried n ws) k 0 ≡ get_or ws k 0
unfolding carried
carried_word zero ws k below = absurd (omega arith)
carried_word (suc n) [] zero below = refl
carried_word (suc n) [] (suc k) below = carried_word n [] k (omega arith)
carried_word (suc n) (w ∷ ws) zero below = refl
carried_word (suc n) (w ∷ ws) (suc k) below = carried_word n ws k (omega arith)

carried_zeros : (n : ℕ) → carried n [] ≡ replicate n 0
unfolding carried
carried_zeros zero = refl
carried_zeros (suc n) = rw (carried_zeros n)

pub carried_longer : (ws : List ℕ) (n : ℕ) → carried (length ws + n) ws ≡ ws ++ replicate n 0
unfolding carried
carried_longer [] n = let none : length {A = ℕ} [] + n ≡ n = omega arith in rw none (carried_zeros n)
carried_longer (w ∷ ws) n = let next : length (w ∷ ws) + n ≡ suc (length ws + n) = omega arith in rw (next, carried, carried_longer ws n)

pub carried_shorter : (n : ℕ) (ws : List ℕ) → n ≤ length ws → carried n ws ≡ take n ws
unfolding carried
carried_shorter zero ws fits = refl
carried_shorter (suc n) [] fits = absurd (omega arith)
carried_shorter (suc n) (w ∷ ws) fits = ap {B = List ℕ} (λ r. w ∷ r) (carried_shorter n ws (omega arith))

-- The loop of the copy: the words before k are the source's.
pub record Carrying (source target₀ target : List ℕ) (k : ℕ) : Type 0 where
  pub words : (j : ℕ) → j < k → get_or target j 0 ≡ get_or source j 0
  pub same : length target ≡ length target₀

module _ (source target₀ : List ℕ) where
  pub carrying_start : Carrying source target₀ target₀ 0
  carrying_start = record { words = λ j below. absurd (omega arith); same = refl }

  pub carrying_next : {target : List ℕ} {k v : ℕ} → Carrying source target₀ target k → k < length target → v ≡ get_or source k 0
      → Carrying source target₀ (set target k v) (k + 1)
  carrying_next {target} {k} {v} carrying inside is = record {
    words = λ j below.
        by_eq j k
        (λ e. rw e (get_or-set_same target k v 0 inside ∙ is))
        (λ other. get_or-set_other target k j v 0 other ∙ carrying.words j (omega (arith, other)));
    same = length-set target k v ∙ carrying.same;
  }

  pub carrying_over : {target : List ℕ} {k : ℕ} → Carrying source target₀ target k → length target ≤ k → target ≡ carried (length target₀) source
  carrying_over {target} {k} carrying end =
      ext_get_or 0 target (carried (length target₀) source) (carrying.same ∙ sym (carried_length (length target₀) source))
      (λ i below. carrying.words i (omega arith) ∙ sym (carried_word (length target₀) source i (omega (arith, carrying.same))))

-- The first words of a list are known, and a part right behind them comes back as other words: then the words up to its end are known.
module _ (a n : ℕ) (ws ys : List ℕ) (inside : a + n ≤ length ws) (long : length ys ≡ n) where
  pub filled_next : (done : List ℕ) → take a ws ≡ done → take (a + n) (put_mid a n ws ys) ≡ done ++ ys
  filled_next done filled =
      let front : length done ≡ a = rw (← filled) (length-take-le a ws (omega arith)) in
      rw (filled, ← append_assoc done ys (drop n (drop a ws)))
      (take_at (done ++ ys) (drop n (drop a ws)) (a + n) (simp length-append (omega (arith, front, long))))

  pub put_length : length (put_mid a n ws ys) ≡ length ws
  put_length =
      let front = length-take-le a ws (omega arith) in
      let d = length-drop a ws in
      let e = length-drop n (drop a ws) in
      rw (length-append, length-append) (omega (arith, front, long))

-- Rows carried: how many words they are, and what they are where a row becomes the words of an item.
pub carried_rows_length : (from to n : ℕ) (ws : List ℕ) → length (carried_rows from to n ws) ≡ to * n
unfolding carried_rows
carried_rows_length from to zero ws = sym (mul-zero to)
carried_rows_length from to (suc n) ws =
    rw (length-append, carried_length to (segment (from * n) from ws), mul-suc to n) (omega (arith, carried_rows_length from to n ws))

rows_last : (f : List ℕ → List ℕ) (w n : ℕ) (ws : List ℕ) → unrow (map f (rows w (suc n) ws)) ≡ unrow (map f (rows w n ws)) ++ f (segment (w * n) w ws)
unfolding rows unrow
rows_last f w zero ws = rw (mul-zero w) (append-nil (f (take w ws)))
rows_last f w (suc n) ws =
    let next : w + w * n ≡ w * suc n = rw (mul-suc w n) (omega arith) in
    rw (rows_last f w n (drop w ws), drop-drop (w * n) w ws, next)
    (sym (append_assoc (f (take w ws)) (unrow (map f (rows w n (drop w ws)))) (f (segment (w * suc n) w ws))))

rows_carried : (from to n : ℕ) (ws : List ℕ) → carried_rows from to n ws ≡ unrow (map (carried to) (rows from n ws))
unfolding carried_rows rows unrow
rows_carried from to zero ws = refl
rows_carried from to (suc n) ws =
    ap (λ (front : List ℕ). front ++ carried to (segment (from * n) from ws)) (rows_carried from to n ws) ∙ sym (rows_last (carried to) from n ws)

-- Where a carried row of the right length is another function of the row, carried rows are rows of that function.
rows_alike : (f g : List ℕ → List ℕ) (w : ℕ) → ((row : List ℕ) → length row ≡ w → f row ≡ g row) → (n : ℕ) (ws : List ℕ) → w * n ≤ length ws
    → map f (rows w n ws) ≡ map g (rows w n ws)
unfolding rows
rows_alike f g w same zero ws room = refl
rows_alike f g w same (suc n) ws room =
    let e = mul-suc w n in
    let d = length-drop w ws in
    rw (same (take w ws) (length-take-le w ws (omega arith)), rows_alike f g w same n (drop w ws) (omega arith))

map_of_map : {A : Type 0} (f : A → List ℕ) (read : List ℕ → A) (rs : List (List ℕ)) → map (λ row. f (read row)) rs ≡ map f (map read rs)
map_of_map f read [] = refl
map_of_map f read (r ∷ rs) = ap {B = List (List ℕ)} (λ rest. f (read r) ∷ rest) (map_of_map f read rs)

pub carried_rows_are_items : {A : Type 0} (read : List ℕ → A) (write : A → List ℕ) (from to : ℕ)
    → ((row : List ℕ) → length row ≡ from → carried to row ≡ write (read row))
    → (n : ℕ) (ws : List ℕ) → from * n ≤ length ws → carried_rows from to n ws ≡ unrow (map write (map read (rows from n ws)))
carried_rows_are_items read write from to same n ws room =
    rows_carried from to n ws
    ∙ ap unrow (rows_alike (carried to) (λ row. write (read row)) from same n ws room ∙ map_of_map write read (rows from n ws))

-- The loop over the rows: the rows before i are carried.
pub record CarryingRows (from to n : ℕ) (source target₀ target : List ℕ) (i : ℕ) : Type 0 where
  pub within : i ≤ n
  pub same : length target ≡ length target₀
  pub done : take (to * i) target ≡ carried_rows from to i source

row_end_within : (w n i : ℕ) → i < n → w * i + w ≤ w * n
row_end_within w n i below = let m : w * suc i ≤ w * n = mul-le-mul_left w below in let e = mul-suc w i in omega arith

module _ (from to n : ℕ) (source target₀ : List ℕ) where
  pub rows_start : CarryingRows from to n source target₀ target₀ 0
  unfolding carried_rows
  rows_start = record { within = omega arith; same = refl; done = rw (mul-zero to) }

  module _ (long : length source ≡ from * n) (space : length target₀ ≡ to * n) {target : List ℕ} {i : ℕ}
      (C : CarryingRows from to n source target₀ target i) where
    pub source_row_ends : i < n → from * i + from ≤ length source
    source_row_ends below = rw long (row_end_within from n i below)

    pub target_row_ends : i < n → to * i + to ≤ length target
    target_row_ends below = rw (C.same ∙ space) (row_end_within to n i below)

    pub rows_next : i < n → {row : List ℕ} → row ≡ carried to (segment (from * i) from source)
        → CarryingRows from to n source target₀ (put_mid (to * i) to target row) (i + 1)
    unfolding carried_rows
    rows_next below {row} is =
        let ends = target_row_ends below in
        let wide : length row ≡ to = rw is (carried_length to (segment (from * i) from source)) in
        let next : i + 1 ≡ suc i = omega arith in
        let far : to * suc i ≡ to * i + to = rw (mul-suc to i) (omega arith) in
        record {
          within = omega arith;
          same = put_length (to * i) to target row ends wide ∙ C.same;
          done = rw (next, far, carried_rows, ← is) (filled_next (to * i) to target row ends wide (carried_rows from to i source) C.done);
        }

    -- The same in the form in which the row is lent and comes back.
    pub rows_again : i < n → {row : List ℕ}
        → row ≡ carried (length (take (to * i + to - to * i) (drop (to * i) target))) (take (from * i + from - from * i) (drop (from * i) source))
        → CarryingRows from to n source target₀ (put_mid (to * i) (to * i + to - to * i) target row) (i + 1)
    rows_again below {row} is =
        let own : from * i + from - from * i ≡ from = add-sub_cancel_left (from * i) from in
        let wide : to * i + to - to * i ≡ to = add-sub_cancel_left (to * i) to in
        let long' : length (take to (drop (to * i) target)) ≡ to = segment_length (to * i) to target (target_row_ends below) in
        rw wide (rows_next below (rw (own, wide, long') at is))

    pub rows_over : n ≤ i → target ≡ carried_rows from to n source
    rows_over end =
        let all : i ≡ n = omega (arith, C.within) in
        sym (take_all (to * i) target (rw all (omega (arith, C.same, space)))) ∙ C.done ∙ rw all

-- The words of a shard carried in three parts.
module _ (from to cap : ℕ) (source target : List ℕ) (room : slots_at + from * cap ≤ length source) (space : slots_at + to * cap ≤ length target) where
  abbrev onto : ℕ
  onto = slots_at + to * cap

  abbrev left : ℕ
  left = length target - onto

  module _ {h m : List ℕ} (head : h ≡ carried slots_at (take slots_at source))
      (slots : m ≡ carried_rows from to cap (segment slots_at (from * cap) source)) where
    head_is : h ≡ take slots_at source
    head_is =
        let long = length-take-le slots_at source (omega arith) in
        head ∙ carried_shorter slots_at (take slots_at source) (omega arith) ∙ take_all slots_at (take slots_at source) (omega arith)

    head_long : length h ≡ slots_at
    head_long = rw head (carried_length slots_at (take slots_at source))

    slots_long : length m ≡ to * cap
    slots_long = rw slots (carried_rows_length from to cap (segment slots_at (from * cap) source))

    abbrev first : List ℕ
    first = put_mid 0 slots_at target h

    abbrev second : List ℕ
    second = put_mid slots_at (to * cap) first m

    first_same : length first ≡ length target
    first_same = put_length 0 slots_at target h (omega arith) head_long

    second_same : length second ≡ length target
    second_same = put_length slots_at (to * cap) first m (omega (arith, first_same)) slots_long ∙ first_same

    shard_carried : {r : List ℕ} → r ≡ carried left (drop (slots_at + from * cap) source)
        → put_mid onto left second r ≡ carried_shard from to cap (length target) source
    unfolding carried_shard
    shard_carried {r} rest =
        let ends : onto + left ≤ length second = omega (arith, second_same) in
        let rest_long : length r ≡ left = rw rest (carried_length left (drop (slots_at + from * cap) source)) in
        let one : take slots_at first ≡ h = filled_next 0 slots_at target h (omega arith) head_long [] refl in
        let two = filled_next slots_at (to * cap) first m (omega (arith, first_same)) slots_long h one in
        let three = filled_next onto left second r ends rest_long (h ++ m) two in
        let all = put_length onto left second r ends rest_long in
        sym (take_all (onto + left) (put_mid onto left second r) (omega (arith, all, second_same))) ∙ three ∙ append_assoc h m r ∙ rw (head_is, slots, rest)

  -- The same in the form in which the parts are lent and come back.
  pub shard_lent : {h m r : List ℕ} → h ≡ carried (length (take slots_at target)) (take slots_at source)
      → m ≡ carried_rows from to cap (take (slots_at + from * cap - slots_at) (drop slots_at source))
      → r ≡ carried (length (take left (drop onto (put_mid slots_at (onto - slots_at) (put_mid 0 slots_at target h) m))))
      (take (length source - (slots_at + from * cap)) (drop (slots_at + from * cap) source))
      → put_mid onto left (put_mid slots_at (onto - slots_at) (put_mid 0 slots_at target h) m) r ≡ carried_shard from to cap (length target) source
  shard_lent {h} {m} {r} one two three =
      let own : slots_at + from * cap - slots_at ≡ from * cap = add-sub_cancel_left slots_at (from * cap) in
      let wide : onto - slots_at ≡ to * cap = add-sub_cancel_left slots_at (to * cap) in
      let past : List ℕ = drop (slots_at + from * cap) source in
      let past_long = length-drop (slots_at + from * cap) source in
      let head : h ≡ carried slots_at (take slots_at source) = rw (length-take-le slots_at target (omega arith)) at one in
      let slots : m ≡ carried_rows from to cap (segment slots_at (from * cap) source) = rw own at two in
      let there : length (take left (drop onto (second head slots))) ≡ left =
      segment_length onto left (second head slots) (omega (arith, second_same head slots)) in
      let rest : r ≡ carried left past =
      (rw wide at three) ∙ rw (there, take_all (length source - (slots_at + from * cap)) past (omega (arith, past_long))) in
      rw wide (shard_carried head slots rest)
