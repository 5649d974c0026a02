-- An index and its items in lent words: what a read gives, what a store or the lending of the places does, and how the calls of an operation come together.
use Rattle.std.proofs.Common.{◌≡◌, ℕ, ◌+◌, ◌-◌, ◌*◌, ◌<◌, ◌≤◌, false, eqb, List, ◌++◌, length, get_or, take, drop, set, sym, refl, ap, ◌∙◌, mul-le-mul_left}
use Rattle.std.proofs.Common.{arith, length-append, length-drop, length-set, take-append-drop, length-take-le, get_or-drop, get_or-take, take_at, drop-set-lt}
use Rattle.std.proofs.Common.{drop_at, eq-eqb, ne_eqb}
use lib.Seq.{take-set-lt, drop-set-add, take-set-le}
use borrow.Rule.Slice.PartMut.{put_mid}
use Rattle.rows.specs.Segments.{segment}
use Rattle.rows.proofs.SegmentLaws.{segment_length, segment_back, word_kept}
use Rattle.rows.proofs.RowLaws.{segment_word}
use Rattle.index.specs.declared.Index.{Index}
use Rattle.index.specs.Walk.{at, onward, seek, add_again, rehome, vacate, renumber, remove}
use Rattle.index.specs.Layout.{Fits, places_of, with_places, item_word, hash_of, key_of, keyed}
use Rattle.index.proofs.StepLaws.{onward_below, add_again_length, add_again_agrees, rehome_agrees, rehome_empty, rehome_over, rehome_on}
use Rattle.index.proofs.StepLaws.{vacate_none, vacate_used, vacate_length, remove_by, at_past}

-- Word f of an item's row lies before the index.
pub item_before : {index : Index} {n : ℕ} {ws : List ℕ} → Fits index n ws → (i f : ℕ) → i < n → f < index.width
    → index.first + index.width * i + f < index.base
item_before {index} {n} fits i f h inside =
    let m : index.width * (i + 1) ≤ index.width * n = mul-le-mul_left {m = i + 1} {n = n} index.width (omega arith) in
    omega (arith, fits.items)

-- Does an item have the hash and the key: by the tests of the code.
module _ (index : Index) (ws : List ℕ) (h k i : ℕ) where
  pub keyed_by_key : hash_of index ws i ≡ h → eqb (key_of index ws i) k ≡ keyed index ws h k i
  unfolding keyed
  keyed_by_key e = rw (eq-eqb _ _ e)

  pub keyed_not : (hash_of index ws i ≡ h → ⊥) → false ≡ keyed index ws h k i
  unfolding keyed
  keyed_not n = rw (ne_eqb _ _ n)

-- A word of an item as a word of its row.
pub word_in_row : (index : Index) (ws : List ℕ) (i f : ℕ) → f < index.width
    → get_or (segment (index.first + index.width * i) index.width ws) f 0 ≡ item_word index f ws i
unfolding item_word
word_in_row index ws i f within = segment_word (index.first + index.width * i) index.width ws f within

-- A place is a word of the lent words, and there are as many places as the index has.
module _ (index : Index) (ws : List ℕ) where
  pub place_read : (q : ℕ) → q < index.size → get_or ws (index.base + q) 0 ≡ at (places_of index ws) q
  unfolding places_of
  place_read q h = sym (get_or-take index.size (drop index.base ws) q 0 h ∙ get_or-drop index.base ws q 0)

  pub places_length : index.base + index.size ≤ length ws → length (places_of index ws) ≡ index.size
  unfolding places_of
  places_length h = segment_length index.base index.size ws h

  -- The words with the places that they have.
  pub same_places : with_places index ws (places_of index ws) ≡ ws
  unfolding places_of with_places
  same_places = rw (take-append-drop, take-append-drop)

size_is : (a n : ℕ) → a + n - a ≡ n
size_is a n = omega arith

-- The places are lent, and come back.
pub places_lent : (index : Index) (ws : List ℕ) → take (index.base + index.size - index.base) (drop index.base ws) ≡ places_of index ws
unfolding places_of
places_lent index ws = rw (size_is index.base index.size)

pub places_back : (index : Index) (ws ix : List ℕ) → put_mid index.base (index.base + index.size - index.base) ws ix ≡ with_places index ws ix
unfolding with_places
places_back index ws ix = rw (size_is index.base index.size)

pub with_is_back : (index : Index) (ws ix : List ℕ) → with_places index ws ix ≡ put_mid index.base index.size ws ix
unfolding with_places
with_is_back index ws ix = refl

-- The words with other places: the index has them, the items stay, and so does what has to fit.
module _ (index : Index) (n : ℕ) (ws ix : List ℕ) (fits : Fits index n ws) (long : length ix ≡ index.size) where
  pub places_with : places_of index (with_places index ws ix) ≡ ix
  unfolding places_of with_places
  places_with = segment_back index.base index.size ws ix fits.inside long

  pub item_word_with : (i f : ℕ) → i < n → f < index.width → item_word index f (with_places index ws ix) i ≡ item_word index f ws i
  unfolding item_word with_places
  item_word_with i f h b = word_kept index.base index.size ws ix fits.inside long (index.first + index.width * i + f) (item_before fits i f h b)

  pub length_with : length (with_places index ws ix) ≡ length ws
  unfolding with_places
  length_with =
      let front = length-take-le index.base ws (omega (arith, fits.inside)) in
      simp (length-append, length-drop) (omega (arith, front, fits.inside, long))

  pub fits_with : Fits index n (with_places index ws ix)
  fits_with = record { room = fits.room; inside = rw length_with fits.inside; items = fits.items; within = fits.within }

  pub with_with : (iy : List ℕ) → with_places index (with_places index ws ix) iy ≡ with_places index ws iy
  unfolding with_places
  with_with iy =
      let front = length-take-le index.base ws (omega (arith, fits.inside)) in
      let rest : List ℕ = drop index.size (drop index.base ws) in
      rw (
        take_at (take index.base ws) (ix ++ rest) index.base front,
        drop_at (take index.base ws) (ix ++ rest) index.base front,
        drop_at ix rest index.size long,
      )

-- One place is stored.
pub place_set : (index : Index) (ws : List ℕ) (q v : ℕ) → q < index.size → set ws (index.base + q) v ≡ with_places index ws (set (places_of index ws) q v)
unfolding places_of with_places
place_set index ws q v l =
    let back : List ℕ = drop index.base ws in
    let front = take-set-le index.base ws (index.base + q) v (omega arith) in
    let lent = drop-set-add index.base ws q v in
    sym (rw (front, lent, take-set-lt index.size back q v l, drop-set-lt index.size back q v l) at (same_places index (set ws (index.base + q) v)))

pub two_places_set : (index : Index) (ws : List ℕ) (q v r w : ℕ) → q < index.size → r < index.size
    → set (set ws (index.base + q) v) (index.base + r) w ≡ with_places index ws (set (set (places_of index ws) q v) r w)
unfolding places_of with_places
two_places_set index ws q v r w l m =
    let back : List ℕ = drop index.base ws in
    let front = take-set-le index.base ws (index.base + q) v (omega arith) in
    let lent = drop-set-add index.base ws q v in
    rw (front, lent, take-set-lt index.size back q v l, drop-set-lt index.size back q v l) at (place_set index (set ws (index.base + q) v) r w m)

pub set_length : (index : Index) (ws : List ℕ) (q v : ℕ) → index.base + index.size ≤ length ws → length (set (places_of index ws) q v) ≡ index.size
set_length index ws q v h = simp length-set (places_length index ws h)

-- A first call left the places ix, and a second one goes on from there.
module _ {index : Index} {n : ℕ} {ws ws₁ : List ℕ} (ix : List ℕ) (fits : Fits index n ws) (long : length ix ≡ index.size)
    (first : ws₁ ≡ with_places index ws ix) where
  pub then_fits : Fits index n ws₁
  then_fits = rw first (fits_with index n ws ix fits long)

  pub then_places : places_of index ws₁ ≡ ix
  then_places = rw first (places_with index n ws ix fits long)

  pub then_hash : (i : ℕ) → i < n → hash_of index ws₁ i ≡ hash_of index ws i
  then_hash i h = rw first (item_word_with index n ws ix fits long i 0 h (omega (arith, fits.within)))

  then_with : (iy : List ℕ) → with_places index ws₁ iy ≡ with_places index ws iy
  then_with iy = rw first (with_with index n ws ix fits long iy)

  -- The second call makes its places from the places that it finds.
  then_made : (f g : List ℕ → List ℕ) {ws₂ : List ℕ} → (f ix ≡ g ix) → ws₂ ≡ with_places index ws₁ (f (places_of index ws₁)) → ws₂ ≡ with_places index ws (g ix)
  then_made f g same second = second ∙ then_with (f (places_of index ws₁)) ∙ ap (with_places index ws) (rw then_places same)

  pub then_add_again : (v : ℕ) {ws₂ : List ℕ} → 0 < v → ws₂ ≡ with_places index ws₁ (add_again (hash_of index ws₁) n (places_of index ws₁) v)
      → ws₂ ≡ with_places index ws (add_again (hash_of index ws) n ix v)
  then_add_again v used =
      then_made (λ iy. add_again (hash_of index ws₁) n iy v) (λ iy. add_again (hash_of index ws) n iy v) (add_again_agrees _ _ n then_hash ix v used)

  then_rehome : (from left : ℕ) {ws₂ : List ℕ} → ws₂ ≡ with_places index ws₁ (rehome (hash_of index ws₁) n (places_of index ws₁) from left)
      → ws₂ ≡ with_places index ws (rehome (hash_of index ws) n ix from left)
  then_rehome from left =
      then_made (λ iy. rehome (hash_of index ws₁) n iy from left) (λ iy. rehome (hash_of index ws) n iy from left) (rehome_agrees _ _ n then_hash ix from left)

  then_renumber : (m r : ℕ) {ws₂ : List ℕ} → m < n → ws₂ ≡ with_places index ws₁ (renumber (places_of index ws₁) (hash_of index ws₁ m) m r)
      → ws₂ ≡ with_places index ws (renumber ix (hash_of index ws m) m r)
  then_renumber m r h =
      then_made (λ iy. renumber iy (hash_of index ws₁ m) m r) (λ iy. renumber iy (hash_of index ws m) m r) (ap (λ (g : ℕ). renumber ix g m r) (then_hash m h))

pub vacated_length : (index : Index) (n : ℕ) (ws : List ℕ) (z : ℕ) → index.base + index.size ≤ length ws
    → length (vacate (hash_of index ws) n (places_of index ws) z) ≡ index.size
vacated_length index n ws z h = vacate_length (hash_of index ws) n (places_of index ws) z ∙ places_length index ws h

module _ {index : Index} {n : ℕ} {ws : List ℕ} (fits : Fits index n ws) where
  abbrev vacated : ℕ → List ℕ
  vacated z = with_places index ws (vacate (hash_of index ws) n (places_of index ws) z)

  -- A place is vacated: an empty one, one past the last, one in use.
  pub vacated_empty : (z : ℕ) → at (places_of index ws) z ≡ 0 → ws ≡ vacated z
  vacated_empty z e = sym (same_places index ws) ∙ ap (with_places index ws) (vacate_none (hash_of index ws) n (places_of index ws) z e)

  pub vacated_past : (z : ℕ) → index.size ≤ z → ws ≡ vacated z
  vacated_past z h = vacated_empty z (at_past (places_of index ws) z (rw (places_length index ws fits.inside) h))

  pub vacated_used : (z : ℕ) {ws₁ ws₂ : List ℕ} → (at (places_of index ws) z ≡ 0 → ⊥) → ws₁ ≡ with_places index ws (set (places_of index ws) z 0)
      → ws₂ ≡ with_places index ws₁ (rehome (hash_of index ws₁) n (places_of index ws₁) (onward index.size z) (index.size - 1)) → ws₂ ≡ vacated z
  vacated_used z used emptied passed =
      then_rehome (set (places_of index ws) z 0) fits (set_length index ws z 0 fits.inside) emptied (onward index.size z) (index.size - 1) passed
      ∙ ap (with_places index ws) (vacate_used (hash_of index ws) n (places_of index ws) z index.size (places_length index ws fits.inside) used)

  -- An item is removed by three calls.
  pub removed_by_calls : (r z : ℕ) {ws₁ ws₂ : List ℕ} → r < n → z ≡ seek (places_of index ws) (hash_of index ws r) (r + 1) → ws₁ ≡ vacated z
      → ws₂ ≡ with_places index ws₁ (renumber (places_of index ws₁) (hash_of index ws₁ (n - 1)) (n - 1) r)
      → ws₂ ≡ with_places index ws (remove (hash_of index ws) n (places_of index ws) r)
  removed_by_calls r z h place emptied renumbered =
      let left : List ℕ = vacate (hash_of index ws) n (places_of index ws) z in
      then_renumber left fits (vacated_length index n ws z fits.inside) emptied (n - 1) r (omega arith) renumbered
      ∙ ap (with_places index ws) (remove_by (hash_of index ws) n (places_of index ws) r z place)

-- The loop of the pass, at place q: from here it leaves what it leaves from the start. Then its turns.
pub record Rehoming (index : Index) (n : ℕ) (ws₀ : List ℕ) (from : ℕ) (ws : List ℕ) (q left : ℕ) : Type 0 where
  pub below : q < index.size
  pub fits : Fits index n ws
  pub long : length ws ≡ length ws₀
  pub outside : ws ≡ with_places index ws₀ (places_of index ws)
  pub same : rehome (hash_of index ws₀) n (places_of index ws) q left ≡ rehome (hash_of index ws₀) n (places_of index ws₀) from (index.size - 1)

abbrev rehomed_from : (index : Index) (n : ℕ) (ws₀ : List ℕ) (from : ℕ) → List ℕ
rehomed_from index n ws₀ from = with_places index ws₀ (rehome (hash_of index ws₀) n (places_of index ws₀) from (index.size - 1))

module _ {index : Index} {n : ℕ} {ws₀ : List ℕ} {from : ℕ} (fits : Fits index n ws₀) where
  pub rehoming_start : from < index.size → Rehoming index n ws₀ from ws₀ from (index.size - 1)
  rehoming_start b = record { below = b; fits = fits; long = refl; outside = sym (same_places index ws₀); same = refl }

  module _ {ws : List ℕ} {q left : ℕ} (R : Rehoming index n ws₀ from ws q left) where
    ends : rehome (hash_of index ws₀) n (places_of index ws) q left ≡ places_of index ws → ws ≡ rehomed_from index n ws₀ from
    ends e = R.outside ∙ ap (with_places index ws₀) (sym e ∙ R.same)

    pub rehoming_empty : 0 < left → at (places_of index ws) q ≡ 0 → ws ≡ rehomed_from index n ws₀ from
    rehoming_empty h e = ends (rehome_empty (hash_of index ws₀) n (places_of index ws) q left h e)

    pub rehoming_over : left ≤ 0 → ws ≡ rehomed_from index n ws₀ from
    rehoming_over h = ends (rehome_over (hash_of index ws₀) n (places_of index ws) q left h)

    same_hash : (i : ℕ) → i < n → hash_of index ws i ≡ hash_of index ws₀ i
    same_hash i h = then_hash (places_of index ws) fits (places_length index ws R.fits.inside) R.outside i h

    pub rehoming_on : 0 < left → (at (places_of index ws) q ≡ 0 → ⊥) → {ws' : List ℕ}
        → ws' ≡ with_places index ws (add_again (hash_of index ws) n (set (places_of index ws) q 0) (at (places_of index ws) q))
        → Rehoming index n ws₀ from ws' (onward index.size q) (left - 1)
    rehoming_on h k {ws'} e =
        let len = places_length index ws R.fits.inside in
        let emptied : List ℕ = set (places_of index ws) q 0 in
        let word : ℕ = at (places_of index ws) q in
        let ix : List ℕ = add_again (hash_of index ws) n emptied word in
        let long : length ix ≡ index.size = add_again_length (hash_of index ws) n emptied word ∙ simp length-set len in
        let there = places_with index n ws ix R.fits long in
        let agrees : ix ≡ add_again (hash_of index ws₀) n emptied word =
        add_again_agrees (hash_of index ws) (hash_of index ws₀) n same_hash emptied word (omega arith) in
        rw e (record {
          below = onward_below index.size q R.below;
          fits = fits_with index n ws ix R.fits long;
          long = length_with index n ws ix R.fits long ∙ R.long;
          outside = then_with (places_of index ws) fits len R.outside ix ∙ ap (with_places index ws₀) (sym there);
          same = rw (there, agrees) (sym (rehome_on (hash_of index ws₀) n (places_of index ws) q left index.size len h k)) ∙ R.same;
        })
