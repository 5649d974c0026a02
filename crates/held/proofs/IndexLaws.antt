-- Items that lie in words with their index: what the lookup, the addition and the removal of the crate `index` mean for them. Over any item, width and place.
use Prim.Native.Nat.{ℕ, ◌+◌, ◌*◌, ◌≤◌, ◌<◌}
use native.Mathlib.Omega.{arith}
use native.Mathlib.Nat.{mul-le-mul_left}
use mathlib.Core.Bool.{Bool, false, cond}
use mathlib.Core.Path.{◌≡◌, ap, sym, ◌∙◌}
use mathlib.Core.List.{List, []}
use lib.ListN.{length, get_or}
use lib.Dec.{eqb}
use borrow.Rule.Slice.PartMut.{put_mid}
use Rattle.rows.specs.Segments.{segment}
use Rattle.index.specs.declared.Index.{Index}
use Rattle.index.specs.Walk as Index
use Rattle.index.specs.Layout.{Fits, places_of, with_places, item_word, hash_of, key_of, keyed}
use Rattle.index.proofs.StepLaws.{add_length, remove_length, find_agrees, remove_agrees}
use Rattle.index.proofs.LayoutLaws.{word_in_row, places_length, with_is_back}
use Rattle.held.specs.Held.{Held, Items, Finding, by_index, with_added, without_item, item_at, hash_at, position}
use Rattle.held.specs.Layout.{table_in, with_rest}
use Rattle.held.proofs.LayoutLaws.{table_item, table_part_put}

-- The index of a table lies in its rest, from word o of the rest on: other places in the index are other words there.
pub table_with_places : {A : Type 0} (read : List ℕ → A) (w cap first o : ℕ) (index : Index) (ws ix : List ℕ) → index.base ≡ first + w * cap + o
    → index.base + index.size ≤ length ws → length ix ≡ index.size
    → table_in read w cap first (with_places index ws ix)
    ≡ with_rest (table_in read w cap first ws) (put_mid o index.size (table_in read w cap first ws).rest ix)
table_with_places read w cap first o index ws ix lies inside same =
    rw (with_is_back index ws ix, lies) (table_part_put read w cap first ws (omega arith) o index.size ix (omega arith) same)

-- The items lie in the rows before the index, and are found by it. A row has the item's hash in its first word, and its key where the index says. `key` is the
-- key of an item.
pub record Indexed {A : Type 0} (items : Items A) (key : A → ℕ) (read : List ℕ → A) (index : Index) (cap : ℕ) (ws : List ℕ) (h : Held A) : Type 0 where
  pub fits : Fits index cap ws
  pub count_fits : h.count ≤ cap
  pub places : h.places ≡ (table_in read index.width cap index.first ws).places
  pub finding : h.finding ≡ by_index (places_of index ws)
  pub free : read [] ≡ items.free
  pub hash : (row : List ℕ) → items.hash (read row) ≡ get_or row 0 0
  pub keys : (row : List ℕ) → key (read row) ≡ get_or row index.key 0

module _ {A : Type 0} {items : Items A} {key : A → ℕ} {read : List ℕ → A} {index : Index} {cap : ℕ} {ws : List ℕ} {h : Held A}
    (I : Indexed items key read index cap ws h) where
  -- The index and the items that are held fit into the words.
  pub indexed_fits : Fits index h.count ws
  indexed_fits =
      let m : index.width * h.count ≤ index.width * cap = mul-le-mul_left {m = h.count} {n = cap} index.width I.count_fits in
      record { room = I.fits.room; inside = I.fits.inside; items = omega (arith, m, I.fits.items); within = I.fits.within }

  -- An item is read from its row, so a word of the row is a field of the item.
  indexed_item : (i : ℕ) → i < cap → item_at items h i ≡ read (segment (index.first + index.width * i) index.width ws)
  indexed_item i below = rw (I.places, ← I.free) (table_item read index.width cap index.first ws i below)

  indexed_word : (field : A → ℕ) (f : ℕ) → ((row : List ℕ) → field (read row) ≡ get_or row f 0) → f < index.width
      → (i : ℕ) → i < cap → item_word index f ws i ≡ field (item_at items h i)
  indexed_word field f is within i below = sym (ap field (indexed_item i below) ∙ is _ ∙ word_in_row index ws i f within)

  indexed_hash : (i : ℕ) → i < h.count → hash_of index ws i ≡ hash_at items h i
  indexed_hash i below = indexed_word items.hash 0 I.hash (omega (arith, I.fits.within)) i (omega (arith, I.count_fits))

  indexed_key : (i : ℕ) → i < h.count → key_of index ws i ≡ key (item_at items h i)
  indexed_key i below = indexed_word key index.key I.keys I.fits.within i (omega (arith, I.count_fits))

  -- Lookup finds the item of the hash and the key.
  pub indexed_find : (hash k : ℕ) (test : A → Bool) → ((x : A) → cond (eqb (items.hash x) hash) (eqb (key x) k) false ≡ test x)
      → Index.find h.count (keyed index ws hash k) (places_of index ws) hash ≡ position items h hash test
  unfolding keyed
  indexed_find hash k test is =
      rw I.finding
      (find_agrees h.count (keyed index ws hash k) (λ i. test (item_at items h i))
      (λ i below. rw (indexed_hash i below, indexed_key i below) (is (item_at items h i)))
      (places_of index ws) hash)

  -- An item is added to the words' index, and removed from it. `whole` is what lies in the words, and `with` is that where the items are found otherwise:
  -- other places in the index change the finding alone.
  module _ {S : Type 0} (whole : List ℕ → S) (with : Finding → S)
      (put : (ix : List ℕ) → length ix ≡ index.size → whole (with_places index ws ix) ≡ with (by_index ix)) where
    long : length (places_of index ws) ≡ index.size
    long = places_length index ws I.fits.inside

    pub indexed_add : (hash i : ℕ) → whole (with_places index ws (Index.add (places_of index ws) hash i)) ≡ with (with_added h.finding hash i)
    indexed_add hash i =
        let added : List ℕ = Index.add (places_of index ws) hash i in
        put added (add_length (places_of index ws) hash i ∙ long) ∙ rw I.finding

    pub indexed_remove : (p : ℕ) → p < h.count
        → whole (with_places index ws (Index.remove (hash_of index ws) h.count (places_of index ws) p)) ≡ with (without_item items h p)
    indexed_remove p below =
        let left : List ℕ = Index.remove (hash_of index ws) h.count (places_of index ws) p in
        let same = remove_agrees (hash_of index ws) (hash_at items h) h.count indexed_hash (places_of index ws) p below in
        put left (remove_length (hash_of index ws) h.count (places_of index ws) p ∙ long) ∙ rw (I.finding, same)
