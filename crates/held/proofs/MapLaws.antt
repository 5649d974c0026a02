-- A map of items that keeps the hash of each, and the item that stands in a free place. Such a map may be made before or after a change of the held items, and
-- lookup by what the map keeps finds the same place. So held items that the map makes equal are alike to every operation that reads only what it keeps.
use Prim.Native.Nat.{ℕ, ◌-◌}
use mathlib.Core.Path.{◌≡◌, refl, sym, ap, ◌∙◌}
use mathlib.Core.Bool.{Bool}
use mathlib.Core.List.{List, [], ◌∷◌, map}
use lib.ListN.{length, get_or, length-map, get_or-map}
use Rattle.rows.proofs.RowLaws.{map_set}
use Rattle.held.specs.Held.{Held, Items, found_by, item_at, hash_at, position, appended, removed, stored, mapped}
use Rattle.held.proofs.AlikeLaws.{KeptByWays}

module _ {A : Type 0} (items : Items A) (f : A → A) (keeps_free : f items.free ≡ items.free)
    (keeps_hash : (x : A) → items.hash (f x) ≡ items.hash x) where
  -- The item at a place, and its hash.
  pub item_mapped : (h : Held A) (i : ℕ) → item_at items (mapped f h) i ≡ f (item_at items h i)
  item_mapped h i = ap (get_or (map f h.places) i) (sym keeps_free) ∙ get_or-map f h.places i items.free

  hashes_mapped : (h : Held A) → hash_at items (mapped f h) ≡ hash_at items h
  hashes_mapped h = λ j i. (ap items.hash (item_mapped h i) ∙ keeps_hash (item_at items h i)) j

  -- Lookup, by a test that reads what the map keeps.
  pub position_mapped : (test : A → Bool) → ((x : A) → test (f x) ≡ test x) → (h : Held A) (hash : ℕ)
      → position items (mapped f h) hash test ≡ position items h hash test
  position_mapped test blind h hash =
      λ j. found_by h.finding h.count (λ i. (ap test (item_mapped h i) ∙ blind (item_at items h i)) j) hash

  -- The three ways in which items change.
  pub appended_mapped : (h : Held A) (x : A) → mapped f (appended items h x) ≡ appended items (mapped f h) (f x)
  appended_mapped h x = rw (map_set f h.places h.count x, keeps_hash x)

  pub removed_mapped : (h : Held A) (p : ℕ) → mapped f (removed items h p) ≡ removed items (mapped f h) p
  unfolding removed
  removed_mapped h p =
      rw (map_set f, map_set f, keeps_free, item_mapped h (h.count - 1), hashes_mapped h)

  pub stored_mapped : (h : Held A) (i : ℕ) (x : A) → mapped f (stored h i x) ≡ stored (mapped f h) i (f x)
  stored_mapped h i x = rw (map_set f h.places i x)

  -- So held items that the map makes equal stay so.
  pub mapped_alike : KeptByWays items (λ x y. f x ≡ f y) (λ h g. mapped f h ≡ mapped f g)
  mapped_alike = record {
    count = λ like. ap (λ (h : Held A). h.count) like;
    room = λ {h} {g} like. sym (length-map h.places f) ∙ ap (λ (h : Held A). length h.places) like ∙ length-map g.places f;
    item = λ {h} {g} {i} {j} like here.
        sym (item_mapped h i) ∙ (λ k. item_at items (like k) (here k)) ∙ item_mapped g j;
    appends = λ {h} {g} {x} {y} like same. appended_mapped h x ∙ (λ k. appended items (like k) (same k)) ∙ sym (appended_mapped g y);
    removes = λ {h} {g} {i} {j} like here. removed_mapped h i ∙ (λ k. removed items (like k) (here k)) ∙ sym (removed_mapped g j);
    stores = λ {h} {g} {i} {j} {x} {y} like here same. stored_mapped h i x ∙ (λ k. stored (like k) (here k) (same k)) ∙ sym (stored_mapped g j y);
  }

-- A map that changes nothing the second time.
pub mapped_twice : {A : Type 0} (f : A → A) → ((x : A) → f (f x) ≡ f x) → (h : Held A) → mapped f (mapped f h) ≡ mapped f h
mapped_twice {A} f settled h = ap (λ (places : List A). record { count = h.count; places = places; finding = h.finding }) (go h.places)
  where
    go : (xs : List A) → map f (map f xs) ≡ map f xs
    go [] = refl
    go (x ∷ xs) = λ j. settled x j ∷ go xs j
