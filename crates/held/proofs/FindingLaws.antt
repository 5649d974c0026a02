-- What a lookup says. On any value, what it finds is below the count and passes. On a complete value it misses no item of the hash. So layers above know
-- lookup by two laws. Then what each step keeps: that the value is complete, the kind of its finding, and a bound over the words of its index.
use Rattle.std.proofs.Common.{Some, None}
use Prim.Native.Nat.{ℕ, ◌+◌, ◌<◌}
use native.Mathlib.Omega.{arith}
use mathlib.Core.Path.{◌≡◌, refl, ap, ◌∙◌}
use mathlib.Core.Bool.{Bool, true, false}
use lib.ListN.{length, length-set, replicate, length-replicate}
use Rattle.arith.proofs.Cases.{by_test, by_eq}
use Rattle.rows.proofs.LowestLaws as LowestLaws
use Rattle.rows.proofs.LowestLaws.{Found}
use Rattle.index.specs.Walk as Index
use Rattle.index.specs.Layout.{places_for}
use Rattle.index.proofs.StepLaws.{add_length, remove_length}
use Rattle.index.proofs.ExactLaws.{exact_hash, add_exact, fresh_exact}
use Rattle.index.proofs.RemoveLaws.{remove_exact}
use Rattle.index.proofs.WordLaws.{Below, add_below, remove_below}
use Rattle.index.proofs.FindLaws.{find_sound, find_nowhere, find_lowest}
use Rattle.held.specs.Held.{Finding, in_order, by_index, Held, Sound, Items, found_by, with_added, with_removed, item_at, hash_at, position, appended, removed}
use Rattle.held.specs.Held.{stored}
use Rattle.held.specs.Held.{in_place_order, Complete, in_order_is_complete, exact_is_complete}
use Rattle.held.specs.Layout.{index_words}
use Rattle.held.proofs.HeldLaws.{item_stored, item_stored_other, item_appended, item_appended_other, item_moved, item_kept}

-- The kind of a finding: in place order, or by an index of so many places.
pub data Kind : Type 0 where
  ordered : Kind
  indexed : ℕ → Kind

abbrev pub kind_of : Finding → Kind
kind_of in_order = ordered
kind_of (by_index ix) = indexed (length ix)

-- By an index of n places: they are the finding's words, and they are n.
pub indexed_by_words : (f : Finding) (n : ℕ) → kind_of f ≡ indexed n → by_index (index_words f) ≡ f
indexed_by_words in_order n same = let z : ◌≡◌ {A = ℕ} 0 1 = cc in absurd (omega arith)
indexed_by_words (by_index ix) n same = refl

pub index_length : (f : Finding) (n : ℕ) → kind_of f ≡ indexed n → length (index_words f) ≡ n
index_length in_order n same = let z : ◌≡◌ {A = ℕ} 0 1 = cc in absurd (omega arith)
index_length (by_index ix) n same = cc

-- An item that comes or leaves keeps the kind.
pub added_kind : (f : Finding) (key i : ℕ) → kind_of (with_added f key i) ≡ kind_of f
added_kind in_order key i = refl
added_kind (by_index ix) key i = ap indexed (add_length ix key i)

without_kind : (f : Finding) (hash : ℕ → ℕ) (n p : ℕ) → kind_of (with_removed f hash n p) ≡ kind_of f
without_kind in_order hash n p = refl
without_kind (by_index ix) hash n p = ap indexed (remove_length hash n ix p)

-- Every word of an index is below a bound; in place order there is none. An item that comes or leaves keeps it so.
abbrev pub WordsBelow : ℕ → Finding → Type 0
WordsBelow bound in_order = Unit {0}
WordsBelow bound (by_index ix) = Below bound ix

pub added_below : (bound : ℕ) (f : Finding) (key i : ℕ) → i + 1 < bound → WordsBelow bound f → WordsBelow bound (with_added f key i)
added_below bound in_order key i small words = tt
added_below bound (by_index ix) key i small words = add_below bound ix key i small words

without_below : (bound : ℕ) (f : Finding) (hash : ℕ → ℕ) (n p : ℕ) → p + 1 < bound → WordsBelow bound f → WordsBelow bound (with_removed f hash n p)
without_below bound in_order hash n p small words = tt
without_below bound (by_index ix) hash n p small words = remove_below bound hash n ix p small words

-- What a lookup finds passes, in both cases.
found_by_lem : (f : Finding) (n : ℕ) (test : ℕ → Bool) (key p : ℕ) → found_by f n test key ≡ Some p → Found test n p
found_by_lem in_order n test key p found = LowestLaws.found_passes n test p found
found_by_lem (by_index ix) n test key p found = find_sound n test ix key p found

module _ {A : Type 0} (items : Items A) (h : Held A) where
  pub removed_kind : (p : ℕ) → kind_of (removed items h p).finding ≡ kind_of h.finding
  unfolding removed
  removed_kind p = without_kind h.finding _ _ p

  pub removed_below : (bound p : ℕ) → p + 1 < bound → WordsBelow bound h.finding → WordsBelow bound (removed items h p).finding
  unfolding removed
  removed_below bound p small words = without_below bound h.finding _ _ p small words

  -- On any value: what is found is below the count and passes.
  pub found_passes : (key : ℕ) (test : A → Bool) (p : ℕ) → position items h key test ≡ Some p → Found (λ i. test (item_at items h i)) h.count p
  found_passes key test p found = found_by_lem h.finding h.count (λ i. test (item_at items h i)) key p found

  -- On a complete value: where nothing is found no item passes, for a test that only items of the hash pass.
  pub nowhere_passes_none : Complete items h → (key : ℕ) (test : A → Bool) → ((x : A) → test x ≡ true → items.hash x ≡ key)
      → position items h key test ≡ None → (i : ℕ) → i < h.count → test (item_at items h i) ≡ false
  nowhere_passes_none (in_order_is_complete order) key test own nowhere i below =
      LowestLaws.nowhere_passes_none h.count (λ j. test (item_at items h j)) i (rw order at nowhere) below
  nowhere_passes_none (exact_is_complete ix by size exact) key test own nowhere i below =
      by_test (test (item_at items h i))
      (λ passes. absurd (find_nowhere exact (λ j. test (item_at items h j)) key (rw by at nowhere) i below (own (item_at items h i) passes) passes))
      (λ fails. fails)

  -- A complete value finds what is found in place order, where all items that pass have the hash and no two items pass.
  pub position_in_place_order : Complete items h → (key : ℕ) (test : A → Bool) → ((x : A) → test x ≡ true → items.hash x ≡ key)
      → ((i j : ℕ) → i < h.count → j < h.count → test (item_at items h i) ≡ true → test (item_at items h j) ≡ true → i ≡ j)
      → position items h key test ≡ position items (in_place_order h) key test
  position_in_place_order (in_order_is_complete order) key test own only = rw order
  position_in_place_order (exact_is_complete ix by size exact) key test own only =
      rw by (find_lowest exact (λ i. test (item_at items h i)) key (λ i below passes. own (item_at items h i) passes) only)

  -- No item is held, and all places of the index are empty: that is complete.
  pub fresh_is_complete : 0 < length h.places → h.count ≡ 0 → h.finding ≡ by_index (replicate (places_for (length h.places)) 0) → Complete items h
  fresh_is_complete room none fresh =
      exact_is_complete (replicate (places_for (length h.places)) 0) fresh (length-replicate {A = ℕ} (places_for (length h.places)) 0)
      (rw none (fresh_exact (hash_at items h) (places_for (length h.places)) (omega arith)))

  -- Other items of the same hashes, as many, in as many places, found in the same way.
  pub same_hashes_complete : Complete items h → (g : Held A) → g.finding ≡ h.finding → g.count ≡ h.count → length g.places ≡ length h.places
      → ((i : ℕ) → i < h.count → hash_at items g i ≡ hash_at items h i) → Complete items g
  same_hashes_complete (in_order_is_complete order) g same count room hashes = in_order_is_complete (same ∙ order)
  same_hashes_complete (exact_is_complete ix by size exact) g same count room hashes =
      exact_is_complete ix (same ∙ by) (rw room size) (rw count (exact_hash exact (hash_at items g) hashes))

  -- Another item of the same hash stands in the place of one.
  pub stored_complete : Complete items h → (i : ℕ) (x : A) → i < length h.places → items.hash x ≡ hash_at items h i → Complete items (stored h i x)
  stored_complete complete i x inside same =
      same_hashes_complete complete (stored h i x) refl refl (simp length-set) (λ j below.
      by_eq j i
      (λ e. rw e (ap items.hash (item_stored items h i x inside) ∙ same))
      (λ other. ap items.hash (item_stored_other items h i x j other)))

  -- An item is appended where there is room.
  pub appended_complete : Complete items h → (x : A) → h.count < length h.places → Complete items (appended items h x)
  appended_complete (in_order_is_complete order) x room = in_order_is_complete (rw order)
  appended_complete (exact_is_complete ix by size exact) x room =
      let before = exact_hash exact (hash_at items (appended items h x)) (λ i below. ap items.hash (item_appended_other items h x i below)) in
      let new : hash_at items (appended items h x) h.count ≡ items.hash x = ap items.hash (item_appended items h x room) in
      exact_is_complete (Index.add ix (items.hash x) h.count) (rw by) (simp length-set (add_length ix (items.hash x) h.count ∙ size))
      (rw new at (add_exact before (omega arith)))

  -- An item is removed.
  pub removed_complete : Sound h → Complete items h → (p : ℕ) → p < h.count → Complete items (removed items h p)
  unfolding removed
  removed_complete sound (in_order_is_complete order) p below = in_order_is_complete (rw order)
  removed_complete sound (exact_is_complete ix by size exact) p below =
      exact_is_complete (Index.remove (hash_at items h) h.count ix p) (rw by) (simp length-set (remove_length (hash_at items h) h.count ix p ∙ size))
      (remove_exact exact p below (hash_at items (removed items h p))
      (λ i inner other. ap items.hash (item_kept items h p i inner other))
      (λ inner. ap items.hash (item_moved items h p sound inner)))
