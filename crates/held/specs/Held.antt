-- Items held in the first places of a fixed number of places. What stands in the places past the count is part of the value, so that a definition
-- over `Held` fixes every word. Three definitions change the held items: `appended` adds an item, `removed` takes one out, and `stored` puts one in the place
-- of another. Only set_up_lem and clear do otherwise: all words become 0. `position` finds an item and changes nothing. Only `position`, `appended` and
-- `removed` read or change an index. Definitions in higher crates are the same with an index and without. `mapped` stands in claims alone: no operation uses
-- it.
use Rattle.std.specs.Prelude.{ℕ, ◌+◌, ◌-◌, ◌≤◌, ◌<◌, ◌≡◌, Bool, cond, List, map, ltb, length, get_or, set, Option}
use Rattle.rows.specs.Places.{lowest, sum}
use Rattle.index.specs.Walk as Index
use Rattle.index.specs.Exact.{Exact}
use Rattle.index.specs.Layout.{places_for}

-- How items are found: in the order of their places, or by an index, whose places are given.
pub data Finding : Type 0 where
  in_order : Finding
  by_index : List ℕ → Finding

pub record Held (A : Type 0) : Type 0 where
  pub count : ℕ
  pub places : List A
  pub finding : Finding

-- There is room for an item, and no more are held than there is room for.
pub record Sound {A : Type 0} (h : Held A) : Type 0 where
  pub room : 0 < length h.places
  pub count_fits : h.count ≤ length h.places

-- What stands in a place that holds no item, which is an item of zeros, and the hash by which an item is found.
pub record Items (A : Type 0) : Type 0 where
  pub free : A
  pub hash : A → ℕ

-- A hand, sweep or cursor that stands at or past the count reads as the first place.
abbrev pub wrapped : ℕ → ℕ → ℕ
wrapped i count = cond (ltb i count) i 0

-- The lookup of a hash among n items: the lowest place that passes a test, or the first item on the hash's walk that does.
abbrev pub found_by : Finding → ℕ → (ℕ → Bool) → ℕ → Option ℕ
found_by in_order n test h = lowest n test
found_by (by_index ix) n test h = Index.find n test ix h

-- Item i comes, of hash h: an index gets it.
abbrev pub with_added : Finding → ℕ → ℕ → Finding
with_added in_order h i = in_order
with_added (by_index ix) h i = by_index (Index.add ix h i)

-- Item p of n leaves, and the last item gets its number: an index loses it. `hash i` is the hash of item i, before that.
abbrev pub with_removed : Finding → (ℕ → ℕ) → ℕ → ℕ → Finding
with_removed in_order hash n p = in_order
with_removed (by_index ix) hash n p = by_index (Index.remove hash n ix p)

module _ {A : Type 0} (items : Items A) where
  -- The item at a place, and its hash.
  abbrev pub item_at : Held A → ℕ → A
  item_at h i = get_or h.places i items.free

  abbrev pub hash_at : Held A → ℕ → ℕ
  hash_at h i = items.hash (item_at h i)

  -- The place of an item of a hash that passes a test.
  abbrev pub position : Held A → ℕ → (A → Bool) → Option ℕ
  position h hash test = found_by h.finding h.count (λ i. test (item_at h i)) hash

  -- An item comes last.
  abbrev pub appended : Held A → A → Held A
  appended h x = record {
    count = h.count + 1;
    places = set h.places h.count x;
    finding = with_added h.finding (items.hash x) h.count;
  }

  -- How items are found once the item at p leaves.
  abbrev pub without_item : Held A → ℕ → Finding
  without_item h p = with_removed h.finding (hash_at h) h.count p

  -- The item at p leaves: the last item moves into its place, and the place that comes free holds zeros.
  unfoldable pub removed : Held A → ℕ → Held A
  removed h p = record {
    count = h.count - 1;
    places = set (set h.places p (item_at h (h.count - 1))) (h.count - 1) items.free;
    finding = without_item h p;
  }

  -- The weights of the items, added up.
  abbrev pub total : (A → ℕ) → Held A → ℕ
  total weight h = sum h.count (λ i. weight (item_at h i))

-- The items are found otherwise.
abbrev pub found_otherwise : {A : Type 0} → Held A → Finding → Held A
found_otherwise h f = record { count = h.count; places = h.places; finding = f }

-- Another item stands at a place.
abbrev pub stored : {A : Type 0} → Held A → ℕ → A → Held A
stored h i x = record { count = h.count; places = set h.places i x; finding = h.finding }

-- The held items, each as a map makes it. They are found as before.
abbrev pub mapped : {A : Type 0} → (A → A) → Held A → Held A
mapped f h = record { count = h.count; places = map f h.places; finding = h.finding }

-- The same items, found in the order of their places.
abbrev pub in_place_order : {A : Type 0} → Held A → Held A
in_place_order h = found_otherwise h in_order

-- Lookup misses no item: it goes by the order of the places, or by an index that is exact for the items and has as many places as there have to be for them.
pub data Complete {A : Type 0} (items : Items A) (h : Held A) : Type 0 where
  in_order_is_complete : h.finding ≡ in_order → Complete items h
  exact_is_complete : (ix : List ℕ) → h.finding ≡ by_index ix → length ix ≡ places_for (length h.places) → Exact (hash_at items h) h.count ix
      → Complete items h
