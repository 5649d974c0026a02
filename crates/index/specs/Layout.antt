-- Where an index and its items lie in lent words. The items lie before the index, in rows of one width. A row has its item's hash in the first word, and its
-- key in one of its words.
use Rattle.std.specs.Prelude.{ℕ, ◌+◌, ◌*◌, ◌<◌, ◌≤◌, Bool, false, cond, List, ◌++◌, length, take, drop, ◌==◌, slice_index}
use Rattle.rows.specs.Segments.{segment}
use Rattle.index.specs.declared.Index.{Index}

-- How many places an index has for the items that there is room for: two for each.
abbrev pub places_for : ℕ → ℕ
places_for cap = 2 * cap

-- The places of the index.
unfoldable pub places_of : Index → List ℕ → List ℕ
places_of index ws = segment index.base index.size ws

-- The words with other places in the index, and all else as it is.
unfoldable pub with_places : Index → List ℕ → List ℕ → List ℕ
with_places index ws ix = take index.base ws ++ (ix ++ drop index.size (drop index.base ws))

-- Word f of the row of item i; the item's hash; its key.
unfoldable pub item_word : Index → ℕ → List ℕ → ℕ → ℕ
item_word index f ws i = slice_index ws (index.first + index.width * i + f)

abbrev pub hash_of : Index → List ℕ → ℕ → ℕ
hash_of index ws = item_word index 0 ws

abbrev pub key_of : Index → List ℕ → ℕ → ℕ
key_of index ws = item_word index index.key ws

-- Does item i have the hash and the key?
unfoldable pub keyed : Index → List ℕ → ℕ → ℕ → ℕ → Bool
keyed index ws h k i = cond (hash_of index ws i == h) (key_of index ws i == k) false

-- The index has places, it lies in the words, n items lie before it, and the key lies in a row.
pub record Fits (index : Index) (n : ℕ) (ws : List ℕ) : Type 0 where
  pub room : 0 < index.size
  pub inside : index.base + index.size ≤ length ws
  pub items : index.first + index.width * n ≤ index.base
  pub within : index.key < index.width
