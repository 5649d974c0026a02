-- No promise rests on this page: it serves the inner contracts of the code.
-- The checks as the code makes them: on rows of words, and by the lookup of each item.
use Rattle.std.specs.Prelude.{ℕ, ◌+◌, ◌-◌, ◌*◌, ◌≤◌, ◌<◌, ◌≡◌, Bool, true, false, cond, List, eqb, length, get_or, take, drop, Option, Some, None}
use Rattle.index.specs.Walk.{find}
use Rattle.converter_shards.specs.declared.Rows.{Rows}
use Rattle.converter_shards.specs.Layout01.{slots_at01, slot_width01, debts_at01, debt_width01, ledger_start01, shard_words01, shard01}
use Rattle.converter_shards.specs.Checks.{both_same, count_over}

-- The words past the first n of cap rows, where the rows begin at a word.
abbrev pub rows_past : (first width cap n : ℕ) → List ℕ → List ℕ
rows_past first width cap n ws = take (first + width * cap - (first + width * n)) (drop (first + width * n) ws)

-- The words of a shard of which no count is over the cap.
pub record Counted (cap : ℕ) (ws : List ℕ) : Type 0 where
  pub size : length ws ≡ shard_words01 cap
  pub fits : count_over cap (shard01 cap ws) ≡ false

-- Word f of row i, where rows lie in words.
unfoldable pub row_word : Rows → ℕ → List ℕ → ℕ → ℕ
row_word rows f ws i = get_or ws (rows.first + rows.width * i + f) 0

-- Where the slots and the debts lie in document 01's words.
abbrev pub slot_rows01 : Rows
slot_rows01 = record { first = slots_at01; width = slot_width01; key = 1 }

abbrev pub debt_rows01 : ℕ → Rows
debt_rows01 cap = record { first = ledger_start01 cap + debts_at01; width = debt_width01; key = 0 }

unfoldable pub alike_rows : Rows → List ℕ → ℕ → ℕ → Bool
alike_rows rows ws i j = both_same (row_word rows 0 ws i) (row_word rows rows.key ws i) (row_word rows 0 ws j) (row_word rows rows.key ws j)

-- The words have n rows, and the word that is compared beside the hash lies in its row.
pub record RowsFit (rows : Rows) (n : ℕ) (ws : List ℕ) : Type 0 where
  pub inside : rows.first + rows.width * n ≤ length ws
  pub within : rows.key < rows.width

-- Does the lookup of an item's own hash and key give another place than the item's, or none?
abbrev pub strayed : ℕ → Option ℕ → Bool
strayed i (Some j) = cond (eqb j i) false true
strayed i None = true

-- With an exact index an item strays where another one is like it (`strays_are_twins`), so that no pairs need be compared.
unfoldable pub strays : (ℕ → ℕ) → (ℕ → ℕ) → ℕ → List ℕ → ℕ → Bool
strays hash key n ix i = strayed i (find n (λ j. both_same (hash j) (key j) (hash i) (key i)) ix (hash i))
