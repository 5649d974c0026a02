-- How a ledger lies in the words that it is lent: the count, the cursor, the debts, then words that are not its own, and last the index of the debts. Each
-- offset and width stands here once, and once in src/words.rt.
use Rattle.std.specs.Prelude.{ℕ, ◌+◌, ◌*◌, ◌≡◌, List, [], ◌∷◌, ◌++◌, map, length, get_or, take, drop}
use Rattle.rows.specs.Rows.{unrow}
use Rattle.index.specs.declared.Index.{Index}
use Rattle.index.specs.Layout.{places_for}
use Rattle.held.specs.Layout.{Table, table_in, held_of, index_words}
use Rattle.ledger.specs.declared.Debt.{Debt}
use Rattle.ledger.specs.Model.{Ledger, Sound}

-- The word of the count and that of the cursor, the word at which the debts begin, and the words of a debt.
abbrev pub count_at : ℕ
count_at = 0

abbrev pub cursor_at : ℕ
cursor_at = 1

abbrev pub debts_at : ℕ
debts_at = 2

abbrev pub debt_width : ℕ
debt_width = 2

-- The word at which the words begin that are not the ledger's own: they are the index of the shard's slots. The word at which the index of the debts begins.
-- The words of a ledger with room for cap debts, the others among them.
abbrev pub others_at : ℕ → ℕ
others_at cap = debts_at + debt_width * cap

abbrev pub index_at : ℕ → ℕ
index_at cap = others_at cap + places_for cap

abbrev pub ledger_words : ℕ → ℕ
ledger_words cap = index_at cap + places_for cap

-- Where the index of the debts and the debts lie. A debt has its hash for a key.
abbrev pub debt_index : ℕ → Index
debt_index cap = record { base = index_at cap; size = places_for cap; first = debts_at; width = debt_width; key = 0 }

-- The debt that two words are, its hash first; and the words of a debt.
abbrev pub debt_of : List ℕ → Debt
debt_of row = record { hash = get_or row 0 0; settles = record { 0 = get_or row 1 0 } }

abbrev pub debt_words : Debt → List ℕ
debt_words d = d.hash ∷ d.settles.0 ∷ []

-- The ledger that a table of debts is, the ledger that lies in some words, and the words of a ledger.
abbrev pub ledger_of : ℕ → Table Debt → Ledger
ledger_of cap t = record { debts = held_of count_at (drop (places_for cap) t.rest) t; cursor = t.head cursor_at; others = take (places_for cap) t.rest }

unfoldable pub ledger : ℕ → List ℕ → Ledger
ledger cap ws = ledger_of cap (table_in debt_of debt_width cap debts_at ws)

unfoldable pub words_of : Ledger → List ℕ
words_of l = l.debts.count ∷ l.cursor ∷ (unrow (map debt_words l.debts.places) ++ (l.others ++ index_words l.debts.finding))

-- The words that a function of the ledger is lent: just those of a ledger that is sound.
pub record Intact (cap : ℕ) (ws : List ℕ) : Type 0 where
  pub size : length ws ≡ ledger_words cap
  pub sound : Sound (ledger cap ws)
