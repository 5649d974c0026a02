-- No promise rests on this page: it serves the inner contracts of the code.
-- The copy of words from one layout to the other, and where the debts' index lies in the words of a shard.
use Rattle.std.specs.Prelude.{ℕ, zero, suc, ◌+◌, ◌-◌, ◌*◌, List, [], ◌∷◌, ◌++◌, take, drop}
use Rattle.rows.specs.Segments.{segment}
use Rattle.index.specs.declared.Index.{Index}
use Rattle.index.specs.Layout.{places_for}
use Rattle.ledger.specs.Layout as Ledger
use Rattle.shard_map.specs.Layout.{slots_at, ledger_start}

-- Where the index of the debts and the debts lie in the words of a present shard.
abbrev pub debt_index_in_shard : ℕ → Index
debt_index_in_shard cap = record {
  base = ledger_start cap + Ledger.index_at cap;
  size = places_for cap;
  first = ledger_start cap + Ledger.debts_at;
  width = Ledger.debt_width;
  key = 0;
}

-- The first n words of a list, with zeros where it has none.
unfoldable pub carried : ℕ → List ℕ → List ℕ
carried zero ws = []
carried (suc n) [] = 0 ∷ carried n []
carried (suc n) (w ∷ ws) = w ∷ carried n ws

-- The first n rows of a width as rows of another width: words are cut off, or zeros added.
unfoldable pub carried_rows : (from to : ℕ) → ℕ → List ℕ → List ℕ
carried_rows from to zero ws = []
carried_rows from to (suc n) ws = carried_rows from to n ws ++ carried to (segment (from * n) from ws)

-- The words of a shard whose slots have `from` words, as words with `to` words a slot. There are `size` of them: the rest is cut off, or gets zeros.
unfoldable pub carried_shard : (from to cap size : ℕ) → List ℕ → List ℕ
carried_shard from to cap size ws =
    take slots_at ws
    ++ (carried_rows from to cap (segment slots_at (from * cap) ws) ++ carried (size - (slots_at + to * cap)) (drop (slots_at + from * cap) ws))
