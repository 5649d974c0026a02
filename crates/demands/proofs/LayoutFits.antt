-- A shard that is read from words that fit 64 bits fits, and one that fits is written as words that fit.
use Prim.Native.Nat.{ℕ, suc, ◌+◌, ◌*◌, ◌^◌}
use mathlib.Core.List.{List, [], ◌∷◌, ◌++◌, map}
use native.Mathlib.Omega.{arith}
use lib.ListN.{length, get_or, take, drop}
use Rattle.rows.specs.Segments.{segment}
use Rattle.rows.specs.Rows.{rows, unrow}
use Rattle.index.specs.Layout.{places_for}
use Rattle.index.proofs.WordLaws.{Below}
use Rattle.held.specs.Held.{Finding, in_order, by_index}
use Rattle.held.specs.Layout.{Table, table_in, index_words}
use Rattle.held.proofs.LayoutLaws.{table_length}
use Rattle.held.proofs.FindingLaws.{WordsBelow}
use Rattle.slot.specs.declared.Slot.{Slot}
use Rattle.ledger.specs.declared.Debt.{Debt}
use Rattle.ledger.specs.Model.{Ledger, with_others}
use Rattle.ledger.specs.Layout as Debts
use Rattle.shard_map.specs.Model.{Shard}
use Rattle.shard_map.specs.Layout.{slots_at, slot_width, slot_of, slot_words, shard, words_of}
use Rattle.rules.specs.Calls.{Every}
use Rattle.demands.proofs.EveryLaws.{of_item, every_taken, every_left, every_joined, every_made, every_in_part, every_in_rows, every_of_rows}
use Rattle.demands.proofs.WordFits.{Word}
use Rattle.demands.proofs.LedgerFits.{DebtFits, LedgerFits}
use Rattle.demands.proofs.ShardFits.{SlotFits, ShardFits}

-- A word that is read from words that fit, also past their end.
pub word_fits : (ws : List ℕ) (i : ℕ) → Every Word ws → Word (get_or ws i 0)
word_fits ws i every = of_item Word ws i 0 (omega arith) every

-- A table that is read from words that fit: the words before its rows, its items, and its rest.
pub record TableFits {A : Type 0} (Q : A → Type 0) (t : Table A) : Type 0 where
  pub head : (k : ℕ) → Word (t.head k)
  pub room : Word (length t.places)
  pub items : Every Q t.places
  pub rest : Every Word t.rest

pub table_read_fits : {A : Type 0} (Q : A → Type 0) (read : List ℕ → A) (width cap first : ℕ) (ws : List ℕ)
    → ((row : List ℕ) → Every Word row → Q (read row)) → Word cap → Every Word ws → TableFits Q (table_in read width cap first ws)
unfolding table_in
table_read_fits Q read width cap first ws reads room every =
    let own : List ℕ = segment first (width * cap) ws in
    record {
      head = λ k. word_fits (take first ws) k (every_taken Word first ws every);
      room = rw (table_length read width cap first ws) room;
      items = every_made (Every Word) Q read reads (rows width cap own) (every_in_rows Word width cap own (every_in_part Word first (width * cap) ws every));
      rest = every_left Word (first + width * cap) ws every;
    }

-- The words of an index.
pub index_read_fits : (ix : List ℕ) → Every Word ix → Below (2 ^ 64) ix
index_read_fits ix every q = word_fits ix q every

-- So a slot, a debt, a ledger and a shard.
slot_read_fits : (row : List ℕ) → Every Word row → SlotFits (slot_of row)
slot_read_fits row every = record {
  hash = word_fits row _ every;
  key = word_fits row _ every;
  bucket = record { shortfall = word_fits row _ every; stamp = word_fits row _ every };
  mark = word_fits row _ every;
  seen = word_fits row _ every;
  turned_away_met = word_fits row _ every;
}

debt_read_fits : (row : List ℕ) → Every Word row → DebtFits (Debts.debt_of row)
debt_read_fits row every = record { hash = word_fits row _ every; settles = word_fits row _ every }

ledger_read_fits : (cap : ℕ) (ws : List ℕ) → Word cap → Every Word ws → LedgerFits (Debts.ledger cap ws)
unfolding Debts.ledger
ledger_read_fits cap ws room every =
    let f = table_read_fits DebtFits Debts.debt_of _ cap _ ws debt_read_fits room every in
    record {
      debts = record {
        count = f.head _;
        room = f.room;
        items = f.items;
        finding = index_read_fits (drop (places_for cap) _)
            (every_left Word (places_for cap) _ f.rest);
      };
      cursor = f.head _;
      others = every_taken Word (places_for cap) _ f.rest;
    }

pub shard_read_fits : (cap : ℕ) (ws : List ℕ) → Word cap → Every Word ws → ShardFits (shard cap ws)
unfolding shard
shard_read_fits cap ws room every =
    let f = table_read_fits SlotFits slot_of _ cap _ ws slot_read_fits room every in
    let lent : Ledger = Debts.ledger cap (table_in slot_of slot_width cap slots_at ws).rest in
    let l : LedgerFits lent = ledger_read_fits cap _ room f.rest in
    record {
      slots = record { count = f.head _; room = f.room; items = f.items; finding = index_read_fits lent.others l.others };
      hand = f.head _;
      sweep = f.head _;
      ledger = record { debts = l.debts; cursor = l.cursor; others = tt };
    }

-- The words of each, where it fits.
slot_words_fit : (slot : Slot) → SlotFits slot → Every Word (slot_words slot)
slot_words_fit slot f = (f.hash, (f.key, (f.bucket.shortfall, (f.bucket.stamp, (f.mark, (f.seen, (f.turned_away_met, tt)))))))

debt_words_fit : (d : Debt) → DebtFits d → Every Word (Debts.debt_words d)
debt_words_fit d f = (f.hash, (f.settles, tt))

pub items_written_fit : {A : Type 0} (Q : A → Type 0) (write : A → List ℕ) → ((x : A) → Q x → Every Word (write x)) → (items : List A) → Every Q items
    → Every Word (unrow (map write items))
items_written_fit Q write writes items every = every_of_rows Word (map write items) (every_made Q (Every Word) write writes items every)

below_every : (ix : List ℕ) → Below (2 ^ 64) ix → Every Word ix
below_every [] below = tt
below_every (w ∷ ix) below = (below 0, below_every ix (λ q. below (suc q)))

index_words_fit : (f : Finding) → WordsBelow (2 ^ 64) f → Every Word (index_words f)
index_words_fit in_order below = tt
index_words_fit (by_index ix) below = below_every ix below

ledger_words_fit : (l : Ledger) → LedgerFits l → Every Word (Debts.words_of l)
unfolding Debts.words_of
ledger_words_fit l f =
    let debts = items_written_fit DebtFits Debts.debt_words debt_words_fit l.debts.places f.debts.items in
    let rest = every_joined Word l.others (index_words l.debts.finding) f.others (index_words_fit l.debts.finding f.debts.finding) in
    (f.debts.count, (f.cursor, every_joined Word (unrow (map Debts.debt_words l.debts.places)) (l.others ++ index_words l.debts.finding) debts rest))

pub shard_words_fit : (s : Shard) → ShardFits s → Every Word (words_of s)
unfolding words_of
shard_words_fit s f =
    let slots = items_written_fit SlotFits slot_words slot_words_fit s.slots.places f.slots.items in
    let l : Ledger = with_others s.ledger (index_words s.slots.finding) in
    let fits : LedgerFits l =
    record { debts = f.ledger.debts; cursor = f.ledger.cursor; others = index_words_fit s.slots.finding f.slots.finding } in
    let both = every_joined Word (unrow (map slot_words s.slots.places)) (Debts.words_of l) slots (ledger_words_fit l fits) in
    (f.slots.count, (f.hand, (f.sweep, both)))
