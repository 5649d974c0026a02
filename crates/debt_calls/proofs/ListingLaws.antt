-- Laws of the debts that are listed from a place on, and of records written one by one.
use Prim.Native.Nat.{ℕ, suc, ◌+◌, ◌-◌, ◌≤◌, ◌<◌}
use native.Mathlib.Omega.{arith}
use native.Mathlib.Nat.{zero-add, sub-zero}
use native.Mathlib.Numerals.{add-one}
use mathlib.Core.Path.{◌≡◌, refl, ap, ◌∙◌}
use mathlib.Core.List.{List, [], ◌∷◌, ◌++◌, append-nil}
use lib.ListN.{length, set, take, drop, drop_of_length-le}
use lib.Seq.{length-take-le, drop-cons, get_or-take, sets, sets-eq}
use borrow.Author.Tests.{le-leb, lt-leb}
use Rattle.arith.proofs.Cases.{by_le}
use Rattle.units.specs.declared.Nanos.{Nanos}
use Rattle.ledger.specs.declared.Debt.{Debt}
use Rattle.ledger.specs.Model.{Ledger, cap_of, no_debt, debt_at}
use Rattle.shard_map.proofs.ReadBack.{debt_cap_is}
use Rattle.store.specs.declared.Part.{Part}
use Rattle.rules.specs.Debts.{unsettled, listed, written}
use Rattle.debt_calls.specs.code.Listing.{ledger_in, listed_from, Readable}

-- The first of some debts is listed, or has settled.
module _ (at : Nanos) (d : Debt) (ds : List Debt) where
  unsettled_first : at.0 < d.settles.0 → unsettled at (d ∷ ds) ≡ d ∷ unsettled at ds
  unfolding unsettled
  unsettled_first after = rw (lt-leb d.settles.0 at.0 after)

  settled_first : d.settles.0 ≤ at.0 → unsettled at (d ∷ ds) ≡ unsettled at ds
  unfolding unsettled
  settled_first by = rw (le-leb d.settles.0 at.0 by)

-- From the first place on, all of them are listed.
pub listed_from_first : (at : Nanos) (l : Ledger) → listed_from at l 0 ≡ listed at l
unfolding listed_from listed
listed_from_first at l = refl

-- A ledger that counts no more debts than it has room for.
module _ (at : Nanos) (l : Ledger) (fits : l.debts.count ≤ cap_of l) (i : ℕ) where
  abbrev held : List Debt
  held = take l.debts.count l.debts.places

  held_length : length held ≡ l.debts.count
  held_length = length-take-le l.debts.count l.debts.places fits

  -- Past the last debt none is listed.
  past : l.debts.count ≤ i → listed_from at l i ≡ []
  unfolding listed_from unsettled
  past over = rw (drop_of_length-le held {i = i} (rw held_length over))

  inside : 0 < length (listed_from at l i) → i < l.debts.count
  inside some = by_le l.debts.count i (λ over. absurd (omega (arith, some, ap length (past over)))) (λ below. below)

  -- One debt more, at a place in use.
  module _ {debt : Debt} (below : i < l.debts.count) (loaded : debt ≡ debt_at l i) where
    one_more : drop i held ≡ debt ∷ drop (i + 1) held
    one_more =
        rw (loaded, add-one)
        (drop-cons held i no_debt (rw held_length below)
        ∙ ap (λ (d : Debt). d ∷ drop (suc i) held) (get_or-take l.debts.count l.debts.places i no_debt below))

    owed : at.0 < debt.settles.0 → listed_from at l i ≡ debt ∷ listed_from at l (i + 1)
    unfolding listed_from
    owed after = ap (unsettled at) one_more ∙ unsettled_first at debt (drop (i + 1) held) after

    settled : debt.settles.0 ≤ at.0 → listed_from at l i ≡ listed_from at l (i + 1)
    unfolding listed_from
    settled by = ap (unsettled at) one_more ∙ settled_first at debt (drop (i + 1) held) by

-- The same of the ledger in a part.
module _ (part' : Part) (ws : List ℕ) (at : Nanos) (readable : Readable part' ws) (i : ℕ) where
  few : (ledger_in part' ws).debts.count ≤ cap_of (ledger_in part' ws)
  few = rw (debt_cap_is part'.cap _) readable.few

  pub listed_past : (ledger_in part' ws).debts.count ≤ i → listed_from at (ledger_in part' ws) i ≡ []
  listed_past = past at (ledger_in part' ws) few i

  pub listed_inside : 0 < length (listed_from at (ledger_in part' ws) i) → i < part'.cap
  listed_inside some = omega (arith, inside at (ledger_in part' ws) few i some, readable.few)

  pub listed_below : 0 < length (listed_from at (ledger_in part' ws) i) → i < (ledger_in part' ws).debts.count
  listed_below some = inside at (ledger_in part' ws) few i some

  module _ {debt : Debt} (below : i < (ledger_in part' ws).debts.count) (loaded : debt ≡ debt_at (ledger_in part' ws) i) where
    pub listed_next : at.0 < debt.settles.0 → listed_from at (ledger_in part' ws) i ≡ debt ∷ listed_from at (ledger_in part' ws) (i + 1)
    listed_next = owed at (ledger_in part' ws) few i below loaded

    pub settled_passed : debt.settles.0 ≤ at.0 → listed_from at (ledger_in part' ws) i ≡ listed_from at (ledger_in part' ws) (i + 1)
    settled_passed = settled at (ledger_in part' ws) few i below loaded

-- Of n records i are written, and those of the debts from here on are still to be: at first all, then one fewer each time, at last none.
abbrev pub to_write : ℕ → ℕ → List Debt → List Debt → List Debt
to_write n i records ds = sets records i (take (n - i) ds)

pub writes_first : (n : ℕ) (records : List Debt) (at : Nanos) (l : Ledger) → to_write n 0 records (listed_from at l 0) ≡ sets records 0 (take n (listed at l))
writes_first n records at l = rw (listed_from_first at l, sub-zero n)

pub writes_next : (n i : ℕ) (records : List Debt) {ds more : List Debt} {d : Debt} → i < n → ds ≡ d ∷ more
    → to_write n i records ds ≡ to_write n (i + 1) (set records i d) more
writes_next n i records below is = let one : n - i ≡ suc (n - (i + 1)) = omega arith in rw (is, one, add-one)

pub writes_none : (n : ℕ) (records ds : List Debt) → to_write n n records ds ≡ records
writes_none n records ds = let none : n - n ≡ 0 = omega arith in rw none

-- All of them written one by one stand over the first records.
pub writes_all : (ds records : List Debt) → length ds ≤ length records → sets records 0 ds ≡ written ds records
unfolding written
writes_all ds records fits = simp zero-add at (sets-eq ds records 0 (omega (arith, fits)))

-- All of them, written one by one over the first n records, with the records past them.
pub writes_over_first : (n : ℕ) (records ds : List Debt) {first : List Debt} → n ≤ length ds → n ≤ length records
    → first ≡ sets (take n records) 0 (take n ds) → first ++ drop n records ≡ written (take n ds) records
unfolding written
writes_over_first n records ds enough fits wrote =
    let long = length-take-le n ds enough in
    let room = length-take-le n records fits in
    let whole : sets (take n records) 0 (take n ds) ≡ take n ds ++ drop (length (take n ds)) (take n records) =
    simp zero-add at (sets-eq (take n ds) (take n records) 0 (omega (arith, long, room))) in
    rw (wrote, whole, long, drop_of_length-le (take n records) {i = n} (omega (arith, room)), append-nil)
