-- Lookup by an index changes nothing: on a ledger in which lookup finds each debt, every operation gives the answer that it gives where debts are found in
-- place order, and leaves the same debts, cursor and other words. In what it leaves lookup finds each debt (`SameRoom`).
use Prim.Native.Nat.{ℕ}
use mathlib.Core.Path.{◌≡◌, refl, sym, ap}
use mathlib.Core.Bool.{Bool}
use borrow.Author.Tests.{eqb-true}
use Rattle.units.specs.declared.Nanos.{Nanos}
use Rattle.bucket.specs.declared.BucketConfig.{BucketConfig}
use Rattle.rows.specs.Outcome.{Outcome, outcome}
use Rattle.held.specs.Held.{in_order}
use Rattle.held.proofs.AlikeLaws.{SameOutcome, found_otherwise_alike}
use Rattle.held.proofs.AlikeLaws as Alike
use Rattle.held.proofs.SingleLaws.{found_in_place_order}
use Rattle.ledger.specs.declared.Debt.{Debt}
use Rattle.ledger.specs.Model.{Ledger, debt_items, settled_by, in_place_order, owes, place_of, owed_by, taken, round_of, sweep, recorded, credit, paid_down}
use Rattle.ledger.proofs.StepLaws.{hash_of, FindsEach, taken_room, paid_room, sweep_room}
use Rattle.ledger.proofs.RecordLaws.{recorded_room}
use Rattle.ledger.proofs.OthersLaws.{owed_at_changed, taken_at_changed, paid_at_changed, recorded_at_changed}
use Rattle.ledger.proofs.AlikeLaws.{KeptByLedgers}

-- What an operation gave, with the ledger in place order.
abbrev pub left_in_place_order : {A : Type 0} → Outcome A Ledger → Outcome A Ledger
left_in_place_order o = outcome o.answer (in_place_order o.after)

-- The sweep looks up nothing: it does the same on any ledger.
sweep_in_place_order : (l : Ledger) (at : Nanos) (n : ℕ) → sweep at n (in_place_order l) ≡ in_place_order (sweep at n l)
unfolding sweep
sweep_in_place_order l at n =
    let ways = found_otherwise_alike debt_items (λ x. in_order) (λ x key i. refl) (λ x hash n p. refl) in
    let swept = Alike.sweep_alike ways (settled_by at) (λ x y same. ap (settled_by at) same) n {r = round_of l} {q = round_of (in_place_order l)}
    (record { items = refl; next = refl }) in
    rw (swept.items, swept.next)

-- Lookup, and what begins with a lookup, on a ledger in which it finds each debt.
module _ (l : Ledger) (each : FindsEach l) where
  pub place_in_place_order : (h : ℕ) → place_of (in_place_order l) h ≡ place_of l h
  unfolding place_of
  place_in_place_order h =
      found_in_place_order debt_items hash_of l.debts each h h (owes h) (λ d passes. eqb-true _ _ passes) (λ d passes. eqb-true _ _ passes)

  pub owed_in_place_order : (h : ℕ) → owed_by (in_place_order l) h ≡ owed_by l h
  unfolding owed_by
  owed_in_place_order h = rw (place_in_place_order h) (owed_at_changed (λ _. in_order) (λ ws. ws) (λ x key i. refl) (λ x hash n p. refl) l (place_of l h))

  pub taken_in_place_order : (h : ℕ) → taken (in_place_order l) h ≡ left_in_place_order (taken l h)
  unfolding taken
  taken_in_place_order h = rw (place_in_place_order h) (taken_at_changed (λ _. in_order) (λ ws. ws) (λ x key i. refl) (λ x hash n p. refl) l (place_of l h))

  pub paid_in_place_order : (h cost : ℕ) (c : BucketConfig) → paid_down (in_place_order l) h cost c ≡ left_in_place_order (paid_down l h cost c)
  unfolding paid_down
  paid_in_place_order h cost c =
      rw (place_in_place_order h) (paid_at_changed (λ _. in_order) (λ ws. ws) (λ x key i. refl) (λ x hash n p. refl) l (credit c cost) (place_of l h))

  pub recorded_in_place_order : (d : Debt) (at : Nanos) (forget : Bool) → recorded (in_place_order l) d at forget ≡ left_in_place_order (recorded l d at forget)
  unfolding recorded
  recorded_in_place_order d at forget =
      rw (place_in_place_order d.hash)
      (recorded_at_changed (λ _. in_order) (λ ws. ws) (λ x key i. refl) (λ x hash n p. refl) l d at forget (place_of l d.hash))

-- The second ledger is the first in place order, and lookup finds each debt of the first. So no operation tells the two apart.
pub record PlaceOrdered (l m : Ledger) : Type 0 where
  pub is : m ≡ in_place_order l
  pub each : FindsEach l

ordered : {A : Type 0} (operation : Ledger → Outcome A Ledger) {l m : Ledger} → m ≡ in_place_order l
    → operation (in_place_order l) ≡ left_in_place_order (operation l)
    → FindsEach (operation l).after → SameOutcome PlaceOrdered (operation l) (operation m)
ordered operation is same each = rw (is, same) (record { answer = refl; after = record { is = refl; each = each } })

pub place_order_kept : KeptByLedgers PlaceOrdered
place_order_kept = record {
  owed = λ {l} order h. rw order.is (sym (owed_in_place_order l order.each h));
  sweeps = λ {l} order at n. record { is = rw order.is (sweep_in_place_order l at n); each = (sweep_room at n l).each order.each };
  takes = λ {l} order h. ordered (λ m. taken m h) order.is (taken_in_place_order l order.each h) ((taken_room l h).each order.each);
  pays = λ {l} order h cost c.
      ordered (λ m. paid_down m h cost c) order.is (paid_in_place_order l order.each h cost c) ((paid_room l h cost c).each order.each);
  records = λ {l} order d at forget.
      ordered (λ m. recorded m d at forget) order.is (recorded_in_place_order l order.each d at forget)
      ((recorded_room l d at forget order.each.sound).each order.each);
}
