-- Ledgers that no operation tells apart. Layers above know them by this record alone.
use Prim.Native.Nat.{ℕ}
use mathlib.Core.Path.{◌≡◌, refl}
use mathlib.Core.Bool.{Bool}
use Rattle.units.specs.declared.Nanos.{Nanos}
use Rattle.bucket.specs.declared.BucketConfig.{BucketConfig}
use Rattle.held.proofs.AlikeLaws.{SameOutcome}
use Rattle.ledger.specs.declared.Debt.{Debt}
use Rattle.ledger.specs.Model.{Ledger, owed_by, taken, sweep, recorded, paid_down}

-- A relation that every operation on a ledger keeps. Layers above know ledgers that are alike by this.
pub record KeptByLedgers (Like : Ledger → Ledger → Type 0) : Type 0 where
  pub owed : {l m : Ledger} → Like l m → (h : ℕ) → owed_by l h ≡ owed_by m h
  pub sweeps : {l m : Ledger} → Like l m → (at : Nanos) (n : ℕ) → Like (sweep at n l) (sweep at n m)
  pub takes : {l m : Ledger} → Like l m → (h : ℕ) → SameOutcome Like (taken l h) (taken m h)
  pub pays : {l m : Ledger} → Like l m → (h cost : ℕ) (c : BucketConfig) → SameOutcome Like (paid_down l h cost c) (paid_down m h cost c)
  pub records : {l m : Ledger} → Like l m → (d : Debt) (at : Nanos) (forget : Bool) → SameOutcome Like (recorded l d at forget) (recorded m d at forget)

-- Equal ledgers are alike.
pub equal_kept : KeptByLedgers ◌≡◌
equal_kept = record {
  owed = λ same h. rw same;
  sweeps = λ same at n. rw same;
  takes = λ same h. rw same (record { answer = refl; after = refl });
  pays = λ same h cost c. rw same (record { answer = refl; after = refl });
  records = λ same d at forget. rw same (record { answer = refl; after = refl });
}
