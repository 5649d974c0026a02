-- A debt is recorded by making the ledger ready for it and writing it; and what each step is in each case that the code goes through.
use Rattle.std.proofs.Common.{Option, Some, None, Ok, Err}
use Prim.Native.Nat.{ℕ, ◌≤◌, ◌<◌}
use native.Mathlib.Omega.{arith}
use mathlib.Core.Path.{◌≡◌, refl}
use mathlib.Core.Bool.{Bool}
use mathlib.Core.List.{List}
use lib.Dec.{ltb}
use lib.ListN.{length}
use borrow.Author.Tests.{lt-ltb, le-ltb, ltb-true, ltb-false}
use Rattle.arith.proofs.Cases.{by_test}
use Rattle.units.specs.declared.Nanos.{Nanos}
use Rattle.rows.specs.Outcome.{outcome}
use Rattle.rows.proofs.OutcomeLaws.{answer_is, after_is}
use Rattle.ledger.specs.declared.Debt.{Debt}
use Rattle.ledger.specs.Model.{Recorded}
use Rattle.ledger.specs.code.Prepared.{Prepared}
use Rattle.ledger.specs.Model.{Ledger, Sound, cap_of, place_of, make_room, joined, recorded_at, recorded}
use Rattle.ledger.specs.Layout.{ledger, Intact}
use Rattle.ledger.specs.code.Prepared.{readied, prepared_at, prepared, finished, ReadyFor}
use Rattle.ledger.proofs.StepLaws.{found_owes}
use Rattle.ledger.proofs.ModelLaws.{intact_after_answer}
use Rattle.ledger.proofs.RecordLaws.{make_room_sound, make_room_makes_room}

-- Recording is the two steps.
module _ (d : Debt) where
  readied_is_joined : (l : Ledger) (r : Recorded) → finished d (readied l r).after (readied l r).answer ≡ joined d l r
  readied_is_joined l (Ok _) = refl
  readied_is_joined l (Err full) = refl

  at_place : (l : Ledger) (at : Nanos) (forget : Bool) (place : Option ℕ)
      → finished d (prepared_at l at forget place).after (prepared_at l at forget place).answer ≡ recorded_at l d at forget place
  unfolding prepared_at recorded_at
  at_place l at forget (Some p) = refl
  at_place l at forget None =
      by_test (ltb l.debts.count (cap_of l))
      (λ free. rw (free, prepared_at, recorded_at))
      (λ full. rw (full, prepared_at, recorded_at) (readied_is_joined (make_room at forget l).after (make_room at forget l).answer))

  pub prepared_is_recorded : (l : Ledger) (at : Nanos) (forget : Bool) → let o = prepared l d.hash at forget in
      finished d o.after o.answer ≡ recorded l d at forget
  unfolding prepared recorded
  prepared_is_recorded l at forget = at_place l at forget (place_of l d.hash)

-- The ledger is made ready: the hash is there; it is not; and then there is room, or room was made, or not.
module _ (l : Ledger) (at : Nanos) (forget : Bool) where
  pub prepared_where : (hash : ℕ) {place known : Option ℕ} → place ≡ place_of l hash → place ≡ known → prepared_at l at forget known ≡ prepared l hash at forget
  unfolding prepared
  prepared_where hash gave is = rw (← gave, is)

  pub prepared_known : (p : ℕ) → outcome (Ok (Some p)) l ≡ prepared_at l at forget (Some p)
  unfolding prepared_at
  prepared_known p = refl

  pub prepared_free : l.debts.count < cap_of l → outcome (Ok None) l ≡ prepared_at l at forget None
  unfolding prepared_at
  prepared_free free = rw (lt-ltb _ _ free)

  pub prepared_full : {m : Ledger} {r known : Recorded} → cap_of l ≤ l.debts.count → outcome r m ≡ make_room at forget l → r ≡ known
      → readied m known ≡ prepared_at l at forget None
  unfolding prepared_at
  prepared_full full made is = rw (le-ltb _ _ full, ← made, is)

-- A ledger that is ready is sound, and the debt can be written.
module _ (l : Ledger) (at : Nanos) (forget : Bool) (sound : Sound l) where
  readied_ready : (some : 0 < l.debts.count) (r : Recorded) → (make_room at forget l).answer ≡ r
      → let o = readied (make_room at forget l).after r in Sound o.after × ReadyFor o.after o.answer
  readied_ready some (Ok _) is = (make_room_sound l at forget some sound, make_room_makes_room l at forget some sound is)
  readied_ready some (Err full) is = (make_room_sound l at forget some sound, tt)

  ready_at : (hash : ℕ) (place : Option ℕ) → place_of l hash ≡ place
      → let o = prepared_at l at forget place in Sound o.after × ReadyFor o.after o.answer
  unfolding prepared_at
  ready_at hash (Some p) is = (sound, (found_owes l hash p is).below)
  ready_at hash None is =
      by_test (ltb l.debts.count (cap_of l))
      (λ free. rw (free, prepared_at) (sound, ltb-true _ _ free))
      (λ full.
      let some : 0 < l.debts.count = omega (arith, ltb-false l.debts.count (cap_of l) full, sound.room) in
      rw (full, prepared_at) (readied_ready some (make_room at forget l).answer refl))

  pub prepared_ready : (hash : ℕ) → let o = prepared l hash at forget in Sound o.after × ReadyFor o.after o.answer
  unfolding prepared
  prepared_ready hash = ready_at hash (place_of l hash) refl

-- So it is in words that are lent.
pub record AfterPrepare (cap : ℕ) (ws : List ℕ) (r : Prepared) : Type 0 where
  pub intact : Intact cap ws
  pub ready : ReadyFor (ledger cap ws) r

pub after_prepare : {cap : ℕ} {ws ws' : List ℕ} {r : Prepared} (hash : ℕ) (at : Nanos) (forget : Bool) → Intact cap ws → length ws' ≡ length ws
    → outcome r (ledger cap ws') ≡ prepared (ledger cap ws) hash at forget → AfterPrepare cap ws' r
after_prepare {cap} {ws} hash at forget intact same gave =
    let is = prepared_ready (ledger cap ws) at forget intact.sound hash in
    record { intact = intact_after_answer intact same gave is.0; ready = rw (answer_is gave, after_is gave) is.1 }

pub written_after : {cap : ℕ} {ws : List ℕ} {r known : Prepared} → AfterPrepare cap ws r → r ≡ known → ReadyFor (ledger cap ws) known
written_after after is = rw is at after.ready

-- What the code records once the ledger is ready, or is not.
pub recorded_in_steps : (l : Ledger) (d : Debt) (at : Nanos) (forget : Bool) {m : Ledger} {r known : Prepared}
    → outcome r m ≡ prepared l d.hash at forget → r ≡ known → finished d m known ≡ recorded l d at forget
recorded_in_steps l d at forget gave is = rw (← is, answer_is gave, after_is gave) (prepared_is_recorded d l at forget)
