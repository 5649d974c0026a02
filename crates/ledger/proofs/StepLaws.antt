-- What lookup by hash says, and what the operations leave of the room.
use Rattle.std.proofs.Common.{Option, Some, None}
use Prim.Native.Nat.{ℕ, ◌-◌, ◌≤◌, ◌<◌}
use mathlib.Core.Path.{◌≡◌, refl, ◌∙◌}
use mathlib.Core.Bool.{Bool, true, false}
use native.Mathlib.Omega.{arith}
use lib.ListN.{length, length-set}
use borrow.Author.Tests.{eqb-true, eqb-false}
use Rattle.units.specs.declared.Nanos.{Nanos}
use Rattle.bucket.specs.declared.BucketConfig.{BucketConfig}
use Rattle.rows.specs.Outcome.{Outcome, outcome}
use Rattle.held.specs.Round as Round
use Rattle.held.proofs.RoundLaws as RoundLaws
use Rattle.held.proofs.RoundLaws.{sweep_length, sweep_kind}
use Rattle.held.proofs.HeldLaws.{wrapped_below, stored_sound, appended_sound, removed_count, removed_length, removed_sound}
use Rattle.held.proofs.SingleLaws as Singles
use Rattle.held.proofs.SingleLaws.{Lacks, stored_finds_each, appended_finds_each, removed_finds_each}
use Rattle.held.proofs.FindingLaws.{kind_of, added_kind, removed_kind, found_passes, nowhere_passes_none, stored_complete, appended_complete, removed_complete}
use Rattle.ledger.specs.declared.Debt.{Debt}
use Rattle.ledger.specs.Model.{Ledger, Sound, Complete, debt_items, cap_of, debt_at, settled_by, cursor_of, with_cursor, with_debt, owes, place_of, remove_at}
use Rattle.ledger.specs.Model.{append, owed_at, owed_by, taken_at, taken, round_of, look, sweep, credit, paid_at, paid_down}

-- The cursor, as it is read, stands at a debt.
pub cursor_below : (l : Ledger) → 0 < l.debts.count → cursor_of l < l.debts.count
cursor_below l some = wrapped_below l.cursor l.debts.count some

-- What a lookup by hash says of the debts that are held.
pub record Owing (l : Ledger) (h p : ℕ) : Type 0 where
  pub below : p < l.debts.count
  pub own : (debt_at l p).hash ≡ h

pub found_owes : (l : Ledger) (h p : ℕ) → place_of l h ≡ Some p → Owing l h p
unfolding place_of
found_owes l h p e = let f = found_passes debt_items l.debts h (owes h) p e in record { below = f.below; own = eqb-true _ _ f.passes }

pub nowhere_owes_none : (l : Ledger) → Complete l → (h : ℕ) → place_of l h ≡ None → (i : ℕ) → i < l.debts.count → (debt_at l i).hash ≡ h → ⊥
unfolding place_of
nowhere_owes_none l complete h e i below =
    eqb-false _ _ (nowhere_passes_none debt_items l.debts complete h (owes h) (λ d passes. eqb-true _ _ passes) e i below)

-- When the debt of a hash settles, once its place is known.
pub owed_where : (l : Ledger) (h : ℕ) {place : Option ℕ} → place_of l h ≡ place → owed_at l place ≡ owed_by l h
unfolding owed_by
owed_where l h looked_up = rw looked_up

-- Lookup finds each debt: it misses none, and no two have one hash.
abbrev pub hash_of : Debt → ℕ
hash_of d = d.hash

abbrev pub FindsEach : Ledger → Type 0
FindsEach l = Singles.FindsEach debt_items hash_of l.debts

-- A ledger has the room that another has: as many places for debts, found in the same way, and as many words that are not its own. It is sound if the other
-- is, lookup misses none if it missed none, and finds each debt if it found each. That is what every operation leaves.
pub record SameRoom (l m : Ledger) : Type 0 where
  pub cap : cap_of m ≡ cap_of l
  pub kind : kind_of m.debts.finding ≡ kind_of l.debts.finding
  pub others : length m.others ≡ length l.others
  pub sound : Sound l → Sound m
  pub complete : Sound l → Complete l → Complete m
  pub each : FindsEach l → FindsEach m

pub same_room_trans : {l m n : Ledger} → SameRoom l m → SameRoom m n → SameRoom l n
same_room_trans first second = record {
  cap = second.cap ∙ first.cap;
  kind = second.kind ∙ first.kind;
  others = second.others ∙ first.others;
  sound = λ s. second.sound (first.sound s);
  complete = λ s complete. second.complete (first.sound s) (first.complete s complete);
  each = λ each. second.each (first.each each);
}

-- Only the cursor moves.
pub cursor_room : (l : Ledger) (c : ℕ) → SameRoom l (with_cursor l c)
cursor_room l c = record { cap = refl; kind = refl; others = refl; sound = λ s. s; complete = λ s complete. complete; each = λ each. each }

pub same_room : (l : Ledger) → SameRoom l l
same_room l = cursor_room l l.cursor

-- A removal leaves one debt less and the same room.
pub removal_count : (l : Ledger) (p : ℕ) → (remove_at l p).debts.count ≡ l.debts.count - 1
unfolding remove_at
removal_count l p = removed_count debt_items l.debts p

pub removal_cap : (l : Ledger) (p : ℕ) → cap_of (remove_at l p) ≡ cap_of l
unfolding remove_at
removal_cap l p = removed_length debt_items l.debts p

pub removal_room : (l : Ledger) (p : ℕ) → p < l.debts.count → SameRoom l (remove_at l p)
unfolding remove_at
removal_room l p below = record {
  cap = removal_cap l p;
  kind = removed_kind debt_items l.debts p;
  others = refl;
  sound = λ s. removed_sound debt_items l.debts p s;
  complete = λ s complete. removed_complete debt_items l.debts s complete p below;
  each = λ each. removed_finds_each debt_items hash_of l.debts each p below;
}

-- So there is room for another debt.
pub removal_leaves_room : (l : Ledger) (p : ℕ) → l.debts.count ≤ cap_of l → p < l.debts.count → (remove_at l p).debts.count < cap_of (remove_at l p)
removal_leaves_room l p held below = omega (arith, removal_cap l p, removal_count l p)

-- A debt is changed, and keeps its hash.
pub change_room : (l : Ledger) (p : ℕ) (d : Debt) → p < l.debts.count → d.hash ≡ (debt_at l p).hash → SameRoom l (with_debt l p d)
change_room l p d below same = record {
  cap = simp length-set;
  kind = refl;
  others = refl;
  sound = λ s. stored_sound l.debts p d s;
  complete = λ s complete. stored_complete debt_items l.debts complete p d (omega (arith, s.count_fits)) same;
  each = λ each. stored_finds_each debt_items hash_of l.debts each p d below same same;
}

-- A debt joins where there is room, and no debt has its hash.
pub append_room : {l m : Ledger} → SameRoom l m → (d : Debt) → m.debts.count < cap_of m → (FindsEach l → Lacks debt_items hash_of d.hash m.debts)
    → SameRoom l (append m d)
unfolding append
append_room {l} {m} before d room lacks = record {
  cap = simp length-set before.cap;
  kind = added_kind m.debts.finding d.hash m.debts.count ∙ before.kind;
  others = before.others;
  sound = λ s. appended_sound debt_items m.debts d room;
  complete = λ s complete. appended_complete debt_items m.debts (before.complete s complete) d room;
  each = λ each. appended_finds_each debt_items hash_of m.debts (before.each each) d room (lacks each);
}

-- A debt that settles so much sooner.
abbrev pub sooner_by : Nanos → Debt → Debt
sooner_by off d = record { hash = d.hash; settles = record { 0 = d.settles.0 - off.0 } }

-- Taking out and paying down, by what lookup finds.
pub taken_cases : (l : Ledger) (h : ℕ) (Q : Outcome (Option Nanos) Ledger → Type 0)
    → ((p : ℕ) → place_of l h ≡ Some p → Q (outcome (Some (debt_at l p).settles) (remove_at l p))) → (place_of l h ≡ None → Q (outcome None l)) → Q (taken l h)
unfolding taken
taken_cases l h Q found none = go (place_of l h) refl
  where
    go : (place : Option ℕ) → place_of l h ≡ place → Q (taken_at l place)
    go (Some p) e = found p e
    go None e = none e

pub paid_cases : (l : Ledger) (h cost : ℕ) (c : BucketConfig) (Q : Outcome Bool Ledger → Type 0)
    → ((p : ℕ) → place_of l h ≡ Some p → Q (outcome true (with_debt l p (sooner_by (credit c cost) (debt_at l p)))))
    → (place_of l h ≡ None → Q (outcome false l))
    → Q (paid_down l h cost c)
unfolding paid_down
paid_cases l h cost c Q found none = go (place_of l h) refl
  where
    go : (place : Option ℕ) → place_of l h ≡ place → Q (paid_at l (credit c cost) place)
    go (Some p) e = found p e
    go None e = none e

-- What they leave.
pub taken_room : (l : Ledger) (h : ℕ) → SameRoom l (taken l h).after
taken_room l h = taken_cases l h (λ o. SameRoom l o.after) (λ p e. removal_room l p (found_owes l h p e).below) (λ e. same_room l)

pub paid_room : (l : Ledger) (h cost : ℕ) (c : BucketConfig) → SameRoom l (paid_down l h cost c).after
paid_room l h cost c = paid_cases l h cost c (λ o. SameRoom l o.after) (λ p e. change_room l p _ (found_owes l h p e).below refl) (λ e. same_room l)

-- A sweep leaves the same room, and no more debts than there were. So does a look, which is a sweep of one look.
module _ (at : Nanos) (n : ℕ) (l : Ledger) where
  pub sweep_room : SameRoom l (sweep at n l)
  unfolding sweep
  sweep_room = record {
    cap = sweep_length debt_items (settled_by at) n (round_of l);
    kind = sweep_kind debt_items (settled_by at) n (round_of l);
    others = refl;
    sound = λ s. RoundLaws.sweep_sound debt_items (settled_by at) n (round_of l) s;
    complete = λ s complete. RoundLaws.sweep_complete debt_items (settled_by at) n (round_of l) s complete;
    each = λ each. Singles.sweep_finds_each debt_items hash_of (settled_by at) n (round_of l) each;
  }

  pub sweep_count : (sweep at n l).debts.count ≤ l.debts.count
  unfolding sweep
  sweep_count = RoundLaws.sweep_count debt_items (settled_by at) n (round_of l)

pub look_sound : (at : Nanos) (l : Ledger) → Sound l → Sound (look at l)
unfolding look sweep Round.sweep
look_sound at l s = (sweep_room at 1 l).sound s
