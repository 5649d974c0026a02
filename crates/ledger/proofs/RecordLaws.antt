-- How a recording goes: it merges, joins, takes the place of a debt, or is refused. Laws about sums, hashes and lookup go by these four cases and do not
-- open the looks at a full ledger. What the answer says follows from them here, and so does what each step leaves of the room.
use Rattle.std.proofs.Common.{Option, Some, None, Ok, Err}
use Prim.Native.Nat.{ℕ, zero, suc, ◌-◌, ◌≤◌, ◌<◌, max}
use mathlib.Core.Path.{◌≡◌, refl, sym, ap}
use mathlib.Core.Bool.{Bool, true, false, true≢false}
use native.Mathlib.Omega.{arith}
use lib.Dec.{ltb}
use borrow.Author.Tests.{ltb-true, ltb-false, leb-true, leb-false}
use Rattle.arith.proofs.Cases.{by_test}
use Rattle.units.specs.declared.Nanos.{Nanos}
use Rattle.rows.specs.Outcome.{Outcome, outcome}
use Rattle.held.proofs.SingleLaws.{Lacks, lacks_stays, removed_comes_from}
use Rattle.ledger.specs.declared.Debt.{Debt}
use Rattle.ledger.specs.declared.Choice.{Choice}
use Rattle.ledger.specs.declared.Choice.TheVariants.{Settled, Soonest}
use Rattle.ledger.specs.Model.{Recorded, no_room}
use Rattle.ledger.specs.Model.{Ledger, Sound, Complete, debt_items, cap_of, debt_at, has_settled, settling_at, cursor_of, with_cursor, with_debt, place_of}
use Rattle.ledger.specs.Model.{remove_at, append, sooner}
use Rattle.ledger.specs.Model.{scan_from, scan, drop_chosen, make_room, joined, later, recorded_at, recorded}
use Rattle.ledger.proofs.StepLaws.{cursor_below, found_owes, nowhere_owes_none, hash_of, FindsEach, SameRoom, same_room, same_room_trans, cursor_room}
use Rattle.ledger.proofs.StepLaws.{removal_room, removal_leaves_room, change_room, append_room}

-- What the looks at a full ledger come to: nothing but the cursor moves, not past the count, and the place told has a settled debt, or an unsettled one.
data Scanned (at : Nanos) (l : Ledger) : Outcome Choice Ledger → Type 0 where
  one_settled : (p c : ℕ) → c ≤ max l.cursor l.debts.count → p < l.debts.count → (settling_at l p).0 ≤ at.0
      → Scanned at l (outcome (Settled p) (with_cursor l c))
  all_unsettled : (p c : ℕ) → c ≤ max l.cursor l.debts.count → p < l.debts.count → at.0 < (settling_at l p).0
      → Scanned at l (outcome (Soonest p) (with_cursor l c))

-- The place of an unsettled debt that is held.
record Unsettled (at : Nanos) (l : Ledger) (p : ℕ) : Type 0 where
  below : p < l.debts.count
  waits : at.0 < (settling_at l p).0

-- The sooner of two is one of them.
pub sooner_is_either : (l : Ledger) (best c : ℕ) (Q : ℕ → Type 0) → Q best → Q c → Q (sooner l best c)
sooner_is_either l best c Q b d = by_test (ltb (settling_at l c).0 (settling_at l best).0) (λ t. rw t d) (λ t. rw t b)

-- From a place of an unsettled debt on; and from the place that the first look is at, whatever stands there, if there is a look.
scan_from_cases : (at : Nanos) (left : ℕ) (l : Ledger) (best : ℕ) → Unsettled at l best → Scanned at l (scan_from at left l best)
unfolding scan_from
scan_from_cases at zero l best u = all_unsettled best l.cursor (omega arith) u.below u.waits
scan_from_cases at (suc left) l best u =
    let below : cursor_of l < l.debts.count = cursor_below l (omega (arith, u.below)) in
    by_test (has_settled at l (cursor_of l))
    (λ t. rw (t, scan_from) (one_settled (cursor_of l) (cursor_of l) (omega arith) below (leb-true _ _ t)))
    (λ t.
    let next : Unsettled at l (sooner l best (cursor_of l)) =
    sooner_is_either l best (cursor_of l) (Unsettled at l) u (record { below = below; waits = leb-false _ _ t }) in
    rw (t, scan_from) (same_debts (omega arith) (scan_from_cases at left (with_cursor l _) _ (record { below = next.below; waits = next.waits }))))
  where
    same_debts : {c : ℕ} {o : Outcome Choice Ledger} → c ≤ l.debts.count → Scanned at (with_cursor l c) o → Scanned at l o
    same_debts inside (one_settled p c near b t) = one_settled p c (omega arith) b t
    same_debts inside (all_unsettled p c near b t) = all_unsettled p c (omega arith) b t

first_look_cases : (at : Nanos) (looks : ℕ) (l : Ledger) → 0 < looks → 0 < l.debts.count → Scanned at l (scan_from at looks l (cursor_of l))
unfolding scan_from
first_look_cases at zero l look some = absurd (omega arith)
first_look_cases at (suc left) l look some =
    let below : cursor_of l < l.debts.count = cursor_below l some in
    by_test (has_settled at l (cursor_of l))
    (λ t. rw (t, scan_from) (one_settled (cursor_of l) (cursor_of l) (omega arith) below (leb-true _ _ t)))
    (λ t. scan_from_cases at (suc left) l (cursor_of l) (record { below = below; waits = leb-false _ _ t }))

scan_cases : (at : Nanos) (l : Ledger) → 0 < l.debts.count → Scanned at l (scan at l)
unfolding scan
scan_cases at l some = first_look_cases at _ l (omega arith) some

-- The place that the looks chose. It holds a debt, and the looks leave a sound ledger.
abbrev pub chosen : Choice → ℕ
chosen (Settled p) = p
chosen (Soonest p) = p

pub scan_chooses_held : (at : Nanos) (l : Ledger) → 0 < l.debts.count → chosen (scan at l).answer < (scan at l).after.debts.count
scan_chooses_held at l some = go (scan_cases at l some)
  where
    go : {o : Outcome Choice Ledger} → Scanned at l o → chosen o.answer < o.after.debts.count
    go (one_settled p c near below settled) = below
    go (all_unsettled p c near below unsettled) = below

pub scan_sound : (at : Nanos) (l : Ledger) → 0 < l.debts.count → Sound l → Sound (scan at l).after
scan_sound at l some s = go (scan_cases at l some)
  where
    go : {o : Outcome Choice Ledger} → Scanned at l o → Sound o.after
    go (one_settled p c near below settled) = s
    go (all_unsettled p c near below unsettled) = s

-- How room is made: a debt leaves, which is settled unless debts may be forgotten; or none does, where only the cursor moves and the wait is that of an
-- unsettled debt.
data MakingRoom (l : Ledger) (at : Nanos) (forget : Bool) : Outcome Recorded Ledger → Type 0 where
  one_leaves : (p c : ℕ) → c ≤ max l.cursor l.debts.count → p < l.debts.count → (forget ≡ false → (settling_at l p).0 ≤ at.0)
      → MakingRoom l at forget (outcome (Ok tt) (remove_at (with_cursor l c) p))
  none_leaves : (p c : ℕ) → c ≤ max l.cursor l.debts.count → p < l.debts.count → forget ≡ false → at.0 < (settling_at l p).0
      → MakingRoom l at forget (outcome (no_room (record { 0 = (settling_at l p).0 - at.0 })) (with_cursor l c))

drop_cases : (l : Ledger) (at : Nanos) (forget : Bool) {o : Outcome Choice Ledger} → Scanned at l o
    → MakingRoom l at forget (drop_chosen at forget o.after o.answer)
unfolding drop_chosen
drop_cases l at forget (one_settled p c near below t) = one_leaves p c near below (λ _. t)
drop_cases l at true (all_unsettled p c near below t) = one_leaves p c near below (λ e. absurd (true≢false e))
drop_cases l at false (all_unsettled p c near below t) = none_leaves p c near below refl t

room_cases : (l : Ledger) (at : Nanos) (forget : Bool) → 0 < l.debts.count → MakingRoom l at forget (make_room at forget l)
unfolding make_room
room_cases l at forget some = drop_cases l at forget (scan_cases at l some)

-- The two answers are not one.
pub done_is_no_refusal : {Q : Type 0} {wait : Nanos} → Ok tt ≡ no_room wait → Q
done_is_no_refusal e = let z : ◌≡◌ {A = ℕ} 0 1 = cc in absurd (omega arith)

-- Making room leaves a sound ledger, and where it is done one that has room for another debt.
module _ (l : Ledger) (at : Nanos) (forget : Bool) (some : 0 < l.debts.count) (s : Sound l) where
  pub make_room_sound : Sound (make_room at forget l).after
  make_room_sound = go (room_cases l at forget some)
    where
      go : {o : Outcome Recorded Ledger} → MakingRoom l at forget o → Sound o.after
      go (one_leaves p c near below settled) = (removal_room (with_cursor l c) p below).sound s
      go (none_leaves p c near below never unsettled) = s

  pub make_room_makes_room : (make_room at forget l).answer ≡ Ok tt → (make_room at forget l).after.debts.count < cap_of (make_room at forget l).after
  make_room_makes_room = go (room_cases l at forget some)
    where
      go : {o : Outcome Recorded Ledger} → MakingRoom l at forget o → o.answer ≡ Ok tt → o.after.debts.count < cap_of o.after
      go (one_leaves p c near below settled) done = removal_leaves_room (with_cursor l c) p s.count_fits below
      go (none_leaves p c near below never unsettled) done = done_is_no_refusal (sym done)

-- How a recording goes, for every ledger that is sound: the hash is there and is merged; there is room and the debt joins; a debt leaves for it, which is
-- settled unless debts may be forgotten; or it is refused, where only the cursor moves and the wait is that of an unsettled debt.
pub data Recording (l : Ledger) (d : Debt) (at : Nanos) (forget : Bool) : Outcome Recorded Ledger → Type 0 where
  merged : (p : ℕ) → place_of l d.hash ≡ Some p → Recording l d at forget (outcome (Ok tt) (with_debt l p (later (debt_at l p) d.settles)))
  joins : place_of l d.hash ≡ None → l.debts.count < cap_of l → Recording l d at forget (outcome (Ok tt) (append l d))
  replaces : (p c : ℕ) → c ≤ max l.cursor l.debts.count → place_of l d.hash ≡ None → p < l.debts.count
      → (forget ≡ false → (settling_at l p).0 ≤ at.0)
      → Recording l d at forget (outcome (Ok tt) (append (remove_at (with_cursor l c) p) d))
  refused : (p c : ℕ) → c ≤ max l.cursor l.debts.count → cap_of l ≤ l.debts.count → p < l.debts.count → forget ≡ false → at.0 < (settling_at l p).0
      → Recording l d at forget (outcome (no_room (record { 0 = (settling_at l p).0 - at.0 })) (with_cursor l c))

full_cases : (l : Ledger) (d : Debt) (at : Nanos) (forget : Bool) → place_of l d.hash ≡ None → cap_of l ≤ l.debts.count → {o : Outcome Recorded Ledger}
    → MakingRoom l at forget o → Recording l d at forget (joined d o.after o.answer)
full_cases l d at forget new full (one_leaves p c near below settled) = replaces p c near new below settled
full_cases l d at forget new full (none_leaves p c near below never unsettled) = refused p c near full below never unsettled

pub record_cases : (l : Ledger) (d : Debt) (at : Nanos) (forget : Bool) → Sound l → Recording l d at forget (recorded l d at forget)
unfolding recorded recorded_at
record_cases l d at forget s = go (place_of l d.hash) refl
  where
    go : (place : Option ℕ) → place_of l d.hash ≡ place → Recording l d at forget (recorded_at l d at forget place)
    go (Some p) e = merged p e
    go None e =
        by_test (ltb l.debts.count (cap_of l))
        (λ t. rw (t, recorded_at) (joins e (ltb-true _ _ t)))
        (λ t. let full : cap_of l ≤ l.debts.count = ltb-false _ _ t in
        rw (t, recorded_at) (full_cases l d at forget e full (room_cases l at forget (omega (arith, s.room)))))

-- What a recording leaves. A debt joins where none has its hash, and a removal brings no hash in.
pub recorded_room : (l : Ledger) (d : Debt) (at : Nanos) (forget : Bool) → Sound l → SameRoom l (recorded l d at forget).after
unfolding remove_at
recorded_room l d at forget s = go (record_cases l d at forget s)
  where
    lacks : place_of l d.hash ≡ None → FindsEach l → Lacks debt_items hash_of d.hash l.debts
    lacks new each = nowhere_owes_none l each.complete d.hash new

    go : {o : Outcome Recorded Ledger} → Recording l d at forget o → SameRoom l o.after
    go (merged p e) = change_room l p (later (debt_at l p) d.settles) (found_owes l d.hash p e).below refl
    go (joins new free) = append_room (same_room l) d free (lacks new)
    go (replaces p c near new below settled) =
        append_room (same_room_trans (cursor_room l c) (removal_room (with_cursor l c) p below)) d (removal_leaves_room (with_cursor l c) p s.count_fits below)
        (λ each. lacks_stays debt_items hash_of (removed_comes_from debt_items hash_of l.debts p s) d.hash (lacks new each))
    go (refused p c near full below never unsettled) = cursor_room l c

pub recorded_sound : (l : Ledger) (d : Debt) (at : Nanos) (forget : Bool) → Sound l → Sound (recorded l d at forget).after
recorded_sound l d at forget s = (recorded_room l d at forget s).sound s

pub recorded_complete : (l : Ledger) (d : Debt) (at : Nanos) (forget : Bool) → Sound l → Complete l → Complete (recorded l d at forget).after
recorded_complete l d at forget s complete = (recorded_room l d at forget s).complete s complete

-- A debt is recorded unless the ledger is full and nothing may be forgotten.
record_succeeds : (l : Ledger) (d : Debt) (at : Nanos) (forget : Bool) → Sound l → (forget ≡ false → l.debts.count < cap_of l)
    → (recorded l d at forget).answer ≡ Ok tt
record_succeeds l d at forget s room = go (record_cases l d at forget s)
  where
    go : {o : Outcome Recorded Ledger} → Recording l d at forget o → o.answer ≡ Ok tt
    go (merged p e) = refl
    go (joins new free) = refl
    go (replaces p c near new below settled) = refl
    go (refused p c near full below never unsettled) = absurd (omega (arith, room never))

pub record_below_cap_never_fails : (l : Ledger) (d : Debt) (at : Nanos) (forget : Bool) → l.debts.count < cap_of l → (recorded l d at forget).answer ≡ Ok tt
record_below_cap_never_fails l d at forget room = record_succeeds l d at forget (record { room = omega arith; count_fits = omega arith }) (λ _. room)

pub record_forgetting_never_fails : (l : Ledger) (d : Debt) (at : Nanos) → Sound l → (recorded l d at true).answer ≡ Ok tt
record_forgetting_never_fails l d at s = record_succeeds l d at true s (λ e. absurd (true≢false e))

-- What a refusal says: the ledger is full, nothing may be forgotten, there is a wait, and of the ledger only the cursor may have moved.
pub record Refusal (l : Ledger) (forget : Bool) (wait : Nanos) (after : Ledger) : Type 0 where
  pub full : cap_of l ≤ l.debts.count
  pub never : forget ≡ false
  pub waits : 0 < wait.0
  pub debts : after.debts ≡ l.debts

-- The wait that an answer tells; 0 where there is none.
abbrev waited : Recorded → ℕ
waited (Ok _) = 0
waited (Err full) = full.wait.0

pub refusal : (l : Ledger) (d : Debt) (at : Nanos) (forget : Bool) (wait : Nanos) → Sound l → (recorded l d at forget).answer ≡ no_room wait
    → Refusal l forget wait (recorded l d at forget).after
refusal l d at forget wait s = go (record_cases l d at forget s)
  where
    go : {o : Outcome Recorded Ledger} → Recording l d at forget o → o.answer ≡ no_room wait → Refusal l forget wait o.after
    go (merged p e) q = done_is_no_refusal q
    go (joins new room) q = done_is_no_refusal q
    go (replaces p c near new below settled) q = done_is_no_refusal q
    go (refused p c near full below never unsettled) q =
        let told : (settling_at l p).0 - at.0 ≡ wait.0 = ap waited q in
        record { full = full; never = never; waits = omega arith; debts = refl }
