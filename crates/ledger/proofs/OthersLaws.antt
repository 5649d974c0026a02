-- The steps of a ledger ask neither how its debts are found, once a place is known, nor for the words that are not its own. So no operation changes those
-- words, and with others in their place it gives the same answer and leaves the same debts and cursor.
use Rattle.std.proofs.Common.{Option, Some, None, Ok, Err}
use Prim.Native.Nat.{ℕ, zero, suc}
use mathlib.Core.Path.{◌≡◌, refl, ap}
use mathlib.Core.Bool.{Bool, true, false}
use mathlib.Core.List.{List}
use lib.Dec.{ltb}
use Rattle.arith.proofs.Cases.{by_test}
use Rattle.units.specs.declared.Nanos.{Nanos}
use Rattle.bucket.specs.declared.BucketConfig.{BucketConfig}
use Rattle.rows.specs.Outcome.{Outcome, outcome}
use Rattle.held.specs.Held.{Finding, with_added, with_removed, found_otherwise, removed}
use Rattle.ledger.specs.declared.Debt.{Debt}
use Rattle.ledger.specs.declared.Choice.{Choice}
use Rattle.ledger.specs.declared.Choice.TheVariants.{Settled, Soonest}
use Rattle.ledger.specs.Model.{Recorded}
use Rattle.ledger.specs.Model.{Ledger, cap_of, has_settled, cursor_of, with_cursor, with_others, place_of, remove_at, append, owed_at, owed_by, taken_at, taken}
use Rattle.ledger.specs.Model.{sweep}
use Rattle.ledger.specs.Model.{sooner, scan_from, scan, drop_chosen, make_room, joined, recorded_at, recorded, credit, paid_at, paid_down}
use Rattle.ledger.specs.code.Prepared.{readied, prepared_at, prepared, writable, written}

-- The same ledger with its finding and the other words changed; and what an operation gave, with that ledger.
abbrev pub changed : (Finding → Finding) → (List ℕ → List ℕ) → Ledger → Ledger
changed f g l = record { debts = found_otherwise l.debts (f l.debts.finding); cursor = l.cursor; others = g l.others }

abbrev pub left_changed : {A : Type 0} → (Finding → Finding) → (List ℕ → List ℕ) → Outcome A Ledger → Outcome A Ledger
left_changed f g o = outcome o.answer (changed f g o.after)

-- A change that it does not matter to make before or after a debt comes or leaves.
module _ (f : Finding → Finding) (g : List ℕ → List ℕ) (adds : (x : Finding) (key i : ℕ) → with_added (f x) key i ≡ f (with_added x key i))
    (removes : (x : Finding) (hash : ℕ → ℕ) (n p : ℕ) → with_removed (f x) hash n p ≡ f (with_removed x hash n p)) where
  pub removal_changed : (l : Ledger) (p : ℕ) → remove_at (changed f g l) p ≡ changed f g (remove_at l p)
  unfolding remove_at removed
  removal_changed l p = rw (removes l.debts.finding)

  pub append_changed : (l : Ledger) (d : Debt) → append (changed f g l) d ≡ changed f g (append l d)
  unfolding append
  append_changed l d = rw (adds l.debts.finding)

  -- The looks at a full ledger, and making room.
  scan_from_changed : (at : Nanos) (left : ℕ) (l : Ledger) (best : ℕ) → scan_from at left (changed f g l) best ≡ left_changed f g (scan_from at left l best)
  unfolding scan_from
  scan_from_changed at zero l best = refl
  scan_from_changed at (suc left) l best =
      by_test (has_settled at l (cursor_of l))
      (λ settled. rw (settled, scan_from))
      (λ unsettled. rw (unsettled, scan_from) (scan_from_changed at left (with_cursor l _) (sooner l best (cursor_of l))))

  pub scan_changed : (at : Nanos) (l : Ledger) → scan at (changed f g l) ≡ left_changed f g (scan at l)
  unfolding scan
  scan_changed at l = scan_from_changed at _ l (cursor_of l)

  drop_changed : (at : Nanos) (forget : Bool) (l : Ledger) (choice : Choice)
      → drop_chosen at forget (changed f g l) choice ≡ left_changed f g (drop_chosen at forget l choice)
  unfolding drop_chosen
  drop_changed at forget l (Settled p) = ap (outcome (Ok tt)) (removal_changed l p)
  drop_changed at true l (Soonest p) = ap (outcome (Ok tt)) (removal_changed l p)
  drop_changed at false l (Soonest p) = refl

  pub make_room_changed : (at : Nanos) (forget : Bool) (l : Ledger) → make_room at forget (changed f g l) ≡ left_changed f g (make_room at forget l)
  unfolding make_room
  make_room_changed at forget l = rw (scan_changed at l) (drop_changed at forget (scan at l).after (scan at l).answer)

  -- Once the place of the hash is known: the debt is owed, taken out, paid down, recorded.
  joined_changed : (d : Debt) (l : Ledger) (r : Recorded) → joined d (changed f g l) r ≡ left_changed f g (joined d l r)
  joined_changed d l (Ok _) = ap (outcome (Ok tt)) (append_changed l d)
  joined_changed d l (Err full) = refl

  pub owed_at_changed : (l : Ledger) (place : Option ℕ) → owed_at (changed f g l) place ≡ owed_at l place
  owed_at_changed l (Some p) = refl
  owed_at_changed l None = refl

  pub taken_at_changed : (l : Ledger) (place : Option ℕ) → taken_at (changed f g l) place ≡ left_changed f g (taken_at l place)
  taken_at_changed l (Some p) = ap (outcome _) (removal_changed l p)
  taken_at_changed l None = refl

  pub paid_at_changed : (l : Ledger) (off : Nanos) (place : Option ℕ) → paid_at (changed f g l) off place ≡ left_changed f g (paid_at l off place)
  paid_at_changed l off (Some p) = refl
  paid_at_changed l off None = refl

  pub recorded_at_changed : (l : Ledger) (d : Debt) (at : Nanos) (forget : Bool) (place : Option ℕ)
      → recorded_at (changed f g l) d at forget place ≡ left_changed f g (recorded_at l d at forget place)
  unfolding recorded_at
  recorded_at_changed l d at forget (Some p) = refl
  recorded_at_changed l d at forget None =
      by_test (ltb l.debts.count (cap_of l))
      (λ free. rw (free, recorded_at) (joined_changed d l (Ok tt)))
      (λ full. rw (full, recorded_at, make_room_changed at forget l) (joined_changed d (make_room at forget l).after (make_room at forget l).answer))

  -- The two steps of recording.
  readied_changed : (l : Ledger) (r : Recorded) → readied (changed f g l) r ≡ left_changed f g (readied l r)
  readied_changed l (Ok _) = refl
  readied_changed l (Err full) = refl

  pub prepared_at_changed : (l : Ledger) (at : Nanos) (forget : Bool) (place : Option ℕ)
      → prepared_at (changed f g l) at forget place ≡ left_changed f g (prepared_at l at forget place)
  unfolding prepared_at
  prepared_at_changed l at forget (Some p) = refl
  prepared_at_changed l at forget None =
      by_test (ltb l.debts.count (cap_of l))
      (λ free. rw (free, prepared_at))
      (λ full. rw (full, prepared_at, make_room_changed at forget l) (readied_changed (make_room at forget l).after (make_room at forget l).answer))

  pub written_changed : (l : Ledger) (place : Option ℕ) (d : Debt) → written (changed f g l) place d ≡ changed f g (written l place d)
  written_changed l (Some p) d = refl
  written_changed l None d = append_changed l d

-- What an operation gave, with other words in the place of those that are not the ledger's own.
abbrev pub left_with_others : {A : Type 0} → Outcome A Ledger → List ℕ → Outcome A Ledger
left_with_others o ws = outcome o.answer (with_others o.after ws)

-- The operations with such words. Where they are the ledger's others, that says that the operation keeps the others.
module _ (l : Ledger) (ws : List ℕ) where
  pub owed_with_others : (h : ℕ) → owed_by (with_others l ws) h ≡ owed_by l h
  unfolding owed_by place_of
  owed_with_others h = owed_at_changed (λ x. x) (λ _. ws) (λ x key i. refl) (λ x hash n p. refl) l (place_of l h)

  pub taken_with_others : (h : ℕ) → taken (with_others l ws) h ≡ left_with_others (taken l h) ws
  unfolding taken place_of
  taken_with_others h = taken_at_changed (λ x. x) (λ _. ws) (λ x key i. refl) (λ x hash n p. refl) l (place_of l h)

  pub paid_with_others : (h cost : ℕ) (c : BucketConfig) → paid_down (with_others l ws) h cost c ≡ left_with_others (paid_down l h cost c) ws
  unfolding paid_down place_of
  paid_with_others h cost c = paid_at_changed (λ x. x) (λ _. ws) (λ x key i. refl) (λ x hash n p. refl) l (credit c cost) (place_of l h)

  pub recorded_with_others : (d : Debt) (at : Nanos) (forget : Bool) → recorded (with_others l ws) d at forget ≡ left_with_others (recorded l d at forget) ws
  unfolding recorded place_of
  recorded_with_others d at forget = recorded_at_changed (λ x. x) (λ _. ws) (λ x key i. refl) (λ x hash n p. refl) l d at forget (place_of l d.hash)

  pub prepared_with_others : (h : ℕ) (at : Nanos) (forget : Bool) → prepared (with_others l ws) h at forget ≡ left_with_others (prepared l h at forget) ws
  unfolding prepared place_of
  prepared_with_others h at forget = prepared_at_changed (λ x. x) (λ _. ws) (λ x key i. refl) (λ x hash n p. refl) l at forget (place_of l h)

  pub written_with_others : (place : Option ℕ) (d : Debt) → written (with_others l ws) place d ≡ with_others (written l place d) ws
  written_with_others place d = written_changed (λ x. x) (λ _. ws) (λ x key i. refl) (λ x hash n p. refl) l place d

  pub writable_with_others : (place : Option ℕ) → writable l place → writable (with_others l ws) place
  writable_with_others (Some p) may = may
  writable_with_others None may = may

  pub sweep_with_others : (at : Nanos) (n : ℕ) → sweep at n (with_others l ws) ≡ with_others (sweep at n l) ws
  unfolding sweep
  sweep_with_others at n = refl
