-- Sums over the debts of one hash, for any value of a debt by the moment at which it settles: how many there are (value 1), the time they have left, and
-- so on. What each operation does to a sum is an equation or a bound without a difference, so that layers above add them up and look at no place.
use Rattle.std.proofs.Common.{Option, Some, None, Ok}
use Prim.Native.Nat.{ℕ, ◌+◌, ◌*◌, ◌≤◌, ◌<◌, max}
use mathlib.Core.Path.{◌≡◌, refl, sym, ◌∙◌, ap}
use mathlib.Core.Bool.{Bool, false, cond}
use native.Mathlib.Omega.{arith}
use borrow.Author.Tests.{eq-eqb, ne_eqb, leb-true}
use Rattle.arith.proofs.Cases.{by_eq, by_le}
use Rattle.units.specs.declared.Nanos.{Nanos}
use Rattle.bucket.specs.declared.BucketConfig.{BucketConfig}
use Rattle.rows.specs.Outcome.{Outcome}
use Rattle.held.specs.Held.{total}
use Rattle.rows.proofs.SumLaws.{sum_of_zeros, sum_le, term_le_sum}
use Rattle.held.proofs.RoundLaws as RoundLaws
use Rattle.held.proofs.RoundLaws.{sweep_keeps_total}
use Rattle.held.proofs.HeldLaws.{total_stored, total_appended, total_removed}
use Rattle.ledger.specs.declared.Debt.{Debt}
use Rattle.ledger.specs.Model.{Recorded, no_room}
use Rattle.ledger.specs.Model.{Ledger, Sound, Complete, debt_items, cap_of, debt_at, settling_at, settled_by, with_cursor, with_debt, owes, place_of, remove_at}
use Rattle.ledger.specs.Model.{append, taken, round_of, sweep}
use Rattle.ledger.specs.Model.{later, recorded, credit, paid_down}
use Rattle.ledger.proofs.StepLaws.{removal_leaves_room, Owing, found_owes, nowhere_owes_none, taken_cases, paid_cases}
use Rattle.ledger.proofs.StepLaws.{sooner_by}
use Rattle.ledger.proofs.RecordLaws.{Recording, merged, joins, replaces, refused, record_cases, done_is_no_refusal, refusal}

-- The value of a debt by the moment at which it settles, if its hash is h; a debt of another hash has none.
unfoldable pub weigh : ℕ → (ℕ → ℕ) → Debt → ℕ
weigh h value d = cond (owes h d) (value d.settles.0) 0

-- The values of all debts of hash h that a ledger holds.
unfoldable pub owed : ℕ → (ℕ → ℕ) → Ledger → ℕ
owed h value l = total debt_items (weigh h value) l.debts

-- The value that counts the debts.
abbrev pub one : ℕ → ℕ
one s = 1

-- The value of a moment that may be missing.
abbrev pub worth : (ℕ → ℕ) → Option Nanos → ℕ
worth value None = 0
worth value (Some t) = value t.0

-- A value of which a debt that is settled at a moment has nothing.
abbrev pub SettledIsNothing : Nanos → (ℕ → ℕ) → Type 0
SettledIsNothing at value = (s : ℕ) → s ≤ at.0 → value s ≡ 0

module _ (h : ℕ) (value : ℕ → ℕ) where
  -- What one debt adds to the sum.
  pub weigh_own : (d : Debt) → d.hash ≡ h → weigh h value d ≡ value d.settles.0
  unfolding weigh
  weigh_own d own = rw (eq-eqb d.hash h own)

  pub weigh_other : (d : Debt) → (d.hash ≡ h → ⊥) → weigh h value d ≡ 0
  unfolding weigh
  weigh_other d other = rw (ne_eqb d.hash h other)

  pub weigh_settled : (at : Nanos) → SettledIsNothing at value → (d : Debt) → d.settles.0 ≤ at.0 → weigh h value d ≡ 0
  weigh_settled at nothing d settled = by_eq d.hash h (λ own. weigh_own d own ∙ nothing _ settled) (λ other. weigh_other d other)

  -- The later of two moments has the value of one of them.
  value_later : (n a b : ℕ) → n ≡ max a b → value n ≤ value a + value b
  value_later n a b e =
      by_le b a
      (λ le. let q : n ≡ a = omega arith in rw q (omega arith))
      (λ gt. let q : n ≡ b = omega arith in rw q (omega arith))

  weigh_later : (x d : Debt) → x.hash ≡ d.hash → weigh h value (later x d.settles) ≤ weigh h value x + weigh h value d
  weigh_later x d same =
      let merged : Debt = later x d.settles in
      by_eq x.hash h
      (λ own. omega (
        arith,
        value_later merged.settles.0 x.settles.0 d.settles.0 (omega arith),
        weigh_own merged own,
        weigh_own x own,
        weigh_own d (sym same ∙ own),
      ))
      (λ other. omega (arith, weigh_other merged other))

  -- The steps: a debt that leaves takes its value away, one that joins adds its own, one that is changed changes its own. The cursor has no part in it.
  pub owed_removed : (l : Ledger) (p : ℕ) → Sound l → p < l.debts.count → owed h value (remove_at l p) + weigh h value (debt_at l p) ≡ owed h value l
  unfolding owed remove_at
  owed_removed l p s below = total_removed debt_items (weigh h value) l.debts p s below

  pub owed_appended : (l : Ledger) (d : Debt) → l.debts.count < cap_of l → owed h value (append l d) ≡ owed h value l + weigh h value d
  unfolding owed append
  owed_appended l d room = total_appended debt_items (weigh h value) l.debts d room

  pub owed_stored : (l : Ledger) (p : ℕ) (d : Debt) → Sound l → p < l.debts.count
      → owed h value (with_debt l p d) + weigh h value (debt_at l p) ≡ owed h value l + weigh h value d
  unfolding owed
  owed_stored l p d s below = total_stored debt_items (weigh h value) l.debts p d s below

  pub owed_cursor : (l : Ledger) (c : ℕ) → owed h value (with_cursor l c) ≡ owed h value l
  unfolding owed
  owed_cursor l c = refl

  -- A debt joins in the place of another.
  pub owed_replaced : (l : Ledger) (c p : ℕ) (d : Debt) → Sound l → p < l.debts.count
      → owed h value (append (remove_at (with_cursor l c) p) d) + weigh h value (debt_at l p) ≡ owed h value l + weigh h value d
  owed_replaced l c p d s below =
      let moved : Ledger = with_cursor l c in
      omega (arith, owed_appended (remove_at moved p) d (removal_leaves_room moved p s.count_fits below), owed_removed moved p s below, owed_cursor l c)

  -- A sweep never adds, and of what is unsettled it loses nothing.
  pub sweep_never_adds : (at : Nanos) (n : ℕ) (l : Ledger) → Sound l → owed h value (sweep at n l) ≤ owed h value l
  unfolding owed sweep
  sweep_never_adds at n l s = RoundLaws.sweep_never_adds debt_items (settled_by at) (weigh h value) n (round_of l) s

  pub sweep_keeps_unsettled : (at : Nanos) (n : ℕ) (l : Ledger) → Sound l → SettledIsNothing at value → owed h value (sweep at n l) ≡ owed h value l
  unfolding owed sweep
  sweep_keeps_unsettled at n l s nothing =
      sweep_keeps_total debt_items (settled_by at) (weigh h value) n (round_of l) s
      (λ d settled. weigh_settled at nothing d (leb-true _ _ settled))

-- Where lookup misses no debt and finds none of the hash, nothing is owed.
pub nowhere_owes_nothing : (h : ℕ) (value : ℕ → ℕ) (l : Ledger) → Complete l → place_of l h ≡ None → owed h value l ≡ 0
unfolding owed
nowhere_owes_nothing h value l complete e =
    sum_of_zeros l.debts.count (λ i. weigh h value (debt_at l i)) (λ i below. weigh_other h value (debt_at l i) (nowhere_owes_none l complete h e i below))

-- Another value of the same debts: where a debt has by it at most a more, the sum has at most a more for each debt.
weigh_by_another_value : (h : ℕ) (f g : ℕ → ℕ) (a : ℕ) → ((s : ℕ) → f s ≤ g s + a) → (d : Debt) → weigh h f d ≤ weigh h g d + a * weigh h one d
weigh_by_another_value h f g a more d =
    by_eq d.hash h
    (λ own. rw (weigh_own h f d own, weigh_own h g d own, weigh_own h one d own) (omega (arith, more d.settles.0)))
    (λ other. omega (arith, weigh_other h f d other))

pub owed_by_another_value : (h : ℕ) (f g : ℕ → ℕ) (a : ℕ) → ((s : ℕ) → f s ≤ g s + a) → (l : Ledger) → owed h f l ≤ owed h g l + a * owed h one l
unfolding owed
owed_by_another_value h f g a more l =
    sum_le l.debts.count (λ i. weigh h f (debt_at l i)) (λ i. weigh h g (debt_at l i)) (λ i. weigh h one (debt_at l i)) a
    (λ i below. weigh_by_another_value h f g a more (debt_at l i))

-- A sum of no debts: none of the hash is held, and whatever their value, nothing is owed.
none_owed_none_held : (h : ℕ) (l : Ledger) → owed h one l ≡ 0 → (i : ℕ) → i < l.debts.count → (debt_at l i).hash ≡ h → ⊥
unfolding owed
none_owed_none_held h l none i below own =
    omega (arith, weigh_own h one (debt_at l i) own, term_le_sum l.debts.count (λ j. weigh h one (debt_at l j)) i below)

pub none_owed_nothing_owed : (h : ℕ) (value : ℕ → ℕ) (l : Ledger) → owed h one l ≡ 0 → owed h value l ≡ 0
unfolding owed
none_owed_nothing_owed h value l none =
    sum_of_zeros l.debts.count (λ i. weigh h value (debt_at l i)) (λ i below. weigh_other h value (debt_at l i) (none_owed_none_held h l none i below))

module _ (h : ℕ) (value : ℕ → ℕ) (l : Ledger) (s : Sound l) where
  -- The debt that lookup finds is taken out of the sum; it is of the hash that was asked for.
  pub found_leaves : (other p : ℕ) → place_of l other ≡ Some p → owed h value (remove_at l p) + weigh h value (debt_at l p) ≡ owed h value l
  found_leaves other p e = owed_removed h value l p s (found_owes l other p e).below

  -- A single debt of the hash is the one that lookup finds.
  pub found_is_all : (p : ℕ) → place_of l h ≡ Some p → owed h one l ≤ 1 → owed h value l ≡ value (settling_at l p).0
  found_is_all p e single =
      let f : Owing l h p = found_owes l h p e in
      let alone : owed h one (remove_at l p) ≡ 0 = omega (arith, owed_removed h one l p s f.below, weigh_own h one (debt_at l p) f.own) in
      omega (arith, owed_removed h value l p s f.below, weigh_own h value (debt_at l p) f.own, none_owed_nothing_owed h value (remove_at l p) alone)

  -- Recording adds at most the value of the debt, whether it joins, merges or takes another's place.
  pub record_adds_at_most : (d : Debt) (at : Nanos) (forget : Bool) → (recorded l d at forget).answer ≡ Ok tt
      → owed h value (recorded l d at forget).after ≤ owed h value l + weigh h value d
  record_adds_at_most d at forget = go (record_cases l d at forget s)
    where
      go : {o : Outcome Recorded Ledger} → Recording l d at forget o → o.answer ≡ Ok tt → owed h value o.after ≤ owed h value l + weigh h value d
      go (merged p e) done =
          let f : Owing l d.hash p = found_owes l d.hash p e in
          omega (arith, owed_stored h value l p (later (debt_at l p) d.settles) s f.below, weigh_later h value (debt_at l p) d f.own)
      go (joins new room) done = omega (arith, owed_appended h value l d room)
      go (replaces p c near new below settled) done = omega (arith, owed_replaced h value l c p d s below)
      go (refused p c near full below never unsettled) done = done_is_no_refusal (sym done)

  -- Where debts may not be forgotten, recording loses nothing that is unsettled: the sum grows by the debt's value. For a hash that already owes this
  -- need not hold (two moments become one), hence the bound on their number.
  pub record_keeps_unsettled : (d : Debt) (at : Nanos) (forget : Bool) → forget ≡ false → SettledIsNothing at value → owed h one l + weigh h one d ≤ 1
      → (recorded l d at forget).answer ≡ Ok tt
      → owed h value (recorded l d at forget).after ≡ owed h value l + weigh h value d
  record_keeps_unsettled d at forget never nothing single = go (record_cases l d at forget s)
    where
      go : {o : Outcome Recorded Ledger} → Recording l d at forget o → o.answer ≡ Ok tt → owed h value o.after ≡ owed h value l + weigh h value d
      go (merged p e) done =
          let f : Owing l d.hash p = found_owes l d.hash p e in
          let x : Debt = debt_at l p in
          by_eq d.hash h
          (λ own. absurd (omega (arith, weigh_own h one d own, weigh_own h one x (f.own ∙ own), owed_removed h one l p s f.below)))
          (λ other.
          let foreign : x.hash ≡ h → ⊥ = λ own. other (sym f.own ∙ own) in
          omega (
            arith,
            owed_stored h value l p (later x d.settles) s f.below,
            weigh_other h value d other,
            weigh_other h value x foreign,
            weigh_other h value (later x d.settles) foreign,
          ))
      go (joins new room) done = owed_appended h value l d room
      go (replaces p c near new below settled) done =
          omega (arith, owed_replaced h value l c p d s below, weigh_settled h value at nothing (debt_at l p) (settled never))
      go (refused p c near full below _ unsettled) done = done_is_no_refusal (sym done)

  -- A refusal changes no sum.
  pub refusal_keeps : (d : Debt) (at : Nanos) (forget : Bool) (wait : Nanos) → (recorded l d at forget).answer ≡ no_room wait
      → owed h value (recorded l d at forget).after ≡ owed h value l
  unfolding owed
  refusal_keeps d at forget wait told = ap (total debt_items (weigh h value)) (refusal l d at forget wait s told).debts

  -- Taking a debt out lowers the sum by the value of the moment that is told.
  pub taking_lowers_by_what_it_tells : owed h value (taken l h).after + worth value (taken l h).answer ≡ owed h value l
  taking_lowers_by_what_it_tells =
      taken_cases l h (λ o. owed h value o.after + worth value o.answer ≡ owed h value l)
      (λ p e. let f : Owing l h p = found_owes l h p e in omega (arith, owed_removed h value l p s f.below, weigh_own h value (debt_at l p) f.own))
      (λ e. omega arith)

  -- Taking out or paying down another hash changes nothing of this one.
  pub taking_another_keeps : (other : ℕ) → (other ≡ h → ⊥) → owed h value (taken l other).after ≡ owed h value l
  taking_another_keeps other foreign =
      taken_cases l other (λ o. owed h value o.after ≡ owed h value l)
      (λ p e. let f : Owing l other p = found_owes l other p e in
      omega (arith, owed_removed h value l p s f.below, weigh_other h value (debt_at l p) (λ own. foreign (sym f.own ∙ own))))
      (λ e. refl)

  pub paying_another_keeps : (other cost : ℕ) (c : BucketConfig) → (other ≡ h → ⊥) → owed h value (paid_down l other cost c).after ≡ owed h value l
  paying_another_keeps other cost c foreign =
      paid_cases l other cost c (λ o. owed h value o.after ≡ owed h value l)
      (λ p e. let f : Owing l other p = found_owes l other p e in
      let x : Debt = sooner_by (credit c cost) (debt_at l p) in
      let apart : (debt_at l p).hash ≡ h → ⊥ = λ own. foreign (sym f.own ∙ own) in
      omega (arith, owed_stored h value l p x s f.below, weigh_other h value x apart, weigh_other h value (debt_at l p) apart))
      (λ e. refl)

-- Once its only debt was taken out, a hash owes nothing.
pub taking_leaves_none : (l : Ledger) (h : ℕ) → Sound l → Complete l → owed h one l ≤ 1 → owed h one (taken l h).after ≡ 0
taking_leaves_none l h u complete single =
    taken_cases l h (λ o. owed h one o.after ≡ 0)
    (λ i e. omega (arith, found_leaves h one l u h i e, weigh_own h one (debt_at l i) (found_owes l h i e).own))
    (λ e. nowhere_owes_nothing h one l complete e)
