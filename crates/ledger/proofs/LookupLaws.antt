-- What lookup finds of a hash after each operation, where the hash owes at most once. All of it follows from the sums: what lookup finds of a hash is known
-- once the sum of every value is.
use Rattle.std.proofs.Common.{Option, Some, None, Ok}
use Prim.Native.Nat.{ℕ, ◌-◌, ◌≤◌, ◌<◌, max}
use mathlib.Core.Path.{◌≡◌, refl, sym, ◌∙◌, ap}
use mathlib.Core.Bool.{Bool}
use native.Mathlib.Omega.{arith}
use Rattle.units.specs.declared.Nanos.{Nanos}
use Rattle.bucket.specs.declared.BucketConfig.{BucketConfig}
use Rattle.rows.specs.Outcome.{Outcome}
use Rattle.ledger.specs.declared.Debt.{Debt}
use Rattle.ledger.specs.Model.{Recorded, Ledger, Sound, Complete, debt_at, place_of, owed_at, owed_by, taken, sweep, later, recorded, credit, paid_down}
use Rattle.ledger.proofs.StepLaws.{sweep_room, paid_room, Owing, found_owes, nowhere_owes_none, owed_where, taken_cases, paid_cases, sooner_by}
use Rattle.ledger.proofs.RecordLaws.{Recording, merged, joins, replaces, refused, record_cases, recorded_sound, recorded_complete, done_is_no_refusal}
use Rattle.ledger.proofs.KeptLaws.{owed, one, worth, weigh_own, weigh_other, owed_stored, owed_appended, owed_replaced, sweep_never_adds}
use Rattle.ledger.proofs.KeptLaws.{sweep_keeps_unsettled, nowhere_owes_nothing, found_is_all}

-- Taking out tells what lookup finds.
pub taken_tells : (l : Ledger) (h : ℕ) → (taken l h).answer ≡ owed_by l h
taken_tells l h = taken_cases l h (λ o. o.answer ≡ owed_by l h) (λ p e. owed_where l h e) (λ e. owed_where l h e)

-- What was found, or another moment where that is later; and what was found, so much sooner.
abbrev pub later_of : Nanos → Option Nanos → Option Nanos
later_of t None = Some t
later_of t (Some u) = Some (record { 0 = max u.0 t.0 })

abbrev pub paid_off : Nanos → Option Nanos → Option Nanos
paid_off off None = None
paid_off off (Some t) = Some (record { 0 = t.0 - off.0 })

-- Two findings with the same values are the same.
same_worth : (a b : Option Nanos) → ((value : ℕ → ℕ) → worth value a ≡ worth value b) → a ≡ b
same_worth None None same = refl
same_worth None (Some t) same = absurd (omega (arith, same one))
same_worth (Some t) None same = absurd (omega (arith, same one))
same_worth (Some t) (Some u) same = ap (λ (n : ℕ). Some (record { 0 = n })) (same (λ n. n))

worth_one : (a : Option Nanos) → worth one a ≤ 1
worth_one None = omega arith
worth_one (Some t) = omega arith

-- Where a hash owes at most once, a sum is the value of what lookup finds; and the sums tell what lookup finds.
pub sum_of_lookup : (h : ℕ) (l : Ledger) → Sound l → Complete l → owed h one l ≤ 1 → (value : ℕ → ℕ) → owed h value l ≡ worth value (owed_by l h)
unfolding owed_by
sum_of_lookup h l s complete single value = go (place_of l h) refl
  where
    go : (place : Option ℕ) → place_of l h ≡ place → owed h value l ≡ worth value (owed_at l place)
    go (Some p) e = found_is_all h value l s p e single
    go None e = nowhere_owes_nothing h value l complete e

pub lookup_by_sums : (h : ℕ) (l : Ledger) → Sound l → Complete l → (found : Option Nanos) → ((value : ℕ → ℕ) → owed h value l ≡ worth value found)
    → owed_by l h ≡ found
lookup_by_sums h l s complete found sums =
    let single : owed h one l ≤ 1 = omega (arith, sums one, worth_one found) in
    same_worth (owed_by l h) found (λ value. sym (sum_of_lookup h l s complete single value) ∙ sums value)

-- Two ledgers with the same time left to the debts of a hash: an unsettled debt that lookup finds in one it finds in the other.
unsettled_by_time_left : (at : Nanos) (found : Option Nanos) (t : Nanos) → at.0 < t.0 → worth (λ n. n - at.0) found ≡ t.0 - at.0 → found ≡ Some t
unsettled_by_time_left at None t unsettled same = absurd (omega arith)
unsettled_by_time_left at (Some u) t unsettled same = let e : u.0 ≡ t.0 = omega arith in ap (λ (n : ℕ). Some (record { 0 = n })) e

same_time_left_same_lookup : (h : ℕ) (at : Nanos) (l m : Ledger) → Sound l → Sound m → Complete l → Complete m → owed h one l ≤ 1 → owed h one m ≤ 1
    → owed h (λ n. n - at.0) m ≡ owed h (λ n. n - at.0) l → (t : Nanos) → owed_by l h ≡ Some t → at.0 < t.0 → owed_by m h ≡ Some t
same_time_left_same_lookup h at l m s t complete complete' single single' same moment found unsettled =
    unsettled_by_time_left at (owed_by m h) moment unsettled
    (sym (sum_of_lookup h m t complete' single' (λ n. n - at.0)) ∙ same ∙ sum_of_lookup h l s complete single (λ n. n - at.0)
    ∙ ap (worth (λ n. n - at.0)) found)

module _ (l : Ledger) (s : Sound l) (complete : Complete l) (h : ℕ) (single : owed h one l ≤ 1) where
  -- After a sweep an unsettled debt is found as before.
  pub sweep_finds_unsettled : (at : Nanos) (n : ℕ) (t : Nanos) → owed_by l h ≡ Some t → at.0 < t.0 → owed_by (sweep at n l) h ≡ Some t
  sweep_finds_unsettled at n t found unsettled =
      same_time_left_same_lookup h at l (sweep at n l) s ((sweep_room at n l).sound s) complete ((sweep_room at n l).complete s complete) single
      (omega (arith, sweep_never_adds h one at n l s))
      (sweep_keeps_unsettled h (λ m. m - at.0) at n l s (λ m settled. omega arith)) t found unsettled

  -- After a payment the debt settles so much sooner.
  pub paid_finds_sooner : (cost : ℕ) (c : BucketConfig) → owed_by (paid_down l h cost c).after h ≡ paid_off (credit c cost) (owed_by l h)
  paid_finds_sooner cost c =
      lookup_by_sums h (paid_down l h cost c).after ((paid_room l h cost c).sound s) ((paid_room l h cost c).complete s complete)
      (paid_off (credit c cost) (owed_by l h))
      (λ value. paid_cases l h cost c (λ o. owed h value o.after ≡ worth value (paid_off (credit c cost) (owed_by l h)))
      (λ p e.
      let f : Owing l h p = found_owes l h p e in
      let x : Debt = sooner_by (credit c cost) (debt_at l p) in
      rw (← owed_where l h e)
      (omega (
        arith,
        owed_stored h value l p x s f.below,
        weigh_own h value (debt_at l p) f.own,
        weigh_own h value x f.own,
        found_is_all h value l s p e single,
      )))
      (λ e. rw (← owed_where l h e) (nowhere_owes_nothing h value l complete e)))

module _ (l : Ledger) (s : Sound l) (complete : Complete l) (d : Debt) (at : Nanos) (forget : Bool) (single : owed d.hash one l ≤ 1) where
  -- After a recording the hash owes until the later of the two moments.
  pub recorded_finds_later : (recorded l d at forget).answer ≡ Ok tt
      → owed_by (recorded l d at forget).after d.hash ≡ later_of d.settles (owed_by l d.hash)
  recorded_finds_later done =
      lookup_by_sums d.hash (recorded l d at forget).after (recorded_sound l d at forget s) (recorded_complete l d at forget s complete)
      (later_of d.settles (owed_by l d.hash)) (λ value. go value (record_cases l d at forget s) done)
    where
      go : (value : ℕ → ℕ) {o : Outcome Recorded Ledger} → Recording l d at forget o → o.answer ≡ Ok tt
          → owed d.hash value o.after ≡ worth value (later_of d.settles (owed_by l d.hash))
      go value (merged p e) q =
          let f : Owing l d.hash p = found_owes l d.hash p e in
          let x : Debt = later (debt_at l p) d.settles in
          let moment : x.settles.0 ≡ max (debt_at l p).settles.0 d.settles.0 = omega arith in
          rw (← owed_where l d.hash e)
          (omega (
            arith,
            owed_stored d.hash value l p x s f.below,
            weigh_own d.hash value (debt_at l p) f.own,
            weigh_own d.hash value x f.own,
            ap value moment,
            found_is_all d.hash value l s p e single,
          ))
      go value (joins new room) q =
          rw (← owed_where l d.hash new)
          (omega (arith, owed_appended d.hash value l d room, weigh_own d.hash value d refl, nowhere_owes_nothing d.hash value l complete new))
      go value (replaces p c near new below settled) q =
          rw (← owed_where l d.hash new)
          (omega (
            arith,
            owed_replaced d.hash value l c p d s below,
            weigh_own d.hash value d refl,
            nowhere_owes_nothing d.hash value l complete new,
            weigh_other d.hash value (debt_at l p) (nowhere_owes_none l complete d.hash new p below),
          ))
      go value (refused p c near full below never unsettled) q = done_is_no_refusal (sym q)
