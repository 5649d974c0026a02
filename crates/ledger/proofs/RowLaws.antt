-- Looks in a row at unsettled debts: what the definitions are in each case that the code goes through, and that such looks move the cursor alone.
use Prim.Native.Nat.{ℕ, zero, suc, ◌+◌, ◌-◌, ◌≤◌, ◌<◌, min}
use native.Mathlib.Omega.{arith}
use mathlib.Core.Path.{◌≡◌, refl, ap, sym, ◌∙◌}
use mathlib.Core.Bool.{Bool, true, false, true≢false}
use mathlib.Core.List.{List}
use lib.Dec.{ltb}
use borrow.Author.Tests.{eq-eqb, ne_eqb, lt-ltb, le-ltb, le-leb, lt-leb, ltb-true}
use Rattle.arith.proofs.Cases.{by_test, by_le, by_eq}
use Rattle.units.specs.declared.Nanos.{Nanos}
use Rattle.settings.specs.Eviction.{ledger_scan}
use Rattle.held.specs.Round as Round
use Rattle.rows.specs.Outcome.{outcome}
use Rattle.ledger.specs.declared.Choice.TheVariants.{Soonest}
use Rattle.ledger.specs.Model.{Ledger, settling_at, cursor_of, with_cursor, look, sweep, sooner, scan_from, scan}
use Rattle.ledger.specs.Layout.{ledger, Intact}
use Rattle.ledger.specs.code.Row.{unsettled_before, meets_unsettled, soonest_before}
use Rattle.ledger.proofs.RecordLaws.{sooner_is_either}
use Rattle.ledger.proofs.ModelLaws.{look_unsettled, scan_start, scan_end, scan_turn, intact_cap}

-- A row by its first look: none is left, the debt has settled, or it has not and the looks go on.
module _ (at : Nanos) (l : Ledger) (end left : ℕ) where
  pub unsettled_none : left ≤ 0 → true ≡ unsettled_before at l end left
  unfolding unsettled_before
  unsettled_none none = let e : left ≡ 0 = omega arith in rw e

  pub settled_found : 0 < left → (settling_at l (end - left)).0 ≤ at.0 → false ≡ unsettled_before at l end left
  unfolding unsettled_before
  settled_found more settled =
      let e : left ≡ suc (left - 1) = omega arith in
      sym (ap (λ (k : ℕ). unsettled_before at l end k) e ∙ rw (unsettled_before, ← e, le-leb _ _ settled))

  pub unsettled_turn : 0 < left → at.0 < (settling_at l (end - left)).0 → unsettled_before at l end left ≡ unsettled_before at l end (left - 1)
  unfolding unsettled_before
  unsettled_turn more unsettled =
      let e : left ≡ suc (left - 1) = omega arith in
      ap (λ (k : ℕ). unsettled_before at l end k) e ∙ rw (unsettled_before, ← e, lt-leb _ _ unsettled)

-- The same by the place i of the first look.
module _ (at : Nanos) (l : Ledger) {end i : ℕ} (more : i < end) where
  place : end - (end - i) ≡ i
  place = omega arith

  pub settled_found_at : (settling_at l i).0 ≤ at.0 → false ≡ unsettled_before at l end (end - i)
  settled_found_at settled = settled_found at l end (end - i) (omega arith) (rw place settled)

  pub unsettled_turn_at : at.0 < (settling_at l i).0 → unsettled_before at l end (end - i) ≡ unsettled_before at l end (end - (i + 1))
  unsettled_turn_at unsettled =
      let next : end - i - 1 ≡ end - (i + 1) = omega arith in
      rw next at (unsettled_turn at l end (end - i) (omega arith) (rw place unsettled))

-- So in a row of unsettled debts the first is unsettled, and so are those after it.
record FirstUnsettled (at : Nanos) (l : Ledger) (end left : ℕ) : Type 0 where
  first : at.0 < (settling_at l (end - left)).0
  others : unsettled_before at l end (left - 1) ≡ true

first_unsettled : (at : Nanos) (l : Ledger) (end left : ℕ) → 0 < left → unsettled_before at l end left ≡ true → FirstUnsettled at l end left
first_unsettled at l end left more are =
    by_le (settling_at l (end - left)).0 at.0
    (λ settled. absurd (true≢false (sym are ∙ sym (settled_found at l end left more settled))))
    (λ unsettled. record { first = unsettled; others = sym (unsettled_turn at l end left more unsettled) ∙ are })

-- The soonest of a row by its first look.
module _ (l : Ledger) (end left best : ℕ) where
  pub soonest_none : left ≤ 0 → best ≡ soonest_before l end left best
  unfolding soonest_before
  soonest_none none = let e : left ≡ 0 = omega arith in rw e

  pub soonest_turn : 0 < left → soonest_before l end left best ≡ soonest_before l end (left - 1) (sooner l best (end - left))
  unfolding soonest_before
  soonest_turn more =
      let e : left ≡ suc (left - 1) = omega arith in
      ap (λ (k : ℕ). soonest_before l end k best) e ∙ rw (soonest_before, ← e)

pub soonest_turn_at : (l : Ledger) (best : ℕ) {end i : ℕ} → i < end
    → soonest_before l end (end - i) best ≡ soonest_before l end (end - (i + 1)) (sooner l best i)
soonest_turn_at l best {end} {i} more =
    let place : end - (end - i) ≡ i = omega arith in
    let next : end - i - 1 ≡ end - (i + 1) = omega arith in
    rw (place, next) at (soonest_turn l end (end - i) best (omega arith))

pub sooner_below : (l : Ledger) (best looked : ℕ) {n cap : ℕ} → n ≡ sooner l best looked → best < cap → looked < cap → n < cap
sooner_below l best looked {n} {cap} is below looked_below = rw is (sooner_is_either l best looked (λ p. p < cap) below looked_below)

-- The cursor as it is read stands at most at the count.
pub cursor_fits : (l : Ledger) {first : ℕ} → first ≡ cursor_of l → first ≤ l.debts.count
cursor_fits l is =
    by_test (ltb l.cursor l.debts.count)
    (λ below. rw (is, below) (omega (arith, ltb-true l.cursor l.debts.count below)))
    (λ past. rw (is, past) (omega arith))

-- Whether the next looks meet unsettled debts alone, as the code tells it.
module _ (at : Nanos) (l : Ledger) (looks : ℕ) where
  pub no_look_meets : looks ≡ 0 → false ≡ meets_unsettled at l looks
  unfolding meets_unsettled
  no_look_meets none = rw (eq-eqb _ _ none)

  module _ {first count : ℕ} (there : first ≡ cursor_of l) (counted : count ≡ l.debts.count) (some : looks ≡ 0 → ⊥) where
    pub going_round_meets : count - first < looks → false ≡ meets_unsettled at l looks
    unfolding meets_unsettled
    going_round_meets round = rw (ne_eqb _ _ some, lt-ltb _ _ (rw (there, counted) at round))

    pub row_meets : looks ≤ count - first → unsettled_before at l (first + looks) looks ≡ meets_unsettled at l looks
    unfolding meets_unsettled
    row_meets fits = rw (ne_eqb _ _ some, le-ltb _ _ (rw (there, counted) at fits), there)

  -- What it means that they do.
  pub record Meets : Type 0 where
    pub some : 0 < looks
    pub fits : cursor_of l + looks ≤ l.debts.count
    pub unsettled : unsettled_before at l (cursor_of l + looks) looks ≡ true

  pub meets : meets_unsettled at l looks ≡ true → Meets
  meets is =
      by_eq looks 0
      (λ none. absurd (true≢false (sym is ∙ sym (no_look_meets none))))
      (λ some. by_le looks (l.debts.count - cursor_of l)
      (λ fits. record { some = omega arith; fits = omega arith; unsettled = row_meets refl refl some fits ∙ is })
      (λ round. absurd (true≢false (sym is ∙ sym (going_round_meets refl refl some round)))))

-- A look at an unsettled debt at the place of the cursor moves the cursor on: so does each look of a row.
module _ (at : Nanos) (l : Ledger) where
  read_at : (p : ℕ) → p < l.debts.count → cursor_of (with_cursor l p) ≡ p
  read_at p below = rw (lt-ltb p l.debts.count below)

  no_looks : (m : Ledger) → sweep at 0 m ≡ m
  unfolding sweep Round.sweep
  no_looks m = refl

  one_look : (left : ℕ) (m : Ledger) → 0 < left → sweep at left m ≡ sweep at (left - 1) (look at m)
  unfolding sweep look Round.sweep
  one_look zero m more = absurd (omega (arith, more))
  one_look (suc left) m more = let one : suc left - 1 ≡ left = omega arith in rw one refl

  row_is_swept : (end left : ℕ) → left ≤ end → end ≤ l.debts.count → unsettled_before at l end left ≡ true
      → sweep at left (with_cursor l (end - left)) ≡ with_cursor l end
  row_is_swept end zero fits held are = let e : end - 0 ≡ end = omega arith in rw e (no_looks (with_cursor l end))
  row_is_swept end (suc left) fits held are =
      let p : ℕ = end - suc left in
      let next : p + 1 ≡ end - left = omega arith in
      let one : suc left - 1 ≡ left = omega arith in
      let firstly = first_unsettled at l end (suc left) (omega arith) are in
      let there = read_at p (omega arith) in
      let looked : with_cursor l (p + 1) ≡ look at (with_cursor l p) =
      rw there at (look_unsettled at (with_cursor l p) (omega arith) (rw there firstly.first)) in
      one_look (suc left) (with_cursor l p) (omega arith) ∙ rw (one, ← looked, next) (row_is_swept end left (omega arith) held (rw one at firstly.others))

  -- The cursor may stand past the count at first: then it is read as the first place, and a look leaves what it leaves from there.
  module _ {looks : ℕ} (met : Meets at l looks) where
    begins : cursor_of l + looks - looks ≡ cursor_of l
    begins = omega arith

    met_first : at.0 < (settling_at l (cursor_of l)).0
    met_first = rw begins at (first_unsettled at l (cursor_of l + looks) looks met.some met.unsettled).first

    stands : cursor_of (with_cursor l (cursor_of l)) ≡ cursor_of l
    stands = read_at (cursor_of l) (omega (arith, met.some, met.fits))

    swept_from_there : sweep at looks l ≡ sweep at looks (with_cursor l (cursor_of l))
    swept_from_there =
        let some : 0 < l.debts.count = omega (arith, met.some, met.fits) in
        let here = look_unsettled at l some met_first in
        let there : with_cursor l (cursor_of l + 1) ≡ look at (with_cursor l (cursor_of l)) =
        rw stands at (look_unsettled at (with_cursor l (cursor_of l)) some (rw stands met_first)) in
        one_look looks l met.some ∙ ap (sweep at (looks - 1)) (sym here ∙ there) ∙ sym (one_look looks (with_cursor l (cursor_of l)) met.some)

    scanned_from_there : (best : ℕ) → scan_from at looks l best ≡ scan_from at looks (with_cursor l (cursor_of l)) best
    scanned_from_there best =
        let there = rw stands at (scan_turn at looks (with_cursor l (cursor_of l)) best met.some (rw stands met_first)) in
        scan_turn at looks l best met.some met_first ∙ sym there

  pub unsettled_are_swept : (looks : ℕ) {first : ℕ} → first ≡ cursor_of l → meets_unsettled at l looks ≡ true → with_cursor l (first + looks) ≡ sweep at looks l
  unsettled_are_swept looks there is =
      let met = meets at l looks is in
      let row = rw (begins met) at (row_is_swept (cursor_of l + looks) looks (omega arith) met.fits met.unsettled) in
      rw there (sym (swept_from_there met ∙ row))

  row_is_scanned : (end left best : ℕ) → left ≤ end → end ≤ l.debts.count → unsettled_before at l end left ≡ true
      → scan_from at left (with_cursor l (end - left)) best ≡ outcome (Soonest (soonest_before l end left best)) (with_cursor l end)
  row_is_scanned end zero best fits held are =
      let e : end - 0 ≡ end = omega arith in
      rw (e, ← soonest_none l end 0 best (omega arith)) (scan_end at 0 (with_cursor l end) best (omega arith))
  row_is_scanned end (suc left) best fits held are =
      let p : ℕ = end - suc left in
      let next : p + 1 ≡ end - left = omega arith in
      let one : suc left - 1 ≡ left = omega arith in
      let firstly = first_unsettled at l end (suc left) (omega arith) are in
      let there = read_at p (omega arith) in
      let turn = rw there at (scan_turn at (suc left) (with_cursor l p) best (omega arith) (rw there firstly.first)) in
      rw (soonest_turn l end (suc left) best (omega arith), one)
      (rw (one, next) at turn ∙ row_is_scanned end left (sooner l best p) (omega arith) held (rw one at firstly.others))

  pub unsettled_are_scanned : {first looks best : ℕ} → first ≡ cursor_of l → looks ≡ ledger_scan → meets_unsettled at l looks ≡ true
      → best ≡ soonest_before l (first + looks) looks (first + looks - looks) → outcome (Soonest best) (with_cursor l (first + looks)) ≡ scan at l
  unsettled_are_scanned {first} {looks} {best} there eight is found =
      let met = meets at l looks is in
      let all : min ledger_scan l.debts.count ≡ looks = omega (arith, met.fits) in
      let row = rw (begins met) at (row_is_scanned (cursor_of l + looks) looks (cursor_of l) (omega arith) met.fits met.unsettled) in
      let all_scanned = rw all at (scan_start at l) in
      rw (found, there, begins met) (sym (scanned_from_there met (cursor_of l) ∙ row) ∙ all_scanned)

-- In words that are lent the row that the next looks make lies below the cap.
pub record RowFits (cap first looks : ℕ) : Type 0 where
  pub some : 0 < looks
  pub fits : first + looks ≤ cap

pub row_fits : {cap : ℕ} {ws : List ℕ} (at : Nanos) {first looks : ℕ} {told : Bool} → Intact cap ws → first ≡ cursor_of (ledger cap ws)
    → told ≡ meets_unsettled at (ledger cap ws) looks → told ≡ true → RowFits cap first looks
row_fits {cap} {ws} at {first} {looks} intact there tells is =
    let met = meets at (ledger cap ws) looks (sym tells ∙ is) in
    record { some = met.some; fits = omega (arith, there, met.fits, intact.sound.count_fits, intact_cap intact) }
