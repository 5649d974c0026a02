-- The list of a shard's debts: each check refuses nothing just where what it looks at is right, and what the call looks at is the shard's ledger alone.
use Prim.Native.Nat.{ℕ, ◌≤◌, ◌<◌}
use native.Mathlib.Omega.{arith}
use mathlib.Core.Path.{◌≡◌, refl, sym, ap, ◌∙◌}
use mathlib.Core.Bool.{Bool, true, false, cond}
use mathlib.Core.List.{List, [], ◌∷◌}
use lib.Dec.{eqb}
use lib.ListN.{length, take, length-take}
use borrow.Author.Tests.{le-ltb, lt-ltb}
use Rattle.arith.proofs.Cases.{by_le, by_eq, by_test}
use Rattle.rows.specs.Outcome.{Outcome, outcome}
use Rattle.units.specs.declared.Nanos.{Nanos}
use Rattle.settings.specs.declared.Settings.{Settings}
use Rattle.settings.specs.declared.Shape.{Shape}
use Rattle.settings.specs.Settings.{first_refusal, settings_refusal, shape_of, shard_count}
use Rattle.settings.proofs.SettingsLaws.{first_refusal_stands, no_refusal_hands_on, neither_refuses}
use Rattle.ledger.specs.declared.Debt.{Debt}
use Rattle.ledger.specs.Model.{Ledger, settled_by}
use Rattle.ledger.specs.Model as Ledger
use Rattle.store.specs.Memory.{words_in}
use Rattle.store.specs.Refusals.{memory_refusal, set_up_refusal, moment_refusal}
use Rattle.rules.specs.declared.Reply.{Reply}
use Rattle.rules.specs.declared.Reply.TheVariants.{Count, Refused}
use Rattle.rules.specs.Rules.{unless_refused}
use Rattle.rules.specs.Debts.{unsettled, listed, written, shard_numbered, shard_refusal, debt_count_refusal, records_refusal, ledger_refusal, debts_refusal_in}
use Rattle.rules.specs.Debts.{debts_in, Lent, lent, list_debts_in, list_debts}
use Rattle.rules.proofs.RefusedLaws.{unless_refused_accepts, unless_refused_refuses}

-- The list looks at the count and the places alone.
pub listed_in_place_order : (at : Nanos) (l : Ledger) → listed at (Ledger.in_place_order l) ≡ listed at l
unfolding listed
listed_in_place_order at l = refl

module _ (shape : Shape) (i : ℕ) where
  pub shard_is_accepted : i < shape.shards → shard_refusal shape i ≡ 0
  unfolding shard_refusal
  shard_is_accepted below = rw (lt-ltb _ _ below)

  pub no_such_shard_is_refused : shape.shards ≤ i → shard_refusal shape i ≡ 16
  unfolding shard_refusal
  no_such_shard_is_refused over = rw (le-ltb _ _ over)

  pub shard_not_refused : shard_refusal shape i ≡ 0 → i < shape.shards
  shard_not_refused none =
      by_le shape.shards i (λ over. absurd (omega (arith, sym (no_such_shard_is_refused over) ∙ none))) (λ below. below)

  -- What is refused after the number matters only where there is such a shard.
  pub of_such_a_shard : (n m : ℕ) → (i < shape.shards → n ≡ m) → first_refusal (shard_refusal shape i) n ≡ first_refusal (shard_refusal shape i) m
  of_such_a_shard n m same =
      by_le shape.shards i
      (λ over.
      let some : shard_refusal shape i ≡ 0 → ⊥ = λ none. omega (arith, sym (no_such_shard_is_refused over) ∙ none) in
      first_refusal_stands _ n some ∙ sym (first_refusal_stands _ m some))
      (λ below. ap (first_refusal (shard_refusal shape i)) (same below))

module _ (cap : ℕ) (l : Ledger) where
  pub debt_count_is_accepted : l.debts.count ≤ cap → debt_count_refusal cap l ≡ 0
  unfolding debt_count_refusal
  debt_count_is_accepted few = rw (le-ltb _ _ few)

  pub debt_count_over_is_refused : cap < l.debts.count → debt_count_refusal cap l ≡ 5
  unfolding debt_count_refusal
  debt_count_over_is_refused over = rw (lt-ltb _ _ over)

  pub debt_count_not_refused : debt_count_refusal cap l ≡ 0 → l.debts.count ≤ cap
  debt_count_not_refused none =
      by_le l.debts.count cap (λ few. few) (λ over. absurd (omega (arith, sym (debt_count_over_is_refused over) ∙ none)))

module _ (room needed : ℕ) where
  pub records_are_accepted : needed ≤ room → records_refusal room needed ≡ 0
  unfolding records_refusal
  records_are_accepted enough = rw (le-ltb _ _ enough)

  pub few_records_are_refused : room < needed → records_refusal room needed ≡ 17
  unfolding records_refusal
  few_records_are_refused few = rw (lt-ltb _ _ few)

  pub records_not_refused : records_refusal room needed ≡ 0 → needed ≤ room
  records_not_refused none =
      by_le needed room (λ enough. enough) (λ few. absurd (omega (arith, sym (few_records_are_refused few) ∙ none)))

-- No more debts are listed than the ledger counts. So as many records as a shard has room for are enough.
unsettled_are_fewer : (at : Nanos) (ds : List Debt) → length (unsettled at ds) ≤ length ds
unfolding unsettled
unsettled_are_fewer at [] = omega arith
unsettled_are_fewer at (d ∷ ds) =
    by_test (settled_by at d) (λ settled. rw settled (omega (arith, unsettled_are_fewer at ds))) (λ owing. rw owing (omega (arith, unsettled_are_fewer at ds)))

pub as_many_records_as_places_are_enough : (at : Nanos) (cap room : ℕ) (l : Ledger) → debt_count_refusal cap l ≡ 0 → cap ≤ room
    → ledger_refusal cap at room l ≡ 0
unfolding listed
as_many_records_as_places_are_enough at cap room l none enough =
    let held = take l.debts.count l.debts.places in
    let few : length held ≤ l.debts.count = omega (arith, length-take l.debts.count l.debts.places) in
    no_refusal_hands_on _ _ none
    ∙ records_are_accepted room (length (unsettled at held)) (omega (arith, unsettled_are_fewer at held, few, debt_count_not_refused cap l none, enough))

-- The answer, and the records, of one of two outcomes.
answer_of : {A : Type 0} (b : Bool) (one other : Reply) (after : A) → (cond b (outcome one after) (outcome other after)).answer ≡ cond b one other
answer_of true one other after = refl
answer_of false one other after = refl

records_of_lem : (b : Bool) (one other : Reply) (ws : List ℕ) (ds records : List Debt)
    → (cond b (outcome one (lent ws ds)) (outcome other (lent ws records))).after.records ≡ cond b ds records
records_of_lem true one other ws ds records = refl
records_of_lem false one other ws ds records = refl

-- A caller who lends records has the answer and the words that the call has in a list, where it names the number of the records alone.
pub listing_is_the_call : (shape : Shape) (s : Settings) (at : Nanos) (i : ℕ) (ws : List ℕ) (records : List Debt)
    → let o = debts_in shape s at i (length records) ws in
    list_debts_in shape s at i (lent ws records) ≡ outcome o.answer (lent o.after (list_debts_in shape s at i (lent ws records)).after.records)
unfolding debts_in list_debts_in
listing_is_the_call shape s at i ws records =
    let refusal = debts_refusal_in shape s at i (length records) ws in
    let ds = listed at (shard_numbered shape i ws).ledger in
    by_eq refusal 0
    (λ none. rw (
      unless_refused_accepts refusal ws (outcome (Count (length ds)) ws) none,
      unless_refused_accepts refusal (lent ws records) (outcome (Count (length ds)) (lent ws (written ds records))) none,
    ))
    (λ some. rw (
      unless_refused_refuses refusal ws (outcome (Count (length ds)) ws) some,
      unless_refused_refuses refusal (lent ws records) (outcome (Count (length ds)) (lent ws (written ds records))) some,
    ))

-- Of the memory the call looks at the length and at the shard of the number alone: the answer is the same on two memories with these, and so are the records.
module _ (shape : Shape) (s : Settings) (at : Nanos) (i : ℕ) (ws vs : List ℕ) (size : length ws ≡ length vs)
    (same : shard_numbered shape i ws ≡ shard_numbered shape i vs) where
  lengths_refused_alike : memory_refusal (words_in shape) ws ≡ memory_refusal (words_in shape) vs
  unfolding memory_refusal
  lengths_refused_alike = ap (λ (n : ℕ). cond (eqb n (words_in shape)) 0 5) size

  debts_refused_alike : (room : ℕ) → debts_refusal_in shape s at i room ws ≡ debts_refusal_in shape s at i room vs
  debts_refused_alike room j =
      first_refusal (first_refusal (settings_refusal s) (lengths_refused_alike j))
      (first_refusal (moment_refusal at) (first_refusal (shard_refusal shape i) (ledger_refusal shape.cap at room (same j).ledger)))

  pub debts_look_at_one_shard : (room : ℕ) → (debts_in shape s at i room ws).answer ≡ (debts_in shape s at i room vs).answer
  unfolding debts_in unless_refused
  debts_look_at_one_shard room =
      answer_of (eqb (debts_refusal_in shape s at i room ws) 0) _ _ ws
      ∙ (λ j. let refusal = debts_refused_alike room j in cond (eqb refusal 0) (Count (length (listed at (same j).ledger))) (Refused refusal))
      ∙ sym (answer_of (eqb (debts_refusal_in shape s at i room vs) 0) _ _ vs)

  pub records_look_at_one_shard : (records : List Debt)
      → (list_debts_in shape s at i (lent ws records)).after.records ≡ (list_debts_in shape s at i (lent vs records)).after.records
  unfolding list_debts_in unless_refused
  records_look_at_one_shard records =
      records_of_lem (eqb (debts_refusal_in shape s at i (length records) ws) 0) _ _ ws _ records
      ∙ (λ j. cond (eqb (debts_refused_alike (length records) j) 0) (written (listed at (same j).ledger) records) records)
      ∙ sym (records_of_lem (eqb (debts_refusal_in shape s at i (length records) vs) 0) _ _ vs _ records)

-- A call that is refused leaves the records as they are.
pub refused_leaves_the_records : (s : Settings) (at : Nanos) (i : ℕ) (ws : List ℕ) (records : List Debt)
    → (debts_refusal_in (shape_of s) s at i (length records) ws ≡ 0 → ⊥) → (list_debts s at i (lent ws records)).after.records ≡ records
unfolding list_debts_in
refused_leaves_the_records s at i ws records some =
    ap (λ (o : Outcome Reply Lent). o.after.records) (unless_refused_refuses (debts_refusal_in (shape_of s) s at i (length records) ws) _ _ some)

-- What a call may count on that is not refused.
pub record DebtsAccepted (s : Settings) (at : Nanos) (i room : ℕ) (ws : List ℕ) : Type 0 where
  pub set_up_lem : set_up_refusal s ws ≡ 0
  pub early : moment_refusal at ≡ 0
  pub shard : i < shard_count s
  pub count_fits : debt_count_refusal (shape_of s).cap (shard_numbered (shape_of s) i ws).ledger ≡ 0
  pub records_fit_lem : length (listed at (shard_numbered (shape_of s) i ws).ledger) ≤ room

pub debts_not_refused : (s : Settings) (at : Nanos) (i room : ℕ) (ws : List ℕ) → debts_refusal_in (shape_of s) s at i room ws ≡ 0 → DebtsAccepted s at i room ws
debts_not_refused s at i room ws none =
    let l = (shard_numbered (shape_of s) i ws).ledger in
    let first = neither_refuses (set_up_refusal s ws) _ none in
    let second = neither_refuses (moment_refusal at) _ first.1 in
    let third = neither_refuses (shard_refusal (shape_of s) i) (ledger_refusal (shape_of s).cap at room l) second.1 in
    let fourth = neither_refuses (debt_count_refusal (shape_of s).cap l) (records_refusal room (length (listed at l))) third.1 in
    record {
      set_up_lem = first.0;
      early = second.0;
      shard = shard_not_refused (shape_of s) i third.0;
      count_fits = fourth.0;
      records_fit_lem = records_not_refused room (length (listed at l)) fourth.1;
    }
