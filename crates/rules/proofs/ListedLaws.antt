-- The list of a shard's debts says what the shard itself goes by: each unsettled debt is listed once, and a key whose debt is listed lacks tokens when it
-- comes back.
use Rattle.std.proofs.Common.{Option, Some, None}
use Prim.Native.Nat.{ℕ, zero, suc, ◌+◌, ◌*◌, ◌-◌, ◌/◌, ◌≤◌, ◌<◌, min, max}
use native.Mathlib.Nat.{sub_self, le_of_lt, mul-div_cancel, mul-le-mul_right, mul-pos}
use native.Mathlib.Omega.{arith}
use mathlib.Core.Path.{◌≡◌, refl, sym, ap, ◌∙◌}
use mathlib.Core.List.{List, [], ◌∷◌}
use lib.ListN.{length, get_or, take}
use borrow.Author.Tests.{eq-eqb, ne_eqb, le-leb, lt-leb}
use Rattle.arith.proofs.Cases.{by_test, by_le, by_eq}
use Rattle.arith.proofs.DivisionLaws.{ceil_div_reaches}
use Rattle.units.specs.declared.Nanos.{Nanos}
use Rattle.bucket.specs.declared.BucketConfig.{BucketConfig}
use Rattle.bucket.specs.declared.BucketCore.{BucketCore}
use Rattle.bucket.specs.Bucket.{Accepted, parts_of, full_parts, most_shortfall, shortfall_at, available_at, fresh}
use Rattle.bucket.specs.Debt.{missing_tokens, restored}
use Rattle.bucket.proofs.BucketLaws.{parts_within, available_by_parts}
use Rattle.bucket.proofs.DebtLaws.{restored_settled, restored_fresh, fresh_available}
use Rattle.settings.specs.declared.Limit.TheVariants.{Open}
use Rattle.settings.specs.declared.rate.Rate.{Rate}
use Rattle.settings.specs.Rate.{config_of}
use Rattle.ledger.specs.declared.Debt.{Debt}
use Rattle.ledger.specs.Model.{Ledger, no_debt, debt_at, settled_by, owes, owed_by}
use Rattle.ledger.specs.Model as Ledger
use Rattle.ledger.proofs.StepLaws.{found_owes, nowhere_owes_none, owed_where}
use Rattle.shard_map.specs.Model.{Shard, place_of}
use Rattle.shard_map.proofs.RoomLaws.{FindsEach}
use Rattle.shard.specs.declared.Identity.{Identity}
use Rattle.shard.specs.Model.{returning}
use Rattle.shard.proofs.OwnBucketLaws.{view_without_slot}
use Rattle.rules.specs.Asks.{tokens_in}
use Rattle.rules.specs.Debts.{unsettled, listed}
use Rattle.rules.specs.MorningList.{of_hash, owed_after, tokens_left}

-- A debt that settles after the moment is not left out, and one that settles by then is.
module _ (at : Nanos) (d : Debt) where
  owing_is_unsettled : at.0 < d.settles.0 → unsettled at (d ∷ []) ≡ d ∷ []
  unfolding unsettled
  owing_is_unsettled later = rw (lt-leb _ _ later)

  settled_is_left_out : d.settles.0 ≤ at.0 → unsettled at (d ∷ []) ≡ []
  unfolding unsettled
  settled_is_left_out by_then = rw (le-leb _ _ by_then)

module _ (hash : ℕ) where
  -- The unsettled debts of a hash are the debts of the hash that are unsettled.
  of_hash_of_unsettled : (at : Nanos) (ds : List Debt) → of_hash hash (unsettled at ds) ≡ unsettled at (of_hash hash ds)
  unfolding of_hash unsettled
  of_hash_of_unsettled at [] = refl
  of_hash_of_unsettled at (d ∷ ds) =
      let rest = of_hash_of_unsettled at ds in
      by_test (settled_by at d)
      (λ settled. by_test (owes hash d) (λ own. rw (settled, own, settled) rest) (λ other. rw (settled, other) rest))
      (λ unsettled. by_test (owes hash d)
      (λ own. rw (unsettled, own, unsettled) (ap {B = List Debt} (λ ds. d ∷ ds) rest))
      (λ other. rw (unsettled, other) rest))

  -- Of the first n debts of a list none has the hash, or one does.
  none_of_hash : (n : ℕ) (ds : List Debt) → ((i : ℕ) → i < n → (get_or ds i no_debt).hash ≡ hash → ⊥) → of_hash hash (take n ds) ≡ []
  unfolding of_hash
  none_of_hash zero ds none = refl
  none_of_hash (suc n) [] none = refl
  none_of_hash (suc n) (d ∷ ds) none =
      rw (ne_eqb _ _ (none 0 (omega arith))) (none_of_hash n ds (λ i below. none (suc i) (omega arith)))

  one_of_hash : (n : ℕ) (ds : List Debt) (p : ℕ) → p < n → n ≤ length ds → (get_or ds p no_debt).hash ≡ hash
      → ((i : ℕ) → i < n → (get_or ds i no_debt).hash ≡ hash → i ≡ p)
      → of_hash hash (take n ds) ≡ get_or ds p no_debt ∷ []
  unfolding of_hash
  one_of_hash zero ds p below fits own alone = absurd (omega arith)
  one_of_hash (suc n) [] p below fits own alone = absurd (omega arith)
  one_of_hash (suc n) (d ∷ ds) zero below fits own alone =
      rw (eq-eqb _ _ own)
      (ap {B = List Debt} (λ ds. d ∷ ds) (none_of_hash n ds (λ i inner same. omega (arith, alone (suc i) (omega arith) same))))
  one_of_hash (suc n) (d ∷ ds) (suc p) below fits own alone =
      rw (ne_eqb d.hash hash (λ same. omega (arith, alone 0 (omega arith) same)))
      (one_of_hash n ds p (omega arith) (omega arith) own (λ i inner same. omega (arith, alone (suc i) (omega arith) same)))

-- The list of a ledger, by hash.
listed_by_hash : (at : Nanos) (l : Ledger) (hash : ℕ) → of_hash hash (listed at l) ≡ unsettled at (of_hash hash (take l.debts.count l.debts.places))
unfolding listed
listed_by_hash at l hash = of_hash_of_unsettled hash at (take l.debts.count l.debts.places)

module _ (own : Shard) (each : FindsEach own) (at : Nanos) where
  -- The debt at a place is the only one of its hash: it is listed if it is unsettled.
  listed_at : (i : ℕ) → i < own.ledger.debts.count
      → let d = debt_at own.ledger i in
      of_hash d.hash (listed at own.ledger) ≡ unsettled at (d ∷ [])
  listed_at i below =
      let l = own.ledger in
      listed_by_hash at l (debt_at l i).hash
      ∙ ap (unsettled at) (one_of_hash (debt_at l i).hash l.debts.count l.debts.places i below each.ledger.sound.count_fits refl
      (λ j inner same. each.ledger.single j i inner below same))

  -- An unsettled debt is listed, and listed once.
  pub unsettled_is_listed_once : (i : ℕ) → i < own.ledger.debts.count → at.0 < (debt_at own.ledger i).settles.0
      → of_hash (debt_at own.ledger i).hash (listed at own.ledger) ≡ debt_at own.ledger i ∷ []
  unsettled_is_listed_once i below later = listed_at i below ∙ owing_is_unsettled at (debt_at own.ledger i) later

  -- What the list has of a hash is what lookup finds of it: one record of an unsettled debt, else none.
  pub listed_is_owed : (hash : ℕ) → of_hash hash (listed at own.ledger) ≡ owed_after at hash (owed_by own.ledger hash)
  unfolding unsettled
  listed_is_owed hash = go (Ledger.place_of own.ledger hash) refl
    where
      go : (place : Option ℕ) → Ledger.place_of own.ledger hash ≡ place
          → of_hash hash (listed at own.ledger) ≡ owed_after at hash (owed_by own.ledger hash)
      go (Some p) found =
          let debt = found_owes own.ledger hash p found in
          rw (sym (owed_where own.ledger hash found), sym debt.own) (listed_at p debt.below)
      go None missed =
          let l = own.ledger in
          rw (sym (owed_where l hash missed)) (listed_by_hash at l hash
          ∙ ap (unsettled at) (none_of_hash hash l.debts.count l.debts.places (nowhere_owes_none l each.ledger.complete hash missed)))

-- What a bucket lacks, and the tokens that it has, when it is put back into a debt.
restored_shortfall : {c : BucketConfig} (at settles : Nanos) → Accepted c →
    shortfall_at c (restored c (fresh c at) at settles) at
    ≡ max (parts_of c (c.capacity - c.initial)) (min (parts_of c (missing_tokens c (settles.0 - at.0))) (most_shortfall c))
unfolding shortfall_at
restored_shortfall {c} at settles a =
    rw (restored_fresh at settles a, sub_self) (omega (arith, parts_within c (c.capacity - c.initial) (omega arith)))

restored_tokens : {c : BucketConfig} (at : Nanos) (d : Debt) → Accepted c → available_at c (restored c (fresh c at) at d.settles) at ≡ tokens_left c at d
restored_tokens {c} at d a =
    sym (available_by_parts c (restored c (fresh c at) at d.settles) at)
    ∙ ap (λ (n : ℕ). n / P) (by_le fresh_lacks missing (λ more. by_le missing c.capacity (in_part_lem more) (all more)) fewer)
    ∙ mul-div_cancel (tokens_left c at d) a.period_least
  where
    P : ℕ
    P = c.period.0

    missing : ℕ
    missing = missing_tokens c (d.settles.0 - at.0)

    fresh_lacks : ℕ
    fresh_lacks = c.capacity - c.initial

    Has : Type 0
    Has = full_parts c - shortfall_at c (restored c (fresh c at) at d.settles) at ≡ tokens_left c at d * P

    in_part_lem : fresh_lacks ≤ missing → missing ≤ c.capacity → Has
    in_part_lem more within =
        let whole : full_parts c ≡ (missing + tokens_left c at d) * P = ap (λ (n : ℕ). n * P) (omega arith) in
        omega (arith, restored_shortfall at d.settles a, mul-le-mul_right P more)

    all : fresh_lacks ≤ missing → c.capacity < missing → Has
    all more over =
        let none : tokens_left c at d * P ≡ 0 * P = ap (λ (n : ℕ). n * P) (omega arith) in
        omega (arith, restored_shortfall at d.settles a, mul-le-mul_right P (le_of_lt over))

    fewer : missing < fresh_lacks → Has
    fewer less =
        let whole : full_parts c ≡ (fresh_lacks + tokens_left c at d) * P = ap (λ (n : ℕ). n * P) (omega (arith, a.initial_most)) in
        omega (arith, restored_shortfall at d.settles a, mul-le-mul_right P (le_of_lt less))

-- What comes back until a later moment is a token at least.
some_missing : {c : BucketConfig} (remaining : ℕ) → Accepted c → 0 < remaining → 0 < missing_tokens c remaining
some_missing {c} remaining a some =
    by_eq (missing_tokens c remaining) 0
    (λ none.
    let nothing : missing_tokens c remaining * c.period.0 ≡ 0 * c.period.0 = ap (λ (n : ℕ). n * c.period.0) none in
    absurd (omega (arith, mul-pos some a.amount_least, ceil_div_reaches (remaining * c.amount) c.period.0 a.period_least)))
    (λ some. omega (arith, some))

-- With how many tokens a key without a slot comes back, by the records of its hash: with those of a fresh bucket where there is none; else with those that the
-- debt leaves.
pub data Returns (c : BucketConfig) (at : Nanos) (records : List Debt) (tokens : ℕ) : Type 0 where
  fresh_returns : records ≡ [] → tokens ≡ c.initial → Returns c at records tokens
  debtor_returns : (d : Debt) → records ≡ d ∷ [] → at.0 < d.settles.0 → tokens ≡ tokens_left c at d → Returns c at records tokens

returns_as_owed : {c : BucketConfig} (at : Nanos) (hash : ℕ) (owed : Option Nanos) → Accepted c
    → Returns c at (owed_after at hash owed) (available_at c (returning c at owed) at)
returns_as_owed at hash None a = fresh_returns refl (fresh_available at a)
returns_as_owed {c} at hash (Some settles) a =
    let d : Debt = record { hash = hash; settles = settles } in
    by_le settles.0 at.0
    (λ by_then. fresh_returns (settled_is_left_out at d by_then)
    (ap (λ (b : BucketCore). available_at c b at) (sym (restored_settled c (fresh c at) at settles (omega arith))) ∙ fresh_available at a))
    (λ later. debtor_returns d (owing_is_unsettled at d later) later (restored_tokens at d a))

-- So it has fewer tokens than a full bucket where there is a record, those that the debt leaves where that is the record, and those of a fresh bucket where
-- there is none.
module _ {c : BucketConfig} {at : Nanos} {records : List Debt} {tokens : ℕ} where
  debtor_lacks_tokens : Returns c at records tokens → Accepted c → (records ≡ [] → ⊥) → tokens < c.capacity
  debtor_lacks_tokens (fresh_returns none has) a some = absurd (some none)
  debtor_lacks_tokens (debtor_returns d one later has) a some =
      omega (arith, has, a.capacity_least, some_missing (d.settles.0 - at.0) a (omega arith))

  debtor_has : Returns c at records tokens → (d : Debt) → records ≡ d ∷ [] → tokens ≡ tokens_left c at d
  debtor_has (fresh_returns none has) d is = absurd (omega (arith, ap (λ (ds : List Debt). length ds) (sym none ∙ is)))
  debtor_has (debtor_returns e one later has) d is = rw (ap (λ (ds : List Debt). (get_or ds 0 no_debt).settles.0) (sym is ∙ one)) has

  other_has : Returns c at records tokens → records ≡ [] → tokens ≡ c.initial
  other_has (fresh_returns none has) is = has
  other_has (debtor_returns d one later has) is = absurd (omega (arith, ap (λ (ds : List Debt). length ds) (sym is ∙ one)))

-- A key without a slot, at an accepted rate.
module _ (rate : Rate) (a : Accepted (config_of rate)) (own : Shard) (each : FindsEach own) (at : Nanos) (id : Identity)
    (new : place_of own id.hash id.key ≡ None) where
  -- It comes back as the list says.
  pub returns_as_listed : Returns (config_of rate) at (of_hash id.hash (listed at own.ledger)) (tokens_in (Open rate) at id own)
  returns_as_listed =
      rw (listed_is_owed own each at id.hash, view_without_slot (config_of rate) id at own new)
      (returns_as_owed at id.hash (owed_by own.ledger id.hash) a)

  -- If its debt is listed, it has fewer tokens than a full bucket.
  pub listed_key_lacks_tokens : (of_hash id.hash (listed at own.ledger) ≡ [] → ⊥) → tokens_in (Open rate) at id own < (config_of rate).capacity
  listed_key_lacks_tokens some = debtor_lacks_tokens returns_as_listed a some

  -- It has the tokens that the listed debt leaves.
  pub listed_key_has : (d : Debt) → of_hash id.hash (listed at own.ledger) ≡ d ∷ [] → tokens_in (Open rate) at id own ≡ tokens_left (config_of rate) at d
  listed_key_has d is = debtor_has returns_as_listed d is

  -- If no debt of its hash is listed, it has the tokens of a fresh bucket.
  pub unlisted_key_has : of_hash id.hash (listed at own.ledger) ≡ [] → tokens_in (Open rate) at id own ≡ (config_of rate).initial
  unlisted_key_has none = other_has returns_as_listed none
