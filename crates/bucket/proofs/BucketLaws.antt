-- The bucket's arithmetic: what fits 64 bits at an accepted rate, each case of a definition with a test, and how a shortfall falls.
-- The worked examples are imported so that they are checked first: a wrong definition is then refused for a wrong number, before any law that quotes it.
use Prim.Native.Nat.{ℕ, ◌+◌, ◌*◌, ◌-◌, ◌/◌, ◌≤◌, ◌<◌, ◌^◌}
use mathlib.Core.Path.{◌≡◌, refl, ap, sym, ◌∙◌}
use mathlib.Core.Bool.{Bool, true, false}
use native.Mathlib.Nat.{mul_comm, mul-le-mul, mul-le-mul_left, mul-le-mul_right, mul-pos, mul-div_cancel, div-mul-le_self, sub-zero}
use native.Mathlib.Omega.{arith}
use borrow.Author.Tests.{eq-eqb, ne_eqb, le-leb, lt-leb, eqb-true}
use Rattle.arith.specs.Arith.{ceil_div, saturated}
use Rattle.arith.proofs.Cases.{by_eq}
use Rattle.arith.proofs.DivisionLaws.{ceil_div_least, ceil_div_only}
use Rattle.units.specs.declared.Nanos.{Nanos}
use Rattle.bucket.specs.declared.BucketConfig.{BucketConfig}
use Rattle.bucket.specs.declared.BucketCore.{BucketCore}
use Rattle.bucket.specs.declared.Request.{Request}
use Rattle.bucket.specs.declared.Request.TheVariants.{Acquire, Reserve, Through}
use Rattle.bucket.specs.declared.BucketDecision.TheVariants.{Allowed, Denied}
use Rattle.bucket.specs.Bucket.{Accepted, parts_of, full_parts, most_shortfall, read_shortfall, shortfall_at, available_at, full_at, lack_for, grown, wait_at}
use Rattle.bucket.specs.Bucket.{recovery_of, recovery_at, due_after, spent, longest_wait, wait_to, request_wait, request_due, does_turn_away, asked, refunded}
use Rattle.bucket.specs.declared.Due.{Due}

-- At an accepted rate a full bucket has less than 2^62 parts, so the most shortfall is below 2^63: every sum of the bucket fits 64 bits.
pub full_parts_most : {c : BucketConfig} → Accepted c → full_parts c ≤ 2 ^ 62 - 2 ^ 46
full_parts_most a = mul-le-mul a.capacity_most a.period_most

pub most_shortfall_fits : {c : BucketConfig} → Accepted c → most_shortfall c < 2 ^ 63
most_shortfall_fits a = omega (arith, full_parts_most a)

-- Tokens that a bucket can hold have no more parts than a full one, so their product with the period fits.
pub parts_within : (c : BucketConfig) (tokens : ℕ) → tokens ≤ c.capacity → parts_of c tokens ≤ full_parts c
parts_within c tokens h = mul-le-mul_right c.period.0 h

pub parts_fit : {c : BucketConfig} (tokens : ℕ) → Accepted c → tokens ≤ c.capacity → parts_of c tokens < 2 ^ 64
parts_fit {c} tokens a h = omega (arith, parts_within c tokens h, full_parts_most a)

-- No shortfall is more than the most, whatever word is stored; so what a grant stores fits.
pub shortfall_most : (c : BucketConfig) (b : BucketCore) (at : Nanos) → shortfall_at c b at ≤ most_shortfall c
unfolding shortfall_at
shortfall_most c b at = omega arith

pub grant_fits : {c : BucketConfig} (b : BucketCore) (cost : ℕ) (at : Nanos) → Accepted c → cost ≤ c.capacity → shortfall_at c b at + parts_of c cost < 2 ^ 64
grant_fits {c} b cost at a h = omega (arith, shortfall_most c b at, parts_within c cost h, full_parts_most a)

-- What is taken from a number below 2^64 may be held to 64 bits first: past that the difference is 0 either way.
pub fall_saturated : (x fall : ℕ) → x < 2 ^ 64 → x - saturated fall ≡ x - fall
fall_saturated x fall h = omega arith

-- The shortfall, by a fall held to 64 bits: the code's product of elapsed time and amount may be wider.
pub shortfall_by_saturated : {c : BucketConfig} (b : BucketCore) (at : Nanos) → Accepted c →
    read_shortfall c b - saturated ((at.0 - b.stamp.0) * c.amount) ≡ shortfall_at c b at
unfolding shortfall_at
shortfall_by_saturated b at a = fall_saturated _ _ (omega (arith, most_shortfall_fits a))

-- The tokens that are there are the whole tokens among the parts that are there.
pub available_by_parts : (c : BucketConfig) (b : BucketCore) (at : Nanos) → (full_parts c - shortfall_at c b at) / c.period.0 ≡ available_at c b at
unfolding available_at
available_by_parts c b at = refl

-- A refund, by parts held to 64 bits: its cost is any 32-bit number, so they may be more.
pub refund_by_saturated : {c : BucketConfig} (b : BucketCore) (cost : ℕ) → Accepted c →
    record { shortfall = read_shortfall c b - saturated (c.period.0 * cost); stamp = b.stamp } ≡ refunded c b cost
refund_by_saturated {c} b cost a =
    rw (mul_comm c.period.0 cost) (ap (λ (n : ℕ). record { shortfall = n; stamp = b.stamp }) (fall_saturated _ _ (omega (arith, most_shortfall_fits a))))

-- A wait with the time until the stamp: none stays none, another grows. It fits 64 bits, is no shorter than it was, and at the stamp or after it is the same.
pub no_wait_stays_none : (b : BucketCore) (at : Nanos) (wait : ℕ) → wait ≡ 0 → 0 ≡ grown b at wait
unfolding grown
no_wait_stays_none b at wait none = rw (eq-eqb _ _ none)

pub wait_grows : (b : BucketCore) (at : Nanos) (wait : ℕ) → (wait ≡ 0 → ⊥) → saturated (wait + (b.stamp.0 - at.0)) ≡ grown b at wait
unfolding grown
wait_grows b at wait some = rw (ne_eqb _ _ some)

pub grown_fits : (b : BucketCore) (at : Nanos) (wait : ℕ) → grown b at wait < 2 ^ 64
grown_fits b at wait =
    by_eq wait 0 (λ none. omega (arith, no_wait_stays_none b at wait none)) (λ some. omega (arith, wait_grows b at wait some))

pub grown_no_shorter : (b : BucketCore) (at : Nanos) (wait : ℕ) → wait < 2 ^ 64 → wait ≤ grown b at wait
grown_no_shorter b at wait fits =
    by_eq wait 0 (λ none. omega (arith, none)) (λ some. omega (arith, wait_grows b at wait some))

pub not_grown_from_the_stamp_on : (b : BucketCore) (at : Nanos) (wait : ℕ) → b.stamp.0 ≤ at.0 → wait < 2 ^ 64 → grown b at wait ≡ wait
not_grown_from_the_stamp_on b at wait passed fits =
    by_eq wait 0 (λ none. omega (arith, none, no_wait_stays_none b at wait none)) (λ some. omega (arith, wait_grows b at wait some))

-- The wait: none for no cost; else until what the bucket lacks has come back; so none where it lacks nothing, and there the code does not divide.
pub no_cost_no_wait : (c : BucketConfig) (b : BucketCore) (cost : ℕ) (at : Nanos) → cost ≡ 0 → 0 ≡ wait_at c b cost at
unfolding wait_at
no_cost_no_wait c b cost at e = rw (eq-eqb _ _ e)

pub wait_for_lack : (c : BucketConfig) (b : BucketCore) (cost : ℕ) (at : Nanos) → (cost ≡ 0 → ⊥) →
    grown b at (ceil_div (lack_for c b cost at) c.amount) ≡ wait_at c b cost at
unfolding wait_at
wait_for_lack c b cost at n = rw (ne_eqb _ _ n)

pub wait_fits : (c : BucketConfig) (b : BucketCore) (cost : ℕ) (at : Nanos) → wait_at c b cost at < 2 ^ 64
wait_fits c b cost at =
    by_eq cost 0
    (λ none. omega (arith, no_cost_no_wait c b cost at none))
    (λ some. omega (arith, wait_for_lack c b cost at some, grown_fits b at (ceil_div (lack_for c b cost at) c.amount)))

pub enough_no_wait : {c : BucketConfig} (b : BucketCore) (cost : ℕ) (at : Nanos) → Accepted c →
    shortfall_at c b at + parts_of c cost ≤ full_parts c → 0 ≡ wait_at c b cost at
enough_no_wait {c} b cost at a h =
    by_eq cost 0 (no_cost_no_wait c b cost at)
    (λ n.
    let none : ceil_div (lack_for c b cost at) c.amount ≡ 0 = ceil_div_only _ c.amount 0 a.amount_least (omega arith) (omega arith) in
    no_wait_stays_none b at _ none ∙ wait_for_lack c b cost at n)

-- The recovery of a bucket is that of its shortfall, grown.
pub recovery_of_shortfall : {c : BucketConfig} (b : BucketCore) (at : Nanos) → Accepted c
    → grown b at (recovery_of c (shortfall_at c b at)) ≡ recovery_at c b at
recovery_of_shortfall {c} b at a =
    let same : shortfall_at c b at ≡ lack_for c b c.capacity at = omega arith in
    ap (λ (n : ℕ). grown b at (recovery_of c n)) same ∙ wait_for_lack c b c.capacity at (λ e. omega (arith, a.capacity_least))

-- What a bucket lacks has come back in no more nanoseconds than the most shortfall has parts, since at least one part comes back each nanosecond. So that wait
-- fits 64 bits, before it grows.
pub lack_comes_back_in_time : {c : BucketConfig} (b : BucketCore) (cost : ℕ) (at : Nanos) → Accepted c → cost ≤ c.capacity
    → ceil_div (lack_for c b cost at) c.amount < 2 ^ 63
lack_comes_back_in_time {c} b cost at a within =
    let most : ℕ = most_shortfall c in
    let lack : lack_for c b cost at ≤ most * c.amount =
    omega (arith, shortfall_most c b at, parts_within c cost within, mul-le-mul_left most a.amount_least) in
    omega (arith, ceil_div_least _ c.amount most a.amount_least lack, most_shortfall_fits a)

pub recovery_in_time : {c : BucketConfig} (b : BucketCore) (at : Nanos) → Accepted c → recovery_of c (shortfall_at c b at) < 2 ^ 63
recovery_in_time {c} b at a =
    let same : shortfall_at c b at ≡ lack_for c b c.capacity at = omega arith in
    rw same (lack_comes_back_in_time b c.capacity at a (omega arith))

-- From the stamp on nothing is added to them: they are what they are.
pub wait_from_the_stamp_on : {c : BucketConfig} (b : BucketCore) (cost : ℕ) (at : Nanos) → Accepted c → cost ≤ c.capacity → (cost ≡ 0 → ⊥)
    → b.stamp.0 ≤ at.0 → ceil_div (lack_for c b cost at) c.amount ≡ wait_at c b cost at
wait_from_the_stamp_on b cost at a within some passed =
    sym (not_grown_from_the_stamp_on b at _ passed (omega (arith, lack_comes_back_in_time b cost at a within))) ∙ wait_for_lack _ b cost at some

pub recovery_from_the_stamp_on : {c : BucketConfig} (b : BucketCore) (at : Nanos) → Accepted c → b.stamp.0 ≤ at.0
    → recovery_of c (shortfall_at c b at) ≡ recovery_at c b at
recovery_from_the_stamp_on b at a passed =
    sym (not_grown_from_the_stamp_on b at _ passed (omega (arith, recovery_in_time b at a))) ∙ recovery_of_shortfall b at a

-- When something is due, by the number of the wait. (A contract gives the number of a wait, an answer tells when the cost is due.)
pub due_by_number : (at wait : Nanos) {n : ℕ} → wait.0 ≡ n → due_after at wait ≡ due_after at (record { 0 = n })
due_by_number at wait e = ap (λ (n : ℕ). due_after at (record { 0 = n })) e

-- The two answers to a request: granted and charged where its wait is within its longest wait, else denied with the bucket as it was.
module _ (c : BucketConfig) (request : Request) (b : BucketCore) (cost : ℕ) (at : Nanos) where
  pub granted_within_longest : request_wait c request b cost at ≤ longest_wait request
      → asked c request b cost at ≡ record { decision = Allowed (request_due c request b cost at); bucket = spent c b cost at; turns_away = false }
  unfolding asked
  granted_within_longest h = rw (le-leb _ _ h)

  pub denied_beyond_longest : longest_wait request < request_wait c request b cost at
      → asked c request b cost at
      ≡ record { decision = Denied (request_due c request b cost at); bucket = b; turns_away = does_turn_away request (wait_at c b cost at) }
  unfolding asked
  denied_beyond_longest h = rw (lt-leb _ _ h)

-- A request that is granted waits for its own bucket alone: where other buckets let it wait, it is denied.
pub granted_waits_own : (request : Request) (own : ℕ) → wait_to request own ≤ longest_wait request → wait_to request own ≡ own
granted_waits_own Acquire own within = refl
granted_waits_own (Reserve longest) own within = refl
granted_waits_own (Through others) own within = omega arith

-- The same as the code comes to it: the wait by its number, and the bucket as it was worked out before.
module _ (c : BucketConfig) (request : Request) (b : BucketCore) (cost : ℕ) (at : Nanos) {own wait : Nanos} {due : Due}
    (is_own : own.0 ≡ wait_at c b cost at) (is_wait : wait.0 ≡ wait_to request own.0) (is_due : due ≡ due_after at wait) where
  wait_is : wait.0 ≡ request_wait c request b cost at
  wait_is = is_wait ∙ ap (wait_to request) is_own

  due_is_told : due ≡ request_due c request b cost at
  due_is_told = is_due ∙ due_by_number at wait wait_is

  pub grant_is_told : {after : BucketCore} → after ≡ spent c b cost at → wait.0 ≤ longest_wait request
      → record { decision = Allowed due; bucket = after; turns_away = false } ≡ asked c request b cost at
  grant_is_told is_after within = rw (due_is_told, is_after) (sym (granted_within_longest c request b cost at (rw wait_is at within)))

  pub denial_is_told : {turned : Bool} → turned ≡ does_turn_away request own.0 → longest_wait request < wait.0
      → record { decision = Denied due; bucket = b; turns_away = turned } ≡ asked c request b cost at
  denial_is_told is_turned beyond =
      rw (due_is_told, is_turned, is_own) (sym (denied_beyond_longest c request b cost at (rw wait_is at beyond)))

-- From one moment to a later one no more comes back than the amount for each nanosecond between them. Bounds over a span of time rest on this.
pub shortfall_falls_slowly : (c : BucketConfig) (b : BucketCore) (earlier later : Nanos) → earlier.0 ≤ later.0 →
    earlier.0 * c.amount + shortfall_at c b earlier ≤ later.0 * c.amount + shortfall_at c b later
unfolding shortfall_at
shortfall_falls_slowly c b t u h =
    let A : ℕ = c.amount in
    let came : ℕ = t.0 - b.stamp.0 in
    let longer : (u.0 - b.stamp.0) * A ≤ (came + (u.0 - t.0)) * A = mul-le-mul_right A (omega arith) in
    let between : u.0 * A ≡ (t.0 + (u.0 - t.0)) * A = ap (λ (n : ℕ). n * A) (omega arith) in
    omega arith

-- A bucket is full exactly where all its tokens are there: the Rust tests the tokens before it forgets a bucket, the definitions the shortfall.
pub full_all_available : {c : BucketConfig} (b : BucketCore) (at : Nanos) → Accepted c → full_at c b at ≡ true → available_at c b at ≡ c.capacity
unfolding available_at
full_all_available {c} b at a full = rw (eqb-true (shortfall_at c b at) 0 full, sub-zero) (mul-div_cancel c.capacity a.period_least)

pub all_available_full : {c : BucketConfig} (b : BucketCore) (at : Nanos) → Accepted c → available_at c b at ≡ c.capacity → full_at c b at ≡ true
unfolding available_at
all_available_full {c} b at a all =
    let P : ℕ = c.period.0 in
    let reached : available_at c b at * P ≡ full_parts c = ap (λ (n : ℕ). n * P) all in
    eq-eqb (shortfall_at c b at) 0 (omega (arith, div-mul-le_self (full_parts c - shortfall_at c b at) P, mul-pos a.capacity_least a.period_least))
