-- The token bucket, on numbers. A token is P parts, and a bucket is known by its shortfall: how many parts it is below full, and since when.
use Rattle.std.specs.Prelude.{ℕ, ◌+◌, ◌*◌, ◌-◌, ◌/◌, ◌≤◌, ◌^◌, min, max, Bool, true, false, not, cond, ◌&&◌, leb, eqb}
use Rattle.arith.specs.Arith.{ceil_div, saturated}
use Rattle.units.specs.declared.Nanos.{Nanos}
use Rattle.bucket.specs.declared.BucketConfig.{BucketConfig}
use Rattle.bucket.specs.declared.BucketCore.{BucketCore}
use Rattle.bucket.specs.declared.Request.{Request}
use Rattle.bucket.specs.declared.Request.TheVariants.{Acquire, Reserve, Through}
use Rattle.bucket.specs.declared.BucketDecision.TheVariants.{Allowed, Denied}
use Rattle.bucket.specs.declared.BucketOutcome.{BucketOutcome}
use Rattle.bucket.specs.declared.Due.{Due}

-- The rates that are accepted. Every function of the bucket may count on these ranges; the settings' refusals see to them.
pub record Accepted (c : BucketConfig) : Type 0 where
  pub amount_least : 1 ≤ c.amount
  pub amount_most : c.amount ≤ 65535
  pub period_least : 1 ≤ c.period.0
  pub period_most : c.period.0 ≤ 2 ^ 46
  pub capacity_least : 1 ≤ c.capacity
  pub capacity_most : c.capacity ≤ 65535
  pub initial_most : c.initial ≤ c.capacity

-- So many tokens, in parts.
abbrev pub parts_of : BucketConfig → ℕ → ℕ
parts_of c tokens = tokens * c.period.0

-- The parts of a full bucket.
abbrev pub full_parts : BucketConfig → ℕ
full_parts c = parts_of c c.capacity

-- No shortfall is read as more than this, whatever word is stored.
abbrev pub most_shortfall : BucketConfig → ℕ
most_shortfall c = full_parts c + 2 ^ 62

-- A stored shortfall, as it is read.
abbrev pub read_shortfall : BucketConfig → BucketCore → ℕ
read_shortfall c b = min b.shortfall (most_shortfall c)

-- The shortfall at a moment: `amount` parts have come back for each nanosecond since the stamp, down to 0. Before the stamp nothing has come back:
-- the difference of natural numbers is then 0.
unfoldable pub shortfall_at : BucketConfig → BucketCore → Nanos → ℕ
shortfall_at c b at = read_shortfall c b - (at.0 - b.stamp.0) * c.amount

-- The whole tokens that are there; none where the shortfall is more than a full bucket.
unfoldable pub available_at : BucketConfig → BucketCore → Nanos → ℕ
available_at c b at = (full_parts c - shortfall_at c b at) / c.period.0

-- A bucket is full where nothing is missing.
abbrev pub full_at : BucketConfig → BucketCore → Nanos → Bool
full_at c b at = eqb (shortfall_at c b at) 0

-- A fresh bucket holds the initial tokens.
abbrev pub fresh : BucketConfig → Nanos → BucketCore
fresh c at = record { shortfall = parts_of c (c.capacity - c.initial); stamp = at }

-- The parts that a bucket lacks for a cost.
abbrev pub lack_for : BucketConfig → BucketCore → ℕ → Nanos → ℕ
lack_for c b cost at = shortfall_at c b at + parts_of c cost - full_parts c

-- A wait at a moment, with the time until the stamp. Nothing comes back before the stamp, so a wait above 0 grows by the time until then, held to 64 bits.
-- A stamp that is not after the moment adds nothing: the difference of natural numbers is then 0.
unfoldable pub grown : BucketCore → Nanos → ℕ → ℕ
grown b at wait = cond (eqb wait 0) 0 (saturated (wait + (b.stamp.0 - at.0)))

-- How long a cost has to wait: 0 for cost 0, else until the parts that the bucket lacks for it have come back, rounded up, with the time until the stamp.
unfoldable pub wait_at : BucketConfig → BucketCore → ℕ → Nanos → ℕ
wait_at c b cost at = cond (eqb cost 0) 0 (grown b at (ceil_div (lack_for c b cost at) c.amount))

-- Due after a wait: the wait, and the moment of the call plus it, held to 64 bits.
abbrev pub due_after : Nanos → Nanos → Due
due_after at wait = record { wait = wait; moment = record { 0 = saturated (at.0 + wait.0) } }

-- When the tokens of a cost are due.
abbrev pub due_at : BucketConfig → BucketCore → ℕ → Nanos → Due
due_at c b cost at = due_after at (record { 0 = wait_at c b cost at })

-- How long the bucket takes to regain so many parts, rounded up, counted from when parts come back.
abbrev pub recovery_of : BucketConfig → ℕ → ℕ
recovery_of c shortfall = ceil_div shortfall c.amount

-- The recovery: the wait for as many tokens as the bucket can hold.
abbrev pub recovery_at : BucketConfig → BucketCore → Nanos → ℕ
recovery_at c b at = wait_at c b c.capacity at

-- What a grant stores: the parts of the cost on top of the shortfall at that moment, and the later of the stamp and the moment.
abbrev pub spent : BucketConfig → BucketCore → ℕ → Nanos → BucketCore
spent c b cost at = record { shortfall = shortfall_at c b at + parts_of c cost; stamp = record { 0 = max b.stamp.0 at.0 } }

-- The longest wait that a request takes: a try none, a reservation its own.
abbrev pub longest_wait : Request → ℕ
longest_wait Acquire = 0
longest_wait (Reserve longest) = longest.0
longest_wait (Through others) = 0

-- The wait of a request, given the wait for this bucket. A try through other buckets waits until all of them have the cost: for the larger of the two waits.
abbrev pub wait_to : Request → ℕ → ℕ
wait_to Acquire own = own
wait_to (Reserve longest) own = own
wait_to (Through others) own = max own others.0

abbrev pub request_wait : BucketConfig → Request → BucketCore → ℕ → Nanos → ℕ
request_wait c request b cost at = wait_to request (wait_at c b cost at)

-- When a request is due.
abbrev pub request_due : BucketConfig → Request → BucketCore → ℕ → Nanos → Due
request_due c request b cost at = due_after at (record { 0 = request_wait c request b cost at })

-- A try wants its tokens now. A reservation is no try, whatever wait it takes.
abbrev pub is_try : Request → Bool
is_try Acquire = true
is_try (Reserve longest) = false
is_try (Through others) = true

-- Whether a denial turns a try away: the bucket itself makes it wait, and not other buckets alone.
abbrev pub does_turn_away : Request → ℕ → Bool
does_turn_away request own = is_try request && not (eqb own 0)

-- A request is granted where its wait is within its longest wait, and then the bucket is charged. A denial stores nothing. Both tell when the request is due.
unfoldable pub asked : BucketConfig → Request → BucketCore → ℕ → Nanos → BucketOutcome
asked c request b cost at =
    cond (leb (request_wait c request b cost at) (longest_wait request))
    (record { decision = Allowed (request_due c request b cost at); bucket = spent c b cost at; turns_away = false })
    (record { decision = Denied (request_due c request b cost at); bucket = b; turns_away = does_turn_away request (wait_at c b cost at) })

-- A refund lowers the shortfall, as read, by the parts of the cost, down to 0. The stamp stays.
abbrev pub refunded : BucketConfig → BucketCore → ℕ → BucketCore
refunded c b cost = record { shortfall = read_shortfall c b - parts_of c cost; stamp = b.stamp }
