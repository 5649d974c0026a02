-- Worked examples of the bucket and of a restored debt, computed from the definitions.
use Prim.Native.Nat.{ℕ, ◌-◌, ◌^◌}
use mathlib.Core.Path.{◌≡◌, refl}
use mathlib.Core.Bool.{Bool, true, false}
use Rattle.arith.specs.Arith.{ceil_div}
use Rattle.units.specs.declared.Nanos.{Nanos}
use Rattle.bucket.specs.declared.BucketConfig.{BucketConfig}
use Rattle.bucket.specs.declared.BucketCore.{BucketCore}
use Rattle.bucket.specs.declared.BucketDecision.TheVariants.{Allowed, Denied}
use Rattle.bucket.specs.declared.BucketOutcome.{BucketOutcome}
use Rattle.bucket.specs.declared.Request.TheVariants.{Acquire, Reserve, Through}
use Rattle.bucket.specs.Bucket.{shortfall_at, available_at, fresh, grown, wait_at, due_after, due_at, recovery_at, spent, asked}
use Rattle.bucket.specs.Debt.{taken_out, lacking, restored}

-- A rate whose fresh buckets are full, and such a bucket that spends at moment 0.
abbrev rate : ℕ → ℕ → ℕ → BucketConfig
rate amount period capacity = record { capacity = capacity; amount = amount; period = record { 0 = period }; initial = capacity }

abbrev start : Nanos
start = record { 0 = 0 }

abbrev spender : BucketConfig → ℕ → BucketCore
spender c cost = spent c (fresh c start) cost start

-- 3 tokens every 10 ns, up to 4: a spent token is back after 4 ns, in which 2 tokens, rounded up, come back. So who is forgotten and returns at once
-- has 2 left, not 3.
abbrev uneven : BucketConfig
uneven = rate 3 10 4

pub missing_rounded_up :
    available_at uneven (restored uneven (fresh uneven start) start (record { 0 = recovery_at uneven (spender uneven 1) start })) start ≡ 2
unfolding ceil_div shortfall_at available_at grown wait_at taken_out lacking restored
missing_rounded_up = refl

-- 2 tokens a second, up to 4: after all 4 are spent the next is there in half a second.
abbrev two_per_second : BucketConfig
two_per_second = rate 2 1000000000 4

-- A try for it then is told the first moment at which a try is granted: a nanosecond before it a try is denied.
abbrev empty : BucketCore
empty = spender two_per_second 4

abbrev told : Nanos
told = (due_at two_per_second empty 1 start).moment

abbrev before_told : Nanos
before_told = record { 0 = told.0 - 1 }

pub denied_before_the_told_moment :
    asked two_per_second Acquire empty 1 before_told
    ≡ record { decision = Denied (due_after before_told (record { 0 = 1 })); bucket = empty; turns_away = true }
unfolding ceil_div shortfall_at grown wait_at asked
denied_before_the_told_moment = refl

pub granted_at_the_told_moment :
    asked two_per_second Acquire empty 1 told
    ≡ record { decision = Allowed (due_after told (record { 0 = 0 })); bucket = spent two_per_second empty 1 told; turns_away = false }
unfolding ceil_div shortfall_at grown wait_at asked
granted_at_the_told_moment = refl

pub half_a_second_for_one : wait_at two_per_second (spender two_per_second 4) 1 start ≡ 500000000
unfolding ceil_div shortfall_at grown wait_at
half_a_second_for_one = refl

-- 65,535 tokens a second: a spent token is back after 15,259.02 ns, rounded up.
abbrev fastest : BucketConfig
fastest = rate 65535 1000000000 65535

pub recovery_rounded_up : recovery_at fastest (spender fastest 1) start ≡ 15260
unfolding ceil_div shortfall_at grown wait_at
recovery_rounded_up = refl

-- The clock is set back. The bucket spends its 4 tokens at 10 s, and the clock is set back to 8 s. A token then takes 2 s up to the stamp and half a second.
-- It is due at 10.5 s, as it was before the clock was set back. All 4 tokens take 4 s, and are due at 12 s.
abbrev ten_seconds : Nanos
ten_seconds = record { 0 = 10000000000 }

abbrev set_back : Nanos
set_back = record { 0 = 8000000000 }

abbrev ahead : ℕ → BucketCore
ahead cost = spent two_per_second (fresh two_per_second ten_seconds) cost ten_seconds

pub set_back_by_two_seconds : due_at two_per_second (ahead 4) 1 set_back ≡ record { wait = record { 0 = 2500000000 }; moment = record { 0 = 10500000000 } }
unfolding ceil_div shortfall_at grown wait_at
set_back_by_two_seconds = refl

-- A reservation's longest wait is compared with these 2.5 s. So one that waits 2 s at most is denied, though half a second is enough for its token.
abbrev reserved : ℕ → BucketOutcome
reserved longest = asked two_per_second (Reserve (record { 0 = longest })) (ahead 4) 1 set_back

pub two_seconds_are_not_enough :
    reserved 2000000000 ≡ record { decision = Denied (due_after set_back (record { 0 = 2500000000 })); bucket = ahead 4; turns_away = false }
unfolding ceil_div shortfall_at grown wait_at asked
two_seconds_are_not_enough = refl

pub two_and_a_half_seconds_are_enough :
    reserved 2500000000
    ≡ record { decision = Allowed (due_after set_back (record { 0 = 2500000000 })); bucket = spent two_per_second (ahead 4) 1 set_back; turns_away = false }
unfolding ceil_div shortfall_at grown wait_at asked
two_and_a_half_seconds_are_enough = refl

pub due_when_it_was_due : due_at two_per_second (ahead 4) 1 ten_seconds ≡ record { wait = record { 0 = 500000000 }; moment = record { 0 = 10500000000 } }
unfolding ceil_div shortfall_at grown wait_at
due_when_it_was_due = refl

pub recovery_set_back : recovery_at two_per_second (ahead 4) set_back ≡ 4000000000
unfolding ceil_div shortfall_at grown wait_at
recovery_set_back = refl

-- A cost that can be met at once still waits 0: 1 of 4 tokens was spent, and 3 are there.
pub met_at_once_though_set_back : due_at two_per_second (ahead 1) 3 set_back ≡ record { wait = record { 0 = 0 }; moment = set_back }
unfolding ceil_div shortfall_at grown wait_at
met_at_once_though_set_back = refl

-- At the stamp itself nothing is added.
pub nothing_added_at_the_stamp : wait_at two_per_second (ahead 4) 4 ten_seconds ≡ 2000000000
unfolding ceil_div shortfall_at grown wait_at
nothing_added_at_the_stamp = refl

-- Wait and moment are held to 64 bits: the stamp is the largest number of 64 bits. At moment 0 both are held, a little later
-- than 2 s the moment alone.
abbrev last : ℕ
last = 2 ^ 64 - 1

abbrev far_ahead : BucketCore
far_ahead = record { shortfall = 4000000000; stamp = record { 0 = last } }

pub wait_is_held : due_at two_per_second far_ahead 4 start ≡ record { wait = record { 0 = last }; moment = record { 0 = last } }
unfolding ceil_div shortfall_at grown wait_at
wait_is_held = refl

pub moment_is_held : due_at two_per_second far_ahead 4 (record { 0 = 2000000001 }) ≡ record { wait = record { 0 = last - 1 }; moment = record { 0 = last } }
unfolding ceil_div shortfall_at grown wait_at
moment_is_held = refl

-- A try through other buckets, of a bucket that lets 1 token wait half a second. Where the others wait less, it waits for its own bucket, which turns it away.
-- Where they wait longer, it waits for them, and is turned away all the same. A full bucket grants where the others have no wait; where they have one, it is
-- denied, charges nothing and turns nobody away.
abbrev through : ℕ → BucketCore → BucketOutcome
through others b = asked two_per_second (Through (record { 0 = others })) b 1 start

abbrev denied_for : ℕ → BucketCore → Bool → BucketOutcome
denied_for wait b away = record { decision = Denied (due_after start (record { 0 = wait })); bucket = b; turns_away = away }

pub own_bucket_waits_longer : through 1000 empty ≡ denied_for 500000000 empty true
unfolding ceil_div shortfall_at grown wait_at asked
own_bucket_waits_longer = refl

pub others_wait_longer : through 700000000 empty ≡ denied_for 700000000 empty true
unfolding ceil_div shortfall_at grown wait_at asked
others_wait_longer = refl

abbrev full : BucketCore
full = fresh two_per_second start

pub others_alone_deny : through 1 full ≡ denied_for 1 full false
unfolding ceil_div shortfall_at grown wait_at asked
others_alone_deny = refl

pub all_grant :
    through 0 full ≡ record { decision = Allowed (due_after start (record { 0 = 0 })); bucket = spent two_per_second full 1 start; turns_away = false }
unfolding ceil_div shortfall_at grown wait_at asked
all_grant = refl
