-- The edges of document 01 that are theorems, and some of our own beside them (keys that share a hash, the wait of a key's own bucket), as a table: a row has
-- its settings, its calls and what they come to. One test goes over all rows.
use Rattle.std.specs.Prelude.{ℕ, Bool, true, false, ◌&&◌, List, [], ◌∷◌, eqb, replicate, Option, Some, None}
use Rattle.units.specs.declared.Millis.{Millis}
use Rattle.rows.specs.Outcome.{Outcome}
use Rattle.settings.specs.declared.Limit.TheVariants.{Open}
use Rattle.settings.specs.declared.Settings.{Settings}
use Rattle.settings.specs.declared.eviction.Eviction.{Eviction}
use Rattle.settings.specs.declared.rate.Rate.{Rate}
use Rattle.settings.specs.Eviction.{capacity_of, bounded_by}
use Rattle.settings.specs.Settings.{shard_count, cap_of, idle_limit}
use Rattle.hash.specs.Fnv.{fnv1a}
use Rattle.shard.specs.declared.Identity.{Identity}
use Rattle.rules.specs.declared.Reply.{Reply}
use Rattle.rules.specs.Replies.{code_of, number_of, moment_of}
use Rattle.rules.specs.Rules.{set_up}
use Rattle.rules.specs.Calls.{Call, try, reserve, available, times_turned_away, refund, remove, by_key, rules}
use Rattle.store.specs.Memory.{memory_words}

-- Rates by amount, period and burst, with the initial tokens unset. Two tokens a second, up to four, is the rate that document 01 calls R; the last has
-- its burst unset.
abbrev pub rate_of : ℕ → ℕ → ℕ → Rate
rate_of amount period burst = record { amount = amount; period = record { 0 = period }; burst = Some burst; initial = None }

abbrev pub two_per_second : Rate
two_per_second = rate_of 2 1000000000 4

abbrev three_per_ten : Rate
three_per_ten = rate_of 3 10 4

abbrev fastest : Rate
fastest = record { amount = 65535; period = record { 0 = 1000000000 }; burst = None; initial = None }

-- Settings with such a rate. Both builders of the bounds turn new keys away when full.
abbrev pub limited : Rate → Eviction → ℕ → Settings
limited rate bounds shards = record { limit = Open rate; eviction = bounds; shards = shards; classes = 0 }

-- One shard with room for one key.
abbrev for_one_key : Rate → Settings
for_one_key rate = limited rate (capacity_of 1) 1

-- One shard with room for two keys, and an idle time in nanoseconds.
abbrev idle_after : ℕ → Settings
idle_after span = limited two_per_second (bounded_by 2 (record { 0 = span })) 1

-- A key whose hash is its own number.
abbrev pub key_of : ℕ → Identity
key_of n = record { hash = n; key = n }

-- Calls by moment, key and cost, for settings that the row gives.
abbrev pub asks : ℕ → ℕ → ℕ → Settings → Call Settings Identity
asks moment key cost s = try s (record { 0 = moment }) (key_of key) cost

-- A try by a key of the hash 7.
abbrev pub asks_as_seven : ℕ → ℕ → ℕ → Settings → Call Settings Identity
asks_as_seven moment key cost s = try s (record { 0 = moment }) (record { hash = 7; key = key }) cost

abbrev looks_at : ℕ → ℕ → Settings → Call Settings Identity
looks_at moment key s = available s (record { 0 = moment }) (key_of key)

abbrev returns : ℕ → ℕ → Settings → Call Settings Identity
returns key cost s = refund s (key_of key) cost

-- A reservation that waits 0 ns at most, and a look at the count of tries turned away.
abbrev books : ℕ → ℕ → ℕ → Settings → Call Settings Identity
books moment key cost s = reserve s (record { 0 = moment }) (key_of key) cost (record { 0 = 0 })

abbrev counts : ℕ → Settings → Call Settings Identity
counts key s = times_turned_away s (key_of key)

-- A removal.
abbrev forgets : ℕ → Settings → Call Settings Identity
forgets key s = remove s (key_of key)

-- The last answer and the last words of a run through the rules.
abbrev ran_from : Settings → List (Settings → Call Settings Identity) → Outcome Reply (List ℕ) → Outcome Reply (List ℕ)
ran_from s [] o = o
ran_from s (c ∷ cs) o = ran_from s cs (rules by_key (c s) o.after)

-- A run begins with set_up_lem, on memory that is not yet zero.
abbrev ran : Settings → List (Settings → Call Settings Identity) → Outcome Reply (List ℕ)
ran s cs = ran_from s cs (set_up s (replicate (memory_words s) 1))

-- A row of the table.
pub data Edge : Type 0 where
  -- Settings that come to so many shards, places in each and words.
  sized : Settings → (shards cap words : ℕ) → Edge
  -- Settings with an idle limit of so many milliseconds.
  idles : Settings → (limit : ℕ) → Edge
  -- A run whose last answer has this code, this number and this moment, and which leaves these words.
  ends : Settings → List (Settings → Call Settings Identity) → (code number moment : ℕ) → (words : List ℕ) → Edge
  -- Bytes with this hash.
  hashes : List ℕ → (hash : ℕ) → Edge

-- The test of a row.
abbrev same_words : List ℕ → List ℕ → Bool
same_words [] [] = true
same_words [] (y ∷ ys) = false
same_words (x ∷ xs) [] = false
same_words (x ∷ xs) (y ∷ ys) = eqb x y && same_words xs ys

abbrev limit_is : Option Millis → ℕ → Bool
limit_is None limit = false
limit_is (Some ms) limit = eqb ms.0 limit

abbrev tells : Reply → ℕ → ℕ → ℕ → Bool
tells reply code number moment = eqb (code_of reply) code && eqb (number_of reply) number && eqb (moment_of reply) moment

abbrev passes : Edge → Bool
passes (sized s shards cap words) = eqb (shard_count s) shards && eqb (cap_of s) cap && eqb (memory_words s) words
passes (idles s limit) = limit_is (idle_limit s) limit
passes (ends s cs code number moment words) = tells (ran s cs).answer code number moment && same_words (ran s cs).after words
passes (hashes bytes hash) = eqb (fnv1a bytes) hash

-- Every row passes its test.
abbrev pub all_hold : List Edge → Bool
all_hold [] = true
all_hold (edge ∷ rest) = passes edge && all_hold rest

-- The table. The first word is the total of the slots; here it is the slot count of the one shard. The words of a shard are its slot count, hand and sweep,
-- seven a slot (hash, key, shortfall, stamp, mark, last-seen, tries turned away), its debt
-- count and cursor, two a debt (hash, settles-at), then the index of the slots and that of the debts, of two places for each slot and each debt. A place holds
-- 0, or the number of an item, from 0, plus 1; for two places the home of a hash is its last bit.
abbrev pub edges : List Edge
edges =
    -- No keys and no shards asked for: one shard with one place.
    sized (limited two_per_second (capacity_of 0) 0) 1 1 19
    -- 5 keys and 3 shards asked for: 4 shards with two places each.
    ∷ sized (limited two_per_second (capacity_of 5) 3) 4 2 125
    -- More than 16,384 keys raise the shards asked for: 16,385 keys to 2, 32,769 keys to 3, which become 4, and 65,536 keys to 4.
    ∷ sized (limited two_per_second (capacity_of 16385) 1) 2 8193 213029
    ∷ sized (limited two_per_second (capacity_of 32769) 0) 4 8193 426057
    ∷ sized (limited two_per_second (capacity_of 65536) 0) 4 16384 851989
    -- A cost above the burst is impossible, and tells no moment. Cost 0 is granted, and tells now. Neither leaves a slot.
    ∷ ends (for_one_key two_per_second) (asks 0 7 5 ∷ []) 2 0 0 (replicate 19 0)
    ∷ ends (for_one_key two_per_second) (asks 3 7 0 ∷ []) 0 0 3 (replicate 19 0)
    -- An idle time of 1 ns counts as the 2 s that the bucket needs; one of a nanosecond more than 2 s is rounded up to the next millisecond.
    ∷ idles (idle_after 1) 2001
    ∷ idles (idle_after 2000000001) 2002
    -- Key 7, last seen at 0, is full again at 2 s. It is still there when key 8 comes at 2.000999999 s, and has gone when key 8 comes at 2.001 s.
    ∷ ends (idle_after 1) (asks 0 7 4 ∷ asks 2000999999 8 1 ∷ []) 0 0 2000999999
    (2 ∷ 2 ∷ 0 ∷ 1 ∷ 7 ∷ 7 ∷ 4000000000 ∷ 0 ∷ 0 ∷ 0 ∷ 0 ∷ 8 ∷ 8 ∷ 1000000000 ∷ 2000999999 ∷ 0 ∷ 2000 ∷ 0 ∷ 0 ∷ 0 ∷ 0 ∷ 0 ∷ 0 ∷ 0
    ∷ 2 ∷ 0 ∷ 0 ∷ 1 ∷ replicate 4 0)
    ∷ ends (idle_after 1) (asks 0 7 4 ∷ asks 2001000000 8 1 ∷ []) 0 0 2001000000
    (1 ∷ 1 ∷ 0 ∷ 0 ∷ 8 ∷ 8 ∷ 1000000000 ∷ 2001000000 ∷ 0 ∷ 2001 ∷ 0 ∷ 0 ∷ 0 ∷ 0 ∷ 0 ∷ 0 ∷ 0 ∷ 0 ∷ 0 ∷ 0 ∷ 0 ∷ 0 ∷ 0 ∷ 0
    ∷ 1 ∷ replicate 7 0)
    -- Key 7 spends all, and key 8 turns it into a debt. For key 9 there is no space: it gets no slot, and waits until key 8 is full.
    ∷ ends (for_one_key two_per_second) (asks 0 7 4 ∷ asks 0 8 1 ∷ asks 0 9 1 ∷ []) 1 500000000 500000000
    (1 ∷ 1 ∷ 1 ∷ 0 ∷ 8 ∷ 8 ∷ 1000000000 ∷ 0 ∷ 0 ∷ 0 ∷ 0 ∷ 1 ∷ 1 ∷ 7 ∷ 2000000000 ∷ 1 ∷ 0 ∷ 0 ∷ 1 ∷ [])
    -- Key 7 in the place of key 9 is let in, since its own debt makes way for that of key 8. Its bucket tells the wait, and counts 1 try turned away.
    ∷ ends (for_one_key two_per_second) (asks 0 7 4 ∷ asks 0 8 1 ∷ asks 0 7 1 ∷ []) 1 500000000 500000000
    (1 ∷ 1 ∷ 1 ∷ 0 ∷ 7 ∷ 7 ∷ 4000000000 ∷ 0 ∷ 0 ∷ 0 ∷ 1 ∷ 1 ∷ 0 ∷ 8 ∷ 500000000 ∷ 0 ∷ 1 ∷ 1 ∷ 0 ∷ [])
    -- Who is turned away for space waits at least a millisecond, though after 15,260 ns key 8 is full and the debt of key 7 settled.
    ∷ ends (for_one_key fastest) (asks 0 7 1 ∷ asks 0 8 1 ∷ asks 0 9 1 ∷ []) 1 1000000 1000000
    (1 ∷ 1 ∷ 1 ∷ 0 ∷ 8 ∷ 8 ∷ 1000000000 ∷ 0 ∷ 0 ∷ 0 ∷ 0 ∷ 1 ∷ 1 ∷ 7 ∷ 15260 ∷ 1 ∷ 0 ∷ 0 ∷ 1 ∷ [])
    -- Five nanoseconds later it is told a moment that is five later: that of the wait told, not of the shorter one.
    ∷ ends (for_one_key fastest) (asks 5 7 1 ∷ asks 5 8 1 ∷ asks 5 9 1 ∷ []) 1 1000000 1000005
    (1 ∷ 1 ∷ 1 ∷ 0 ∷ 8 ∷ 8 ∷ 1000000000 ∷ 5 ∷ 0 ∷ 0 ∷ 0 ∷ 1 ∷ 1 ∷ 7 ∷ 15265 ∷ 1 ∷ 0 ∷ 0 ∷ 1 ∷ [])
    -- The wait of a key's own bucket has no such floor. The second call of key 7 finds its slot, marks it and counts there as a try turned away.
    ∷ ends (for_one_key fastest) (asks 0 7 65535 ∷ asks 0 7 1 ∷ []) 1 15260 15260
    (1 ∷ 1 ∷ 0 ∷ 0 ∷ 7 ∷ 7 ∷ 65535000000000 ∷ 0 ∷ 1 ∷ 0 ∷ 1 ∷ 0 ∷ 0 ∷ 0 ∷ 0 ∷ 0 ∷ 1 ∷ 0 ∷ 0 ∷ [])
    -- Key 7 spends one of four tokens of 10 parts each, and is evicted. Its debt of 4 ns is 12 parts, which counts as two tokens: two are left, as long as
    -- it is a debt and once it is back.
    ∷ ends (for_one_key three_per_ten) (asks 0 7 1 ∷ asks 0 8 1 ∷ looks_at 0 7 ∷ []) 0 2 0
    (1 ∷ 1 ∷ 1 ∷ 0 ∷ 8 ∷ 8 ∷ 10 ∷ 0 ∷ 0 ∷ 0 ∷ 0 ∷ 1 ∷ 0 ∷ 7 ∷ 4 ∷ 1 ∷ 0 ∷ 0 ∷ 1 ∷ [])
    ∷ ends (for_one_key three_per_ten) (asks 0 7 1 ∷ asks 0 8 1 ∷ asks 0 7 3 ∷ looks_at 0 7 ∷ []) 0 2 0
    (1 ∷ 1 ∷ 1 ∷ 0 ∷ 7 ∷ 7 ∷ 20 ∷ 0 ∷ 0 ∷ 0 ∷ 1 ∷ 1 ∷ 0 ∷ 8 ∷ 4 ∷ 0 ∷ 1 ∷ 1 ∷ 0 ∷ [])
    -- A token refunded to key 7, whose debt settles at 2 s, takes half a second off the debt.
    ∷ ends (for_one_key two_per_second) (asks 0 7 4 ∷ asks 0 8 1 ∷ returns 7 1 ∷ []) 0 0 0
    (1 ∷ 1 ∷ 1 ∷ 0 ∷ 8 ∷ 8 ∷ 1000000000 ∷ 0 ∷ 0 ∷ 0 ∷ 0 ∷ 1 ∷ 0 ∷ 7 ∷ 1500000000 ∷ 1 ∷ 0 ∷ 0 ∷ 1 ∷ [])
    -- Keys 7 and 8 share the hash 7. Each has a slot of its own: key 7 has spent all, and key 8 is granted all of its tokens.
    ∷ ends (limited two_per_second (capacity_of 2) 1) (asks 0 7 4 ∷ asks_as_seven 0 8 4 ∷ []) 0 0 0
    (2 ∷ 2 ∷ 0 ∷ 0 ∷ 7 ∷ 7 ∷ 4000000000 ∷ 0 ∷ 0 ∷ 0 ∷ 0 ∷ 7 ∷ 8 ∷ 4000000000 ∷ 0 ∷ 0 ∷ 0 ∷ 0 ∷ 0 ∷ 0 ∷ 0 ∷ 0 ∷ 0 ∷ 0
    ∷ 2 ∷ 0 ∷ 0 ∷ 1 ∷ replicate 4 0)
    -- A debt has no key but its hash alone: key 9 turns key 7 into a debt, and key 8 takes it over.
    ∷ ends (for_one_key two_per_second) (asks 0 7 4 ∷ asks 0 9 1 ∷ asks_as_seven 0 8 1 ∷ []) 1 500000000 500000000
    (1 ∷ 1 ∷ 1 ∷ 0 ∷ 7 ∷ 8 ∷ 4000000000 ∷ 0 ∷ 0 ∷ 0 ∷ 1 ∷ 1 ∷ 0 ∷ 9 ∷ 500000000 ∷ 0 ∷ 1 ∷ 0 ∷ 1 ∷ [])
    -- Key 7 is turned away twice, and reserves a token without success: the count is 2. A refund and a grant leave the count.
    ∷ ends (for_one_key fastest) (asks 0 7 65535 ∷ asks 0 7 1 ∷ asks 0 7 2 ∷ books 0 7 1 ∷ returns 7 1 ∷ asks 0 7 1 ∷ counts 7 ∷ []) 0 2 0
    (1 ∷ 1 ∷ 0 ∷ 0 ∷ 7 ∷ 7 ∷ 65535000000000 ∷ 0 ∷ 1 ∷ 0 ∷ 2 ∷ 0 ∷ 0 ∷ 0 ∷ 0 ∷ 0 ∷ 1 ∷ 0 ∷ 0 ∷ [])
    -- Key 9 is refused for space, and key 7 is a debt: neither has a count.
    ∷ ends (for_one_key two_per_second) (asks 0 7 4 ∷ asks 0 8 1 ∷ asks 0 9 1 ∷ counts 9 ∷ []) 0 0 0
    (1 ∷ 1 ∷ 1 ∷ 0 ∷ 8 ∷ 8 ∷ 1000000000 ∷ 0 ∷ 0 ∷ 0 ∷ 0 ∷ 1 ∷ 1 ∷ 7 ∷ 2000000000 ∷ 1 ∷ 0 ∷ 0 ∷ 1 ∷ [])
    ∷ ends (for_one_key two_per_second) (asks 0 7 4 ∷ asks 0 7 1 ∷ asks 0 8 1 ∷ counts 7 ∷ []) 0 0 0
    (1 ∷ 1 ∷ 1 ∷ 0 ∷ 8 ∷ 8 ∷ 1000000000 ∷ 0 ∷ 0 ∷ 0 ∷ 0 ∷ 1 ∷ 0 ∷ 7 ∷ 2000000000 ∷ 1 ∷ 0 ∷ 0 ∷ 1 ∷ [])
    -- Keys 7 and 8 spend all, and key 8 is turned away once. Key 7 is removed: the slot of key 8 moves to the first place, with its count.
    ∷ ends (limited two_per_second (capacity_of 2) 1) (asks 0 7 4 ∷ asks 0 8 4 ∷ asks 0 8 1 ∷ forgets 7 ∷ []) 0 0 0
    (1 ∷ 1 ∷ 0 ∷ 0 ∷ 8 ∷ 8 ∷ 4000000000 ∷ 0 ∷ 1 ∷ 0 ∷ 1 ∷ 0 ∷ 0 ∷ 0 ∷ 0 ∷ 0 ∷ 0 ∷ 0 ∷ 0 ∷ 0 ∷ 0 ∷ 0 ∷ 0 ∷ 0
    ∷ 1 ∷ replicate 7 0)
    -- No bytes hash to the number at which the hash starts.
    ∷ hashes [] 14695981039346656037
    ∷ []
