-- Villages worked by hand, at two tokens a second and up to four (the rate R of document 01), in one shard with room for one modem, under RefuseNew.
use Prim.Native.Nat.{ℕ, ◌+◌, ◌^◌}
use mathlib.Core.Path.{◌≡◌, refl}
use mathlib.Core.List.{List, [], ◌∷◌, map}
use lib.ListN.{replicate}
use Rattle.arith.specs.Arith.{ceil_div}
use Rattle.rows.specs.Rows.{rows, unrow}
use Rattle.held.specs.Layout.{table_in}
use Rattle.index.specs.Walk as Index
use Rattle.held.specs.Held.{removed}
use Rattle.held.specs.Round as Round
use Rattle.bucket.specs.Bucket.{shortfall_at, available_at, grown, wait_at, asked}
use Rattle.bucket.specs.Debt.{taken_out, lacking, restored}
use Rattle.settings.specs.declared.Settings.{Settings}
use Rattle.settings.specs.Eviction.{capacity_of}
use Rattle.settings.specs.Powers.{exponent_from, exponent_for}
use Rattle.settings.specs.Rate as Rate
use Rattle.settings.specs.Settings as Sizes
use Rattle.hash.specs.Fnv.{lowest_first, mixed, hash_from}
use Rattle.ledger.specs.Layout as Debts
use Rattle.ledger.specs.Model as Ledger
use Rattle.shard_map.specs.Layout as Layout
use Rattle.shard_map.specs.Model as Shard
use Rattle.evict.specs.Evict.{noted, walk_from, walked, evicted}
use Rattle.shard.specs.Model as OneShard
use Rattle.store.specs.Memory.{memory_words}
use Rattle.store.specs.Refusals as Refusals
use Rattle.rules.specs.Asks as Asks
use Rattle.rules.specs.Rules as Rules
use Rattle.perkey.specs.Edges.{two_per_second, limited}
use Rattle.outage_rows.specs.declared.Row.{Row}
use Rattle.outage_rows.specs.Model.{earlier, sooner, next_from, again, after_try, tried_at, ran}

abbrev for_one : Settings
for_one = limited two_per_second (capacity_of 1) 1

-- A row that has still to be tried: its moment, key and cost. A row as it ends: the same, with its tries and its code.
abbrev to_try : ℕ → ℕ → ℕ → Row
to_try at key cost = record { at = record { 0 = at }; key = key; cost = cost; tries = 0; code = 0; live = 1 }

abbrev tried : ℕ → ℕ → ℕ → ℕ → ℕ → Row
tried at key cost tries code = record { at = record { 0 = at }; key = key; cost = cost; tries = tries; code = code; live = 0 }

-- A live row that has been tried before.
abbrev after : ℕ → Row → Row
after tries row = record { at = row.at; key = row.key; cost = row.cost; tries = tries; code = 1; live = 1 }

-- The rows after ten steps, from a fresh store: none of the villages needs more.
abbrev comes_up : List Row → List Row
comes_up rows = (ran for_one 10 (record { rows = rows; others = []; store = replicate (memory_words for_one) 0 })).rows

abbrev villages : List (List Row)
villages =
    -- Room comes back: 7 spends all, 8 takes its place, and 7 becomes a debt. 9 finds no room at 0, and is told half a second: then 8 is full again and goes.
    (to_try 0 7 4 ∷ to_try 0 8 1 ∷ to_try 0 9 1 ∷ [])
    -- A tie goes to the lower line, a try made again too: the second line is denied at 0 and made again at 2 s, where it goes before the third.
    ∷ (to_try 0 7 4 ∷ to_try 0 7 4 ∷ to_try 2000000000 7 1 ∷ [])
    -- The earliest moment goes first, whatever its line.
    ∷ (to_try 1 7 4 ∷ to_try 0 7 4 ∷ [])
    -- More than the burst is impossible, also a cost that no try can have. Cost 0 is granted. A moment after 2 ^ 62 is refused as 6. An ended row stays.
    ∷ (to_try 5 7 5 ∷ to_try 5 7 (2 ^ 32) ∷ to_try 5 7 0 ∷ to_try (2 ^ 62 + 1) 7 1 ∷ tried 0 0 0 0 9 ∷ [])
    -- The thousandth denial ends a row with code 1, at the moment of that try; so does a denial of a row that has made more.
    ∷ (to_try 0 7 4 ∷ after 999 (to_try 0 7 1) ∷ after 5000 (to_try 0 7 1) ∷ after 998 (to_try 0 7 1) ∷ [])
    ∷ []

abbrev ends : List (List Row)
ends =
    (tried 0 7 4 1 0 ∷ tried 0 8 1 1 0 ∷ tried 500000000 9 1 2 0 ∷ [])
    ∷ (tried 0 7 4 1 0 ∷ tried 2000000000 7 4 2 0 ∷ tried 2500000000 7 1 2 0 ∷ [])
    ∷ (tried 2000000000 7 4 2 0 ∷ tried 0 7 4 1 0 ∷ [])
    ∷ (tried 5 7 5 1 2 ∷ tried 5 7 (2 ^ 32) 1 2 ∷ tried 5 7 0 1 0 ∷ tried (2 ^ 62 + 1) 7 1 1 16 ∷ tried 0 0 0 0 9 ∷ [])
    ∷ (tried 0 7 4 1 0 ∷ tried 0 7 1 1000 1 ∷ tried 0 7 1 1000 1 ∷ tried 500000000 7 1 1000 0 ∷ [])
    ∷ []

every_village_comes_up : map comes_up villages ≡ ends
unfolding ceil_div rows unrow table_in removed Index.onward Index.walk_from Index.walk Index.find_from Index.find Index.seek Index.add
    Index.add_again Index.rehome Index.vacate Index.renumber Index.remove
    Round.look_at Round.look Round.sweep shortfall_at available_at grown wait_at asked taken_out lacking restored
    Rate.unless_within Rate.rate_refusal Sizes.size_refusal Sizes.first_refusal exponent_from exponent_for lowest_first mixed hash_from
    Debts.ledger Debts.words_of Ledger.place_of Ledger.remove_at Ledger.append Ledger.owed_by Ledger.taken Ledger.sweep
    Ledger.scan_from Ledger.scan Ledger.drop_chosen Ledger.make_room Ledger.recorded_at Ledger.recorded Ledger.paid_down
    Layout.shard Layout.words_of Shard.place_of Shard.remove_at Shard.insert Shard.sweep_idle
    noted walk_from walked evicted OneShard.make_room OneShard.with_existing OneShard.admit OneShard.with_or_insert OneShard.turn_aways
    Refusals.memory_refusal Refusals.total_refusal Refusals.count_refusal Refusals.moment_refusal
    Asks.asked_in Rules.unless_refused Rules.keyed_rule_in
    earlier sooner next_from again after_try tried_at ran
every_village_comes_up = refl
