-- A run worked out, of the kind that `grown_store_is_as_without_indexes` is about. The store has one shard of two places, so its indexes have four. Keys 7 and
-- 3 have one home there, place 3. Two calls are refused, and a removal moves the other key in its index and among the slots.
use Prim.Native.Nat.{◌+◌}
use mathlib.Core.Path.{◌≡◌, refl}
use mathlib.Core.List.{List, [], ◌∷◌, ◌++◌}
use lib.ListN.{replicate}
use Rattle.arith.specs.Arith.{ceil_div}
use Rattle.rows.specs.Places.{lowest_from, sum}
use Rattle.rows.specs.Rows.{rows, unrow}
use Rattle.held.specs.Held.{removed}
use Rattle.held.specs.Layout.{table_in}
use Rattle.index.specs.Walk as Index
use Rattle.bucket.specs.Bucket.{shortfall_at, grown, wait_at, asked}
use Rattle.settings.specs.declared.decision.Decision.TheVariants.{Acquired}
use Rattle.settings.specs.Powers.{exponent_from, exponent_for}
use Rattle.settings.specs.Rate as Rate
use Rattle.settings.specs.Settings as Settings
use Rattle.classes.specs.Classes as Classes
use Rattle.classes.specs.Layout as ClassLayout
use Rattle.ledger.specs.Layout as Debts
use Rattle.ledger.specs.Model as Ledger
use Rattle.held.specs.Round as Round
use Rattle.shard_map.specs.Layout as Layout
use Rattle.shard_map.specs.Model as Shard
use Rattle.shard.specs.Model as OneShard
use Rattle.store.specs.Refusals as Refusals
use Rattle.store.specs.Refusals.{latest_moment, longest_max_wait}
use Rattle.rules.specs.declared.Reply.{Reply}
use Rattle.rules.specs.declared.Reply.TheVariants.{Tried, Done, Count, Refused}
use Rattle.settings.specs.declared.Settings.{Settings}
use Rattle.shard.specs.declared.Identity.{Identity}
use Rattle.rules.specs.Asks as Asks
use Rattle.rules.specs.Asks.{due_now}
use Rattle.rules.specs.Rules as Rules
use Rattle.rules.specs.Rules.{set_up}
use Rattle.rules.specs.Calls.{try, reserve, remove, length, by_key}
use Rattle.perkey.specs.Edges.{key_of}
use Rattle.demands.specs.PlaceOrder.{fresh_shards, on_shards, Turn, calls, by_rules, step_without_indexes, run, AllOf, SameWithoutIndexes}
use Rattle.demands.proofs.ExampleLaws.{room_for, memory, fresh, start}
use Rattle.demands.proofs.PlaceOrderTheorem.{grown_store_is_as_without_indexes}

-- Key 7 takes one token and key 3 two, at moment 0.
abbrev two_keys_come : List (Turn Settings Identity)
two_keys_come = calls (try (room_for 2) start (key_of 7) 1) ∷ calls (try (room_for 2) start (key_of 3) 2) ∷ []

-- Key 7 tries a nanosecond after the latest moment, and would wait a nanosecond longer than the longest wait. Then it is removed, and the keys are counted.
abbrev one_key_goes : List (Turn Settings Identity)
one_key_goes =
    calls (try (room_for 2) (record { 0 = latest_moment + 1 }) (key_of 7) 1)
    ∷ calls (reserve (room_for 2) start (key_of 7) 1 (record { 0 = longest_max_wait + 1 }))
    ∷ calls (remove (room_for 2) (key_of 7))
    ∷ calls (length (room_for 2))
    ∷ []

abbrev pub worked_turns : List (Turn Settings Identity)
worked_turns = two_keys_come ++ one_key_goes

abbrev pub worked_answers : List Reply
worked_answers = Tried (Acquired (due_now start)) ∷ Tried (Acquired (due_now start)) ∷ Refused 6 ∷ Refused 7 ∷ Done ∷ Count 1 ∷ []

-- The words are as in the table of edges: the total, slot count, hand and sweep, the slots, debt count and cursor, the debts, the index of the slots, that of
-- the debts.
pub record Worked : Type 0 where
  pub accepted : (set_up (room_for 2) (memory (room_for 2))).answer ≡ Done
  pub of_store : AllOf by_key (room_for 2) worked_turns
  -- Key 7 is item 0, at its home; key 3 is item 1, at the next place, which is the first.
  pub two_keys_lem : (run (by_rules by_key (room_for 2)) two_keys_come (fresh (room_for 2))).after
      ≡ 2 ∷ 2 ∷ 0 ∷ 0 ∷ 7 ∷ 7 ∷ 1000000000 ∷ 0 ∷ 0 ∷ 0 ∷ 0 ∷ 3 ∷ 3 ∷ 2000000000 ∷ 0 ∷ 0 ∷ 0 ∷ 0 ∷ 0 ∷ 0 ∷ 0 ∷ 0 ∷ 0 ∷ 0
      ∷ 2 ∷ 0 ∷ 0 ∷ 1 ∷ replicate 4 0
  -- Key 3 has moved to its home, and is item 0.
  pub one_key : (run (by_rules by_key (room_for 2)) worked_turns (fresh (room_for 2))).after
      ≡ 1 ∷ 1 ∷ 0 ∷ 0 ∷ 3 ∷ 3 ∷ 2000000000 ∷ 0 ∷ 0 ∷ 0 ∷ 0 ∷ 0 ∷ 0 ∷ 0 ∷ 0 ∷ 0 ∷ 0 ∷ 0 ∷ 0 ∷ 0 ∷ 0 ∷ 0 ∷ 0 ∷ 0
      ∷ 0 ∷ 0 ∷ 0 ∷ 1 ∷ replicate 4 0
  -- The answers, and those without indexes.
  pub answers : (run (by_rules by_key (room_for 2)) worked_turns (fresh (room_for 2))).answer ≡ worked_answers
  pub answers_without : (run (step_without_indexes by_key (room_for 2)) worked_turns (fresh_shards (room_for 2))).answer ≡ worked_answers

pub worked : Worked
unfolding ceil_div lowest_from rows unrow table_in removed Index.onward Index.walk_from Index.walk Index.find_from Index.find Index.seek Index.add
    Index.add_again Index.rehome Index.vacate Index.renumber Index.remove
    sum Round.look_at Round.look Round.sweep shortfall_at grown wait_at asked
    Rate.unless_within Rate.rate_refusal Settings.size_refusal Settings.first_refusal exponent_from exponent_for
    Debts.ledger Debts.words_of Ledger.place_of Ledger.taken Ledger.sweep
    Layout.shard Layout.words_of Shard.place_of Shard.remove_at Shard.insert
    OneShard.make_room OneShard.admit OneShard.with_or_insert OneShard.removed
    Refusals.memory_refusal Refusals.count_refusal Refusals.moment_refusal Refusals.wait_refusal Refusals.total_refusal
    ClassLayout.classes_in Classes.count_refusal Classes.first_from
    Asks.asked_in Rules.unless_refused Rules.set_up_in Rules.keyed_rule_in Rules.len_in on_shards run
worked = record {
  accepted = refl;
  of_store = (refl, (refl, (refl, (refl, (refl, (refl, tt))))));
  two_keys_lem = refl;
  one_key = refl;
  answers = refl;
  answers_without = refl;
}

-- The theorem is of this run.
pub worked_is_as_without_indexes : SameWithoutIndexes by_key (by_rules by_key (room_for 2)) (room_for 2) worked_turns (fresh (room_for 2))
worked_is_as_without_indexes =
    grown_store_is_as_without_indexes by_key (room_for 2) [] (memory (room_for 2)) refl worked.accepted worked_turns worked.of_store
