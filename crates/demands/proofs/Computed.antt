-- The examples of the impostors, and that of the window without its + 1: all that is computed from the rules, in one place. A store is named by how many
-- keys it has room for; reservations are pairs of a key and a cost.
use Prim.Native.Nat.{ℕ}
use mathlib.Core.Path.{◌≡◌, refl}
use mathlib.Core.Bool.{true}
use mathlib.Core.List.{[], ◌∷◌}
use Rattle.arith.specs.Arith.{ceil_div}
use Rattle.rows.specs.Rows.{rows, unrow}
use Rattle.held.specs.Layout.{table_in}
use Rattle.rows.specs.Places.{sum}
use Rattle.index.specs.Walk as Index
use Rattle.held.specs.Held.{removed}
use Rattle.held.specs.Round as Round
use Rattle.bucket.specs.Bucket.{shortfall_at, available_at, grown, wait_at, asked}
use Rattle.bucket.specs.Debt.{taken_out, lacking, restored}
use Rattle.settings.specs.declared.rate.Rate.{Rate}
use Rattle.settings.specs.Powers.{exponent_from, exponent_for}
use Rattle.settings.specs.Rate as Rate
use Rattle.settings.specs.Settings as Settings
use Rattle.classes.specs.Classes as Classes
use Rattle.classes.specs.Layout as ClassLayout
use Rattle.ledger.specs.Layout as Debts
use Rattle.ledger.specs.Model as Ledger
use Rattle.shard_map.specs.Layout as Layout
use Rattle.shard_map.specs.Model as Shard
use Rattle.evict.specs.Evict.{noted, walk_from, walked, evicted}
use Rattle.shard.specs.Model as OneShard
use Rattle.settings.specs.declared.decision.Decision.TheVariants.{Acquired}
use Rattle.store.specs.Refusals as Refusals
use Rattle.rules.specs.declared.Reply.TheVariants.{Tried}
use Rattle.rules.specs.Asks.{due_now}
use Rattle.rules.specs.Asks as Asks
use Rattle.rules.specs.Rules as Rules
use Rattle.rules.specs.Calls as Calls
use Rattle.rules.specs.Calls.{length, try}
use Rattle.hash.specs.Fnv.{mixed, hash_from}
use Rattle.modems.specs.Address.{key_from, address_refusal}
use Rattle.modems.specs.Names.{Name, address, by_name}
use Rattle.perkey.specs.Edges.{rate_of, two_per_second, key_of, asks, asks_as_seven}
use Rattle.rules.specs.Widths.{lendable}
use Rattle.demands.specs.Demands as Demands
use Rattle.demands.specs.ByKey.{rules, replies, accepted, tokens_usable, all_fit}
use Rattle.demands.specs.Demands.{usable}
use Rattle.demands.specs.Impostors.{impossible_to_all, retry_before_a_look, always_acquired, grants_without_storing, first_debt_only, invented_length}
use Rattle.demands.specs.Impostors.{turns_slotless_away, turns_newcomers_away, blind_to_keys, right_by_key_alone}
use Rattle.demands.proofs.ExampleLaws.{room_for, fresh, start, after, TellsOtherwise, MisdecidesFrom, Misdecides, Overgrants}

-- Two tokens a nanosecond, and a burst of one.
abbrev pub fast : Rate
fast = rate_of 2 1 1

-- A modem by its address, of which the last byte varies.
abbrev modem : ℕ → Name
modem last = address (2 ∷ 0 ∷ 0 ∷ 0 ∷ 0 ∷ last ∷ [])

-- A newcomer to a fresh store is granted its token at moment 1, and told so.
pub record GrantedAtOne : Type 0 where
  pub lent : lendable (fresh (room_for 1)) ≡ true
  pub fit : all_fit (asks 1 7 1 (room_for 1) ∷ []) ≡ true
  pub told : (rules (asks 1 7 1 (room_for 1)) (fresh (room_for 1))).answer ≡ Tried (Acquired (due_now (record { 0 = 1 })))

pub record Computed : Type 0 where
  -- Key 7 has taken one token of four and asks for another: its bucket grants it.
  pub impossible : Misdecides impossible_to_all 1 (asks 0 7 1 ∷ []) (key_of 7)
  pub unlooked : Misdecides retry_before_a_look 1 (asks 0 7 1 ∷ []) (key_of 7)
  -- Key 7 asks for all, twice at the same moment.
  pub acquired : Overgrants 1 always_acquired two_per_second 1 ((7, 4) ∷ (7, 4) ∷ []) 7 0
  pub unstored : Overgrants 1 grants_without_storing two_per_second 1 ((7, 4) ∷ (7, 4) ∷ []) 7 0
  -- Two places: key 9 turns key 7 into a debt, the first, and takes all; key 10 turns key 9 into the second. Key 9 returns.
  pub second_debt : Overgrants 1 first_debt_only two_per_second 2 ((7, 1) ∷ (8, 1) ∷ (9, 4) ∷ (10, 1) ∷ (9, 4) ∷ []) 9 0
  pub second_debtor : Misdecides first_debt_only 2 (asks 0 7 1 ∷ asks 0 8 1 ∷ asks 0 9 4 ∷ asks 0 10 1 ∷ []) (key_of 9)
  -- A fresh store has no keys.
  pub counted : TellsOtherwise invented_length (length (room_for 1)) (fresh (room_for 1))
  -- Key 7 has taken one token, and key 8 has turned it into a debt: the bucket of key 7, which has three still, grants another.
  pub slotless : Misdecides turns_slotless_away 1 (asks 0 7 1 ∷ asks 0 8 1 ∷ []) (key_of 7)
  -- A newcomer to a fresh store is granted its token.
  pub newcomer : TellsOtherwise turns_newcomers_away (asks 0 7 1 (room_for 1)) (fresh (room_for 1))
  -- Keys 7 and 8 share the hash 7. Key 7 has taken all, and key 8 one token: the bucket of key 8 grants another.
  pub blind : Misdecides blind_to_keys 2 (asks 0 7 4 ∷ asks_as_seven 0 8 1 ∷ []) (record { hash = 7; key = 8 })
  -- Two modems by address. The first has taken all, and the second one token: its bucket grants another.
  pub by_address : MisdecidesFrom by_name (fresh (room_for 2)) right_by_key_alone (room_for 2)
      (try (room_for 2) start (modem 1) 4 ∷ try (room_for 2) start (modem 2) 1 ∷ []) (modem 2)
  pub at_one : GrantedAtOne
  -- At two tokens a nanosecond, the second and the third of three reservations both become usable at moment 1.
  pub two_at_once : Overgrants 0 rules fast 1 ((7, 1) ∷ (7, 1) ∷ (7, 1) ∷ []) 7 1

pub computed : Computed
unfolding ceil_div rows unrow table_in removed Index.onward Index.walk_from Index.walk Index.find_from Index.find Index.seek Index.add
    Index.add_again Index.rehome Index.vacate Index.renumber Index.remove
    sum Round.look_at Round.look Round.sweep shortfall_at available_at grown wait_at asked taken_out lacking restored
    Rate.unless_within Rate.rate_refusal Settings.size_refusal Settings.first_refusal exponent_from exponent_for
    Debts.ledger Debts.words_of Ledger.place_of Ledger.remove_at Ledger.append Ledger.owed_by Ledger.taken Ledger.sweep
    Ledger.scan_from Ledger.scan Ledger.drop_chosen Ledger.make_room Ledger.recorded_at Ledger.recorded
    Layout.shard Layout.words_of Shard.place_of Shard.remove_at Shard.insert
    noted walk_from walked evicted OneShard.make_room OneShard.with_existing OneShard.admit OneShard.with_or_insert OneShard.viewed OneShard.holds
    Refusals.memory_refusal Refusals.count_refusal Refusals.moment_refusal Refusals.wait_refusal Refusals.total_refusal
    ClassLayout.classes_in Classes.count_refusal Classes.first_from
    Asks.asked_in Rules.unless_refused Rules.set_up_in Rules.keyed_rule_in Rules.len_in
    mixed hash_from key_from address_refusal Calls.accepted Calls.replies usable Demands.tokens_usable after
computed = record {
  impossible = record { rated = refl; fit = refl; lent = refl; accepts = refl; holding = refl; otherwise = refl };
  unlooked = record { rated = refl; fit = refl; lent = refl; accepts = refl; holding = refl; otherwise = refl };
  acquired = record { settings = refl; lent = refl; fit = refl; set_up_lem = refl; over = refl };
  unstored = record { settings = refl; lent = refl; fit = refl; set_up_lem = refl; over = refl };
  second_debt = record { settings = refl; lent = refl; fit = refl; set_up_lem = refl; over = refl };
  second_debtor = record { rated = refl; fit = refl; lent = refl; accepts = refl; holding = refl; otherwise = refl };
  counted = record { fit = refl; lent = refl; otherwise = refl };
  slotless = record { rated = refl; fit = refl; lent = refl; accepts = refl; holding = refl; otherwise = refl };
  newcomer = record { fit = refl; lent = refl; otherwise = refl };
  blind = record { rated = refl; fit = refl; lent = refl; accepts = refl; holding = refl; otherwise = refl };
  by_address = record { rated = refl; fit = refl; lent = refl; accepts = refl; holding = refl; otherwise = refl };
  at_one = record { lent = refl; fit = refl; told = refl };
  two_at_once = record { settings = refl; lent = refl; fit = refl; set_up_lem = refl; over = refl };
}
