-- The list of debts, worked on a small store. Hashes are small numbers and moments count from 0.
use Prim.Native.Nat.{ℕ, ◌+◌, ◌*◌, ◌-◌, ◌^◌}
use mathlib.Core.Path.{◌≡◌, refl}
use mathlib.Core.List.{List, [], ◌∷◌, ◌++◌}
use lib.ListN.{replicate}
use Rattle.arith.specs.Arith.{ceil_div}
use Rattle.units.specs.declared.Nanos.{Nanos}
use Rattle.rows.specs.Rows.{rows}
use Rattle.rows.specs.Outcome.{Outcome, outcome}
use Rattle.index.specs.Layout.{places_for}
use Rattle.held.specs.Layout.{table_in}
use Rattle.settings.specs.declared.Settings.{Settings}
use Rattle.settings.specs.declared.Limit.TheVariants.{Closed}
use Rattle.settings.specs.Eviction.{capacity_of}
use Rattle.settings.specs.Powers.{exponent_from, exponent_for}
use Rattle.settings.specs.Settings.{size_refusal, first_refusal}
use Rattle.ledger.specs.declared.Debt.{Debt}
use Rattle.ledger.specs.Layout as Ledger
use Rattle.shard_map.specs.Layout.{slot_width}
use Rattle.shard_map.specs.Layout as Shard
use Rattle.store.specs.Refusals.{memory_refusal, moment_refusal}
use Rattle.rules.specs.declared.Reply.{Reply}
use Rattle.rules.specs.declared.Reply.TheVariants.{Count, Refused}
use Rattle.rules.specs.Rules.{unless_refused}
use Rattle.rules.specs.Debts.{unsettled, listed, written, shard_refusal, debt_count_refusal, records_refusal, Lent, lent, list_debts_in, list_debts}

abbrev moment : ℕ → Nanos
moment n = record { 0 = n }

abbrev owing : ℕ → ℕ → Debt
owing hash settles = record { hash = hash; settles = moment settles }

-- One shard with room for three modems. The limiter is closed: no rate is looked at.
abbrev settings : Settings
settings = record { limit = Closed; eviction = capacity_of 3; shards = 1; classes = 0 }

-- Its words, with so many debts counted: hash 1 settles at 20, hash 2 at 10 and hash 3 at 11. The total and the slot count are damaged; the indexes are empty.
abbrev words : ℕ → List ℕ
words count = 77 ∷ 99 ∷ 0 ∷ 0 ∷ (replicate (slot_width * 3) 0 ++ (count ∷ 0 ∷ 1 ∷ 20 ∷ 2 ∷ 10 ∷ 3 ∷ 11 ∷ replicate (2 * places_for 3) 0))

-- Records as they are lent.
abbrev one : List Debt
one = owing 7 0 ∷ []

abbrev two : List Debt
two = owing 7 0 ∷ owing 8 0 ∷ []

abbrev three : List Debt
three = owing 7 0 ∷ owing 8 0 ∷ owing 9 0 ∷ []

abbrev lists : ℕ → ℕ → List Debt → ℕ → Outcome Reply Lent
lists at i records count = list_debts settings (moment at) i (lent (words count) records)

-- A call that is refused by a number leaves words and records as they are.
abbrev refuses : ℕ → ℕ → ℕ → List Debt → ℕ → Type 0
refuses number at i records count = lists at i records count ≡ outcome (Refused number) (lent (words count) records)

-- At moment 10 hash 2 has settled: the other two are written, in the order of their places, and the third record stays. Two records are enough; one is not, and
-- stays as it is. At moment 20 all have settled, and no record is needed.
the_list_worked : (lists 10 0 three 3 ≡ outcome (Count 2) (lent (words 3) (owing 1 20 ∷ owing 3 11 ∷ owing 9 0 ∷ [])))
    × (lists 10 0 two 3 ≡ outcome (Count 2) (lent (words 3) (owing 1 20 ∷ owing 3 11 ∷ [])))
    × refuses 17 10 0 one 3
    × (lists 20 0 [] 3 ≡ outcome (Count 0) (lent (words 3) []))
unfolding ceil_div exponent_from exponent_for rows table_in size_refusal first_refusal Ledger.ledger Shard.shard memory_refusal moment_refusal unless_refused
    unsettled
    listed written shard_refusal debt_count_refusal records_refusal list_debts_in
the_list_worked = (refl, refl, refl, refl)

-- There is no shard 1, nor one of the largest number. A debt count of 4 is over the room for three, and told before the records are too few. A moment that is
-- too late is told before the shard's number.
the_refusals_worked : refuses 16 10 1 three 3 × refuses 16 10 (2 ^ 64 - 1) three 3 × refuses 5 10 0 [] 4 × refuses 6 (2 ^ 62 + 1) 1 [] 4
unfolding ceil_div exponent_from exponent_for rows table_in size_refusal first_refusal Ledger.ledger Shard.shard memory_refusal moment_refusal unless_refused
    unsettled
    listed written shard_refusal debt_count_refusal records_refusal list_debts_in
the_refusals_worked = (refl, refl, refl, refl)
