-- The debts of one shard as a list, for the morning shift. A call names a moment and a shard by its number, and lends a list of records, each a hash and the
-- moment at which the debt of that hash settles. The debts that settle after the moment of the call are written over the first records.
use Rattle.std.specs.Prelude.{ℕ, cond, List, [], ◌∷◌, ◌++◌, ltb, length, take, drop}
use Rattle.rows.specs.Outcome.{Outcome, outcome}
use Rattle.units.specs.declared.Nanos.{Nanos}
use Rattle.settings.specs.declared.Settings.{Settings}
use Rattle.settings.specs.declared.Shape.{Shape}
use Rattle.settings.specs.Settings.{first_refusal, shape_of}
use Rattle.ledger.specs.declared.Debt.{Debt}
use Rattle.ledger.specs.Model.{Ledger, settled_by}
use Rattle.shard_map.specs.Model.{Shard}
use Rattle.store.specs.Memory.{part_at, shard_in}
use Rattle.store.specs.Refusals.{set_up_refusal_in, moment_refusal}
use Rattle.rules.specs.declared.Reply.{Reply}
use Rattle.rules.specs.declared.Reply.TheVariants.{Count}
use Rattle.rules.specs.Rules.{unless_refused}

-- Of some debts, those that settle after a moment, in their order.
unfoldable pub unsettled : Nanos → List Debt → List Debt
unsettled at [] = []
unsettled at (d ∷ ds) = cond (settled_by at d) (unsettled at ds) (d ∷ unsettled at ds)

-- The unsettled debts of a ledger, in the order of its places. Its debts stand in the first places.
unfoldable pub listed : Nanos → Ledger → List Debt
listed at l = unsettled at (take l.debts.count l.debts.places)

-- A lent list after some debts were written over its first records. The other records stay.
unfoldable pub written : List Debt → List Debt → List Debt
written ds records = ds ++ drop (length ds) records

-- The shard of a number.
abbrev pub shard_numbered : Shape → ℕ → List ℕ → Shard
shard_numbered shape i ws = shard_in (part_at shape i) ws

-- 16 where no shard has the number.
unfoldable pub shard_refusal : Shape → ℕ → ℕ
shard_refusal shape i = cond (ltb i shape.shards) 0 16

-- 5 where a ledger counts more debts than it has room for.
unfoldable pub debt_count_refusal : ℕ → Ledger → ℕ
debt_count_refusal cap l = cond (ltb cap l.debts.count) 5 0

-- 17 where fewer records are lent than are to be written.
unfoldable pub records_refusal : ℕ → ℕ → ℕ
records_refusal room needed = cond (ltb room needed) 17 0

-- The refusal for the ledger of the shard, where `room` records are lent: its debt count, then the records.
abbrev pub ledger_refusal : ℕ → Nanos → ℕ → Ledger → ℕ
ledger_refusal cap at room l = first_refusal (debt_count_refusal cap l) (records_refusal room (length (listed at l)))

-- The number by which a call is refused, 0 if it is not. The settings and the length come first, then the moment, then the shard's number, then its ledger.
-- Slot counts and the total are not looked at.
abbrev pub debts_refusal_in : Shape → Settings → Nanos → ℕ → ℕ → List ℕ → ℕ
debts_refusal_in shape s at i room ws =
    first_refusal (set_up_refusal_in shape s ws)
    (first_refusal (moment_refusal at)
    (first_refusal (shard_refusal shape i) (ledger_refusal shape.cap at room (shard_numbered shape i ws).ledger)))

-- In a list of calls this call names only how many records are lent. It answers how many debts are listed, and changes no word of the store.
unfoldable pub debts_in : Shape → Settings → Nanos → ℕ → ℕ → List ℕ → Outcome Reply (List ℕ)
debts_in shape s at i room ws =
    unless_refused (debts_refusal_in shape s at i room ws) ws (outcome (Count (length (listed at (shard_numbered shape i ws).ledger))) ws)

-- What the caller lends: the words of the store, and the records.
pub record Lent : Type 0 where
  pub words : List ℕ
  pub records : List Debt

abbrev pub lent : List ℕ → List Debt → Lent
lent ws records = record { words = ws; records = records }

-- What the caller has then: the same answer, the words as they were, and the records after the call. A refused call leaves the records as they are, too.
unfoldable pub list_debts_in : Shape → Settings → Nanos → ℕ → Lent → Outcome Reply Lent
list_debts_in shape s at i before =
    let ds = listed at (shard_numbered shape i before.words).ledger in
    unless_refused (debts_refusal_in shape s at i (length before.records) before.words) before
    (outcome (Count (length ds)) (lent before.words (written ds before.records)))

abbrev pub list_debts : Settings → Nanos → ℕ → Lent → Outcome Reply Lent
list_debts s at i before = list_debts_in (shape_of s) s at i before
