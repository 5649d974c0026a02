-- The ledger of one shard: the debts of keys that were forgotten before their buckets were full, and what each operation makes of it.
use Rattle.std.specs.Prelude.{ℕ, zero, suc, ◌+◌, ◌*◌, ◌-◌, ◌/◌, min, max, Bool, true, false, cond, List, length, ltb, leb, eqb}
use Rattle.std.specs.Prelude.{Option, Some, None, Result, Ok, Err}
use Rattle.arith.specs.Arith.{saturated}
use Rattle.units.specs.declared.Nanos.{Nanos}
use Rattle.bucket.specs.declared.BucketConfig.{BucketConfig}
use Rattle.settings.specs.Eviction.{ledger_scan}
use Rattle.held.specs.Held.{Held, Items, Finding, wrapped, item_at, position, removed, appended, stored, found_otherwise}
use Rattle.held.specs.Held as Held
use Rattle.held.specs.Round.{Round}
use Rattle.held.specs.Round as Round
use Rattle.rows.specs.Outcome.{Outcome, outcome}
use Rattle.ledger.specs.declared.Debt.{Debt}
use Rattle.ledger.specs.declared.Choice.{Choice}
use Rattle.ledger.specs.declared.Choice.TheVariants.{Settled, Soonest}
use Rattle.ledger.specs.declared.NoRoom.{NoRoom}

-- The debts, the cursor, which is the place at which the next look begins, and the lent words that are not the ledger's own. Every operation keeps those.
pub record Ledger : Type 0 where
  pub debts : Held Debt
  pub cursor : ℕ
  pub others : List ℕ

-- What stands in a place that holds no debt.
abbrev pub no_debt : Debt
no_debt = record { hash = 0; settles = record { 0 = 0 } }

-- The debts as items: they are found by their hashes.
abbrev pub debt_items : Items Debt
debt_items = record { free = no_debt; hash = λ d. d.hash }

-- How many debts there is room for.
abbrev pub cap_of : Ledger → ℕ
cap_of l = length l.debts.places

-- There is room for a debt, and no more are held than there is room for.
abbrev pub Sound : Ledger → Type 0
Sound l = Held.Sound l.debts

-- Lookup misses no debt.
abbrev pub Complete : Ledger → Type 0
Complete l = Held.Complete debt_items l.debts

-- The debt at a place, and the moment at which it settles.
abbrev pub debt_at : Ledger → ℕ → Debt
debt_at l i = item_at debt_items l.debts i

abbrev pub settling_at : Ledger → ℕ → Nanos
settling_at l i = (debt_at l i).settles

-- Whether a debt, and the debt at a place, has settled by a moment: it settles then or before.
abbrev pub settled_by : Nanos → Debt → Bool
settled_by at d = leb d.settles.0 at.0

abbrev pub has_settled : Nanos → Ledger → ℕ → Bool
has_settled at l i = settled_by at (debt_at l i)

-- The cursor as it is read: the first place where it stands at or past the count.
abbrev pub cursor_of : Ledger → ℕ
cursor_of l = wrapped l.cursor l.debts.count

abbrev pub with_debts : Ledger → Held Debt → Ledger
with_debts l ds = record { debts = ds; cursor = l.cursor; others = l.others }

abbrev pub with_count : Ledger → ℕ → Ledger
with_count l n = with_debts l (record { count = n; places = l.debts.places; finding = l.debts.finding })

abbrev pub with_cursor : Ledger → ℕ → Ledger
with_cursor l c = record { debts = l.debts; cursor = c; others = l.others }

abbrev pub with_finding : Ledger → Finding → Ledger
with_finding l f = with_debts l (found_otherwise l.debts f)

abbrev pub with_others : Ledger → List ℕ → Ledger
with_others l ws = record { debts = l.debts; cursor = l.cursor; others = ws }

abbrev pub with_debt : Ledger → ℕ → Debt → Ledger
with_debt l i d = with_debts l (stored l.debts i d)

-- The same ledger, with its debts found in the order of their places.
abbrev pub in_place_order : Ledger → Ledger
in_place_order l = with_debts l (Held.in_place_order l.debts)

-- Lookup by hash: the first place with it on its walk, or the lowest where there is no index.
abbrev pub owes : ℕ → Debt → Bool
owes hash d = eqb d.hash hash

unfoldable pub place_of : Ledger → ℕ → Option ℕ
place_of l hash = position debt_items l.debts hash (owes hash)

-- A debt leaves, and the last one moves into the gap. A new debt comes last.
unfoldable pub remove_at : Ledger → ℕ → Ledger
remove_at l p = with_debts l (removed debt_items l.debts p)

unfoldable pub append : Ledger → Debt → Ledger
append l d = with_debts l (appended debt_items l.debts d)

-- When the debt of a hash settles, if there is one.
abbrev pub owed_at : Ledger → Option ℕ → Option Nanos
owed_at l (Some p) = Some (debt_at l p).settles
owed_at l None = None

unfoldable pub owed_by : Ledger → ℕ → Option Nanos
owed_by l hash = owed_at l (place_of l hash)

-- The debt of a hash is taken out, if there is one, and its moment told.
abbrev pub taken_at : Ledger → Option ℕ → Outcome (Option Nanos) Ledger
taken_at l (Some p) = outcome (Some (debt_at l p).settles) (remove_at l p)
taken_at l None = outcome None l

unfoldable pub taken : Ledger → ℕ → Outcome (Option Nanos) Ledger
taken l hash = taken_at l (place_of l hash)

-- The sweep goes round the debts from the cursor on.
abbrev pub round_of : Ledger → Round Debt
round_of l = record { items = l.debts; next = l.cursor }

abbrev pub with_round : Ledger → Round Debt → Ledger
with_round l r = record { debts = r.items; cursor = r.next; others = l.others }

-- The next look of the sweep, and a sweep of n looks: settled debts go.
unfoldable pub look : Nanos → Ledger → Ledger
look at l = with_round l (Round.look debt_items (settled_by at) (round_of l))

unfoldable pub sweep : Nanos → ℕ → Ledger → Ledger
sweep at n l = with_round l (Round.sweep debt_items (settled_by at) n (round_of l))

-- Of two debts, the place of the one that settles sooner; `best` where both settle at one moment.
abbrev pub sooner : Ledger → ℕ → ℕ → ℕ
sooner l best c = cond (ltb (settling_at l c).0 (settling_at l best).0) c best

-- The looks at a full ledger for a debt to drop: the first settled one, with the cursor resting there; failing that the soonest looked at.
-- A look at an unsettled debt advances the cursor.
unfoldable pub scan_from : Nanos → ℕ → Ledger → ℕ → Outcome Choice Ledger
scan_from at zero l best = outcome (Soonest best) l
scan_from at (suc left) l best =
    cond (has_settled at l (cursor_of l))
    (outcome (Settled (cursor_of l)) (with_cursor l (cursor_of l)))
    (scan_from at left (with_cursor l (cursor_of l + 1)) (sooner l best (cursor_of l)))

-- At most `ledger_scan` looks, and no more than there are debts. Before the first look the soonest is the place that it will look at.
unfoldable pub scan : Nanos → Ledger → Outcome Choice Ledger
scan at l = scan_from at (min ledger_scan l.debts.count) l (cursor_of l)

-- What recording a debt answers, as making room for one does: that it was done; or that there is no room, and how long the soonest debt looked at still takes.
abbrev pub Recorded : Type 0
Recorded = Result (Unit {0}) NoRoom

abbrev pub no_room : Nanos → Recorded
no_room wait = Err (record { wait = wait })

-- A settled debt is dropped. An unsettled one is dropped only where debts may be forgotten; else nothing is, and how long it still takes is told.
unfoldable pub drop_chosen : Nanos → Bool → Ledger → Choice → Outcome Recorded Ledger
drop_chosen at forget l (Settled p) = outcome (Ok tt) (remove_at l p)
drop_chosen at forget l (Soonest p) =
    cond forget (outcome (Ok tt) (remove_at l p)) (outcome (no_room (record { 0 = (settling_at l p).0 - at.0 })) l)

unfoldable pub make_room : Nanos → Bool → Ledger → Outcome Recorded Ledger
make_room at forget l = drop_chosen at forget (scan at l).after (scan at l).answer

-- A new debt joins once there is room for it.
abbrev pub joined : Debt → Ledger → Recorded → Outcome Recorded Ledger
joined d l (Ok _) = outcome (Ok tt) (append l d)
joined d l (Err full) = outcome (Err full) l

-- The later of two moments for one hash.
abbrev pub later : Debt → Nanos → Debt
later d moment = record { hash = d.hash; settles = record { 0 = max d.settles.0 moment.0 } }

-- A debt is recorded: a hash that is there keeps the later moment; a new one comes last, after room is made where the ledger is full.
unfoldable pub recorded_at : Ledger → Debt → Nanos → Bool → Option ℕ → Outcome Recorded Ledger
recorded_at l d at forget (Some p) = outcome (Ok tt) (with_debt l p (later (debt_at l p) d.settles))
recorded_at l d at forget None =
    cond (ltb l.debts.count (cap_of l)) (joined d l (Ok tt)) (joined d (make_room at forget l).after (make_room at forget l).answer)

unfoldable pub recorded : Ledger → Debt → Nanos → Bool → Outcome Recorded Ledger
recorded l d at forget = recorded_at l d at forget (place_of l d.hash)

-- What a refund of some tokens takes off a debt: the time that each token takes to come back, rounded down, held to 64 bits.
abbrev pub credit : BucketConfig → ℕ → Nanos
credit c cost = record { 0 = saturated (c.period.0 / c.amount * cost) }

-- The debt of a hash settles that much sooner, not before moment 0; whether there is one is told.
abbrev pub paid_at : Ledger → Nanos → Option ℕ → Outcome Bool Ledger
paid_at l off (Some p) = outcome true (with_debt l p (record { hash = (debt_at l p).hash; settles = record { 0 = (settling_at l p).0 - off.0 } }))
paid_at l off None = outcome false l

unfoldable pub paid_down : Ledger → ℕ → ℕ → BucketConfig → Outcome Bool Ledger
paid_down l hash cost c = paid_at l (credit c cost) (place_of l hash)
