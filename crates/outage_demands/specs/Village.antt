-- The window for a village that comes up, in the terms of its rows: keys, costs, codes and the moments of last tries.
--
-- The settings have a rate and turn new keys away when full, set_up_lem accepts them, and the run starts from the words that set_up_lem leaves.
-- No row has ended with code 0 before the run,                                                           NoneGrantedYet
-- and no two rows that are tried, and not refused by number, have different keys of one hash.           KeysApart
-- Add up the costs of the key's rows that end with code 0, their last try made from moment t to u.       tokens_granted
-- Times the period, the sum is at most burst × period + (u - t + 1) × amount.                            WithinRate 1
--
-- Theorems, in proofs/:
-- * `village_stays_within_the_window`: every run does. It is the window of demand 3 for the list of tries that the run makes (`calls`):
--   `run_leaves_what_its_calls_leave`, each try on the words that the last one left; `run_never_goes_back`, on any memory the moments of the tries that are
--   not refused by number never fall; `run_grants_what_its_calls_grant`, the tokens of the rows are the tokens of the calls.
-- * `contract_stays_within_the_window`: so it is with the rows of code that is as the contract of `outage_rows::run` says.
-- * `every_input_stays_within_the_window`: the same of the program's whole inputs (`InputWindow`). Where line 1 is accepted, what is printed is the rows of
-- lines 2 to 201 as they end (`input_prints_its_village`), run on the words that the set_up_lem of line 1 left (`village_runs_fresh`), and they stay within the
--   window. None of them was granted before (`lines_not_granted`).
-- * `denied_line_made_all`: a line that is answered 1 has made 1,000 tries. After the run no row is live (`outage_ends_all` of `outage_rows`).
use Rattle.std.specs.Prelude.{ℕ, zero, suc, ◌+◌, ◌*◌, ◌<◌, ◌≤◌, ◌≡◌, true, false, cond, List, [], ◌∷◌, ◌++◌, map, leb, eqb, length, take, drop, Option, Some}
use Rattle.std.specs.Prelude.{None}
use Rattle.rows.specs.Outcome.{Outcome}
use Rattle.settings.specs.declared.Limit.TheVariants.{Open}
use Rattle.settings.specs.declared.Settings.{Settings}
use Rattle.settings.specs.declared.eviction.WhenFull.TheVariants.{RefuseNew}
use Rattle.settings.specs.declared.rate.Rate.{Rate}
use Rattle.hash.specs.Fnv.{key_hash}
use Rattle.rules.specs.declared.Reply.{Reply}
use Rattle.store.specs.Refusals.{latest_moment}
use Rattle.rules.specs.declared.Reply.TheVariants.{Done}
use Rattle.rules.specs.Rules.{set_up}
use Rattle.rules.specs.Calls.{try}
use Rattle.demands.specs.Demands.{WithinRate}
use Rattle.demands.specs.ByKey.{Call, rules, Answered, replies}
use Rattle.desk_lines.specs.declared.Line.TheVariants.{SetUp}
use Rattle.desk_lines.specs.Lines.{line_of}
use Rattle.desk_lines.specs.Printed.{printed}
use Rattle.desk_answers.specs.Desk.{identity_of, store_size}
use Rattle.desk_answers.specs.Desk as Desk
use Rattle.desk_cutting.specs.Cutting.{lines_of}
use Rattle.outage_rows.specs.declared.Row.{Row}
use Rattle.outage_rows.specs.Model.{State, most_tries, row_at, is_live, cost_of, next, step, outage}
use Rattle.outage_rows.specs.Printed.{line_of_row, printed_row, printed_rows}
use Rattle.outage_run.specs.Run.{most_rows, malformed_row, row_of_line, next_number, printed_for}

-- The call that the next try of a row is.
abbrev pub call_of : Settings → Row → Call
call_of s row = try s row.at (identity_of row.key) (cost_of row.cost)

-- The calls of so many steps; and of the whole run.
abbrev pub calls_at : Settings → State → Option ℕ → List Call → List Call
calls_at s v None rest = []
calls_at s v (Some p) rest = call_of s (row_at v.rows p) ∷ rest

unfoldable pub calls_in : Settings → ℕ → State → List Call
calls_in s zero v = []
calls_in s (suc n) v = calls_at s v (next v.rows) (calls_in s n (step s v))

abbrev pub calls : Settings → State → List Call
calls s v = calls_in s (most_tries * length v.rows) v

-- These calls as the rules answer them, each on the words that the last one left; and the words that they leave in the end.
abbrev pub answered : Settings → State → List Answered
answered s v = replies rules (calls s v) v.store v.store

unfoldable pub words_after : List Call → List ℕ → List ℕ
words_after [] ws = ws
words_after (c ∷ cs) ws = words_after cs (rules c ws).after

-- The tokens that a row was granted, if it is a row of the key, has ended with code 0, and made its last try from t to u.
unfoldable pub granted : ℕ → ℕ → ℕ → Row → ℕ
granted key t u row =
    cond (is_live row) 0
    (cond (eqb row.code 0)
    (cond (eqb row.key key) (cond (leb t row.at.0) (cond (leb row.at.0 u) (cost_of row.cost) 0) 0) 0)
    0)

unfoldable pub tokens_granted : ℕ → ℕ → ℕ → List Row → ℕ
tokens_granted key t u [] = 0
tokens_granted key t u (row ∷ rows) = granted key t u row + tokens_granted key t u rows

-- Before the run no row has ended with code 0: the rows of malformed lines have code 9.
abbrev pub NoneGrantedYet : List Row → Type 0
NoneGrantedYet rows = (j : ℕ) → j < length rows → is_live (row_at rows j) ≡ false → (row_at rows j).code ≡ 0 → ⊥

-- A row is asked of the store: it is live, and its moment is one that a call may name. The rows of malformed lines are not live, and the try of a row that is
-- too late is refused by number.
abbrev pub Asked : Row → Type 0
Asked row = (is_live row ≡ true) × (row.at.0 ≤ latest_moment)

-- No two such rows have different keys of one hash.
abbrev pub KeysApart : List Row → Type 0
KeysApart rows =
    (i j : ℕ) → i < length rows → j < length rows → Asked (row_at rows i) → Asked (row_at rows j)
    → key_hash (row_at rows i).key ≡ key_hash (row_at rows j).key → (row_at rows i).key ≡ (row_at rows j).key

-- The window, for every village.
abbrev pub fresh : Settings → List ℕ → List Row → List ℕ → State
fresh s ws rows others = record { rows = rows; others = others; store = (set_up s ws).after }

abbrev pub VillageWindow : Type 0
VillageWindow =
    (s : Settings) (rate : Rate) (ws : List ℕ) → s.classes ≡ 0 → s.limit ≡ Open rate → s.eviction.when_full ≡ RefuseNew → (set_up s ws).answer ≡ Done →
    (rows : List Row) (others : List ℕ) → NoneGrantedYet rows → KeysApart rows →
    (key : ℕ) → WithinRate 1 rate (λ t u. tokens_granted key t u (outage s (fresh s ws rows others)).rows)

-- The rows of lines, in their order.
abbrev pub rows_of : List (List ℕ) → List Row
rows_of lines = map (λ line. row_of_line (line_of line)) lines

-- The first line that can have no row, line 202; and what is printed for the lines from there on.
abbrev pub first_past : ℕ
first_past = line_of_row most_rows

unfoldable pub printed_past : ℕ → List (List ℕ) → List ℕ
printed_past number [] = []
printed_past number (line ∷ lines) = printed_row number malformed_row ++ printed_past (next_number number) lines

-- The rows of the further lines of an input, as they end: run from the words that the set_up_lem of line 1 leaves.
abbrev pub village_rows : Settings → List ℕ → List (List ℕ) → List Row
village_rows s memory further =
    (outage s (fresh s (take (store_size s (length memory)) memory) (rows_of (take most_rows further)) [])).rows

-- What is printed: line 1 is accepted, then come the rows, then the lines for which there is no row.
abbrev pub printed_village : Settings → List ℕ → List (List ℕ) → List ℕ
printed_village s memory further = printed 1 0 0 ++ (printed_rows (village_rows s memory further) ++ printed_past first_past (drop most_rows further))

-- Whole inputs. Line 1 is a settings line that is answered 0; its settings have a rate and turn new keys away when full. No two tries among lines 2 to 201
-- that are not refused by number have different keys of one hash. Then these rows are printed, and they stay within the window.
abbrev pub InputWindow : Type 0
InputWindow =
    (input memory first : List ℕ) (further : List (List ℕ)) (s : Settings) (rate : Rate) → lines_of input ≡ first ∷ further → line_of first ≡ SetUp s →
    (Desk.set_up s memory).answer.told.code ≡ 0 → s.limit ≡ Open rate → s.eviction.when_full ≡ RefuseNew →
    KeysApart (rows_of (take most_rows further)) →
    (printed_for input memory ≡ printed_village s memory further)
    × ((key : ℕ) → WithinRate 1 rate (λ t u. tokens_granted key t u (village_rows s memory further)))
