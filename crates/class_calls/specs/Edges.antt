-- Worked edges of the calls with a class table, as a table: a row has its settings, its class table, the words that it begins on, its calls, and what the last
-- call answers and leaves. One test goes over all rows.
use Rattle.std.specs.Prelude.{ℕ, zero, suc, ◌+◌, Bool, true, false, ◌&&◌, List, [], ◌∷◌, ◌++◌, eqb, replicate, Some, None}
use Rattle.rows.specs.Outcome.{Outcome}
use Rattle.settings.specs.declared.Limit.{Limit}
use Rattle.settings.specs.declared.Limit.TheVariants.{Closed, Open}
use Rattle.settings.specs.declared.Settings.{Settings}
use Rattle.settings.specs.Eviction.{capacity_of}
use Rattle.shard.specs.declared.Identity.{Identity}
use Rattle.store.specs.Memory.{memory_words}
use Rattle.rules.specs.declared.Reply.{Reply}
use Rattle.rules.specs.Replies.{code_of, number_of, moment_of}
use Rattle.rules.specs.Asks.{with_table}
use Rattle.rules.specs.Rules as Rules
use Rattle.rules.specs.Rules.{class_set_up, class_clear, class_try, try_acquire}

-- One shard with room for so many modems. The settings name nine classes, a number that no call with a table looks at.
abbrev one_shard : Limit → ℕ → Settings
one_shard limit keys = record { limit = limit; eviction = capacity_of keys; shards = 1; classes = 9 }

-- Modems with two tokens a second, up to four, and with one token in ten seconds, up to four.
abbrev quick : ℕ → Settings
quick keys = one_shard (Open (record { amount = 2; period = record { 0 = 1000000000 }; burst = Some 4; initial = None })) keys

abbrev slow : ℕ → Settings
slow keys = one_shard (Open (record { amount = 1; period = record { 0 = 10000000000 }; burst = Some 4; initial = None })) keys

-- The six words of a class with so many tokens a second, up to a burst: at the top, and under another class.
abbrev top : ℕ → ℕ → List ℕ
top amount burst = amount ∷ 1000000000 ∷ 1 ∷ burst ∷ 0 ∷ 0 ∷ []

abbrev under : ℕ → ℕ → ℕ → List ℕ
under parent amount burst = amount ∷ 1000000000 ∷ 1 ∷ burst ∷ 1 ∷ parent ∷ []

-- A hub, class 0, with three tokens a second, up to three; and two nodes under it, classes 1 and 2, with one and with four tokens a second, each up to two.
abbrev village : List ℕ
village = top 3 3 ++ under 0 1 2 ++ under 0 4 2

-- A node that could grant more than its hub; a node without a hub; two classes that are each above the other; a node without tokens.
abbrev wide_node : List ℕ
wide_node = top 3 3 ++ under 0 4 4

abbrev no_hub : List ℕ
no_hub = under 1 1 2

abbrev loop : List ℕ
loop = under 1 1 2 ++ under 0 1 2

abbrev no_tokens : List ℕ
no_tokens = top 3 3 ++ under 0 0 2

-- A chain of so many classes and one more, the first of this number, each under the next.
abbrev ladder : ℕ → ℕ → List ℕ
ladder i zero = top 1 1
ladder i (suc more) = under (i + 1) 1 1 ++ ladder (i + 1) more

-- A call, for the settings, the table and the words that it gets.
abbrev Step : Type 0
Step = Settings → List ℕ → List ℕ → Outcome Reply (List ℕ)

abbrev key_of : ℕ → Identity
key_of n = record { hash = n; key = n }

-- Set-up with the table, clear with it, and set_up_lem without it.
abbrev sets_up : Step
sets_up s table ws = class_set_up s table ws

abbrev clears : Step
clears s table ws = class_clear s table ws

abbrev sets_up_plain : Step
sets_up_plain s table ws = Rules.set_up s ws

-- A try through a class and a plain try, by moment and key. A plain call takes the number of classes from its settings.
abbrev passes : ℕ → ℕ → ℕ → ℕ → Step
passes moment key class cost s table ws = class_try s table (record { 0 = moment }) (key_of key) class cost ws

abbrev asks : ℕ → ℕ → ℕ → Step
asks moment key cost s table ws = try_acquire (with_table table s) (record { 0 = moment }) (key_of key) cost ws

-- The last answer and the last words of some calls after a first one.
abbrev ran_from : Settings → List ℕ → List Step → Outcome Reply (List ℕ) → Outcome Reply (List ℕ)
ran_from s table [] o = o
ran_from s table (step ∷ steps) o = ran_from s table steps (step s table o.after)

-- A row of the table. The first call gets the words given, and each other call those that were left before it. The last is told a code, a number and a moment,
-- and leaves the words of the row.
pub record Edge : Type 0 where
  pub settings : Settings
  pub table : List ℕ
  pub words : List ℕ
  pub first : Step
  pub others : List Step
  pub told : List ℕ
  pub left : List ℕ

abbrev same_words : List ℕ → List ℕ → Bool
same_words [] [] = true
same_words [] (y ∷ ys) = false
same_words (x ∷ xs) [] = false
same_words (x ∷ xs) (y ∷ ys) = eqb x y && same_words xs ys

abbrev numbers_of : Reply → List ℕ
numbers_of reply = code_of reply ∷ number_of reply ∷ moment_of reply ∷ []

abbrev last_of : Edge → Outcome Reply (List ℕ)
last_of e = ran_from e.settings e.table e.others (e.first e.settings e.table e.words)

abbrev holds : Edge → Bool
holds e = same_words (numbers_of (last_of e).answer) e.told && same_words (last_of e).after e.left

-- Every row holds.
abbrev pub all_hold : List Edge → Bool
all_hold [] = true
all_hold (e ∷ es) = holds e && all_hold es

-- A run in the village, from set_up_lem on, in memory that was not yet zero; what it is told and leaves.
abbrev runs : Settings → List Step → List ℕ → List ℕ → Edge
runs s steps told left =
    let fresh : List ℕ = replicate (memory_words (with_table village s)) 1 in
    record { settings = s; table = village; words = fresh; first = sets_up; others = steps; told = told; left = left }

-- One call on words that are all the same number. It leaves them as they are.
abbrev keeps : Settings → List ℕ → ℕ → ℕ → Step → ℕ → Edge
keeps s table size word step code =
    record { settings = s; table = table; words = replicate size word; first = step; others = []; told = code ∷ 0 ∷ 0 ∷ []; left = replicate size word }

-- The total, then the words of the one shard, with room for two: its slot count, hand and sweep, two slots, no debts, the four places of the index of the
-- slots, and those of the
-- index of the debts. A slot is hash, key, shortfall, stamp, mark, last-seen, tries turned away.
abbrev shard_of : ℕ → List ℕ → List ℕ → List ℕ → List ℕ
shard_of count slot other index = (count ∷ count ∷ 0 ∷ 0 ∷ []) ++ slot ++ other ++ replicate 6 0 ++ index ++ replicate 4 0

abbrev slot_of : ℕ → ℕ → ℕ → ℕ → ℕ → List ℕ
slot_of key shortfall stamp mark turned = key ∷ key ∷ shortfall ∷ stamp ∷ mark ∷ 0 ∷ turned ∷ []

abbrev no_slot : List ℕ
no_slot = replicate 7 0

-- Where the slots are found: key 7 alone, in the first place; keys 7 and 8, in this order.
abbrev seven : List ℕ
seven = 0 ∷ 0 ∷ 0 ∷ 1 ∷ []

abbrev seven_and_eight : List ℕ
seven_and_eight = 2 ∷ 0 ∷ 0 ∷ 1 ∷ []

-- The table. The last six words are the class buckets: shortfall and stamp of the hub, of node 1, of node 2. A token is 1,000,000,000 parts for a class, and
-- for a quick modem.
abbrev pub edges : List Edge
edges =
    -- A granted try charges its modem, its node and the hub, and no other node.
    runs (quick 2) (passes 0 7 1 2 ∷ []) (0 ∷ 0 ∷ 0 ∷ [])
    (shard_of 1 (slot_of 7 2000000000 0 0 0) no_slot seven ++ (2000000000 ∷ 0 ∷ 2000000000 ∷ 0 ∷ 0 ∷ 0 ∷ []))
    -- Modem 8 has all its tokens, but its node has none: it waits a second for the node. It gets a slot, which counts no try turned away. No bucket is charged.
    ∷ runs (quick 2) (passes 0 7 1 2 ∷ passes 0 8 1 1 ∷ []) (1 ∷ 1000000000 ∷ 1000000000 ∷ [])
    (shard_of 2 (slot_of 7 2000000000 0 0 0) (slot_of 8 0 0 0 0) seven_and_eight ++ (2000000000 ∷ 0 ∷ 2000000000 ∷ 0 ∷ 0 ∷ 0 ∷ []))
    -- At the moment told it is granted. The hub has all its tokens back by then, and the node one.
    ∷ runs (quick 2) (passes 0 7 1 2 ∷ passes 0 8 1 1 ∷ passes 1000000000 8 1 1 ∷ []) (0 ∷ 0 ∷ 1000000000 ∷ [])
    (shard_of 2 (slot_of 7 2000000000 0 0 0) (slot_of 8 1000000000 1000000000 1 0) seven_and_eight
    ++ (1000000000 ∷ 1000000000 ∷ 2000000000 ∷ 1000000000 ∷ 0 ∷ 0 ∷ []))
    -- Through the other node it is granted at once.
    ∷ runs (quick 2) (passes 0 7 1 2 ∷ passes 0 8 2 1 ∷ []) (0 ∷ 0 ∷ 0 ∷ [])
    (shard_of 2 (slot_of 7 2000000000 0 0 0) (slot_of 8 1000000000 0 0 0) seven_and_eight ++ (3000000000 ∷ 0 ∷ 2000000000 ∷ 0 ∷ 1000000000 ∷ 0 ∷ []))
    -- Three waits: the modem's is 0.5 s, node 2's 0.25 s, and the hub's two thirds of a second, rounded up. The largest is told, here the hub's. The modem's
    -- own bucket denied too, so the try counts.
    ∷ runs (quick 2) (passes 0 7 1 2 ∷ passes 0 7 2 1 ∷ passes 0 7 2 2 ∷ []) (1 ∷ 666666667 ∷ 666666667 ∷ [])
    (shard_of 1 (slot_of 7 3000000000 0 1 1) no_slot seven ++ (3000000000 ∷ 0 ∷ 2000000000 ∷ 0 ∷ 1000000000 ∷ 0 ∷ []))
    -- A slow modem: its own wait is the largest, 9 s, against 0.25 s of node 2. The hub has a token.
    ∷ runs (slow 2) (passes 0 7 2 2 ∷ passes 1000000000 7 2 2 ∷ passes 1000000000 7 2 1 ∷ []) (1 ∷ 9000000000 ∷ 10000000000 ∷ [])
    (shard_of 1 (slot_of 7 39000000000 1000000000 1 1) no_slot seven ++ (2000000000 ∷ 1000000000 ∷ 0 ∷ 0 ∷ 2000000000 ∷ 1000000000 ∷ []))
    -- A plain try charges no class, and clear with the table fills all buckets.
    ∷ runs (quick 2) (passes 0 7 1 2 ∷ asks 0 7 1 ∷ []) (0 ∷ 0 ∷ 0 ∷ [])
    (shard_of 1 (slot_of 7 3000000000 0 1 0) no_slot seven ++ (2000000000 ∷ 0 ∷ 2000000000 ∷ 0 ∷ 0 ∷ 0 ∷ []))
    ∷ runs (quick 2) (passes 0 7 1 2 ∷ clears ∷ []) (0 ∷ 0 ∷ 0 ∷ []) (replicate 38 0)
    -- A cost over the node's burst is impossible, though the modem's own bucket would grant it; so is one over the hub's alone, through a node that has the
    -- burst. Cost 0 is granted. None leaves a slot.
    ∷ runs (quick 2) (passes 0 7 1 3 ∷ []) (2 ∷ 0 ∷ 0 ∷ []) (replicate 38 0)
    ∷ keeps (quick 2) wide_node 36 0 (passes 0 7 1 4) 2
    ∷ runs (quick 2) (passes 3 7 1 0 ∷ []) (0 ∷ 0 ∷ 3 ∷ []) (replicate 38 0)
    -- Room for one modem: modem 8 turns modem 7 into a debt, which settles after a second. For modem 9 there is no space, and it waits until modem 8 is full,
    -- half a second. The class is not asked: node 1 would have it wait a second. No class is charged.
    ∷ runs (quick 1) (passes 0 7 1 2 ∷ asks 0 8 1 ∷ passes 0 9 1 1 ∷ []) (1 ∷ 500000000 ∷ 500000000 ∷ [])
    ((1 ∷ 1 ∷ 1 ∷ 0 ∷ []) ++ slot_of 8 1000000000 0 0 0 ++ (1 ∷ 1 ∷ 7 ∷ 1000000000 ∷ 1 ∷ 0 ∷ 0 ∷ 1 ∷ []) ++ (2000000000 ∷ 0 ∷ 2000000000 ∷ 0 ∷ 0 ∷ 0 ∷ []))
    -- Refused as 14: class 3 of three; a hub that is not in the table; 65 classes. As 15: a loop; a chain of 9, while one of 8 is accepted.
    ∷ keeps (quick 1) village 25 1 (passes 0 7 3 1) 24
    ∷ keeps (quick 1) no_hub 21 1 sets_up 24
    ∷ keeps (quick 1) (ladder 0 64) 149 1 sets_up 24
    ∷ keeps (quick 1) loop 23 1 sets_up 25
    ∷ keeps (quick 1) (ladder 0 8) 37 1 sets_up 25
    ∷ keeps (quick 1) (ladder 0 7) 35 0 sets_up 0
    -- Their order: a wrong length, or a count over the room, before 14; a late moment before the table; the table before the class that is named.
    ∷ keeps (quick 1) (ladder 0 64) 148 1 sets_up 15
    ∷ keeps (quick 1) village 25 2 (passes 0 7 3 1) 15
    ∷ keeps (quick 1) loop 23 1 (passes 4611686018427387905 7 0 1) 16
    ∷ keeps (quick 1) loop 23 1 (passes 0 7 2 1) 25
    ∷ keeps (quick 1) no_tokens 23 1 (passes 0 7 2 1) 11
    -- A closed limiter checks the rates of the classes too, even for cost 0. Where they are accepted it grants cost 0 alone.
    ∷ keeps (one_shard Closed 1) no_tokens 23 1 (passes 0 7 1 0) 11
    ∷ keeps (one_shard Closed 1) village 25 1 (passes 0 7 1 0) 0
    ∷ keeps (one_shard Closed 1) village 25 1 (passes 0 7 1 1) 2
    -- Set-up without a table is refused on words with classes.
    ∷ keeps (quick 1) village 25 1 sets_up_plain 15
    ∷ []
