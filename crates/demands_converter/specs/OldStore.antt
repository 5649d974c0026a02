-- A store in document 01's words, with the rules as they now stand. The present calls refuse such words for their length, so the rules are those over a store
-- whose slots and debts are found in place order (`step_without_indexes` of `demands`): decisions, sweeps, eviction and debts are the present ones. Document 01
-- keeps no count of tries turned away, so request 8's look is left out where two stores are compared (`SameReplies` of `demands`).
--
-- Theorems, in proofs/:
-- * `forth_answers_alike`: every list of calls and clears with the settings of the conversion, without classes, answers alike on the old store and on the
--   words that a conversion forth leaves.
-- * `back_answers_alike`: so it is on the present store and on the words that a conversion back of it leaves, but for request 8's look.
-- * `old_grown_goes_forth`: an old store that has grown by a list is not refused on the way forth, if `max_keys` of the settings is at most 4,096.
-- * `grown_goes_back`: nor is a grown store on the way back. `grown_back_is_the_old_store`: its shards become those that document 01's layout would have
--   grown. `came_forth_goes_back`: nor is a store refused that has come forth and has worked on.
-- * `forth_decides_by_the_old_debt`: the first call after a conversion, if it is a try or a reservation of a cost from 1 to the burst, of a key that holds a
--   slot or a debt on the old store, is decided by it on the new one.
-- * `converted_store_stays_within_the_window`: with a rate set, under RefuseNew, the rules stay within the window over a list of any calls that begins on a
--   fresh store and goes on, converted forth, on another box (`across_boxes`); so they do within the windows with refunds. `the_old_box_answers_so`: the first
--   part is what a box in document 01's words
--   answers, if its calls have the settings of the store. `an_old_box_can_hold_it`: there is such a box, and its words go forth. For code: Boxes.
-- * `converted_list_is_one_list` (proofs/OneListTheorem.antt): where all calls have the settings of the store, and after the conversion none looks at a count,
--   the two parts are answered as one list on one box. There `converted_store_stays_within_the_window` says so of the window.
use Rattle.std.specs.Prelude.{ℕ, ◌<◌, ◌≡◌, false, List, [], ◌∷◌, ◌++◌}
use Rattle.settings.specs.declared.Settings.{Settings}
use Rattle.settings.specs.Settings.{cap_of, shard_count, shard_of, with_classes}
use Rattle.shard_map.specs.Model.{in_place_order, uncounted}
use Rattle.converter.specs.declared.Layout.TheVariants.{Old}
use Rattle.converter.specs.Layouts.{shard_at}
use Rattle.rules.specs.Calls.{Call, Terms, Implementation, Answered, rules, replies, settings_of}
use Rattle.demands.specs.PlaceOrder.{shard_numbered, Shards}
use Rattle.demands.specs.TurnAways.{call_reads_turn_aways}

-- The settings of a store without classes.
abbrev pub classless : Settings → Settings
classless s = with_classes 0 s

-- The store in document 01's words: its shards, and no class buckets.
abbrev pub old_store : Settings → List ℕ → Shards
old_store s ws = record { numbered = λ i. shard_at Old (cap_of s) i ws; buckets = [] }

-- Two stores are equal but for the counts of tries turned away.
pub record EqualButForCounts (s : Settings) (a b : Shards) : Type 0 where
  pub shards : (hash : ℕ) → uncounted (a.numbered (shard_of s hash)) ≡ uncounted (b.numbered (shard_of s hash))
  pub buckets : a.buckets ≡ b.buckets

-- The words that a list of calls leaves.
unfoldable pub left_by : {S N : Type 0} → Terms S N → List (Call S N) → List ℕ → List ℕ
left_by terms [] ws = ws
left_by terms (c ∷ cs) ws = left_by terms cs (rules terms c ws).after

-- A call of the store that looks at no count.
abbrev pub Blind : {S N : Type 0} → Terms S N → Settings → Call S N → Type 0
Blind terms s c = (settings_of terms c ≡ s) × (call_reads_turn_aways c ≡ false)

-- Document 01's words hold the store that some present words hold: shard by shard, in place order and without counts of tries turned away.
abbrev pub OldHolds : Settings → List ℕ → List ℕ → Type 0
OldHolds s ws old = (i : ℕ) → i < shard_count s → (old_store s old).numbered i ≡ in_place_order (uncounted (shard_numbered (classless s) i ws))

-- A list of calls that begins in some words and goes on in others. Each call stands with its answer in the words that the calls before it left on the same
-- box, and with the words that the rules leave there, by which it is accepted or not. The first box is a present one: its answers are those of an old box.
abbrev pub across_boxes : {S N : Type 0} → Terms S N → Implementation S N → List (Call S N) → List (Call S N) → List ℕ → List ℕ → List (Answered S N)
across_boxes terms f cs ds ws came = replies terms f cs ws ws ++ replies terms f ds came came
