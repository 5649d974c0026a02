-- What each line of the desk is told, and what it does to the memory, by the rules of the limiter.
use Rattle.std.specs.Prelude.{ℕ, min, Bool, true, false, cond, List, ◌++◌, eqb, length, take, drop}
use Rattle.rows.specs.Outcome.{Outcome, outcome}
use Rattle.units.specs.declared.Nanos.{Nanos}
use Rattle.settings.specs.declared.Settings.{Settings}
use Rattle.settings.specs.Settings.{size_refusal}
use Rattle.hash.specs.Fnv.{key_hash}
use Rattle.shard.specs.declared.Identity.{Identity}
use Rattle.rules.specs.declared.Reply.{Reply}
use Rattle.rules.specs.Replies as Replies
use Rattle.rules.specs.Rules as Rules
use Rattle.desk_lines.specs.declared.Request.{Request}
use Rattle.desk_lines.specs.declared.Line.{Line}
use Rattle.desk_lines.specs.declared.Line.TheVariants.{SetUp, Try, Peek, Reserve, Refund, Remove, Malformed}
use Rattle.rules.specs.declared.codes.Told.{Told}
use Rattle.desk_answers.specs.declared.Served.{Served}
use Rattle.desk_answers.specs.declared.Stage.{Stage}
use Rattle.desk_answers.specs.declared.Stage.TheVariants.{First, Open, Ended}
use Rattle.store.specs.Memory.{memory_words}

-- Whether the run has ended, so that no further line is answered.
abbrev pub has_ended : Stage → Bool
has_ended First = false
has_ended (Open s) = false
has_ended (Ended code) = true

-- What a malformed line is told. Of what a line is told its code and its number are printed; no line of the desk counts, so the number is a wait.
abbrev pub malformed : Told
malformed = record { code = 9; number = 0; moment = 0 }

-- The desk's hash of a key is FNV-1a over its eight bytes.
abbrev pub identity_of : ℕ → Identity
identity_of key = record { hash = key_hash key; key = key }

abbrev pub tried : Settings → Request → List ℕ → Outcome Told (List ℕ)
tried s q ws = Replies.told (Rules.try_acquire s q.at (identity_of q.key) q.cost ws)

abbrev pub peeked : Settings → Request → List ℕ → Outcome Told (List ℕ)
peeked s q ws = Replies.told (Rules.peek s q.at (identity_of q.key) q.cost ws)

abbrev pub reserved : Settings → Request → Nanos → List ℕ → Outcome Told (List ℕ)
reserved s q longest ws = Replies.told (Rules.reserve s q.at (identity_of q.key) q.cost longest ws)

-- A line after the first, on the words of the store: the call that it is. A second settings line is malformed, and a malformed line changes no word.
abbrev pub answered : Settings → Line → List ℕ → Outcome Told (List ℕ)
answered s (SetUp t) ws = outcome malformed ws
answered s (Try q) ws = tried s q ws
answered s (Peek q) ws = peeked s q ws
answered s (Reserve q longest) ws = reserved s q longest ws
answered s (Refund key cost) ws = Replies.told (Rules.refund s (identity_of key) cost ws)
answered s (Remove key) ws = Replies.told (Rules.remove s (identity_of key) ws)
answered s Malformed ws = outcome malformed ws

-- The store is lent the words that it needs, or all of the memory where it needs more: set_up_lem refuses that as 5. The words of settings that are
-- refused as 4 are not counted, and none are lent.
unfoldable pub store_size : Settings → ℕ → ℕ
store_size s words = cond (eqb (size_refusal s) 0) (min (memory_words s) words) 0

-- What a call on the words of the store gives, and the whole memory after it.
abbrev pub on_first_words : {A : Type 0} → ℕ → (List ℕ → Outcome A (List ℕ)) → List ℕ → Outcome A (List ℕ)
on_first_words n call memory = let o = call (take n memory) in outcome o.answer (o.after ++ drop n memory)

abbrev pub in_store : {A : Type 0} → Settings → (List ℕ → Outcome A (List ℕ)) → List ℕ → Outcome A (List ℕ)
in_store s call memory = on_first_words (store_size s (length memory)) call memory

-- Line 1 sets the store up. Unless it is accepted, the run ends, and its code is kept as the reason.
unfoldable pub stage_after : Settings → ℕ → Stage
stage_after s code = cond (eqb code 0) (Open s) (Ended code)

abbrev pub served_first : Settings → Outcome Told (List ℕ) → Outcome Served (List ℕ)
served_first s o = outcome (record { told = o.answer; stage = stage_after s o.answer.code }) o.after

abbrev pub set_up : Settings → List ℕ → Outcome Served (List ℕ)
set_up s memory = served_first s (in_store s (λ ws. Replies.told (Rules.set_up s ws)) memory)

abbrev pub unopened : Served
unopened = record { told = malformed; stage = Ended malformed.code }

abbrev pub opened : Line → List ℕ → Outcome Served (List ℕ)
opened (SetUp s) memory = set_up s memory
opened (Try q) memory = outcome unopened memory
opened (Peek q) memory = outcome unopened memory
opened (Reserve q longest) memory = outcome unopened memory
opened (Refund key cost) memory = outcome unopened memory
opened (Remove key) memory = outcome unopened memory
opened Malformed memory = outcome unopened memory

abbrev pub served_next : Settings → Outcome Told (List ℕ) → Outcome Served (List ℕ)
served_next s o = outcome (record { told = o.answer; stage = Open s }) o.after

-- Every line, by how the run stands: what it is told, how the run stands then, and the memory after it. Once the run has ended no line is answered
-- any more (`lines_answered` of `desk_turns`), so the last case is never used.
abbrev pub served : Stage → Line → List ℕ → Outcome Served (List ℕ)
served First line memory = opened line memory
served (Open s) line memory = served_next s (in_store s (answered s line) memory)
served (Ended code) line memory = outcome unopened memory
