-- The counts of tries turned away decide nothing (request 8 of document 02): no call but the look at such a count reads one. On two memories that are equal but
-- for these counts every other call gives the same answer on both, and every call leaves two such memories. So does every list of calls and clears of a store.
-- That the rules are otherwise those of before is not stated here: it is read off the definitions.
use Rattle.std.specs.Prelude.{ℕ, ◌≡◌, Bool, true, false, List, [], ◌∷◌, length}
use Rattle.rows.specs.Outcome.{Outcome}
use Rattle.settings.specs.declared.Settings.{Settings}
use Rattle.settings.specs.Settings.{shape_of}
use Rattle.shard_map.specs.Model.{uncounted}
use Rattle.store.specs.Memory.{total_of, shard_at, buckets_at}
use Rattle.rules.specs.declared.Reply.{Reply}
use Rattle.rules.specs.Asks.{peeks, tokens, turn_aways, Ask, requests, looks, undoes, passes}
use Rattle.rules.specs.Calls.{Call, keyed, whole}
use Rattle.demands.specs.PlaceOrder.{Turn, calls, clears}

-- What reads a count of tries turned away: one look.
abbrev pub reads_turn_aways : Ask → Bool
reads_turn_aways (requests r at cost) = false
reads_turn_aways (looks (peeks at cost)) = false
reads_turn_aways (looks (tokens at)) = false
reads_turn_aways (looks turn_aways) = true
reads_turn_aways (undoes u) = false
reads_turn_aways (passes table class at cost) = false

module _ {S N : Type 0} where
  abbrev pub call_reads_turn_aways : Call S N → Bool
  call_reads_turn_aways (keyed s n ask) = reads_turn_aways ask
  call_reads_turn_aways (whole s what) = false

  abbrev pub turn_reads_turn_aways : Turn S N → Bool
  turn_reads_turn_aways (calls c) = call_reads_turn_aways c
  turn_reads_turn_aways (clears table) = false

  -- The replies to a list are the same, reply by reply, but for those of the look.
  abbrev pub SameReplies : List (Turn S N) → List Reply → List Reply → Type 0
  SameReplies [] [] [] = Unit {0}
  SameReplies (t ∷ ts) (r ∷ rs) (q ∷ qs) = (turn_reads_turn_aways t ≡ false → r ≡ q) × SameReplies ts rs qs
  SameReplies [] [] (q ∷ qs) = ⊥
  SameReplies [] (r ∷ rs) qs = ⊥
  SameReplies (t ∷ ts) [] qs = ⊥
  SameReplies (t ∷ ts) (r ∷ rs) [] = ⊥

-- Two memories of a store are equal but for these counts: they have as many words, the total is equal, the shards of each hash are equal once all such
-- counts are 0, and the class buckets are equal.
pub record EqualButForTurnAways (s : Settings) (ws vs : List ℕ) : Type 0 where
  pub size : length ws ≡ length vs
  pub total : total_of ws ≡ total_of vs
  pub shards : (hash : ℕ) → uncounted (shard_at s hash ws) ≡ uncounted (shard_at s hash vs)
  pub buckets : buckets_at (shape_of s) ws ≡ buckets_at (shape_of s) vs

-- A call on two such memories: the same answer on both, unless it reads such a count, and two such memories after it.
pub record DecidedAlike (s : Settings) (reads : Bool) (o q : Outcome Reply (List ℕ)) : Type 0 where
  pub answer : reads ≡ false → o.answer ≡ q.answer
  pub after : EqualButForTurnAways s o.after q.after

-- A list of calls and clears on two such memories.
pub record ListDecidedAlike {S N : Type 0} (s : Settings) (ts : List (Turn S N)) (o q : Outcome (List Reply) (List ℕ)) : Type 0 where
  pub answers : SameReplies ts o.answer q.answer
  pub after : EqualButForTurnAways s o.after q.after
