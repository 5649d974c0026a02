-- Isolation (request 10 of document 02). Class buckets apart, what a call on a key answers and leaves in the key's shard depends on the other shards
-- through the total alone, on any memory. On a store that has grown from fresh it depends on them through nothing. A list of debts (request 12) depends on its
-- own shard alone, on any memory.
use Rattle.std.specs.Prelude.{ℕ, ◌≡◌, true, List, length}
use Rattle.rows.specs.Outcome.{Outcome}
use Rattle.units.specs.declared.Nanos.{Nanos}
use Rattle.settings.specs.declared.Settings.{Settings}
use Rattle.settings.specs.Settings.{shape_of}
use Rattle.store.specs.Memory.{total_of, shard_at, buckets_at}
use Rattle.rules.specs.declared.Reply.{Reply}
use Rattle.rules.specs.Asks.{Ask, in_force}
use Rattle.rules.specs.Widths.{lendable}
use Rattle.rules.specs.Debts.{shard_numbered}
use Rattle.rules.specs.Calls.{Call, keyed, list_debts, Implementation, Terms, fits}
use Rattle.demands.specs.Grown.{Grown}

-- Two memories have the same shard for a hash, and the same class buckets. Of the other shards nothing is said.
pub record SameShard (s : Settings) (hash : ℕ) (ws vs : List ℕ) : Type 0 where
  pub shard : shard_at s hash ws ≡ shard_at s hash vs
  pub buckets : buckets_at (shape_of s) ws ≡ buckets_at (shape_of s) vs

-- They have the same total, too.
pub record SameShardAndTotal (s : Settings) (hash : ℕ) (ws vs : List ℕ) : Type 0 where
  pub own : SameShard s hash ws vs
  pub total : total_of ws ≡ total_of vs

-- A call gives the same answer on both, and leaves two memories with the same shard and class buckets; in the second record, with the same total, too.
pub record AlikeInShard (s : Settings) (hash : ℕ) (o q : Outcome Reply (List ℕ)) : Type 0 where
  pub answer : o.answer ≡ q.answer
  pub after : SameShard s hash o.after q.after

pub record AlikeInShardAndTotal (s : Settings) (hash : ℕ) (o q : Outcome Reply (List ℕ)) : Type 0 where
  pub answer : o.answer ≡ q.answer
  pub after : SameShardAndTotal s hash o.after q.after

module _ {S N : Type 0} (terms : Terms S N) where
  -- The settings that a call on a key goes by, and the hash of its key.
  abbrev pub settings_in : S → Ask → Settings
  settings_in s ask = in_force ask (terms.settings s)

  abbrev pub hash_of : N → ℕ
  hash_of n = (terms.identity n).hash

  -- Which calls can be made on which words. The claims below are about every call on a key, whatever it asks, and every list of
  -- debts that can be made on both memories.
  abbrev pub CanBeMade : Type 1
  CanBeMade = Call S N → List ℕ → Type 0

  -- On any two memories of one length.
  abbrev pub IsolatedByTotal : CanBeMade → Implementation S N → Type 0
  IsolatedByTotal made f =
      (s : S) (n : N) (ask : Ask) (ws vs : List ℕ) → made (keyed s n ask) ws → made (keyed s n ask) vs → length ws ≡ length vs
      → SameShardAndTotal (settings_in s ask) (hash_of n) ws vs
      → AlikeInShardAndTotal (settings_in s ask) (hash_of n) (f (keyed s n ask) ws) (f (keyed s n ask) vs)

  -- On two stores that have grown from fresh with the settings of the call.
  abbrev pub IsolatedWhenGrown : CanBeMade → Implementation S N → Type 0
  IsolatedWhenGrown made f =
      (s : S) (n : N) (ask : Ask) (ws vs : List ℕ) → made (keyed s n ask) ws → made (keyed s n ask) vs
      → Grown terms (settings_in s ask) ws → Grown terms (settings_in s ask) vs
      → SameShard (settings_in s ask) (hash_of n) ws vs → AlikeInShard (settings_in s ask) (hash_of n) (f (keyed s n ask) ws) (f (keyed s n ask) vs)

  -- A list of debts: on any two memories of one length with the same shard of its number.
  abbrev pub IsolatedLists : CanBeMade → Implementation S N → Type 0
  IsolatedLists made f =
      (s : S) (at : Nanos) (i room : ℕ) (ws vs : List ℕ) → made (list_debts s at i room) ws → made (list_debts s at i room) vs → length ws ≡ length vs
      → shard_numbered (shape_of (terms.settings s)) i ws ≡ shard_numbered (shape_of (terms.settings s)) i vs
      → (f (list_debts s at i room) ws).answer ≡ (f (list_debts s at i room) vs).answer

  pub record Isolated (made : CanBeMade) (f : Implementation S N) : Type 0 where
    pub by_total : IsolatedByTotal made f
    pub when_grown : IsolatedWhenGrown made f
    pub lists : IsolatedLists made f

  -- The rules take every call on any words. Code can be given a call that fits, on words that can be lent.
  abbrev pub always : CanBeMade
  always c ws = Unit {0}

  abbrev pub code_can_be_given : CanBeMade
  code_can_be_given c ws = (fits terms c ≡ true) × (lendable ws ≡ true)
