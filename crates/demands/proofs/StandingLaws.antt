-- The state of a whole memory between two calls, as far as one key is concerned: what stands in the key's own shard bounds what happened to the key so far,
-- by any bound by its line, and no stamp there is after the moment. An operation in any shard leaves it standing.
use Prim.Native.Nat.{ℕ, ◌≤◌}
use mathlib.Core.Path.{◌≡◌}
use mathlib.Core.List.{List}
use lib.ListN.{length}
use Rattle.arith.proofs.Cases.{by_eq}
use Rattle.rows.specs.Outcome.{Outcome}
use Rattle.units.specs.declared.Nanos.{Nanos}
use Rattle.settings.specs.declared.Settings.{Settings}
use Rattle.settings.specs.declared.rate.Rate.{Rate}
use Rattle.settings.specs.Rate.{config_of}
use Rattle.settings.specs.Settings.{cap_of, shape_of, shard_of}
use Rattle.shard_map.specs.Model as Shard
use Rattle.shard_map.proofs.ReadBack.{Sized}
use Rattle.shard.specs.declared.Identity.{Identity}
use Rattle.shard.proofs.ShardLaws.{SameRoom}
use Rattle.store.specs.Memory.{memory_words, shard_at, in_shard}
use Rattle.store.proofs.MemoryLaws.{same_shard, same_room_sized, in_shard_length, in_shard_reads_back_for, in_shard_leaves_others}
use Rattle.rules.specs.declared.Reply.{Reply}
use Rattle.rules.specs.Asks.{Ask}
use Rattle.rules.specs.Rules.{classes_stored}
use Rattle.rules.proofs.StoredLaws.{classes_are_stored}
use Rattle.demands.proofs.LineBound.{BoundOf}
use Rattle.demands.proofs.StampLaws.{StampsBy, stamps_by_later}
use Rattle.demands.proofs.RequestLaws.{Invariant, invariant_later}

-- A moment, from its number.
abbrev pub moment : ℕ → Nanos
moment n = record { 0 = n }

module _ (s : Settings) (rate : Rate) (k : Identity) (B : BoundOf (config_of rate)) where
  -- The key's shard, and the invariant of that shard at a moment.
  abbrev pub own : List ℕ → Shard.Shard
  own ws = shard_at s k.hash ws

  abbrev pub Bounds : ℕ → Shard.Shard → B.History → Type 0
  Bounds n shard g = Invariant (config_of rate) B k.hash k.key (moment n) shard g

  pub record Standing (n : ℕ) (ws : List ℕ) (g : B.History) : Type 0 where
    pub size : length ws ≡ memory_words s
    pub sound : Shard.Sound (own ws)
    pub complete : Shard.Complete (own ws)
    pub past : StampsBy n (own ws)
    pub bounds : Bounds n (own ws) g

  -- Time passes.
  pub standing_later : (n m : ℕ) (ws : List ℕ) {g : B.History} → n ≤ m → Standing n ws g → Standing m ws g
  standing_later n m ws later v = record {
    size = v.size;
    sound = v.sound;
    complete = v.complete;
    past = stamps_by_later n m (own ws) later v.past;
    bounds = invariant_later (config_of rate) B k.hash k.key (moment n) (moment m) (own ws) later v.bounds;
  }

  -- What an ask stores of the class buckets leaves the length and every shard.
  pub stored_stands : (n : ℕ) (ask : Ask) (reply : Reply) (ws : List ℕ) {g : B.History} → Standing n ws g
      → Standing n (classes_stored (shape_of s) ask reply ws) g
  stored_stands n ask reply ws v =
      let stored = classes_are_stored s ask reply ws v.size in
      record {
        size = stored.size;
        sound = rw (stored.shards k.hash) v.sound;
        complete = rw (stored.shards k.hash) v.complete;
        past = rw (stored.shards k.hash) v.past;
        bounds = rw (stored.shards k.hash) v.bounds;
      }

  -- An operation in the shard of a hash. In the key's own shard it has to keep the bound; elsewhere nothing happens to the key.
  module _ {A : Type 0} (hash n : ℕ) (ws : List ℕ) {g : B.History} (v : Standing n ws g) (o : Outcome A Shard.Shard)
      (room : SameRoom (shard_at s hash ws) o.after) (stamps : StampsBy n (shard_at s hash ws) → StampsBy n o.after) (next : B.History) where
    sized : Sized (cap_of s) o.after
    sized = same_room_sized s hash ws v.size room

    pub operation_stands : (shard_of s k.hash ≡ shard_of s hash → Bounds n (shard_at s hash ws) g → Bounds n o.after next)
        → ((shard_of s k.hash ≡ shard_of s hash → ⊥) → next ≡ g) → Standing n (in_shard s hash ws o).after next
    operation_stands here there =
        by_eq (shard_of s k.hash) (shard_of s hash)
        (λ same.
        let back : own (in_shard s hash ws o).after ≡ o.after = in_shard_reads_back_for s hash ws o v.size sized k.hash same in
        let before : own ws ≡ shard_at s hash ws = same_shard s hash k.hash ws same in
        record {
          size = in_shard_length s hash ws o v.size sized;
          sound = rw back room.sound;
          complete = rw back (room.complete (rw before at v.complete));
          past = rw back (stamps (rw before at v.past));
          bounds = rw back (here same (rw before at v.bounds));
        })
        (λ apart.
        let kept : own (in_shard s hash ws o).after ≡ own ws = in_shard_leaves_others s hash ws o v.size sized k.hash apart in
        record {
          size = in_shard_length s hash ws o v.size sized;
          sound = rw kept v.sound;
          complete = rw kept v.complete;
          past = rw kept v.past;
          bounds = rw (kept, there apart) v.bounds;
        })
