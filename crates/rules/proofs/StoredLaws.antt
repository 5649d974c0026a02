-- What an ask stores of the class buckets, after its shard: a try through a class leaves the length and every shard as they are, and its buckets read back.
-- Every other ask leaves all words as they are.
use Prim.Native.Nat.{ℕ}
use mathlib.Core.Path.{◌≡◌, refl, ◌∙◌}
use mathlib.Core.List.{List}
use lib.ListN.{length}
use Rattle.arith.proofs.Cases.{by_test}
use Rattle.bucket.specs.declared.BucketCore.{BucketCore}
use Rattle.settings.specs.declared.Settings.{Settings}
use Rattle.settings.specs.Settings.{shape_of}
use Rattle.classes.specs.Layout.{classes_in}
use Rattle.classes.proofs.ChargeLaws.{charge_keeps_the_number}
use Rattle.store.specs.Memory.{memory_words, shard_at, buckets_at}
use Rattle.store.proofs.ClassLaws.{buckets_at_length, with_buckets_length, with_buckets_reads_back, with_buckets_leaves_shards}
use Rattle.rules.specs.declared.Reply.{Reply}
use Rattle.rules.specs.Asks.{Ask, requests, looks, undoes, passes, chain_of, grants_some, buckets_after}
use Rattle.rules.specs.Rules.{classes_stored}

-- There are as many buckets after an ask as before it.
pub buckets_after_length : (ask : Ask) (reply : Reply) (buckets : List BucketCore) → length (buckets_after ask reply buckets) ≡ length buckets
buckets_after_length (requests r at cost) reply buckets = refl
buckets_after_length (looks l) reply buckets = refl
buckets_after_length (undoes u) reply buckets = refl
buckets_after_length (passes table class at cost) reply buckets =
    by_test (grants_some cost reply)
    (λ yes'. rw yes' (charge_keeps_the_number (classes_in table) cost at buckets (chain_of (classes_in table) class)))
    (λ no'. rw no')

pub record Stored (s : Settings) (ask : Ask) (reply : Reply) (ws : List ℕ) : Type 0 where
  pub size : length (classes_stored (shape_of s) ask reply ws) ≡ memory_words s
  pub shards : (hash : ℕ) → shard_at s hash (classes_stored (shape_of s) ask reply ws) ≡ shard_at s hash ws
  pub buckets : buckets_at (shape_of s) (classes_stored (shape_of s) ask reply ws) ≡ buckets_after ask reply (buckets_at (shape_of s) ws)

pub classes_are_stored : (s : Settings) (ask : Ask) (reply : Reply) (ws : List ℕ) → length ws ≡ memory_words s → Stored s ask reply ws
classes_are_stored s (requests r at cost) reply ws size = record { size = size; shards = λ hash. refl; buckets = refl }
classes_are_stored s (looks l) reply ws size = record { size = size; shards = λ hash. refl; buckets = refl }
classes_are_stored s (undoes u) reply ws size = record { size = size; shards = λ hash. refl; buckets = refl }
classes_are_stored s (passes table class at cost) reply ws size =
    let bs = buckets_after (passes table class at cost) reply (buckets_at (shape_of s) ws) in
    let each : length bs ≡ s.classes =
    buckets_after_length (passes table class at cost) reply (buckets_at (shape_of s) ws) ∙ buckets_at_length s ws size in
    record {
      size = with_buckets_length s ws size bs each;
      shards = with_buckets_leaves_shards s ws size bs each;
      buckets = with_buckets_reads_back s ws size bs each;
    }
