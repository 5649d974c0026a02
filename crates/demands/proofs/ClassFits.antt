-- Class buckets that fit 64 bits: as they are read from words that fit, as they are written, and as a granted try charges them.
use Prim.Native.Nat.{ℕ, zero, suc, ◌-◌, ◌≤◌, ◌^◌}
use mathlib.Core.Path.{◌≡◌}
use mathlib.Core.List.{List, [], ◌∷◌}
use native.Mathlib.Omega.{arith}
use lib.ListN.{set}
use Rattle.rows.specs.Rows.{rows}
use Rattle.units.specs.declared.Nanos.{Nanos}
use Rattle.bucket.specs.declared.BucketCore.{BucketCore}
use Rattle.bucket.proofs.BucketLaws.{grant_fits}
use Rattle.settings.proofs.RateLaws.{accepted_rate}
use Rattle.classes.specs.declared.Class.{Class}
use Rattle.classes.specs.Classes.{class_at}
use Rattle.classes.specs.Chains.{chain, full_bucket, bucket_at, spent_at, charged, Takes, ChainTakes}
use Rattle.classes.specs.Layout.{bucket_width, bucket_of, bucket_count, buckets_in, bucket_words, words_of_buckets}
use Rattle.classes.proofs.ChainLaws.{first_takes, rest_takes}
use Rattle.classes.proofs.WholeChain.{by_parent}
use Rattle.rules.specs.Calls.{Every}
use Rattle.demands.proofs.EveryLaws.{of_item, every_set, every_made, every_in_rows}
use Rattle.demands.proofs.WordFits.{Word}
use Rattle.demands.proofs.BucketFits.{BucketFits}
use Rattle.demands.proofs.LayoutFits.{items_written_fit}

-- Read from words that fit, and written as words.
pub buckets_read_fit : (ws : List ℕ) → Every Word ws → Every BucketFits (buckets_in ws)
unfolding buckets_in
buckets_read_fit ws every =
    every_made (Every Word) BucketFits bucket_of
    (λ row fit. record { shortfall = of_item Word row 0 0 (omega arith) fit; stamp = of_item Word row 1 0 (omega arith) fit })
    (rows bucket_width (bucket_count ws) ws) (every_in_rows Word bucket_width (bucket_count ws) ws every)

pub bucket_words_fit : (bs : List BucketCore) → Every BucketFits bs → Every Word (words_of_buckets bs)
bucket_words_fit bs every = items_written_fit BucketFits bucket_words (λ b fit. (fit.shortfall, (fit.stamp, tt))) bs every

-- The bucket of a class, also where there is none.
bucket_at_fits : (bs : List BucketCore) (i : ℕ) → Every BucketFits bs → BucketFits (bucket_at bs i)
unfolding bucket_at
bucket_at_fits bs i every = of_item BucketFits bs i full_bucket (record { shortfall = omega arith; stamp = omega arith }) every

module _ (cs : List Class) (cost : ℕ) where
  -- Where a chain takes a cost, every class on it does.
  pub chain_takes_each : (allowed i : ℕ) → ChainTakes cs allowed i cost → Every (λ j. Takes cs j cost) (chain allowed cs i)
  unfolding chain
  chain_takes_each zero i takes = tt
  chain_takes_each (suc n) i takes =
      let some : suc n ≡ 0 → ⊥ = λ none. omega (arith, none) in
      let less : suc n - 1 ≡ n = omega arith in
      by_parent (class_at cs i).parent
      (λ top. rw top (first_takes cs (suc n) i cost takes some, tt))
      (λ parent up. rw up (first_takes cs (suc n) i cost takes some, chain_takes_each n parent (rw less at (rest_takes cs (suc n) i cost takes some up))))

  -- Charging classes that take the cost.
  pub charged_buckets_fit : (at : Nanos) → at.0 ≤ 2 ^ 62 → (is : List ℕ) → Every (λ j. Takes cs j cost) is → (bs : List BucketCore) → Every BucketFits bs
      → Every BucketFits (charged cs cost at bs is)
  unfolding charged
  charged_buckets_fit at early [] each bs fit = fit
  charged_buckets_fit at early (i ∷ is) each bs fit =
      let a = accepted_rate (class_at cs i).rate each.0.accepted in
      let own = bucket_at_fits bs i fit in
      let spent_fits : BucketFits (spent_at cs cost at bs i) =
      record { shortfall = grant_fits (bucket_at bs i) cost at a each.0.within; stamp = omega (arith, own.stamp) } in
      charged_buckets_fit at early is each.1 (set bs i (spent_at cs cost at bs i)) (every_set BucketFits bs i _ spent_fits fit)
