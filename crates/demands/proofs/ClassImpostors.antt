-- Three wrong ways to deal with tries through classes, each refuted by a short list of tries: classes are never charged, a try asks the class that it names
-- alone, and classes are charged though the modem's side denies.
use Rattle.std.proofs.Common.{Option, Some, None}
use Prim.Native.Nat.{ℕ, ◌+◌, ◌*◌, ◌≤◌}
use mathlib.Core.Path.{◌≡◌, refl, ap}
use mathlib.Core.Bool.{Bool, true, false, cond, ◌&&◌}
use mathlib.Core.List.{List, [], ◌∷◌}
use native.Mathlib.Omega.{arith}
use lib.Dec.{eqb}
use Rattle.arith.specs.Arith.{ceil_div}
use Rattle.bucket.specs.declared.BucketCore.{BucketCore}
use Rattle.bucket.specs.Bucket.{shortfall_at, grown, wait_at}
use Rattle.settings.specs.Rate.{unless_within, rate_refusal}
use Rattle.settings.specs.Settings.{first_refusal}
use Rattle.classes.specs.declared.Class.{Class}
use Rattle.classes.specs.Classes.{class_at, ends, count_refusal, number_refusal, chain_refusal, refused_by, first_from, table_refusal}
use Rattle.classes.specs.Chains.{chain, among, full_bucket, bucket_at, least_burst, own_wait, chain_wait, charged}
use Rattle.demands.specs.Passings.{Passing, Way, lets_pass, charged_for, buckets_after, by_the_rules, tokens_passed, tokens_through}
use Rattle.demands.specs.Passings.{InOrder, ClassWindowAdding}

-- Classes are never charged.
abbrev pub never_charged : List Class → Way
never_charged cs = record { lets = lets_pass cs; leaves = λ bs p. bs }

-- The named class alone is asked. The whole chain is charged.
abbrev asked_alone : List Class → List BucketCore → Passing → Bool
asked_alone cs bs p = p.granted && eqb (own_wait cs p.cost p.at bs p.class) 0

abbrev pub named_alone : List Class → Way
named_alone cs = record { lets = asked_alone cs; leaves = λ bs p. cond (asked_alone cs bs p) (charged_for cs p bs) bs }

-- The chain is charged though the modem's side denies.
abbrev pub charges_the_denied : List Class → Way
charges_the_denied cs = record { lets = lets_pass cs; leaves = λ bs p. charged_for cs p bs }

-- A hub (class 0) with a burst of 10, and two nodes (1 and 2) under it with bursts of 8; one token a second each.
abbrev rated : ℕ → Option ℕ → Class
rated burst parent =
    record { rate = record { amount = 1; period = record { 0 = 1000000000 }; burst = Some burst; initial = None }; parent = parent }

abbrev town : List Class
town = rated 10 None ∷ rated 8 (Some 0) ∷ rated 8 (Some 0) ∷ []

abbrev full : List BucketCore
full = full_bucket ∷ full_bucket ∷ full_bucket ∷ []

-- Two tries of 8 tokens at moment 0, one through each node.
abbrev through : ℕ → Bool → Passing
through class granted = record { at = record { 0 = 0 }; class = class; cost = 8; granted = granted }

abbrev both : Bool → List Passing
both first = through 1 first ∷ through 2 true ∷ []

-- The tokens that pass through the hub at moment 0. Its window has room for 10 of them, and one moment adds less than one.
abbrev through_the_hub : (List Class → Way) → Bool → ℕ
through_the_hub way first = tokens_through town (way town) 0 0 0 full (both first)

-- All that is computed. By the rules the hub lets one of the two pass. If the modem's side denies the first, the second passes.
pub record Computed : Type 0 where
  pub accepted : table_refusal town ≡ 0
  pub hub_lets_one_pass : through_the_hub by_the_rules true ≡ 8
  pub second_passes_after_a_denial : through_the_hub by_the_rules false ≡ 8
  pub never_charged_lem : through_the_hub never_charged true ≡ 16
  pub named_alone_lem : through_the_hub named_alone true ≡ 16
  pub second_passes_alone : tokens_through town (charges_the_denied town) 0 0 0 full (through 2 true ∷ []) ≡ 8
  pub second_is_denied : through_the_hub charges_the_denied false ≡ 0

pub computed : Computed
unfolding tokens_through tokens_passed buckets_after lets_pass among chain class_at bucket_at least_burst chain_wait charged ceil_div shortfall_at grown wait_at
    ends count_refusal number_refusal chain_refusal refused_by first_from first_refusal unless_within rate_refusal
computed = record {
  accepted = refl;
  hub_lets_one_pass = refl;
  second_passes_after_a_denial = refl;
  never_charged_lem = refl;
  named_alone_lem = refl;
  second_passes_alone = refl;
  second_is_denied = refl;
}

-- Sixteen tokens at one moment are more than the hub's window has.
sixteen_are_too_many : (way : List Class → Way) → through_the_hub way true ≡ 16 → ClassWindowAdding 1 way → ⊥
unfolding InOrder class_at
sixteen_are_too_many way sixteen window =
    let order : InOrder 0 (both true) = (omega arith, (omega arith, tt)) in
    let within : through_the_hub way true * 1000000000 ≤ 10 * 1000000000 + 1 * 1 =
    window town 0 full 0 (both true) computed.accepted (omega arith) refl order 0 0 (omega arith) in
    absurd (omega (arith, sixteen, within))

pub never_charged_breaks_the_class_window : ClassWindowAdding 1 never_charged → ⊥
never_charged_breaks_the_class_window = sixteen_are_too_many never_charged computed.never_charged_lem

pub named_alone_breaks_the_class_window : ClassWindowAdding 1 named_alone → ⊥
named_alone_breaks_the_class_window = sixteen_are_too_many named_alone computed.named_alone_lem

-- A try that the modem's side denies leaves every bucket as it was, by the rules. The third way takes the hub's tokens for it, from the other node.
abbrev pub DeniedLeavesAll : (List Class → Way) → Type 0
DeniedLeavesAll way = (cs : List Class) (bs : List BucketCore) (p : Passing) → p.granted ≡ false → (way cs).leaves bs p ≡ bs

pub denied_leaves_all : DeniedLeavesAll by_the_rules
unfolding buckets_after lets_pass
denied_leaves_all cs bs p denied = rw denied

pub charging_the_denied_takes_from_others : DeniedLeavesAll charges_the_denied → ⊥
unfolding tokens_through
charging_the_denied_takes_from_others leaves =
    let as_before : tokens_through town (charges_the_denied town) 0 0 0 ((charges_the_denied town).leaves full (through 1 false)) (through 2 true ∷ [])
    ≡ tokens_through town (charges_the_denied town) 0 0 0 full (through 2 true ∷ []) =
    ap (λ bs. tokens_through town (charges_the_denied town) 0 0 0 bs (through 2 true ∷ [])) (leaves town full (through 1 false) refl) in
    absurd (omega (arith, computed.second_is_denied, computed.second_passes_alone, as_before))
