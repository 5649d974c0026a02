-- Counts of tries turned away decide nothing: shards that differ in their counts alone are alike to every step. What is proved over any view holds of them.
use Prim.Native.Nat.{ℕ}
use mathlib.Core.Path.{◌≡◌, refl, ap}
use Rattle.held.specs.Held as Held
use Rattle.held.proofs.MapLaws.{mapped_alike, mapped_twice, position_mapped}
use Rattle.slot.specs.declared.Slot.{Slot}
use Rattle.slot.specs.Slot.{is_key, with_mark, with_bucket, touched}
use Rattle.slot.specs.Slot as Slot
use Rattle.ledger.proofs.AlikeLaws.{equal_kept}
use Rattle.shard_map.specs.Model.{Shard, slot_items, place_of, uncounted}
use Rattle.shard_map.proofs.AlikeLaws.{View, AlikeShards}

-- Slots are alike where they are equal but for their counts.
abbrev pub countless : View
countless = record {
  Same = λ x y. Slot.uncounted x ≡ Slot.uncounted y;
  reads = λ same. record {
    hash = ap (λ (s : Slot). s.hash) same;
    key = ap (λ (s : Slot). s.key) same;
    bucket = ap (λ (s : Slot). s.bucket) same;
    mark = ap (λ (s : Slot). s.mark) same;
    seen = ap (λ (s : Slot). s.seen) same;
  };
  itself = λ x. refl;
  marks = λ same mark. ap (λ (s : Slot). with_mark s mark) same;
  refills = λ same bucket. λ j. with_bucket (same j) (bucket j);
  asks = λ same outcome. λ j. with_bucket (same j) (outcome j).bucket;
  touches = λ same at track. ap (λ (s : Slot). touched s at track) same;
  Slots = λ h g. Held.mapped Slot.uncounted h ≡ Held.mapped Slot.uncounted g;
  ways = mapped_alike slot_items Slot.uncounted refl (λ x. refl);
  Ledgers = ◌≡◌;
  ledgers = equal_kept;
}

-- So shards are alike where they are equal but for the counts; a shard and the same without counts are.
pub equal_but_for_turn_aways : {s t : Shard} → AlikeShards countless s t → uncounted s ≡ uncounted t
equal_but_for_turn_aways like = λ j. record { slots = like.slots j; hand = like.hand j; sweep = like.sweep j; ledger = like.ledger j }

pub uncounted_alike : (s : Shard) → AlikeShards countless (uncounted s) s
uncounted_alike s = record { slots = mapped_twice Slot.uncounted (λ x. refl) s.slots; hand = refl; sweep = refl; ledger = refl }

-- Lookup finds the same place in both.
pub place_uncounted : (s : Shard) (h k : ℕ) → place_of (uncounted s) h k ≡ place_of s h k
unfolding place_of
place_uncounted s h k = position_mapped slot_items Slot.uncounted refl (λ x. refl) (is_key h k) (λ x. refl) s.slots h
