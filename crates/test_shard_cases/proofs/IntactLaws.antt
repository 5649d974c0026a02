-- What the checks before an operation come to: words of the right length whose two counts are at most the cap are such as a shard lends.
use Rattle.std.proofs.Common.{◌≡◌, ℕ, ◌≤◌, ◌<◌, true, false, true≢false, List, length, sym, arith}
use Rattle.shard_map.specs.Layout.{shard_words, shard, Intact}
use Rattle.shard_map.proofs.LayoutLaws.{cap_is}
use Rattle.shard_map.proofs.ReadBack.{debt_cap_is}

-- A check that said no gives anything that was to follow from a yes.
pub no_is_not_yes : {A : Type 0} → false ≡ true → A
no_is_not_yes e = absurd (true≢false (sym e))

pub counts_within_are_intact : (cap : ℕ) (ws : List ℕ) → 0 < cap → length ws ≡ shard_words cap
    → (shard cap ws).slots.count ≤ cap → (shard cap ws).ledger.debts.count ≤ cap → Intact cap ws
counts_within_are_intact cap ws room size slots debts = record {
  size = size;
  sound = record {
    room = omega (arith, cap_is cap ws);
    count_fits = omega (arith, cap_is cap ws);
    ledger = record { room = omega (arith, debt_cap_is cap ws); count_fits = omega (arith, debt_cap_is cap ws) };
  };
}
