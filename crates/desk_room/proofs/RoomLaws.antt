-- The room for modems, as the code comes to it.
use Prim.Native.Nat.{ℕ, suc, ◌+◌, ◌-◌, ◌≤◌, ◌<◌}
use native.Mathlib.Omega.{arith}
use mathlib.Core.Path.{◌≡◌}
use mathlib.Core.Bool.{true, false}
use lib.Dec.{leb}
use Rattle.settings.specs.Settings.{most_keys, size_refusal}
use Rattle.store.specs.Memory.{memory_words}
use Rattle.desk_room.specs.Room.{sized, fits, room_from}
use borrow.Author.Tests.{eq-eqb, ne_eqb}

module _ (keys words shards : ℕ) where
  pub refused_does_not_fit : (size_refusal (sized keys shards) ≡ 0 → ⊥) → false ≡ fits keys words shards
  unfolding fits
  refused_does_not_fit refused = rw (ne_eqb _ _ refused)

  pub fits_by_words : size_refusal (sized keys shards) ≡ 0 → leb (memory_words (sized keys shards)) words ≡ fits keys words shards
  unfolding fits
  fits_by_words accepted = rw (eq-eqb _ _ accepted)

  -- One modem more, with one less left to try.
  module _ (some : keys < most_keys) where
    left_to_try : most_keys - keys ≡ suc (most_keys - (keys + 1))
    left_to_try = omega arith

    pub one_more : fits (keys + 1) words shards ≡ true
        → room_from (most_keys - (keys + 1)) (keys + 1) words shards ≡ room_from (most_keys - keys) keys words shards
    unfolding room_from
    one_more fit = rw (left_to_try, fit)

    pub one_too_many_lem : fits (keys + 1) words shards ≡ false → keys ≡ room_from (most_keys - keys) keys words shards
    unfolding room_from
    one_too_many_lem full = rw (left_to_try, full)

  pub none_left : most_keys ≤ keys → keys ≡ room_from (most_keys - keys) keys words shards
  unfolding room_from
  none_left all = let none : most_keys - keys ≡ 0 = omega arith in rw none
