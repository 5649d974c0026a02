-- The words of a store that has grown from fresh: left by an accepted set_up_lem, then by accepted calls and clears of one settings record.
use Rattle.std.specs.Prelude.{ℕ, ◌≡◌, false, List}
use Rattle.rows.specs.Places.{sum}
use Rattle.settings.specs.declared.Settings.{Settings}
use Rattle.settings.specs.Settings.{shard_count, cap_of}
use Rattle.rules.specs.declared.Reply.TheVariants.{Done}
use Rattle.rules.specs.Replies.{numbered}
use Rattle.classes.specs.Layout.{class_count}
use Rattle.rules.specs.Rules.{set_up_for}
use Rattle.rules.specs.Calls.{Call, Terms, rules, settings_of}
use Rattle.store.specs.Memory.{slot_count}

-- The slots of all shards, counted shard by shard.
abbrev pub slots_of : Settings → List ℕ → ℕ
slots_of s ws = sum (shard_count s) (λ i. slot_count (cap_of s) i ws)

module _ {S N : Type 0} (terms : Terms S N) where
  -- The settings have the number of classes of the table that set_up_lem or clear is given.
  pub data Grown (s : Settings) : List ℕ → Type 0 where
    set_up_lem : (table ws : List ℕ) → class_count table ≡ s.classes → (set_up_for s table ws).answer ≡ Done → Grown s (set_up_for s table ws).after
    cleared : (table ws : List ℕ) → class_count table ≡ s.classes → Grown s ws → (set_up_for s table ws).answer ≡ Done → Grown s (set_up_for s table ws).after
    called : (c : Call S N) (ws : List ℕ) → Grown s ws → settings_of terms c ≡ s → numbered (rules terms c ws).answer ≡ false
        → Grown s (rules terms c ws).after

  -- A property that every fresh store has and every accepted call keeps. Clear leaves what set_up_lem leaves.
  pub record KeptByCalls (s : Settings) (P : List ℕ → Type 0) : Type 0 where
    pub fresh : (table ws : List ℕ) → (set_up_for s table ws).answer ≡ Done → P (set_up_for s table ws).after
    pub call : (c : Call S N) (ws : List ℕ) → settings_of terms c ≡ s → numbered (rules terms c ws).answer ≡ false → P ws → P (rules terms c ws).after
