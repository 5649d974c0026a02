-- What each impostor fails. The six of document 01 fail demand 2, and the first five demand 3 too; of the other three, the one that turns away keys without
-- a slot and the one that is blind to keys fail both, and the one that turns newcomers away once fails demand 2. So does the one that tells no moment, which
-- fails the moments of request 1. The examples are computed in `Computed`. Last, the window without its + 1, which the rules fail.
use Prim.Native.Nat.{ℕ}
use native.Mathlib.Omega.{arith}
use mathlib.Core.Path.{◌≡◌, refl}
use mathlib.Core.List.{List, [], ◌∷◌}
use Rattle.shard.specs.declared.Identity.{Identity}
use Rattle.settings.specs.declared.Settings.{Settings}
use Rattle.rules.specs.Asks.{Ask, requests, looks, undoes, passes}
use Rattle.rules.specs.Calls as Calls
use Rattle.rules.specs.Widths.{settings_fit}
use Rattle.rules.specs.Calls.{keyed, whole, by_key}
use Rattle.modems.specs.Names.{key, by_name}
use Rattle.perkey.specs.Edges.{asks}
use Rattle.demands.specs.Demands as Demands
use Rattle.demands.specs.ByKey.{Call, rules, replies, Limiter, answering, Demand2, tokens_of, tokens_usable, WindowAdding, Window, OwnBucket, Demand3}
use Rattle.demands.specs.Moments.{TellsMoments}
use Rattle.demands.specs.Impostors.{impossible_to_all, retry_before_a_look, always_acquired, grants_without_storing, first_debt_only, invented_length}
use Rattle.demands.specs.Impostors.{turns_slotless_away, turns_newcomers_away, blind_to_keys, tells_no_moment, right_by_key_alone}
use Rattle.demands.proofs.WidthLaws.{keys_fit}
use Rattle.demands.proofs.NameLaws.{names_fit}
use Rattle.demands.proofs.Theorem.{demand2_gives_demand3}
use Rattle.demands.proofs.MomentLaws.{demand2_tells_moments}
use Rattle.demands.proofs.ExampleLaws.{room_for, fresh, telling_otherwise_fails_demand2, misdeciding_breaks_own_bucket, overgranting_breaks_the_window}
use Rattle.demands.proofs.Computed.{computed}

-- Demand 3 is both parts, and demand 2 gives demand 3.
by_window : (l : Limiter) → (Window l → ⊥) → Demand3 l → ⊥
by_window l breaks demand = breaks demand.window

by_own_bucket : (l : Limiter) → (OwnBucket l → ⊥) → Demand3 l → ⊥
by_own_bucket l breaks demand = breaks demand.own_bucket

by_demand3 : (l : Limiter) → (Demand3 l → ⊥) → Demand2 l → ⊥
by_demand3 l fails demand = fails (demand2_gives_demand3 by_key keys_fit l demand)

-- The first: key 7 has a slot with three tokens, and is told that one is impossible.
pub impossible_to_all_fails_demand3 : Demand3 (answering impossible_to_all) → ⊥
impossible_to_all_fails_demand3 = by_own_bucket _ (misdeciding_breaks_own_bucket by_key computed.impossible)

pub impossible_to_all_fails_demand2 : Demand2 (answering impossible_to_all) → ⊥
impossible_to_all_fails_demand2 = by_demand3 _ impossible_to_all_fails_demand3

-- It grants nothing, and so keeps the window: it is the own bucket that shuts it out.
impossible_is_no_grant : (k : Identity) (t u : ℕ) (c : Call) (ws : List ℕ) → tokens_of k t u c (impossible_to_all c ws).answer ≡ 0
impossible_is_no_grant k t u (keyed s id (requests r at cost)) ws = refl
impossible_is_no_grant k t u (keyed s id (looks l)) ws = refl
impossible_is_no_grant k t u (keyed s id (undoes undo)) ws = refl
impossible_is_no_grant k t u (keyed s id (passes table class at cost)) ws = refl
impossible_is_no_grant k t u (whole s what) ws = refl

nothing_usable : (k : Identity) (t u : ℕ) (cs : List Call) (ws law : List ℕ) → tokens_usable k t u (replies impossible_to_all cs ws law) ≡ 0
unfolding Calls.replies Demands.tokens_usable
nothing_usable k t u [] ws law = refl
nothing_usable k t u (c ∷ cs) ws law = rw (impossible_is_no_grant k t u c ws, nothing_usable k t u cs ws (rules c law).after) refl

pub impossible_to_all_keeps_the_window : Window (answering impossible_to_all)
impossible_to_all_keeps_the_window table s rate ws _ _ _ rated refuses done' cs _ same rising apart k not_undone t u le =
    let fresh : List ℕ = (Demands.set_up_by by_key table s ws).after in
    rw (nothing_usable k t u cs fresh fresh) (omega arith)

-- The second: the same key is turned away.
pub retry_before_a_look_fails_demand3 : Demand3 (answering retry_before_a_look) → ⊥
retry_before_a_look_fails_demand3 = by_own_bucket _ (misdeciding_breaks_own_bucket by_key computed.unlooked)

pub retry_before_a_look_fails_demand2 : Demand2 (answering retry_before_a_look) → ⊥
retry_before_a_look_fails_demand2 = by_demand3 _ retry_before_a_look_fails_demand3

-- The third and the fourth: key 7 is granted its burst twice at one moment.
pub always_acquired_fails_demand3 : Demand3 (answering always_acquired) → ⊥
always_acquired_fails_demand3 = by_window _ (overgranting_breaks_the_window computed.acquired)

pub always_acquired_fails_demand2 : Demand2 (answering always_acquired) → ⊥
always_acquired_fails_demand2 = by_demand3 _ always_acquired_fails_demand3

pub grants_without_storing_fails_demand3 : Demand3 (answering grants_without_storing) → ⊥
grants_without_storing_fails_demand3 = by_window _ (overgranting_breaks_the_window computed.unstored)

pub grants_without_storing_fails_demand2 : Demand2 (answering grants_without_storing) → ⊥
grants_without_storing_fails_demand2 = by_demand3 _ grants_without_storing_fails_demand3

-- The fifth breaks both parts of demand 3: key 9, whose debt is the second, returns and is granted its burst again.
pub first_debt_only_breaks_the_window : Window (answering first_debt_only) → ⊥
first_debt_only_breaks_the_window = overgranting_breaks_the_window computed.second_debt

pub first_debt_only_breaks_own_bucket : OwnBucket (answering first_debt_only) → ⊥
first_debt_only_breaks_own_bucket = misdeciding_breaks_own_bucket by_key computed.second_debtor

pub first_debt_only_fails_demand3 : Demand3 (answering first_debt_only) → ⊥
first_debt_only_fails_demand3 = by_window _ first_debt_only_breaks_the_window

pub first_debt_only_fails_demand2 : Demand2 (answering first_debt_only) → ⊥
first_debt_only_fails_demand2 = by_demand3 _ first_debt_only_fails_demand3

-- The sixth counts a key in a fresh store. Demand 3 says nothing of a length: `invented_length_meets_demand3`.
pub invented_length_fails_demand2 : Demand2 (answering invented_length) → ⊥
invented_length_fails_demand2 = telling_otherwise_fails_demand2 computed.counted

-- The second, finer: key 7 holds a debt of one token of four, and is turned away where its bucket grants another.
pub turns_slotless_away_fails_demand3 : Demand3 (answering turns_slotless_away) → ⊥
turns_slotless_away_fails_demand3 = by_own_bucket _ (misdeciding_breaks_own_bucket by_key computed.slotless)

pub turns_slotless_away_fails_demand2 : Demand2 (answering turns_slotless_away) → ⊥
turns_slotless_away_fails_demand2 = by_demand3 _ turns_slotless_away_fails_demand3

-- Finer still: a newcomer to a fresh store is turned away. Demand 3 says nothing of a key that holds nothing: `turns_newcomers_away_meets_demand3`.
pub turns_newcomers_away_fails_demand2 : Demand2 (answering turns_newcomers_away) → ⊥
turns_newcomers_away_fails_demand2 = telling_otherwise_fails_demand2 computed.newcomer

-- Blind to keys: key 8 has a slot with three tokens, and is told the wait of key 7, which has the same hash and has spent all. The own bucket shuts this
-- out. The window does not speak of such lists: it asks that no two keys share a hash.
pub blind_to_keys_breaks_own_bucket : OwnBucket (answering blind_to_keys) → ⊥
blind_to_keys_breaks_own_bucket = misdeciding_breaks_own_bucket by_key computed.blind

pub blind_to_keys_fails_demand3 : Demand3 (answering blind_to_keys) → ⊥
blind_to_keys_fails_demand3 = by_own_bucket _ blind_to_keys_breaks_own_bucket

pub blind_to_keys_fails_demand2 : Demand2 (answering blind_to_keys) → ⊥
blind_to_keys_fails_demand2 = by_demand3 _ blind_to_keys_fails_demand3

-- Right by key alone: the modem 02:00:00:00:00:02 has a slot with three tokens, and is told the wait of 02:00:00:00:00:01, which has spent all.
pub right_by_key_alone_fails_demand3 : Demands.Demand3 by_name (Demands.answering by_name right_by_key_alone) → ⊥
right_by_key_alone_fails_demand3 demand = misdeciding_breaks_own_bucket by_name computed.by_address demand.own_bucket

pub right_by_key_alone_fails_demand2 : Demands.Demand2 by_name (Demands.answering by_name right_by_key_alone) → ⊥
right_by_key_alone_fails_demand2 demand = right_by_key_alone_fails_demand3 (demand2_gives_demand3 by_name (names_fit (λ s. s) settings_fit) _ demand)

-- It is right by key: where every call of a list names a key, it answers as the rules do.
pub right_by_key_is_right_by_key : (s : Settings) (id : Identity) (ask : Ask) (ws : List ℕ)
    → right_by_key_alone (keyed s (key id) ask) ws ≡ Calls.rules by_name (keyed s (key id) ask) ws
right_by_key_is_right_by_key s id ask ws = refl

-- No moment told: a grant at moment 1 is told with moment 0. The moments of request 1 shut this out, and so does demand 2. The window does not speak of the
-- moments told.
pub telling_no_moment_fails_the_moments : TellsMoments by_key (answering tells_no_moment) → ⊥
unfolding Calls.replies
telling_no_moment_fails_the_moments tells =
    let shown = computed.at_one in
    let told : ◌≡◌ {A = ℕ} 0 1 = rw shown.told at (tells (fresh (room_for 1)) (asks 1 7 1 (room_for 1) ∷ []) shown.lent shown.fit).0 in
    absurd (omega arith)

pub telling_no_moment_fails_demand2 : Demand2 (answering tells_no_moment) → ⊥
telling_no_moment_fails_demand2 demand = telling_no_moment_fails_the_moments (demand2_tells_moments by_key keys_fit (answering tells_no_moment) demand)

-- The window adds one moment to those from t to u. The rules do not keep it where none is added.
pub window_adding_none_is_false_of_the_rules : WindowAdding 0 (answering rules) → ⊥
window_adding_none_is_false_of_the_rules = overgranting_breaks_the_window computed.two_at_once
