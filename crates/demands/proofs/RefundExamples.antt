-- Examples of the window with refunds, computed from the rules. One reaches the bound exactly. Others show which refunds count, and refute an impostor and
-- the claims that count fewer refunds. Each is a list of tries and refunds on a store of one shard at two tokens a second, burst four, from the words that
-- set_up_lem leaves.
use Prim.Native.Nat.{ℕ, ◌*◌, ◌≤◌}
use mathlib.Core.Path.{◌≡◌, refl}
use mathlib.Core.Bool.{Bool, true, false, ◌&&◌}
use mathlib.Core.List.{List, [], ◌∷◌}
use native.Mathlib.Omega.{arith}
use lib.Dec.{leb, ltb}
use borrow.Author.Tests.{leb-true, ltb-true}
use Rattle.arith.specs.Arith.{ceil_div}
use Rattle.rows.specs.Rows.{rows, unrow}
use Rattle.rows.specs.Places.{sum}
use Rattle.held.specs.Layout.{table_in}
use Rattle.held.specs.Held.{removed}
use Rattle.held.specs.Round as Round
use Rattle.index.specs.Walk as Index
use Rattle.bucket.specs.declared.Request.TheVariants.{Acquire}
use Rattle.bucket.specs.Bucket.{shortfall_at, available_at, grown, wait_at, asked}
use Rattle.bucket.specs.Debt.{taken_out, lacking, restored}
use Rattle.settings.specs.declared.Settings.{Settings}
use Rattle.settings.specs.Powers.{exponent_from, exponent_for}
use Rattle.settings.specs.Rate as Rate
use Rattle.settings.specs.Settings as Settings
use Rattle.classes.specs.Classes as Classes
use Rattle.classes.specs.Layout as ClassLayout
use Rattle.ledger.specs.Layout as Debts
use Rattle.ledger.specs.Model as Ledger
use Rattle.shard_map.specs.Layout as Layout
use Rattle.shard_map.specs.Model as Shard
use Rattle.evict.specs.Evict.{noted, walk_from, walked, evicted}
use Rattle.shard.specs.declared.Identity.{Identity}
use Rattle.shard.specs.Model as OneShard
use Rattle.store.specs.Memory.{shard_at}
use Rattle.store.specs.Refusals as Refusals
use Rattle.rules.specs.declared.Reply.{Reply}
use Rattle.rules.specs.declared.Reply.TheVariants.{Done}
use Rattle.rules.specs.Asks.{refunds, Ask, requests, undoes, in_force}
use Rattle.rules.specs.Asks as Asks
use Rattle.rules.specs.Rules.{set_up}
use Rattle.rules.specs.Rules as Rules
use Rattle.rules.specs.Widths.{settings_fit, lendable}
use Rattle.rules.specs.Calls.{keyed, whole, by_key, settings_of, Every}
use Rattle.rules.specs.Calls as Calls
use Rattle.perkey.specs.Edges.{two_per_second, key_of}
use Rattle.demands.specs.Demands.{untabled, clock}
use Rattle.demands.specs.Demands as Demands
use Rattle.demands.specs.ByKey.{Call, Implementation, Answered, rules, replies, answering, SameSettings, TimesNeverFall, Agree, NoSharedHash, all_fit}
use Rattle.demands.specs.Refunds.{of_undo, reserves_it, removes_it, of_own, in_span, ask_refunded, tokens_counted, if_between, refunded_between, parts_allowed}
use Rattle.demands.specs.Refunds.{of_named}
use Rattle.demands.specs.Refunds as Refunds
use Rattle.demands.proofs.WidthLaws.{both_true}
use Rattle.demands.proofs.ExampleLaws.{room_for, memory, fresh}

-- A key takes tokens at a moment, or is given some back. The hash of a key is its own number.
pub data Act : Type 0 where
  takes : (moment key cost : ℕ) → Act
  returns : (key cost : ℕ) → Act

abbrev key_in : Act → ℕ
key_in (takes moment key cost) = key
key_in (returns key cost) = key

abbrev ask_in : Act → Ask
ask_in (takes moment key cost) = requests Acquire (record { 0 = moment }) cost
ask_in (returns key cost) = undoes (refunds cost)

abbrev pub call_of : Settings → Act → Call
call_of s x = keyed s (key_of (key_in x)) (ask_in x)

abbrev pub acts : Settings → List Act → List Call
acts s [] = []
acts s (x ∷ xs) = call_of s x ∷ acts s xs

-- They go by the settings that they are given. None of them reserves, and none removes.
settings_as_given : (s : Settings) (x : Act) → in_force (ask_in x) s ≡ s
settings_as_given s (takes moment key cost) = refl
settings_as_given s (returns key cost) = refl

no_reservation : (x : Act) → reserves_it (ask_in x) ≡ false
no_reservation (takes moment key cost) = refl
no_reservation (returns key cost) = refl

no_removal : (x : Act) → removes_it (ask_in x) ≡ false
no_removal (takes moment key cost) = refl
no_removal (returns key cost) = refl

-- Such lists meet the conditions of the window with refunds, whatever the implementation answers, but for the moments.
module _ (f : Implementation) (s : Settings) where
  -- What holds of every act, as it is answered, holds of a list of them.
  every_act : (Q : Answered → Type 0) → ((x : Act) (reply : Reply) (law : List ℕ) → Q (record { call = call_of s x; reply = reply; rules_words = law }))
      → (xs : List Act) (ws law : List ℕ) → Every Q (replies f (acts s xs) ws law)
  unfolding Calls.replies
  every_act Q each [] ws law = tt
  every_act Q each (x ∷ xs) ws law = (each x _ law, every_act Q each xs _ _)

  have_same_settings : (xs : List Act) (ws law : List ℕ) → SameSettings s (replies f (acts s xs) ws law)
  have_same_settings = every_act _ (λ x reply law _. settings_as_given s x)

  have_no_shared_hash : (xs : List Act) (ws law : List ℕ) → NoSharedHash (replies f (acts s xs) ws law)
  unfolding Calls.replies Demands.NoSharedHash
  have_no_shared_hash [] ws law = tt
  have_no_shared_hash (x ∷ xs) ws law =
      let a : Answered = record { call = call_of s x; reply = (f (call_of s x) ws).answer; rules_words = law } in
      (every_act (Agree a) (λ y reply _ _ _ same. same) xs _ _, have_no_shared_hash xs _ _)

  never_removed : (own : Identity → Bool) (xs : List Act) (ws law : List ℕ) → Refunds.NeverRemoved by_key own (replies f (acts s xs) ws law)
  never_removed own = every_act _ (λ x reply law _. rw (no_removal x))

  never_reserved : (own : Identity → Bool) (xs : List Act) (ws law : List ℕ) → Refunds.NeverReserved by_key own (replies f (acts s xs) ws law)
  never_reserved own = every_act _ (λ x reply law _. rw (no_reservation x))

-- Whether the moments of a list never fall.
unfoldable pub rises : ℕ → List Answered → Bool
rises before [] = true
rises before (a ∷ rest) = leb before (clock by_key before a) && rises (clock by_key before a) rest

rising_never_falls : (before : ℕ) (answered : List Answered) → rises before answered ≡ true → TimesNeverFall before answered
unfolding rises Demands.TimesNeverFall
rising_never_falls before [] rise = tt
rising_never_falls before (a ∷ rest) rise =
    let both = both_true (leb before (clock by_key before a)) (rises (clock by_key before a) rest) rise in
    (leb-true _ _ both.0, rising_never_falls (clock by_key before a) rest both.1)

-- What a key is granted in calls from t to u, in parts, and what it may be granted by a way to count refunds.
abbrev pub Counts : Type 0
Counts = (Identity → Bool) → Answered → ℕ

abbrev pub by_stated_cost : Counts
by_stated_cost = Refunds.refunded_of

abbrev numbered : ℕ → Identity → Bool
numbered key = Refunds.named by_key (key_of key)

abbrev pub called_of : (key t u : ℕ) → Answered → ℕ
called_of key t u = Refunds.called_of (numbered key) t u

abbrev pub acts_answered : Implementation → ℕ → List Act → List Answered
acts_answered f keys xs = replies f (acts (room_for keys) xs) (fresh (room_for keys)) (fresh (room_for keys))

abbrev pub refunds_between : Counts → Implementation → ℕ → List Act → (key t u : ℕ) → ℕ
refunds_between refunded f keys xs key t u = refunded_between (refunded (numbered key)) (called_of key t u) 0 (acts_answered f keys xs)

abbrev pub parts_granted : Implementation → ℕ → List Act → (key t u : ℕ) → ℕ
parts_granted f keys xs key t u = tokens_counted (called_of key t u) (acts_answered f keys xs) * two_per_second.period.0

abbrev pub allowed_to : Counts → Implementation → ℕ → List Act → (key t u : ℕ) → ℕ
allowed_to refunded f keys xs key t u = parts_allowed two_per_second (refunded (numbered key)) (called_of key t u) t u (acts_answered f keys xs)

-- An implementation overgrants a key.
pub record Overgrants (refunded : Counts) (f : Implementation) (keys : ℕ) (xs : List Act) (key t u : ℕ) : Type 0 where
  pub settings : settings_fit (room_for keys) ≡ true
  pub lent : lendable (memory (room_for keys)) ≡ true
  pub fit : all_fit (acts (room_for keys) xs) ≡ true
  pub set_up_lem : (set_up (room_for keys) (memory (room_for keys))).answer ≡ Done
  pub rising : rises 0 (acts_answered f keys xs) ≡ true
  pub over : ltb (allowed_to refunded f keys xs key t u) (parts_granted f keys xs key t u) ≡ true

pub overgranting_breaks_the_refund_window : {refunded : Counts} {f : Implementation} {keys : ℕ} {xs : List Act} {key t u : ℕ} → t ≤ u
    → Overgrants refunded f keys xs key t u → Refunds.RefundWindowCounting by_key refunded (answering f) → ⊥
overgranting_breaks_the_refund_window {refunded} {f} {keys} {xs} {key} {t} {u} le shown window =
    let s : Settings = room_for keys in
    let ws : List ℕ = fresh s in
    let fair : Refunds.FairTo by_key s (key_of key) (acts_answered f keys xs) = record {
      same_settings = have_same_settings f s xs ws ws;
      rising = rising_never_falls 0 _ shown.rising;
      apart = have_no_shared_hash f s xs ws ws;
      not_removed = never_removed f s (numbered key) xs ws ws;
    } in
    let bound = window untabled s two_per_second (memory s) refl shown.settings shown.lent refl refl shown.set_up_lem (acts s xs) shown.fit
    (key_of key) fair (never_reserved f s (numbered key) xs ws ws) t u le in
    omega (arith, bound, ltb-true (allowed_to refunded f keys xs key t u) (parts_granted f keys xs key t u) shown.over)

-- Weaker ways to count refunds: none of them; and only those to a key that holds a slot, in the words that the rules made.
abbrev pub no_refunds : Counts
no_refunds own a = 0

abbrev has_slot : Answered → Identity → Bool
has_slot a id = OneShard.has_slot (Shard.place_of (shard_at (settings_of by_key a.call) id.hash a.rules_words) id.hash id.key)

abbrev pub by_slot_only : Counts
by_slot_only own a = of_named (λ id ask. of_own (has_slot a id) (ask_refunded (own id) ask a.reply)) 0 a.call

-- An impostor: the rules, except that a refund gives back twice its cost.
abbrev twice_back : Ask → Ask
twice_back ask = of_undo (λ cost. undoes (refunds (2 * cost))) ask ask ask

abbrev pub refunds_twice : Implementation
refunds_twice (keyed s id ask) ws = rules (keyed s id (twice_back ask)) ws
refunds_twice (whole s what) ws = rules (whole s what) ws

-- Key 7 takes its burst, gets it back, and takes it again.
abbrev pub back_at_once : List Act
back_at_once = takes 0 7 4 ∷ returns 7 4 ∷ takes 0 7 4 ∷ []

-- The same in a store for one key, where key 8 has turned key 7 into a debt before the refund.
abbrev pub back_to_debt : List Act
back_to_debt = takes 0 7 4 ∷ takes 0 8 1 ∷ returns 7 4 ∷ takes 0 7 4 ∷ []

-- Key 7 takes its burst, gets half of it back, and asks for all.
abbrev pub half_back : List Act
half_back = takes 0 7 4 ∷ returns 7 2 ∷ takes 0 7 4 ∷ []

-- Key 7 takes its burst, gets one token back and takes it, and takes its burst again after two seconds: nine tokens, exactly as many as are allowed.
abbrev pub to_the_last : List Act
to_the_last = takes 0 7 4 ∷ returns 7 1 ∷ takes 0 7 1 ∷ takes 2000000000 7 4 ∷ []

-- At moment 1 key 7 takes a token twice and gets two back in between, where key 8 gets three back. Key 7 also gets one back before these two grants and
-- one after them. Then it takes 0 tokens at moment 1, which bounds nothing, and one at moment 2.
abbrev pub around_moment_one : List Act
around_moment_one =
    takes 0 7 4 ∷ takes 0 8 4 ∷ returns 7 1 ∷ takes 1 7 1 ∷ returns 7 2 ∷ returns 8 3 ∷ takes 1 7 1 ∷ returns 7 1 ∷ takes 1 7 0 ∷ takes 2 7 1 ∷ []

-- After ten seconds key 7 is full again, and key 8 takes its place. So a refund between the two grants of key 7 is answered unknown.
abbrev pub unknown_between : List Act
unknown_between = takes 0 7 1 ∷ takes 10000000000 8 1 ∷ returns 7 1 ∷ takes 10000000000 7 1 ∷ []

pub record RefundsComputed : Type 0 where
  pub uncounted : Overgrants no_refunds rules 1 back_at_once 7 0 0
  pub debt_uncounted : Overgrants by_slot_only rules 1 back_to_debt 7 0 0
  pub slot_counted : refunds_between by_slot_only rules 1 back_at_once 7 0 0 ≡ 4
  pub debt_counted : refunds_between by_stated_cost rules 1 back_to_debt 7 0 0 ≡ 4
  pub twice : Overgrants by_stated_cost refunds_twice 1 half_back 7 0 0
  pub tight_granted : parts_granted rules 1 to_the_last 7 0 2000000000 ≡ 9000000000
  pub tight_allowed : allowed_to by_stated_cost rules 1 to_the_last 7 0 2000000000 ≡ 9000000000
  pub around_granted : parts_granted rules 2 around_moment_one 7 1 1 ≡ 2000000000
  pub around_refunded : refunds_between by_stated_cost rules 2 around_moment_one 7 1 1 ≡ 2
  pub all_refunded : refunds_between by_stated_cost rules 2 around_moment_one 7 0 2 ≡ 4
  pub unknown_granted : parts_granted rules 1 unknown_between 7 0 10000000000 ≡ 2000000000
  pub unknown_refunded : refunds_between by_stated_cost rules 1 unknown_between 7 0 10000000000 ≡ 0

pub refunds_computed : RefundsComputed
unfolding ceil_div rows unrow table_in removed Index.onward Index.walk_from Index.walk Index.find_from Index.find Index.seek Index.add
    Index.add_again Index.rehome Index.vacate Index.renumber Index.remove
    sum Round.look_at Round.look Round.sweep shortfall_at available_at grown wait_at asked taken_out lacking restored
    Rate.unless_within Rate.rate_refusal Settings.size_refusal Settings.first_refusal exponent_from exponent_for
    Debts.ledger Debts.words_of Ledger.place_of Ledger.remove_at Ledger.append Ledger.owed_by Ledger.taken Ledger.sweep
    Ledger.scan_from Ledger.scan Ledger.drop_chosen Ledger.make_room Ledger.recorded_at Ledger.recorded Ledger.paid_down
    Layout.shard Layout.words_of Shard.place_of Shard.remove_at Shard.insert
    noted walk_from walked evicted OneShard.make_room OneShard.with_existing OneShard.admit OneShard.with_or_insert OneShard.refunded
    Refusals.memory_refusal Refusals.count_refusal Refusals.moment_refusal Refusals.wait_refusal Refusals.total_refusal
    ClassLayout.classes_in Classes.count_refusal Classes.first_from Asks.asked_in Rules.unless_refused Rules.set_up_in Rules.keyed_rule_in
    Calls.accepted Calls.replies in_span tokens_counted if_between refunded_between rises
refunds_computed = record {
  uncounted = record { settings = refl; lent = refl; fit = refl; set_up_lem = refl; rising = refl; over = refl };
  debt_uncounted = record { settings = refl; lent = refl; fit = refl; set_up_lem = refl; rising = refl; over = refl };
  slot_counted = refl;
  debt_counted = refl;
  twice = record { settings = refl; lent = refl; fit = refl; set_up_lem = refl; rising = refl; over = refl };
  tight_granted = refl;
  tight_allowed = refl;
  around_granted = refl;
  around_refunded = refl;
  all_refunded = refl;
  unknown_granted = refl;
  unknown_refunded = refl;
}

-- The refunds cannot be left out, nor can those that pay down a debt.
pub refund_window_without_refunds_is_false_of_the_rules : Refunds.RefundWindowCounting by_key no_refunds (answering rules) → ⊥
refund_window_without_refunds_is_false_of_the_rules = overgranting_breaks_the_refund_window (omega arith) refunds_computed.uncounted

pub refund_window_by_slots_is_false_of_the_rules : Refunds.RefundWindowCounting by_key by_slot_only (answering rules) → ⊥
refund_window_by_slots_is_false_of_the_rules = overgranting_breaks_the_refund_window (omega arith) refunds_computed.debt_uncounted

-- The impostor is shut out.
pub refunding_twice_breaks_the_refund_window : Refunds.RefundWindow by_key (answering refunds_twice) → ⊥
refunding_twice_breaks_the_refund_window = overgranting_breaks_the_refund_window (omega arith) refunds_computed.twice
