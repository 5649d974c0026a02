-- The window holds of every run of a village: it is the window of demand 3 for the calls that the run makes.
use Rattle.std.proofs.Common.{Some}
use Prim.Native.Nat.{ℕ, ◌+◌, ◌*◌, ◌-◌, ◌≤◌, ◌<◌}
use native.Mathlib.Omega.{arith}
use mathlib.Core.Path.{◌≡◌, refl, sym, ap, subst, ◌∙◌}
use mathlib.Core.Bool.{true}
use mathlib.Core.List.{List, [], ◌∷◌}
use lib.ListN.{length}
use Rattle.arith.proofs.Cases.{by_eq}
use Rattle.rows.specs.Outcome.{Outcome}
use Rattle.bucket.specs.declared.Request.TheVariants.{Acquire}
use Rattle.settings.specs.declared.Limit.TheVariants.{Open}
use Rattle.settings.specs.declared.Settings.{Settings}
use Rattle.settings.specs.declared.eviction.WhenFull.TheVariants.{RefuseNew}
use Rattle.settings.specs.declared.rate.Rate.{Rate}
use Rattle.settings.specs.Rate.{burst_of}
use Rattle.settings.specs.Settings.{with_classes}
use Rattle.shard.specs.declared.Identity.{Identity}
use Rattle.store.specs.Refusals.{latest_moment}
use Rattle.store.proofs.RefusalLaws.{moment_not_refused}
use Rattle.rules.specs.declared.Reply.{Reply}
use Rattle.rules.specs.declared.Reply.TheVariants.{Done}
use Rattle.rules.specs.Rules.{set_up, set_up_for}
use Rattle.rules.specs.Asks.{requests, with_table}
use Rattle.rules.specs.Calls.{keyed, whole, by_key, OfKey, Every}
use Rattle.rules.proofs.KeyedLaws.{ask_not_refused}
use Rattle.rules.proofs.CallLaws.{keyed_not_refused, accepted_not_refused}
use Rattle.demands.specs.ByKey.{Call, Answered, rules, replies, accepted, SameSettings, Agree, NoSharedHash, NeverRefundedOrRemoved, tokens_usable}
use Rattle.desk_answers.specs.Desk.{identity_of, tried}
use Rattle.outage_rows.specs.declared.Row.{Row}
use Rattle.outage_rows.specs.Model.{State, most_tries, row_at, next, cost_of, request_of, after_try, tried_at, outage}
use Rattle.outage_rows.specs.Layout.{all_rows, state_of}
use Rattle.outage_rows.proofs.NextLaws.{next_found}
use Rattle.outage_rows.proofs.RunLaws.{tried_rows}
use Rattle.outage_rows.proofs.EndLaws.{by_again, row_tried, row_other}
use Rattle.demands.specs.Demands as Demands
use Rattle.demands.proofs.EveryLaws.{every_implies}
use Rattle.demands.proofs.Theorem.{rules_stay_within_the_window}
use Rattle.outage_demands.specs.Village.{call_of, calls, tokens_granted, NoneGrantedYet, Asked, KeysApart, fresh, VillageWindow}
use Rattle.outage_demands.proofs.CallLaws.{answered_in, by_tries, every_try}
use Rattle.outage_demands.proofs.ReplyLaws.{try_reply}
use Rattle.outage_demands.proofs.TimeLaws.{waits_later, run_never_goes_back}
use Rattle.outage_demands.proofs.TokenLaws.{run_grants_what_its_calls_grant, none_granted}

-- Identities of which no two have one hash and different keys: so it is with calls that name them.
module _ (Q : Identity → Type 0) (apart : (i j : Identity) → Q i → Q j → i.hash ≡ j.hash → i.key ≡ j.key) where
  agree_with : (i : Identity) (d : Call) → Q i → OfKey by_key Q d → OfKey by_key (λ j. i.hash ≡ j.hash → i.key ≡ j.key) d
  agree_with i (keyed s j ask) q named = apart i j q named
  agree_with i (whole s what) q named = tt

  agree : (c d : Call) → OfKey by_key Q c → OfKey by_key Q d → OfKey by_key (λ i. OfKey by_key (λ j. i.hash ≡ j.hash → i.key ≡ j.key) d) c
  agree (keyed s i ask) d named also = agree_with i d named also
  agree (whole s what) d named also = tt

  apart_shares_none : (l : List Answered) → Every (λ a. accepted a ≡ true → OfKey by_key Q a.call) l → NoSharedHash l
  unfolding Demands.NoSharedHash
  apart_shares_none [] every = tt
  apart_shares_none (a ∷ rest) every = (
    every_implies (λ b. accepted b ≡ true → OfKey by_key Q b.call) (Agree a) (λ b named taken also. agree a.call b.call (every.0 taken) (named also))
        rest every.1,
    apart_shares_none rest every.1,
  )

-- An identity that a row has which is asked of the store.
record Named (rows : List Row) (id : Identity) : Type 0 where
  place : ℕ
  inside : place < length rows
  asked : Asked (row_at rows place)
  is : id ≡ identity_of (row_at rows place).key

named_apart : (rows : List Row) → KeysApart rows → (i j : Identity) → Named rows i → Named rows j → i.hash ≡ j.hash → i.key ≡ j.key
named_apart rows apart i j a b same =
    let hashes = sym (ap (λ (id : Identity). id.hash) a.is) ∙ same ∙ ap (λ (id : Identity). id.hash) b.is in
    let keys = apart a.place b.place a.inside b.inside a.asked b.asked hashes in
    ap (λ (id : Identity). id.key) a.is ∙ keys ∙ sym (ap (λ (id : Identity). id.key) b.is)

module _ (s : Settings) where
  -- A call of a run that is not refused by number is made at a moment that a call may name.
  accepted_is_early : (row : Row) (reply : Reply) (ws : List ℕ) → accepted (record { call = call_of s row; reply = reply; rules_words = ws }) ≡ true
      → row.at.0 ≤ latest_moment
  accepted_is_early row reply ws taken =
      let id = identity_of row.key in
      let ask = requests Acquire row.at (cost_of row.cost) in
      let none = accepted_not_refused by_key (record { call = call_of s row; reply = reply; rules_words = ws }) taken in
      moment_not_refused row.at (ask_not_refused s id ask ws (keyed_not_refused by_key s id ask ws none).1).1

  -- Such calls name the keys of rows that are asked: no try changes a key, and a row that waits does not wait for an earlier moment.
  abbrev AskedNamed : (Identity → Type 0) → Row → Type 0
  AskedNamed Q row = Asked row → Q (identity_of row.key)

  try_keeps_named : (Q : Identity → Type 0) (v : State) (p : ℕ) → next v.rows ≡ Some p → AskedNamed Q (row_at v.rows p)
      → AskedNamed Q (row_at (tried_at s v p).rows p)
  try_keeps_named Q v p is named =
      let f = next_found v.rows p is in
      let row = row_at v.rows p in
      let told = (tried s (request_of row) v.store).answer in
      let same : (after_try row told).key ≡ row.key = by_again (λ new. new.key ≡ row.key) row told (λ t. refl) (λ t. refl) in
      let later = waits_later row _ (try_reply s row.at (identity_of row.key) (cost_of row.cost) v.store) in
      rw (row_tried s v p f.below) (λ asked. rw same (named (f.live, omega (arith, later asked.0, asked.1))))

  calls_name_rows : (Q : Identity → Type 0) (n : ℕ) (v : State) → ((j : ℕ) → j < length v.rows → AskedNamed Q (row_at v.rows j))
      → Every (λ a. accepted a ≡ true → OfKey by_key Q a.call) (answered_in s n v)
  calls_name_rows Q =
      by_tries s
      (λ v l w. ((j : ℕ) → j < length v.rows → AskedNamed Q (row_at v.rows j)) → Every (λ a. accepted a ≡ true → OfKey by_key Q a.call) l)
      (λ v all. tt)
      (λ v p is rest w then all.
      let f = next_found v.rows p is in (
        (λ taken. all p f.below (f.live, accepted_is_early (row_at v.rows p) _ v.store taken)),
        then (λ j b.
            by_eq j p (λ same. rw same (try_keeps_named Q v p is (all p f.below)))
            (λ other. rw (row_other s v p j other) (all j (rw (tried_rows s v p) at b)))),
      ))

  run_shares_none : (n : ℕ) (v : State) → KeysApart v.rows → NoSharedHash (answered_in s n v)
  run_shares_none n v apart =
      apart_shares_none (Named v.rows) (named_apart v.rows apart) (answered_in s n v)
      (calls_name_rows (Named v.rows) n v (λ j b asked. record { place = j; inside = b; asked = asked; is = refl }))

  run_same_settings : (n : ℕ) (v : State) → SameSettings s (answered_in s n v)
  run_same_settings n v = every_try s _ (λ row reply ws taken. refl) n v

  run_undoes_nothing : (k : Identity) (n : ℕ) (v : State) → NeverRefundedOrRemoved k (answered_in s n v)
  run_undoes_nothing k n v = every_try s _ (λ row reply ws taken. tt) n v

-- The window from set_up_lem without a class table, with settings that have no class.
pub unclassed : (s : Settings) → s.classes ≡ 0 → with_table [] s ≡ s
unclassed s none = ap (λ (n : ℕ). with_classes n s) (sym none)

window_from_set_up : (s : Settings) (rate : Rate) (ws : List ℕ) → s.classes ≡ 0 → s.limit ≡ Open rate → s.eviction.when_full ≡ RefuseNew
    → (set_up s ws).answer ≡ Done → (cs : List Call)
    → Demands.WithinWindow by_key 1 s rate (replies rules cs (set_up s ws).after (set_up s ws).after)
window_from_set_up s rate ws none rated refuses done' cs =
    let back : set_up_for s [] ws ≡ set_up s ws = ap (λ (t : Settings). set_up_for t [] ws) (sym (unclassed s none)) in
    subst (λ (o : Outcome Reply (List ℕ)). o.answer ≡ Done → Demands.WithinWindow by_key 1 s rate (replies rules cs o.after o.after)) back
    (λ d. rules_stay_within_the_window by_key s rate [] ws rated refuses d cs) done'

pub village_stays_within_the_window : VillageWindow
village_stays_within_the_window s rate ws plain rated refuses done' rows others none apart key t u le =
    let v = fresh s ws rows others in
    let n : ℕ = most_tries * length rows in
    let window = window_from_set_up s rate ws plain rated refuses done' (calls s v) (run_same_settings s n v)
    (run_never_goes_back s n v 0 (λ j b live. omega arith)) (run_shares_none s n v apart) (identity_of key)
    (run_undoes_nothing s (identity_of key) n v) t u le in
    let counted : tokens_usable (identity_of key) t u (answered_in s n v) ≡ tokens_granted key t u (outage s v).rows =
    omega (arith, run_grants_what_its_calls_grant key t u s n v, none_granted key t u rows none) in
    rw (← counted) window

-- So it is with the rows that code leaves which is as the contract of `run` tells its callers: `gave` is that contract, on the words of an accepted set_up_lem.
pub contract_stays_within_the_window : (s : Settings) (rate : Rate) (ws : List ℕ)
    → s.classes ≡ 0 → s.limit ≡ Open rate → s.eviction.when_full ≡ RefuseNew → (set_up s ws).answer ≡ Done
    → (rs rs' ws' : List ℕ) → state_of rs' ws' ≡ outage s (state_of rs (set_up s ws).after) → NoneGrantedYet (all_rows rs) → KeysApart (all_rows rs)
    → (key t u : ℕ) → t ≤ u
    → tokens_granted key t u (all_rows rs') * rate.period.0 ≤ burst_of rate * rate.period.0 + (u - t + 1) * rate.amount
contract_stays_within_the_window s rate ws plain rated refuses done' rs rs' ws' gave none apart key t u le =
    let rows_are = ap (λ (v : State). v.rows) gave in
    rw rows_are (village_stays_within_the_window s rate ws plain rated refuses done' (all_rows rs) (state_of rs ws).others none apart key t u le)
