-- The calls of a run, one by one; a proof about a run by its tries; what holds of every call; the words that the run leaves.
use Rattle.std.proofs.Common.{Some, None}
use Prim.Native.Nat.{ℕ, zero, suc, ◌*◌}
use mathlib.Core.Path.{◌≡◌, refl}
use mathlib.Core.List.{List, [], ◌∷◌}
use lib.ListN.{length}
use Rattle.rows.specs.Outcome.{Outcome}
use Rattle.settings.specs.declared.Settings.{Settings}
use Rattle.rules.specs.declared.Reply.{Reply}
use Rattle.rules.specs.Calls.{Every}
use Rattle.rules.specs.Calls as Calls
use Rattle.rules.specs.Rules.{unless_refused, try_acquire}
use Rattle.desk_answers.specs.Desk.{identity_of}
use Rattle.demands.specs.ByKey.{Call, rules, Answered, replies}
use Rattle.outage_rows.specs.declared.Row.{Row}
use Rattle.outage_rows.specs.Model.{State, most_tries, row_at, cost_of, next, tried_at, ran, outage}
use Rattle.outage_rows.proofs.NextLaws.{by_place}
use Rattle.outage_rows.proofs.RunLaws.{ran_next, ran_still}
use Rattle.outage_demands.specs.Village.{call_of, calls_in, calls, words_after}

module _ (s : Settings) where
  -- What a row's next try is answered, and the words that it leaves.
  abbrev pub answer_to : Row → List ℕ → Outcome Reply (List ℕ)
  answer_to row ws = try_acquire s row.at (identity_of row.key) (cost_of row.cost) ws

  -- The try of the row at a place, as it was answered.
  abbrev pub answered_try : State → ℕ → Answered
  answered_try v p = record { call = call_of s (row_at v.rows p); reply = (answer_to (row_at v.rows p) v.store).answer; rules_words = v.store }

  abbrev pub answered_in : ℕ → State → List Answered
  answered_in n v = replies rules (calls_in s n v) v.store v.store

  calls_next : (n : ℕ) (v : State) (p : ℕ) → next v.rows ≡ Some p → calls_in s (suc n) v ≡ call_of s (row_at v.rows p) ∷ calls_in s n (tried_at s v p)
  unfolding calls_in
  calls_next n v p is = rw is

  calls_none : (n : ℕ) (v : State) → next v.rows ≡ None → calls_in s (suc n) v ≡ []
  unfolding calls_in
  calls_none n v is = rw is

  answered_next : (n : ℕ) (v : State) (p : ℕ) → next v.rows ≡ Some p → answered_in (suc n) v ≡ answered_try v p ∷ answered_in n (tried_at s v p)
  unfolding Calls.replies tried_at unless_refused
  answered_next n v p is = rw (calls_next n v p is)

  answered_none : (n : ℕ) (v : State) → next v.rows ≡ None → answered_in (suc n) v ≡ []
  unfolding Calls.replies
  answered_none n v is = rw (calls_none n v is)

  -- A claim about a state, the tries made from it, and the state that they lead to, holds of every run if it holds where no try is made, and of one try more
  -- in front.
  module _ (P : State → List Answered → State → Type 0) (stop : (v : State) → P v [] v)
      (turn : (v : State) (p : ℕ) → next v.rows ≡ Some p
      → (rest : List Answered) (w : State) → P (tried_at s v p) rest w → P v (answered_try v p ∷ rest) w) where
    pub by_tries : (n : ℕ) (v : State) → P v (answered_in n v) (ran s n v)
    unfolding calls_in Calls.replies ran
    by_tries zero v = stop v
    by_tries (suc n) v =
        by_place (next v.rows)
        (λ p is. let v' = tried_at s v p in rw (answered_next n v p is, ran_next s n v p is) (turn v p is (answered_in n v') (ran s n v') (by_tries n v')))
        (λ is. rw (answered_none n v is, ran_still s (suc n) v is) (stop v))

  -- What holds of every try, whatever it is told, holds of every call of a run.
  pub every_try : (Q : Answered → Type 0) → ((row : Row) (reply : Reply) (ws : List ℕ) → Q (record { call = call_of s row; reply = reply; rules_words = ws }))
      → (n : ℕ) (v : State) → Every Q (answered_in n v)
  every_try Q all = by_tries (λ v l w. Every Q l) (λ v. tt) (λ v p is rest w every. (all (row_at v.rows p) _ v.store, every))

  -- The words that the run leaves are those that its calls leave, one after the other.
  pub ran_leaves : (n : ℕ) (v : State) → (ran s n v).store ≡ words_after (calls_in s n v) v.store
  unfolding calls_in words_after ran tried_at unless_refused
  ran_leaves zero v = refl
  ran_leaves (suc n) v =
      by_place (next v.rows)
      (λ p is. rw (ran_next s n v p is, calls_next n v p is) (ran_leaves n (tried_at s v p)))
      (λ is. rw (ran_still s (suc n) v is, calls_none n v is))

  pub run_leaves_what_its_calls_leave : (v : State) → (outage s v).store ≡ words_after (calls s v) v.store
  run_leaves_what_its_calls_leave v = ran_leaves (most_tries * length v.rows) v
