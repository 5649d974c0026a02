-- The tokens of a run by its rows are the tokens of its calls: a row is granted at most once, and ends then.
use Rattle.std.proofs.Common.{Some}
use Prim.Native.Nat.{ℕ, zero, suc, ◌+◌, ◌<◌}
use native.Mathlib.Omega.{arith}
use mathlib.Core.Path.{◌≡◌, refl, sym, ◌∙◌}
use mathlib.Core.Bool.{true, cond}
use mathlib.Core.List.{List, [], ◌∷◌}
use lib.Dec.{leb, eqb}
use lib.ListN.{length, set}
use borrow.Author.Tests.{eq-eqb, ne_eqb}
use Rattle.arith.proofs.Cases.{by_test, by_eq}
use Rattle.rows.specs.Outcome.{Outcome}
use Rattle.units.specs.declared.Nanos.{Nanos}
use Rattle.settings.specs.declared.Settings.{Settings}
use Rattle.hash.specs.Fnv.{key_hash}
use Rattle.rules.specs.declared.Reply.{Reply}
use Rattle.rules.specs.declared.codes.Told.{Told}
use Rattle.rules.specs.Replies.{told_of}
use Rattle.rules.specs.Replies.{decides}
use Rattle.rules.proofs.KindLaws.{OfKind, acquired, retried, impossible}
use Rattle.desk_answers.specs.Desk.{identity_of}
use Rattle.outage_rows.specs.declared.Row.{Row}
use Rattle.outage_rows.specs.Model.{State, row_at, is_live, cost_of, next, made, after_try, tried_at, ran}
use Rattle.outage_rows.proofs.NextLaws.{next_found}
use Rattle.outage_rows.proofs.RunLaws.{again_denied}
use Rattle.outage_rows.proofs.EndLaws.{by_again}
use Rattle.demands.specs.Demands.{usable}
use Rattle.demands.specs.Demands as Demands
use Rattle.demands.specs.ByKey.{Answered, tokens_of, tokens_usable}
use Rattle.outage_demands.specs.Village.{call_of, granted, tokens_granted, NoneGrantedYet}
use Rattle.outage_demands.proofs.ReplyLaws.{TryReply, decided, refused, try_reply}
use Rattle.outage_demands.proofs.CallLaws.{answer_to, answered_try, answered_in, by_tries}

module _ (key t u : ℕ) where
  -- The tokens of a key's row, its last try made within the time.
  abbrev within : Row → ℕ
  within row = cond (eqb row.key key) (cond (leb t row.at.0) (cond (leb row.at.0 u) (cost_of row.cost) 0) 0) 0

  -- By keys, since an identity of the desk has the hash of its key.
  usable_by_key : (row : Row) → usable (identity_of key) t u (identity_of row.key) row.at.0 (cost_of row.cost) ≡ within row
  unfolding usable
  usable_by_key row =
      by_eq row.key key
      (λ same. rw (same, eq-eqb (key_hash key) (key_hash key) refl, eq-eqb key key refl))
      (λ other. by_test (eqb (key_hash row.key) (key_hash key)) (λ e. rw (e, ne_eqb row.key key other)) (λ e. rw (e, ne_eqb row.key key other)))

  -- A live row, a row that is told another code than 0, and one that is told 0.
  live_none : (row : Row) → is_live row ≡ true → granted key t u row ≡ 0
  unfolding granted
  live_none row live = rw live

  told_none : (row : Row) (told : Told) → (told.code ≡ 0 → ⊥) → granted key t u (after_try row told) ≡ 0
  unfolding granted
  told_none row told other = by_again (λ new. granted key t u new ≡ 0) row told (λ e. refl) (λ e. rw (ne_eqb told.code 0 other))

  told_some : (row : Row) (told : Told) → told.code ≡ 0 → granted key t u (after_try row told) ≡ within row
  unfolding granted
  told_some row told code =
      by_again (λ new. granted key t u new ≡ within row) row told
      (λ e. let one = (again_denied (made row) told e).code in absurd (omega arith))
      (λ e. rw (eq-eqb told.code 0 code))

  in_kind_grants : (s : Settings) (row : Row) {r : Reply} → OfKind row.at decides r
      → granted key t u (after_try row (told_of r)) ≡ tokens_of (identity_of key) t u (call_of s row) r
  in_kind_grants s row acquired = told_some row _ refl ∙ sym (usable_by_key row)
  in_kind_grants s row (retried wait) = told_none row _ (λ e. omega arith)
  in_kind_grants s row impossible = told_none row _ (λ e. omega arith)

  -- What a row has after a try is what the call was granted.
  try_grants : (s : Settings) (row : Row) {r : Reply} → TryReply row.at r
      → granted key t u (after_try row (told_of r)) ≡ tokens_of (identity_of key) t u (call_of s row) r
  try_grants s row (decided early kind) = in_kind_grants s row kind
  try_grants s row (refused n) = told_none row _ (λ e. omega arith)

  tokens_after : (rows : List Row) (p : ℕ) (new : Row) → p < length rows
      → tokens_granted key t u (set rows p new) + granted key t u (row_at rows p) ≡ tokens_granted key t u rows + granted key t u new
  unfolding tokens_granted
  tokens_after [] p new b = absurd (omega arith)
  tokens_after (row ∷ rows) zero new b = omega arith
  tokens_after (row ∷ rows) (suc p) new b = omega (arith, tokens_after rows p new (omega arith))

  module _ (s : Settings) where
    tried_tokens : (v : State) (p : ℕ) → next v.rows ≡ Some p
        → tokens_granted key t u (tried_at s v p).rows
        ≡ tokens_of (identity_of key) t u (answered_try s v p).call (answered_try s v p).reply + tokens_granted key t u v.rows
    unfolding tried_at
    tried_tokens v p is =
        let f = next_found v.rows p is in
        let row = row_at v.rows p in
        let reply = (answer_to s row v.store).answer in
        omega (
          arith,
          tokens_after v.rows p (after_try row (told_of reply)) f.below,
          live_none row f.live,
          try_grants s row {r = reply} (try_reply s row.at (identity_of row.key) (cost_of row.cost) v.store),
        )

    pub run_grants_what_its_calls_grant : (n : ℕ) (v : State)
        → tokens_usable (identity_of key) t u (answered_in s n v) + tokens_granted key t u v.rows ≡ tokens_granted key t u (ran s n v).rows
    unfolding Demands.tokens_usable
    run_grants_what_its_calls_grant =
        by_tries s (λ v l w. tokens_usable (identity_of key) t u l + tokens_granted key t u v.rows ≡ tokens_granted key t u w.rows)
        (λ v. omega arith)
        (λ v p is rest w then. omega (arith, tried_tokens v p is))

  -- Rows of which none was granted.
  pub none_granted : (rows : List Row) → NoneGrantedYet rows → tokens_granted key t u rows ≡ 0
  unfolding tokens_granted granted
  none_granted [] none = refl
  none_granted (row ∷ rows) none =
      let rest = none_granted rows (λ j b off code. none (suc j) (omega arith) off code) in
      by_test (is_live row)
      (λ e. rw e (omega (arith, rest)))
      (λ e. rw (e, ne_eqb row.code 0 (λ code. none 0 (omega arith) e code)) (omega (arith, rest)))
