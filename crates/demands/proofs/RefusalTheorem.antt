-- A limiter that meets demand 2 changes no word and no record where it refuses by number: the rules do not.
use Prim.Native.Nat.{ℕ}
use mathlib.Core.Path.{◌≡◌, sym, ap, ◌∙◌}
use mathlib.Core.Bool.{Bool, true, false, true≢false}
use mathlib.Core.List.{List}
use lib.ListN.{length, replicate}
use Rattle.arith.proofs.Cases.{by_eq}
use Rattle.rows.specs.Outcome.{Outcome, outcome}
use Rattle.settings.specs.declared.Settings.{Settings}
use Rattle.settings.specs.Settings.{shape_of}
use Rattle.store.specs.Memory.{memory_words}
use Rattle.rules.specs.declared.Reply.{Reply}
use Rattle.rules.specs.declared.Reply.TheVariants.{Done}
use Rattle.rules.specs.Replies.{numbered}
use Rattle.rules.specs.Rules.{table_set_up_refusal_in, set_up_in, set_up_for}
use Rattle.rules.specs.Calls.{Terms, list_debts}
use Rattle.rules.proofs.RefusedLaws.{unless_refused_accepts, unless_refused_refuses}
use Rattle.rules.proofs.DebtLaws.{refused_leaves_the_records}
use Rattle.rules.proofs.CallLaws.{refused_changes_nothing, numbered_is_refused}
use Rattle.demands.specs.Demands.{table_words, Limiter, settings_by, Demand2, RefusedChangesNothing}

-- Set-up is refused, or answers `Done`.
refused_set_up_changes_nothing : (s : Settings) (table ws : List ℕ) → numbered (set_up_for s table ws).answer ≡ true → (set_up_for s table ws).after ≡ ws
unfolding set_up_in
refused_set_up_changes_nothing s table ws told =
    let zeros : Outcome Reply (List ℕ) = outcome Done (replicate (memory_words s) 0) in
    let number : ℕ = table_set_up_refusal_in (shape_of s) s table ws in
    by_eq number 0
    (λ none.
    let done' : ◌≡◌ {A = Bool} false true = rw (unless_refused_accepts number ws zeros none) at told in
    absurd (true≢false (sym done')))
    (λ some. ap (λ (o : Outcome Reply (List ℕ)). o.after) (unless_refused_refuses number ws zeros some))

module _ {S N : Type 0} (terms : Terms S N) (l : Limiter S N) (equal : Demand2 terms l) where
  pub demand2_changes_nothing_where_refused : RefusedChangesNothing terms l
  demand2_changes_nothing_where_refused = record {
    sets_up_lem = λ table s ws few fit lent.
        rw (equal.sets_up_lem table s ws few fit lent) (refused_set_up_changes_nothing (settings_by terms table s) (table_words table) ws);
    clears = λ table s ws few fit lent.
        rw (equal.clears table s ws few fit lent) (refused_set_up_changes_nothing (settings_by terms table s) (table_words table) ws);
    answers = λ c ws fit lent. rw (equal.answers c ws fit lent) (refused_changes_nothing terms c ws);
    lists = λ s at i records ws fit small lent told.
        equal.lists s at i records ws fit small lent
        ∙ refused_leaves_the_records (terms.settings s) at i ws records
        (numbered_is_refused terms (list_debts s at i (length records)) ws (rw (equal.answers (list_debts s at i (length records)) ws fit lent) at told));
  }
