-- `restore_debt` meets its contract: its cut and its charge are those of the definition, and missing tokens held to 64 bits make the same debt as all of them.
use Rattle.bucket.proofs.DebtLaws.{restore_saturated, lacking_by_taking_out, restored_settled, restored_unsettled}
use mathlib.Core.Path.{sym, ◌∙◌}
use Rattle.bucket.proofs.restore_debt.Goals as goal

pub returns-then-remaining-eq0 : goal.returns-then-remaining-eq0
returns-then-remaining-eq0 c = restored_settled _ _ _ _ (sym c.saturating_sub-remaining.ensures ∙ c.if-remaining-eq0.true)

pub returns : goal.returns
returns c = let remaining = c.saturating_sub-remaining.ensures in
    simp (
      c.take_out.ensures,
      c.saturating_sub-2.ensures,
      c.take_out-cut.ensures,
      c.saturating_sub.ensures,
      c.available_at-available.ensures,
      c.saturating_sub-keep.ensures,
      c.missing_tokens-missing.ensures,
      remaining,
    )
    (lacking_by_taking_out _ _ _ _ ∙ restore_saturated _ _ _ c.requires ∙ restored_unsettled _ _ _ _ (rw remaining at c.if-remaining-eq0.false))
