use Rattle.outage_rows.proofs.NextLaws.{next_start, next_turn, next_end, sooner_below}
use Rattle.outage_rows.proofs.LayoutLaws.{rows_count}
use Rattle.outage_rows.specs.Layout.{rows_in}
use mathlib.Core.Path.{sym, ◌∙◌}
use Rattle.outage_rows.proofs.next.Goals as goal

pub loop-i-init : goal.loop-i-init
loop-i-init c = record { known = tt; same = next_start (rows_in _ _) _ (rows_count _ _) }

pub sooner-best-requires : goal.sooner-best-requires
sooner-best-requires c = (c.requires, c.loop-i-test.true, c.loop-i.invariant.known)

pub loop-i-preserved : goal.loop-i-preserved
loop-i-preserved c = let inside = c.loop-i-test.true in
    let inv = c.loop-i.invariant in
    record {
      known = rw c.sooner-best.ensures (sooner_below _ _ _ _ inside inv.known);
      same = rw c.sooner-best.ensures (sym (next_turn _ _ _ _ inside) ∙ inv.same);
    }

pub returns : goal.returns
returns c = sym (next_end _ _ _ _ c.loop-i-test.false) ∙ c.loop-i.invariant.same
