use Rattle.outage_rows.proofs.TryLaws.{next_in_words}
use Rattle.outage_rows.proofs.RunLaws.{runs_from_start, runs_on, runs_out, takes_a_try}
use Rattle.outage_rows.specs.Layout.{state_in}
use mathlib.Core.Path.{refl, sym, ◌∙◌}
use Rattle.outage_rows.proofs.run_rows.Goals as goal

pub loop-p-init : goal.loop-p-init
loop-p-init c = record { long = refl; wide = refl; room = c.requires; same = runs_from_start _ _ }

pub next-requires : goal.next-requires
next-requires c = c.loop-p.invariant.room

pub returns : goal.returns
returns c = runs_out _ _ _ (sym c.next.ensures ∙ c.in_default.is) c.loop-p.invariant.same

pub try_at-requires : goal.try_at-requires
try_at-requires c = (c.loop-p.invariant.room, next_in_words _ _ _ (sym c.next.ensures ∙ c.in-Some.is))

pub loop-p-smaller : goal.loop-p-smaller
loop-p-smaller c = takes_a_try _ (state_in _ _ c.loop-p.ws) _ _ (sym c.next.ensures ∙ c.in-Some.is) c.try_at.ensures

pub loop-p-preserved : goal.loop-p-preserved
loop-p-preserved c = let inv = c.loop-p.invariant in
    let kept = c.try_at.auto in
    record {
      long = kept.rs ∙ inv.long;
      wide = kept.ws ∙ inv.wide;
      room = rw kept.rs inv.room;
      same = runs_on _ _ _ _ _ (sym c.next.ensures ∙ c.in-Some.is) c.try_at.ensures inv.same;
    }
