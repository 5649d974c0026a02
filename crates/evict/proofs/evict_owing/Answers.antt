-- `evict_owing` goes by whether the ledger is ready for the debt, and writes the debt where it is: so the debt is recorded, as its definition says.
use mathlib.Core.Path.{refl, ◌∙◌}
use Rattle.shard_map.proofs.ModelLaws.{intact_below}
use Rattle.evict.specs.code.Awaited.{soonest_in}
use Rattle.evict.proofs.ModelLaws.{after_record, after_prepare, may_be_written, written_is_recorded}
use Rattle.evict.proofs.ModelLaws.{debt_recorded_lem, debt_not_recorded, owing_goes_out, owing_stays}
use Rattle.evict.proofs.evict_owing.Goals as goal

pub get-slot-requires : goal.get-slot-requires
get-slot-requires c = let pre' = c.requires in
    (pre'.0, intact_below pre'.0 pre'.2)

pub write-requires : goal.write-requires
write-requires c = let went = after_prepare _ _ _ c.requires.0 c.prepare.auto.ws c.prepare.ensures in
    (went.lent.intact, may_be_written went c.in-Ok.is)

pub evict_at-requires : goal.evict_at-requires
evict_at-requires c = let pre' = c.requires in
    let gave = written_is_recorded _ _ _ _ c.prepare.ensures c.in-Ok.is c.write.ensures in
    let k = after_record pre'.0 (c.write.auto.ws ∙ c.prepare.auto.ws) _ _ _ gave in
    (k.intact, rw k.count pre'.2)

pub returns-in-Ok : goal.returns-in-Ok
returns-in-Ok c = let a = c.args in
    let wrote = written_is_recorded _ _ _ _ c.prepare.ensures c.in-Ok.is c.write.ensures in
    let gave = debt_recorded_lem _ _ _ _ _ c.get-slot.ensures c.recovers_in.ensures c.after-full.ensures wrote in
    rw c.evict_at.ensures (owing_goes_out _ _ _ _ (soonest_in a.config a.awaited) _ gave refl)

pub returns-in-Err : goal.returns-in-Err
returns-in-Err c = let a = c.args in
    let gave = debt_not_recorded a.config _ _ _ _ c.get-slot.ensures c.prepare.ensures c.in-Err.is in
    rw (c.after.ensures, c.max.ensures, c.min-sooner.ensures, c.soonest-soonest.ensures)
    (owing_stays a.config a.at a.forget a.pos (soonest_in a.config a.awaited) _ gave refl)
