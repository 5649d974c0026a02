-- `list_debts` fills the records by the plan, which is the call's, or tells the refusal.
use Rattle.debt_calls.proofs.PlanLaws.{plan_is_ready, plan_leads, refusal_leads}
use Rattle.debt_calls.proofs.list_debts.Goals as goal

pub returns-in-Err : goal.returns-in-Err
returns-in-Err c = let a = c.args in
    rw c.into.ensures (refusal_leads a.settings a.at a.shard a.records.now a.ws.now _ (rw c.in-Err.is at c.planned.ensures))

pub fill-requires : goal.fill-requires
fill-requires c = let a = c.args in
    let gave = rw c.in-Ok.is at c.planned.ensures in
    plan_is_ready a.settings a.at a.shard a.records.now a.ws.now gave.0 gave.1

pub returns-in-Ok : goal.returns-in-Ok
returns-in-Ok c = let a = c.args in
    let gave = rw c.in-Ok.is at c.planned.ensures in
    plan_leads a.settings a.at a.shard a.records.now a.ws.now gave.0 gave.1 c.fill.ensures
