-- `planned` refuses the call for what comes before its ledger, else the ledger of the shard decides.
use Rattle.std.proofs.Common.{sym, rules}
use Rattle.settings.proofs.RefusalLaws.{gives_nothing}
use Rattle.debt_calls.proofs.PlanLaws.{call_not_refused, call_refuses, ledger_decides}
use Rattle.debt_calls.proofs.planned.Goals as goal

pub returns-in_err-check_call : goal.returns-in_err-check_call
returns-in_err-check_call c = let a = c.args in
    gives_nothing c.from_residual.result _ _ c.from_residual.ensures.1 (call_refuses a.settings a.at a.shard a.ws.now a.room _ c.in_err-check_call.ensures)

pub part_at-part-requires : goal.part_at-part-requires
part_at-part-requires c = let a = c.args in
    let called = call_not_refused a.settings a.at a.shard a.ws.now (sym c.in_ok-check_call.ensures) in
    rw c.shape.ensures (called.shaped (search rules), called.below)

pub ledger_plan-requires : goal.ledger_plan-requires
ledger_plan-requires c = let a = c.args in
    rw (c.part_at-part.ensures, c.shape.ensures) (call_not_refused a.settings a.at a.shard a.ws.now (sym c.in_ok-check_call.ensures)).placed

pub returns : goal.returns
returns c = let a = c.args in
    ledger_decides a.settings a.at a.shard a.ws.now a.room _ (sym c.in_ok-check_call.ensures) (rw c.shape.ensures at c.part_at-part.ensures)
    c.ledger_plan.ensures
