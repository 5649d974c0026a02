use Prim.Native.Nat.{◌+◌, ◌-◌}
use mathlib.Core.Path.{◌≡◌, sym, ◌∙◌}
use native.Mathlib.Omega.{arith}
use borrow.Author.Rules.{rules}
use Rattle.held.proofs.RoundLaws.{sweep_begins, sweep_goes_on, sweep_ends, sweep_stops}
use Rattle.ledger.proofs.ModelLaws.{sweep_by_looks}
use Rattle.ledger.proofs.sweep_by_looks.Goals as goal

pub loop-init : goal.loop-init
loop-init c = let all : c.args.budget - 0 ≡ c.args.budget = omega arith in
    rw all (sweep_begins c.requires)

pub look-requires : goal.look-requires
look-requires c = (c.loop.invariant.lent, search rules)

pub loop-preserved : goal.loop-preserved
loop-preserved c = let left = c.args.budget in
    let next : left - (c.loop.counter + 1) ≡ left - c.loop.counter - 1 = omega arith in
    rw next
    (sweep_goes_on (sweep_by_looks _ _) c.loop.invariant (omega arith) c.look.auto.ws c.look.ensures)

pub returns-after-loop : goal.returns-after-loop
returns-after-loop c = sweep_ends (sweep_by_looks _ _) c.loop.invariant (omega arith)

pub returns-then-count-eq0 : goal.returns-then-count-eq0
returns-then-count-eq0 c = sweep_stops (sweep_by_looks _ _) c.loop.invariant (sym c.count.ensures ∙ c.if-count-eq0.true)
