use Prim.Native.Nat.{◌+◌, ◌-◌}
use mathlib.Core.Path.{◌≡◌, sym, ◌∙◌}
use native.Mathlib.Omega.{arith}
use borrow.Author.Rules.{rules}
use Rattle.held.proofs.RoundLaws.{sweep_begins, sweep_goes_on, sweep_ends, sweep_stops}
use Rattle.shard_map.proofs.ModelLaws.{idle_sweep_by_looks}
use Rattle.shard_map.proofs.sweep_idle.Goals as goal

pub loop-init : goal.loop-init
loop-init c = let all : c.args.budget - 0 ≡ c.args.budget = omega arith in
    rw all (sweep_begins c.requires.0)

pub idle_look-requires : goal.idle_look-requires
idle_look-requires c = (c.loop.invariant.lent, c.requires.1, search rules)

pub loop-preserved : goal.loop-preserved
loop-preserved c = let looked = c.idle_look in
    let left = c.args.budget in
    let next : left - (c.loop.counter + 1) ≡ left - c.loop.counter - 1 = omega arith in
    rw next
    (sweep_goes_on (idle_sweep_by_looks _ _ _ _) c.loop.invariant (omega arith) looked.auto.ws looked.ensures)

pub returns-after-loop : goal.returns-after-loop
returns-after-loop c = sweep_ends (idle_sweep_by_looks _ _ _ _) c.loop.invariant (omega arith)

pub returns-then-count-eq0 : goal.returns-then-count-eq0
returns-then-count-eq0 c = sweep_stops (idle_sweep_by_looks _ _ _ _) c.loop.invariant (sym c.count.ensures ∙ c.if-count-eq0.true)
