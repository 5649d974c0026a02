-- `make_room` goes by what `scan` chose, as its definition does; the place that was chosen holds a debt, so it can be removed.
use Prim.Native.Nat.{◌<◌}
use Rattle.ledger.specs.Layout.{ledger}
use Rattle.ledger.proofs.ModelLaws.{AfterScan, after_scan, choice_held, settled_dropped, soonest_dropped, soonest_kept, intact_below}
use Rattle.ledger.proofs.make_room.Goals as goal

-- After the scan the words are still lent and the place that it chose holds a debt; so does the place of the soonest.
scanned : (c : goal.After-remove_at-arg-1) → AfterScan c.args.cap c.scan.new.ws c.scan.result
scanned c = after_scan _ c.requires.0 c.requires.1 c.scan.auto.ws c.scan.ensures

-- After the scan the words are still lent and the place that it chose holds a debt; so does the place of the soonest.
scanned_2 : (c : goal.After-remove_at-arg-then-forget-1) → AfterScan c.args.cap c.scan.new.ws c.scan.result
scanned_2 c = after_scan _ c.requires.0 c.requires.1 c.scan.auto.ws c.scan.ensures

-- After the scan the words are still lent and the place that it chose holds a debt; so does the place of the soonest.
scanned_3 : (c : goal.Else-forget) → AfterScan c.args.cap c.scan.new.ws c.scan.result
scanned_3 c = after_scan _ c.requires.0 c.requires.1 c.scan.auto.ws c.scan.ensures

soonest-held : (c : goal.After-remove_at-arg-then-forget-1) → c.in-Soonest.pos < (ledger c.args.cap c.scan.new.ws).debts.count
soonest-held c = choice_held (scanned_2 c) c.in-Soonest.is

soonest-held_2 : (c : goal.Else-forget) → c.in-Soonest.pos < (ledger c.args.cap c.scan.new.ws).debts.count
soonest-held_2 c = choice_held (scanned_3 c) c.in-Soonest.is

pub remove_at-requires : goal.remove_at-requires
remove_at-requires c = let after = scanned c in
    (after.intact, choice_held after c.in-Settled.is)

pub remove_at-requires-then-forget : goal.remove_at-requires-then-forget
remove_at-requires-then-forget c = ((scanned_2 c).intact, soonest-held c)

pub settles_at-settles-requires : goal.settles_at-settles-requires
settles_at-settles-requires c = let intact = (scanned_3 c).intact in
    (intact.size, intact_below intact (soonest-held_2 c))

pub returns-in-Settled : goal.returns-in-Settled
returns-in-Settled c = rw c.remove_at.ensures (settled_dropped _ _ _ _ c.scan.ensures c.in-Settled.is)

pub returns-then-forget : goal.returns-then-forget
returns-then-forget c = rw c.remove_at-then-forget.ensures (soonest_dropped _ _ _ _ c.scan.ensures c.in-Soonest.is c.if-forget.true)

pub returns-else-forget : goal.returns-else-forget
returns-else-forget c = let kept = soonest_kept _ _ _ _ c.scan.ensures c.in-Soonest.is c.if-forget.false in
    rw (c.saturating_sub.ensures, c.settles_at-settles.ensures) kept
