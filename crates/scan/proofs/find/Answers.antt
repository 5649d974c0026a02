use Rattle.std.proofs.Common.{◌≡◌, ◌∙◌, sym, arith}
use Rattle.scan.proofs.FindLaws.{found, further, past}
use Rattle.scan.proofs.find.Goals as goal

pub returns-then-bytes-at-clause-first : goal.returns-then-bytes-at-clause-first
returns-then-bytes-at-clause-first c = found _ _ _ _ c.loop-at-test.true c.requires.within c.if-bytes-at.true ∙ sym c.loop-at.invariant

pub loop-at-preserved : goal.loop-at-preserved
loop-at-preserved c = c.loop-at.invariant ∙ further _ _ _ _ c.loop-at-test.true c.requires.within c.if-bytes-at.false

pub returns-clause-first : goal.returns-clause-first
returns-clause-first c = let end : c.loop-at.at ≡ c.args.to = omega arith in
    past c.args.byte c.args.to c.args.bytes.now c.requires.within ∙ sym (rw end at c.loop-at.invariant)
