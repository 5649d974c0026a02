use Prim.Native.Nat.{◌-◌, ◌<◌}
use mathlib.Core.Path.{refl, sym, ◌∙◌}
use native.Mathlib.Omega.{arith}
use Rattle.shard_map.specs.Layout.{shard}
use Rattle.shard_map.specs.Model.{hand_of}
use Rattle.shard_map.proofs.ModelLaws.{intact_hand}
use Rattle.evict.specs.Evict.{victim_of}
use Rattle.evict.proofs.ModelLaws.{walk_start, walk_end, walk_turn, walk_ends_at_once}
use Rattle.evict.proofs.ModelLaws.{AfterWalk, after_look, after_walk, evicted_in_steps}
use Rattle.evict.proofs.RowLaws.{after_row}
use Rattle.evict.proofs.evict_one.Invariants.{Walking, Ended}
use Rattle.evict.proofs.evict_one.Goals as goal
use Rattle.evict.proofs.evict_one.Goals.{then-left-eq0, else-left-eq0+then-goes_at_once}

-- After a look that does not end the walk, the walk goes on with one look less.
turned : (c : goal.After-pass_owing-arg-1) → let a = c.args in
    Walking a.ws.now a.cap a.config a.at c.hand_look-slot.new.ws (c.loop-left.left - 1) c.noted-walk.result
turned c = let once = c.goes_at_once.ensures in
    let saw = c.hand_look-slot.ensures in
    let inv = c.loop-left.invariant in
    let after = after_look inv.intact c.hand_look-slot.auto.ws _ saw in
    let accepted = c.requires.1 in
    let more : 0 < c.loop-left.left = omega (arith, c.if-left-eq0.false) in
    let goes_on = walk_turn _ _ _ _ _ more c.hand-pos.ensures saw once accepted c.if-goes_at_once.false c.noted-walk.ensures in
    record {
      intact = after.intact;
      some = rw after.count inv.some;
      long = c.hand_look-slot.auto.ws ∙ inv.long;
      same = sym goes_on ∙ inv.same;
    }

-- After a look that does not end the walk, the walk goes on with one look less.
turned_2 : (c : goal.After-with_least-walk) → let a = c.args in
    Walking a.ws.now a.cap a.config a.at c.hand_look-slot.new.ws (c.loop-left.left - 1) c.noted-walk.result
turned_2 c = let once = c.goes_at_once.ensures in
    let saw = c.hand_look-slot.ensures in
    let inv = c.loop-left.invariant in
    let after = after_look inv.intact c.hand_look-slot.auto.ws _ saw in
    let accepted = c.requires.1 in
    let more : 0 < c.loop-left.left = omega (arith, c.if-left-eq0.false) in
    let goes_on = walk_turn _ _ _ _ _ more c.hand-pos.ensures saw once accepted c.if-goes_at_once.false c.noted-walk.ensures in
    record {
      intact = after.intact;
      some = rw after.count inv.some;
      long = c.hand_look-slot.auto.ws ∙ inv.long;
      same = sym goes_on ∙ inv.same;
    }

walk-ended : (c : goal.After-slice_known-2-1) → let a = c.args in
    Ended a.ws.now a.cap a.config a.at c.if-left-eq0.ws c.if-left-eq0.ended c.loop-left.walk
walk-ended c = let inv = c.loop-left.invariant in
    elim c.if-left-eq0.branch [
      | then-left-eq0 w ↦ rw (w.ws-is, w.ended-is) (record { long = inv.long; same = sym inv.same ∙ walk_end _ _ _ _ _ w.if-left-eq0.true })
      | else-left-eq0+then-goes_at_once w ↦ rw (w.ws-is, w.ended-is) (record {
        long = w.hand_look-slot.auto.ws ∙ inv.long;
        same = sym inv.same ∙ walk_ends_at_once _ _ _ _ _
            (omega (arith, w.if-left-eq0.false)) w.hand-pos.ensures w.hand_look-slot.ensures w.goes_at_once.ensures w.if-goes_at_once.true;
      })
    ]

walk-ended_2 : (c : goal.After-evict_victim-arg-2-1) → let a = c.args in
    Ended a.ws.now a.cap a.config a.at c.if-left-eq0.ws c.if-left-eq0.ended c.loop-left.walk
walk-ended_2 c = let inv = c.loop-left.invariant in
    elim c.if-left-eq0.branch [
      | then-left-eq0 w ↦ rw (w.ws-is, w.ended-is) (record { long = inv.long; same = sym inv.same ∙ walk_end _ _ _ _ _ w.if-left-eq0.true })
      | else-left-eq0+then-goes_at_once w ↦ rw (w.ws-is, w.ended-is) (record {
        long = w.hand_look-slot.auto.ws ∙ inv.long;
        same = sym inv.same ∙ walk_ends_at_once _ _ _ _ _
            (omega (arith, w.if-left-eq0.false)) w.hand-pos.ensures w.hand_look-slot.ensures w.goes_at_once.ensures w.if-goes_at_once.true;
      })
    ]

-- So the words are still lent there, and the victim is held.
walk-left : (c : goal.After-evict_victim-arg-2-1) → let a = c.args in
    let walk = c.loop-left.walk in
    AfterWalk a.cap c.if-left-eq0.ws (victim_of c.if-left-eq0.ended walk.full walk.unmarked (hand_of (shard a.cap a.ws.now)))
walk-left c = let pre' = c.requires in
    after_walk _ _ pre'.0 pre'.2 (walk-ended_2 c).long (walk-ended_2 c).same

pub loop-left-init : goal.loop-left-init
loop-left-init c = let pre' = c.requires in
    record {
      intact = pre'.0;
      some = pre'.2;
      long = refl;
      same = rw (c.new-walk.ensures, c.min-left.ensures, c.len.ensures, c.hand_looks.ensures) (walk_start _ _ _);
    }

pub hand_look-slot-requires : goal.hand_look-slot-requires
hand_look-slot-requires c = let inv = c.loop-left.invariant in
    (inv.intact, rw c.hand-pos.ensures (intact_hand inv.intact inv.some))

pub goes_at_once-requires : goal.goes_at_once-requires
goes_at_once-requires c = c.requires.1

pub noted-walk-requires : goal.noted-walk-requires
noted-walk-requires c = c.requires.1

pub pass_owing-row-requires : goal.pass_owing-row-requires
pass_owing-row-requires c = let went = turned c in
    (went.intact, c.requires.1, went.some)

pub loop-left-smaller : goal.loop-left-smaller
loop-left-smaller c = omega (arith, c.pass_owing-row.ensures.fewer, c.if-left-eq0.false)

pub loop-left-preserved : goal.loop-left-preserved
loop-left-preserved c = let passed = c.pass_owing-row.ensures in
    let went = turned_2 c in
    let after = after_row went.intact c.pass_owing-row.auto.ws passed in
    record {
      intact = after.intact;
      some = rw after.count went.some;
      long = c.pass_owing-row.auto.ws ∙ went.long;
      same = rw c.with_least-walk.ensures (sym passed.same ∙ went.same);
    }

pub evict_victim-requires : goal.evict_victim-requires
evict_victim-requires c = let pre' = c.requires in
    let after = walk-left c in
    (after.intact, pre'.1, rw (c.choose-victim.ensures, c.hand-first.ensures) after.held)

pub shape_of-ws : goal.shape_of-ws
shape_of-ws c = c.evict_victim.auto.ws ∙ (walk-ended c).long

pub returns : goal.returns
returns c = let hand = c.hand-first.ensures in
    evicted_in_steps _ _ _ _ (walk-ended c).same hand c.choose-victim.ensures c.evict_victim.ensures
