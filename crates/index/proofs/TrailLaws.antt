-- What the pass over the places after an emptied one knows on its way, and what follows for the item that it adds again.
use Rattle.std.proofs.Common.{◌≡◌, ℕ, ◌+◌, ◌-◌, ◌%◌, ◌<◌, ◌≤◌, min, List, length, set, sym, refl, ap, ◌∙◌, ⊎_elim, mod-lt, arith, length-set, set-set, eq-eqb}
use Rattle.std.proofs.Common.{ne_eqb, le-leb}
use lib.Seq.{set-get_or}
use borrow.Author.Tests.{lt-leb}
use Rattle.arith.proofs.Cases.{by_eq, by_le}
use Rattle.index.specs.declared.Pass.{Pass}
use Rattle.index.specs.Walk.{at, onward, walk, seek, add_again}
use Rattle.index.specs.Exact.{Before}
use Rattle.index.specs.code.Trail.{steps, from_home, Trail, known_after}
use Rattle.index.proofs.CycleLaws.{which_first}
use Rattle.index.proofs.CopyLaws.{at_stored, at_kept, used_kept}
use Rattle.index.proofs.WalkLaws.{StopsAt, walk_stops, empty_stops, is_empty, stops_empty, passed_used}
use Rattle.index.proofs.WayLaws.{way, no_steps, some_steps, same_place, one_step_more, passed_between, between_passed}
use Rattle.index.proofs.RunLaws.{less_more}
use Rattle.index.proofs.StepLaws.{add_in, add_again_named, add_again_nothing}

-- The steps from home, by the test of the code.
module _ (hash : ℕ → ℕ) (n size q word : ℕ) where
  pub from_home_lem : word ≤ n → steps size (hash (word - 1) % size) q ≡ from_home hash n size q word
  unfolding from_home
  from_home_lem item = rw (le-leb word n item)

  pub from_no_home : n < word → size + 1 ≡ from_home hash n size q word
  unfolding from_home
  from_no_home over = rw (lt-leb word n over)

-- The places known after a walk, by the test of the code.
pub known_left : (word back run : ℕ) → word ≡ 0 → run ≡ known_after word back run
unfolding known_after
known_left word back run none = rw (eq-eqb word 0 none)

pub known_filled : (word back run : ℕ) → (word ≡ 0 → ⊥) → back ≡ known_after word back run
unfolding known_after
known_filled word back run some = rw (ne_eqb word 0 some)

-- The walk of a hash for an empty place stops at an empty place if all places before it are in use.
seek_first : (ix : List ℕ) (h z : ℕ) → z < length ix → at ix z ≡ 0 → ((y : ℕ) → y < length ix → Before (h % length ix) z y → 0 < at ix y) → seek ix h 0 ≡ z
unfolding seek
seek_first ix h z inside free used =
    let w : ℕ = walk ix is_empty h in
    let stop : StopsAt ix is_empty (h % length ix) w = walk_stops ix is_empty h z inside (empty_stops is_empty (at ix z) free) in
    ⊎_elim (λ sooner. absurd (let u = used w stop.below sooner in omega (arith, stops_empty (at ix w) stop.here)))
    (⊎_elim (λ (same : w ≡ z). same)
    (λ later. absurd (let u = passed_used is_empty (at ix z) (stop.passed z inside later) in omega arith)))
    (which_first (h % length ix) z w)

-- The pass has done with place q: the gap is `run` steps behind, and the places less than `known` steps behind are in use, but for the gap.
record Passed (size : ℕ) (ix : List ℕ) (q : ℕ) (pass : Pass) : Type 0 where
  inside : pass.gap < size
  free : at ix pass.gap ≡ 0
  behind : steps size pass.gap q ≡ pass.run
  further : pass.run < pass.known
  bounded : pass.known ≤ size
  used : (y : ℕ) → y < size → steps size y q < pass.known → (y ≡ pass.gap → ⊥) → 0 < at ix y

-- It goes on to the next place.
trail_on : {size : ℕ} {ix : List ℕ} {q : ℕ} {pass : Pass} → q < size → Passed size ix q pass → Trail size ix (onward size q) pass
trail_on {size} {ix} {q} {pass} below done = record {
  inside = done.inside;
  free = done.free;
  behind = λ other. one_step_more below pass.gap done.inside (λ same. other (sym same)) ∙ ap (λ (r : ℕ). r + 1) done.behind;
  further = done.further;
  bounded = done.bounded;
  used = λ y inside some few other.
      let p : ℕ = onward size q in
      let here : y ≡ p → steps size y p ≡ 0 = λ same. ap (λ (j : ℕ). steps size j p) same ∙ no_steps (rw same at inside) in
      let elsewhere : y ≡ p → ⊥ = λ same. omega (arith, here same) in
      done.used y inside (omega (arith, one_step_more below y inside elsewhere)) other;
}

-- It has left place q empty.
left_empty : {size : ℕ} {ix : List ℕ} {q : ℕ} (known : ℕ) → q < size → at ix q ≡ 0 → 0 < known → known ≤ size
    → ((y : ℕ) → y < size → steps size y q < known → (y ≡ q → ⊥) → 0 < at ix y) → Trail size ix (onward size q) (record { gap = q; run = 0; known = known })
left_empty known below free some few used =
    trail_on below (record { inside = below; free = free; behind = no_steps below; further = some; bounded = few; used = used })

-- After the first place is emptied.
pub trail_start : (size : ℕ) (ix : List ℕ) (z : ℕ) → z < size → at ix z ≡ 0 → Trail size ix (onward size z) (record { gap = z; run = 0; known = 1 })
trail_start size ix z below free =
    left_empty 1 below free (omega arith) (omega arith) (λ y inside near other. absurd (omega (arith, some_steps below y inside other)))

-- The pass is at a place q in use.
module _ (hash : ℕ → ℕ) (n : ℕ) {size : ℕ} {ix : List ℕ} {q gap run known : ℕ} (len : length ix ≡ size) (below : q < size) (filled : 0 < at ix q)
    (trail : Trail size ix q (record { gap = gap; run = run; known = known })) where
  abbrev word : ℕ
  word = at ix q

  abbrev home : ℕ
  home = hash (word - 1) % size

  -- The steps from the item's home to q.
  abbrev back : ℕ
  back = from_home hash n size q word

  abbrev emptied : List ℕ
  emptied = set ix q 0

  len' : length emptied ≡ size
  len' = simp length-set len

  home_below : home < size
  home_below = mod-lt (hash (word - 1)) (omega arith)

  gap_not_q : q ≡ gap → ⊥
  gap_not_q same = omega (arith, ap (λ (j : ℕ). at ix j) same, trail.free)

  behind : steps size gap q ≡ run + 1
  behind = trail.behind gap_not_q

  q_empty : at emptied q ≡ 0
  q_empty = at_stored ix q 0 (rw len below)

  gap_empty : at emptied gap ≡ 0
  gap_empty = at_kept ix q 0 gap (λ same. gap_not_q (sym same)) ∙ trail.free

  pub run_below : run + 1 < size
  run_below = omega (arith, behind, (way gap q trail.inside below).below)

  -- A known place before q stays in use, if it is not as far back as the gap.
  known_used : (y : ℕ) → y < size → 0 < steps size y q → steps size y q ≤ known → (steps size y q ≡ run + 1 → ⊥) → 0 < at emptied y
  known_used y inside some few clear =
      let other : y ≡ q → ⊥ = λ same. omega (arith, ap (λ (j : ℕ). steps size j q) same, no_steps below) in
      omega (arith, at_kept ix q 0 y other, trail.used y inside some few (λ same. clear (ap (λ (j : ℕ). steps size j q) same ∙ behind)))

  -- The item that the word names is added again where its walk stops.
  named : (z : ℕ) → word ≤ n → seek emptied (hash (word - 1)) 0 ≡ z → add_again hash n emptied word ≡ set emptied z word
  named z item stop =
      let added = add_in emptied (hash (word - 1)) (word - 1) z (sym stop) in
      add_again_named hash n emptied word item ∙ sym added ∙ ap (λ (w : ℕ). set emptied z w) (less_more word filled)

  -- An item whose home is known goes to the first place z that is empty: the gap does not lie between its home and z.
  goes_to : (z : ℕ) → z < size → at emptied z ≡ 0 → back ≤ known → steps size z q ≤ back
      → ((y : ℕ) → steps size z q < steps size y q → steps size y q ≤ back → steps size y q ≡ run + 1 → ⊥) → add_again hash n emptied word ≡ set emptied z word
  goes_to z inside free near nearer clear =
      by_le word n
      (λ item.
      let from = from_home_lem hash n size q word item in
      named z item (seek_first emptied (hash (word - 1)) z (rw len' inside) free (rw len' (λ y inside' passed.
      let between = passed_between below home z y home_below inside inside' passed (omega arith) in
      known_used y inside' (omega arith) (omega arith) (clear y between.0 (omega arith))))))
      (λ over. absurd (omega (arith, from_no_home hash n size q word over, trail.bounded)))

  -- The item's home lies after the gap: its walk comes back to q.
  pub stays : back ≤ run → add_again hash n emptied word ≡ ix
  stays near =
      goes_to q below q_empty (omega (arith, trail.further)) (omega (arith, no_steps below)) (λ y more less same. omega arith) ∙ rw (set-set, set-get_or)

  pub stays_trail : Trail size ix (onward size q) (record { gap = gap; run = run + 1; known = min (known + 1) size })
  stays_trail = trail_on below (record {
    inside = trail.inside;
    free = trail.free;
    behind = behind;
    further = omega (arith, trail.further, run_below);
    bounded = omega arith;
    used = λ y inside few other. by_eq y q (λ same. rw same filled) (λ before. trail.used y inside (some_steps below y inside before) (omega arith) other);
  })

  -- All places from its home to the gap are in use: it fills the gap.
  pub fills : run < back → back ≤ known → add_again hash n emptied word ≡ set emptied gap word
  fills far near = goes_to gap trail.inside gap_empty near (omega (arith, behind)) (λ y more less same. omega (arith, behind))

  pub fills_trail : Trail size (set emptied gap word) (onward size q) (record { gap = q; run = 0; known = min (known + 1) size })
  fills_trail =
      let inside : gap < length emptied = rw len' trail.inside in
      left_empty (min (known + 1) size) below (at_kept emptied gap word q gap_not_q ∙ q_empty) (omega arith) (omega arith)
      (λ y inside' few other. by_eq y gap
      (λ same. rw (same, at_stored emptied gap word inside) filled)
      (λ before. used_kept emptied gap word y inside filled (known_used y inside' (some_steps below y inside' other) (omega arith)
      (λ far. before (same_place below y gap inside' trail.inside (omega (arith, behind)))))))

  known_run : (y : ℕ) → y < size → steps size y q ≤ run → (y ≡ q → ⊥) → 0 < at emptied y
  known_run y inside near other = known_used y inside (some_steps below y inside other) (omega (arith, trail.further)) (omega arith)

  -- The item was added again by a walk, and it left the gap empty, or there was no item: the places of the run are known.
  left_trail : (ix' : List ℕ) → at ix' q ≡ 0 → ((y : ℕ) → 0 < at emptied y → 0 < at ix' y)
      → Trail size ix' (onward size q) (record { gap = q; run = 0; known = run + 1 })
  left_trail ix' free kept =
      left_empty (run + 1) below free (omega arith) (omega (arith, run_below)) (λ y inside few other. kept y (known_run y inside (omega arith) other))

  -- It was added at place z, the first empty one on its walk.
  module _ (z : ℕ) (item : word ≤ n) (far : run < back) (stop : StopsAt emptied is_empty home z) where
    abbrev added : List ℕ
    added = set emptied z word

    from : steps size home q ≡ back
    from = from_home_lem hash n size q word item

    kept : (y : ℕ) → 0 < at emptied y → 0 < at added y
    kept y used = used_kept emptied z word y stop.below filled used

    passed : (y : ℕ) → y < size → Before home z y → 0 < at emptied y
    passed y inside before = passed_used is_empty (at emptied y) (stop.passed y (rw len' inside) before)

    -- The gap is empty and comes before q on the walk.
    z_not_q : q ≡ z → ⊥
    z_not_q same =
        let nearer : steps size q q < steps size gap q = omega (arith, no_steps below, behind) in
        let before : Before home q gap = between_passed below home q gap home_below below trail.inside nearer (omega (arith, behind, from)) in
        omega (arith, passed gap trail.inside (rw (← same) before), gap_empty)

    q_free : at added q ≡ 0
    q_free = at_kept emptied z word q z_not_q ∙ q_empty

    -- It filled the gap: all places from its home on are in use.
    filled_trail : z ≡ gap → Trail size added (onward size q) (record { gap = q; run = 0; known = back + 1 })
    filled_trail same =
        left_empty (back + 1) below q_free (omega arith) (omega (arith, from, (way home q home_below below).below))
        (λ y inside few other. by_le (steps size y q) run
        (λ near. kept y (known_run y inside near other))
        (λ more. by_eq (steps size y q) (run + 1)
        (λ there. rw (same_place below y gap inside trail.inside (there ∙ sym behind) ∙ sym same, at_stored emptied z word stop.below) filled)
        (λ further.
        let before : Before home gap y = between_passed below home gap y home_below trail.inside inside (omega (arith, behind)) (omega (arith, from)) in
        kept y (passed y inside (rw same before)))))

    pub added_trail : Trail size added (onward size q) (record { gap = q; run = 0; known = known_after (at added gap) back run + 1 })
    added_trail =
        by_eq z gap
        (λ same.
        let used : at added gap ≡ word = rw (← same) (at_stored emptied z word stop.below) in
        rw (← known_filled (at added gap) back run (omega arith)) (filled_trail same))
        (λ other.
        let none : at added gap ≡ 0 = at_kept emptied z word gap (λ same. other (sym same)) ∙ gap_empty in
        rw (← known_left (at added gap) back run none) (left_trail added q_free kept))

  -- The item is added again by a walk: what the pass knows then.
  pub walks_trail : run < back → let added = add_again hash n emptied word in
      Trail size added (onward size q) (record { gap = q; run = 0; known = known_after (at added gap) back run + 1 })
  unfolding seek
  walks_trail far =
      by_le word n
      (λ item.
      let z : ℕ = walk emptied is_empty (hash (word - 1)) in
      let empty_here = empty_stops is_empty (at emptied q) q_empty in
      let stop : StopsAt emptied is_empty home z = rw len' at (walk_stops emptied is_empty (hash (word - 1)) q (rw len' below) empty_here) in
      rw (named z item refl) (added_trail z item far stop))
      (λ over. rw (add_again_nothing hash n emptied word over, ← known_left (at emptied gap) back run gap_empty) (left_trail emptied q_empty (λ y used. used)))

  -- However the pass adds, the steps fit.
  pub known_fits : (w : ℕ) → known_after w back run ≤ size + 1
  known_fits w =
      let fits : back ≤ size + 1 = by_le word n
      (λ item. omega (arith, from_home_lem hash n size q word item, (way home q home_below below).below))
      (λ over. omega (arith, from_no_home hash n size q word over)) in
      by_eq w 0 (λ none. omega (arith, known_left w back run none, run_below)) (λ some. omega (arith, known_filled w back run some))
