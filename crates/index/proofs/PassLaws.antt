-- One turn of the pass in lent words: whether the item stays, fills the gap or is added by a walk, the words are those of the definition, and the pass knows
-- what it has to know at the next place.
use Rattle.std.proofs.Common.{◌≡◌, ℕ, ◌+◌, ◌<◌, ◌≤◌, min, cond, leb, List, length, set, sym, ap, ◌∙◌, length-set, set-set, le-leb}
use lib.Seq.{set-get_or}
use borrow.Author.Tests.{lt-leb}
use Rattle.arith.proofs.Cases.{by_le}
use Rattle.index.specs.declared.Index.{Index}
use Rattle.index.specs.declared.Pass.{Pass}
use Rattle.index.specs.Walk.{at, onward, add_again}
use Rattle.index.specs.Layout.{Fits, places_of, with_places, hash_of}
use Rattle.index.specs.code.Trail.{from_home, Trail, known_after}
use Rattle.index.proofs.CopyLaws.{at_stored}
use Rattle.index.proofs.StepLaws.{add_again_length}
use Rattle.index.proofs.LayoutLaws.{places_length, same_places, set_length, then_places}
use Rattle.index.proofs.TrailLaws.{stays, stays_trail, fills, fills_trail, walks_trail, known_fits, run_below}

-- A place that was emptied is empty.
pub emptied_place : {index : Index} {n : ℕ} {ws ws₁ : List ℕ} (z : ℕ) → Fits index n ws → z < index.size
    → ws₁ ≡ with_places index ws (set (places_of index ws) z 0)
    → at (places_of index ws₁) z ≡ 0
emptied_place {index} {n} {ws} z fits hz e =
    rw (then_places (set (places_of index ws) z 0) fits (set_length index ws z 0 fits.inside) e)
    (at_stored (places_of index ws) z 0 (rw (places_length index ws fits.inside) hz))

-- What one turn is given.
abbrev pub Given : Index → ℕ → List ℕ → ℕ → ℕ → Pass → Type 0
Given index n ws q word pass =
    Fits index n ws × (q < index.size) × (word ≡ at (places_of index ws) q) × (0 < word) × Trail index.size (places_of index ws) q pass

module _ {index : Index} {n : ℕ} {ws : List ℕ} {q word : ℕ} {pass : Pass} (given : Given index n ws q word pass)
    {back : ℕ} (from : back ≡ from_home (hash_of index ws) n index.size q word) where
  fits : Fits index n ws
  fits = given.0

  below : q < index.size
  below = given.1

  is : word ≡ at (places_of index ws) q
  is = given.2

  trail : Trail index.size (places_of index ws) q pass
  trail = given.4

  abbrev hash : ℕ → ℕ
  hash = hash_of index ws

  abbrev ix : List ℕ
  ix = places_of index ws

  abbrev again : List ℕ
  again = add_again hash n (set ix q 0) word

  len : length ix ≡ index.size
  len = places_length index ws fits.inside

  filled : 0 < at ix q
  filled = rw is at given.3

  from' : back ≡ from_home hash n index.size q (at ix q)
  from' = rw is at from

  pub run_fits : pass.run + 1 < index.size
  run_fits = run_below hash n len below filled trail

  pub known_after_fits : (w known : ℕ) → known ≡ known_after w back pass.run → known ≤ index.size + 1
  known_after_fits w known e = rw (e, from') (known_fits hash n len below filled trail w)

  pass_stays : back ≤ pass.run
      → (ws ≡ with_places index ws again)
      × Trail index.size ix (onward index.size q) (record { gap = pass.gap; run = pass.run + 1; known = min (pass.known + 1) index.size })
  pass_stays near =
      let put = stays hash n len below filled trail (rw from' at near) in
      (sym (same_places index ws) ∙ ap (with_places index ws) (sym (rw is put)), stays_trail hash n len below filled trail)

  pass_fills : pass.run < back → back ≤ pass.known → {ws₁ : List ℕ} → ws₁ ≡ with_places index ws (set (set ix q 0) pass.gap word)
      → (ws₁ ≡ with_places index ws again)
      × Trail index.size (places_of index ws₁) (onward index.size q) (record { gap = q; run = 0; known = min (pass.known + 1) index.size })
  pass_fills far near stored =
      let put = fills hash n len below filled trail (rw from' at far) (rw from' at near) in
      let there = then_places (set (set ix q 0) pass.gap word) fits (simp length-set len) stored in (
        stored ∙ ap (with_places index ws) (sym (rw is put)),
        rw (there, is) (fills_trail hash n len below filled trail),
      )

  -- The places that the code picks.
  pub picked_below : (to : ℕ) → to ≡ cond (leb back pass.run) q pass.gap → to < index.size
  picked_below to picked =
      rw picked (by_le back pass.run (λ near. rw (le-leb back pass.run near) below) (λ far. rw (lt-leb back pass.run far) trail.inside))

  pub pass_moves : back ≤ pass.known → {ws₁ : List ℕ} (to gap run : ℕ) → to ≡ cond (leb back pass.run) q pass.gap
      → ws₁ ≡ with_places index ws (set (set ix q 0) to word) → gap ≡ cond (leb back pass.run) pass.gap q
      → run ≡ cond (leb back pass.run) (pass.run + 1) 0 → (ws₁ ≡ with_places index ws again)
      × Trail index.size (places_of index ws₁) (onward index.size q) (record { gap = gap; run = run; known = min (pass.known + 1) index.size })
  pass_moves known {ws₁} to gap run picked stored gap_is run_is = by_le back pass.run
      (λ near.
      let test = le-leb back pass.run near in
      let here : to ≡ q = (rw test at picked) in
      let put_back : set (set ix q 0) to word ≡ ix = (rw (here, is) (set-set ix q 0 (at ix q) ∙ set-get_or ix q 0)) in
      let same : ws₁ ≡ ws = stored ∙ ap (with_places index ws) put_back ∙ same_places index ws in
      let turn = pass_stays near in
      (same ∙ turn.0, rw (same, gap_is, run_is, test) turn.1))
      (λ far.
      let test = lt-leb back pass.run far in
      let there : to ≡ pass.gap = (rw test at picked) in
      rw (gap_is, run_is, test) (pass_fills far known (rw there at stored)))

  pub pass_walks : pass.run < back → {ws₁ : List ℕ} → ws₁ ≡ with_places index ws again → (known : ℕ)
      → known ≡ known_after (at (places_of index ws₁) pass.gap) back pass.run
      → Trail index.size (places_of index ws₁) (onward index.size q) (record { gap = q; run = 0; known = known + 1 })
  pass_walks far after known e =
      let long : length again ≡ index.size = add_again_length hash n (set ix q 0) word ∙ simp length-set len in
      rw (e, then_places again fits long after, is, from') (walks_trail hash n len below filled trail (rw from' at far))
