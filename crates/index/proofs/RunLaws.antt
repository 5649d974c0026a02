-- A place is emptied, and the pass over the places after it adds their items again: then every place in use is on its walk, and every word that was left
-- stands as often as before.
use Rattle.std.proofs.Common.{◌≡◌, ℕ, zero, suc, ◌+◌, ◌-◌, ◌%◌, ◌<◌, ◌≤◌, ◌⊎◌, List, length, set, refl, ap, ◌∙◌, inl, inr, ⊎_elim, arith, length-set, ne_eqb}
use Rattle.std.proofs.Common.{le-leb}
use Rattle.arith.proofs.Cases.{by_le, by_eq}
use Rattle.index.specs.Walk.{at, onward, walk, seek, add, add_again, rehome}
use Rattle.index.specs.Exact.{copies, Before, mid, high, OnWalk}
use Rattle.index.proofs.CycleLaws.{Follows, on, back, onward_follows, follows_below, which_first, before_from_next, passes_arc_end, in_one_arc}
use Rattle.index.proofs.CycleLaws.{not_in_both_arcs}
use Rattle.index.proofs.CycleLaws.{not_before_itself, arc_gains_its_end, arc_grows, passes_other_arc, Reach, reach_none, reach_next, all_but_one}
use Rattle.index.proofs.CopyLaws.{copies_at, copies_moved, at_stored, at_kept, used_kept}
use Rattle.index.proofs.WalkLaws.{StopsAt, walk_stops, empty_stops, is_empty, stops_empty, passed_used}
use Rattle.index.proofs.StepLaws.{rehome_empty}

pub less_more : (w : ℕ) → 0 < w → w - 1 + 1 ≡ w
less_more w h = omega arith

module _ (hash : ℕ → ℕ) (size : ℕ) where
  -- Place p was emptied, and the pass is at place q. Only the arc from p to q may have gaps in walks, and only in walks to the arc from q to p.
  abbrev pub Pending : ℕ → ℕ → List ℕ → Type 0
  Pending p q ix = (x y : ℕ) → x < size → y < size → 0 < at ix x → Before (hash (at ix x - 1) % size) x y
      → (0 < at ix y) ⊎ (Before p q y × Before q p x)

  -- One turn of the pass. Place e is empty and lies ahead; the word at q goes to place z, the first empty one on the walk of its item.
  module _ (ix : List ℕ) (p q e z : ℕ) (len : length ix ≡ size) (hp : p < size) (hq : q < size) (he : e < size)
      (used : 0 < at ix q) (free : at ix e ≡ 0) (ahead : Before q p e) (P : Pending p q ix)
      (S : StopsAt (set ix q 0) is_empty (hash (at ix q - 1) % size) z) where
    e_not_q : e ≡ q → ⊥
    e_not_q k = let s : at ix e ≡ at ix q = ap (λ (j : ℕ). at ix j) k in omega arith

    -- What lies ahead of q and is not q lies ahead of the place after q.
    further : (x : ℕ) → x < size → (x ≡ q → ⊥) → Before q p x → Before (onward size q) p x
    further x hx n b = ⊎_elim (λ (k : x ≡ q). absurd (n k)) (λ c. c) (before_from_next (onward_follows size q hq) hx hp b)

    ahead_next : Before (onward size q) p e
    ahead_next = further e he e_not_q ahead

    gap : at (set ix q 0) q ≡ 0
    gap = at_stored ix q 0 (rw len hq)

    e_not_passed : {a : ℕ} → Before a q e → ((0 < at ix e) ⊎ (Before p q e × Before q p q)) → ⊥
    e_not_passed b (inl u) = omega arith
    e_not_passed b (inr c) = not_in_both_arcs c.0 ahead

    -- The word at q does not go to e: q, which is empty now, comes first on its walk.
    e_not_z : e ≡ z → ⊥
    e_not_z k =
        ⊎_elim (λ b. e_not_passed b (P q e hq he used b))
        (⊎_elim e_not_q (λ b. let u = passed_used is_empty (at (set ix q 0) q) (S.passed q (simp length-set (rw len hq)) (rw k at b)) in omega (arith, gap)))
        (which_first (hash (at ix q - 1) % size) q e)

    abbrev turned : List ℕ
    turned = set (set ix q 0) z (at ix q)

    still_free : at turned e ≡ 0
    still_free = at_kept (set ix q 0) z (at ix q) e e_not_z ∙ at_kept ix q 0 e e_not_q ∙ free

    still_used : (y : ℕ) → 0 < at (set ix q 0) y → 0 < at turned y
    still_used y u = used_kept (set ix q 0) z (at ix q) y S.below used u

    -- A walk to x that goes past q: x lies ahead, for else the walk would go past e too.
    past_q : (x : ℕ) → x < size → (x ≡ q → ⊥) → 0 < at ix x → Before (hash (at ix x - 1) % size) x q → Before (onward size q) p x
    past_q x hx n u b =
        ⊎_elim
        (λ (c : Before p q x). absurd (past_e (P x e hx he u (passes_other_arc b c ahead))))
        (further x hx n)
        (in_one_arc ahead x)
      where
        past_e : ((0 < at ix e) ⊎ (Before p q e × Before q p x)) → ⊥
        past_e (inl u) = omega arith
        past_e (inr c) = not_in_both_arcs c.0 ahead

    pending_turned : Pending p (onward size q) turned
    pending_turned x y hx hy u b = by_eq x z
        (λ k.
        let s : at turned x ≡ at ix q = rw k (at_stored (set ix q 0) z (at ix q) S.below) in
        let b' : Before (hash (at ix q - 1) % size) z y = (rw (s, k) at b) in
        inl (still_used y (passed_used is_empty _ (S.passed y (simp length-set (rw len hy)) b'))))
        (λ k. by_eq x q
        (λ j.
        let s : at turned x ≡ 0 = at_kept (set ix q 0) z (at ix q) x k ∙ (rw j gap) in
        absurd (omega arith))
        (λ j.
        let s : at turned x ≡ at ix x = at_kept (set ix q 0) z (at ix q) x k ∙ at_kept ix q 0 x j in
        let u' : 0 < at ix x = omega arith in
        let b' : Before (hash (at ix x - 1) % size) x y = (rw s at b) in
        ⊎_elim
        (λ (v : 0 < at ix y). by_eq y q
        (λ m. inr (rw m (arc_gains_its_end (onward_follows size q hq) hp ahead_next), past_q x hx j u' (rw m at b')))
        (λ m. inl (still_used y (rw (at_kept ix q 0 y m) v))))
        (λ (c : Before p q y × Before q p x). inr (arc_grows (onward_follows size q hq) ahead_next hp hy c.0, further x hx j c.1))
        (P x y hx hy u' b')))

-- The pass is at an empty place: no walk has a gap.
pending_done : (hash : ℕ → ℕ) (size : ℕ) (ix : List ℕ) (p q : ℕ) → q < size → at ix q ≡ 0 → Pending hash size p q ix → OnWalk hash size ix
pending_done hash size ix p q hq free P x y hx hy u b =
    ⊎_elim (λ (v : 0 < at ix y). v)
    (λ (c : Before p q y × Before q p x).
    absurd (⊎_elim (λ (v : 0 < at ix q). omega arith) (λ (d : Before p q q × Before q p x). not_before_itself d.0)
    (P x q hx hq u (passes_arc_end b c.0 c.1 (λ k. let s : at ix x ≡ at ix q = ap (λ (j : ℕ). at ix j) k in omega arith)))))
    (P x y hx hy u b)

-- A place has just been emptied: walks to the others may have a gap there.
pub pending_start : (hash : ℕ → ℕ) (size : ℕ) (ix : List ℕ) (p : ℕ) → length ix ≡ size → p < size → 1 < size → OnWalk hash size ix
    → Pending hash size p (onward size p) (set ix p 0)
pending_start hash size ix p len hp two W x y hx hy u b =
    by_eq x p
    (λ k. let s : at (set ix p 0) x ≡ 0 = rw k (at_stored ix p 0 (rw len hp)) in absurd (omega arith))
    (λ k.
    let s = at_kept ix p 0 x k in
    let u' : 0 < at ix x = omega arith in
    let v : 0 < at ix y = W x y hx hy u' (rw s at b) in
    by_eq y p
    (λ j. inr (rw j (emptied (onward_follows size p hp)), all_but_one x (onward_follows size p hp) hx k))
    (λ j. inl (rw (at_kept ix p 0 y j) v)))
  where
    emptied : {r : ℕ} → Follows size p r → Before p r p
    emptied (on c d) = mid (omega arith) (omega arith)
    emptied (back c d) = high (omega arith) (omega arith)

-- What the pass leaves.
pub record Rehomed (hash : ℕ → ℕ) (size : ℕ) (ix ix' : List ℕ) : Type 0 where
  pub len : length ix' ≡ size
  pub same : (v : ℕ) → copies v ix' ≡ copies v ix
  pub on_walk : OnWalk hash size ix'

module _ (hash : ℕ → ℕ) (n size : ℕ) (p e : ℕ) (hp : p < size) (he : e < size) where
  abbrev target : List ℕ → ℕ → ℕ
  target ix q = walk (set ix q 0) is_empty (hash (at ix q - 1))

  rehome_turn : (ix : List ℕ) (q left : ℕ) → length ix ≡ size → 0 < at ix q → at ix q ≤ n
      → rehome hash n ix q (suc left) ≡ rehome hash n (set (set ix q 0) (target ix q) (at ix q)) (onward size q) left
  unfolding rehome add_again add seek
  rehome_turn ix q left len u le = rw (ne_eqb (at ix q) 0 (omega arith), le-leb (at ix q) n le, less_more (at ix q) u, len)

  -- The pass meets e before its places are used up.
  pub rehomed : (ix : List ℕ) (q left : ℕ) → length ix ≡ size → q < size → at ix e ≡ 0 → Before q p e → Reach size q e left
      → ((v : ℕ) → n < v → copies v ix ≡ 0) → Pending hash size p q ix → Rehomed hash size ix (rehome hash n ix q left)
  rehomed ix q zero len hq free ahead r others P = absurd (reach_none hq r)
  rehomed ix q (suc left) len hq free ahead r others P = by_eq (at ix q) 0
      (λ k. rw (rehome_empty hash n ix q (suc left) (omega arith) k) (record { len = len; same = λ v. refl; on_walk = pending_done hash size ix p q hq k P }))
      (λ k.
      let u : 0 < at ix q = omega arith in
      let item : at ix q ≤ n =
      by_le (at ix q) n (λ l. l) (λ l. let o = copies_at (at ix q) ix q (rw len hq) refl in absurd (omega (arith, others (at ix q) l))) in
      let z : ℕ = target ix q in
      let len' : length (set ix q 0) ≡ size = simp length-set len in
      let gap : at (set ix q 0) q ≡ 0 = at_stored ix q 0 (rw len hq) in
      let S : StopsAt (set ix q 0) is_empty (hash (at ix q - 1) % size) z =
      rw len' at (walk_stops (set ix q 0) is_empty (hash (at ix q - 1)) q (rw len' hq) (empty_stops is_empty (at (set ix q 0) q) gap)) in
      let moved : (v : ℕ) → copies v (set (set ix q 0) z (at ix q)) ≡ copies v ix =
      (λ v. copies_moved v ix q z (rw len hq) (simp length-set at S.below) (stops_empty _ S.here)) in
      let rest = rehomed (set (set ix q 0) z (at ix q)) (onward size q) left (simp length-set len) (follows_below hq (onward_follows size q hq))
      (still_free hash size ix p q e z len hp hq he u free ahead P S)
      (ahead_next hash size ix p q e z len hp hq he u free ahead P S)
      (reach_next (onward_follows size q hq) he (e_not_q hash size ix p q e z len hp hq he u free ahead P S) r)
      (λ v l. moved v ∙ others v l)
      (pending_turned hash size ix p q e z len hp hq he u free ahead P S) in
      rw (rehome_turn ix q left len u item) (record { len = rest.len; same = λ v. rest.same v ∙ moved v; on_walk = rest.on_walk }))
