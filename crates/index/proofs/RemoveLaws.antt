-- An index stays exact where an item leaves: its place is vacated, and the last item gets its number.
use Rattle.std.proofs.Common.{◌≡◌, ℕ, ◌+◌, ◌-◌, ◌%◌, ◌<◌, ◌≤◌, List, length, set, sym, refl, ap, ◌∙◌, arith, length-set, eq-eqb, ne_eqb}
use Rattle.arith.proofs.Cases.{by_eq, by_le}
use Rattle.index.specs.Walk.{at, onward, seek, rehome, vacate, renumber, remove}
use Rattle.index.specs.Exact.{copies, Before, OnWalk, Exact}
use Rattle.index.proofs.CycleLaws.{onward_follows, follows_below, reach_all_suc, reach_next, all_but_one}
use Rattle.index.proofs.CopyLaws.{copies_set, copies_stands, absent, at_stored, at_kept, used_kept, one, one_same, one_not}
use Rattle.index.proofs.RunLaws.{Rehomed, rehomed, pending_start}
use Rattle.index.proofs.ExactLaws.{used_below, empty_place, item_stands, Holds, place_found, place_none}

more_less : (i : ℕ) → i + 1 - 1 ≡ i
more_less i = omega arith

-- The index is exact for n items, but for item r, which stands nowhere.
pub record Without (hash : ℕ → ℕ) (n r size : ℕ) (ix : List ℕ) : Type 0 where
  pub len : length ix ≡ size
  pub room : n < size
  pub none : copies (r + 1) ix ≡ 0
  pub once : (i : ℕ) → i < n → (i ≡ r → ⊥) → copies (i + 1) ix ≡ 1
  pub others : (w : ℕ) → n < w → copies w ix ≡ 0
  pub empty : copies 0 ix + n ≡ size + 1
  pub on_walk : OnWalk hash size ix

vacate_without : {hash : ℕ → ℕ} {n : ℕ} {ix : List ℕ} (r : ℕ) → r < n → Exact hash n ix
    → Without hash n r (length ix) (vacate hash n ix (seek ix (hash r) (r + 1)))
unfolding vacate
vacate_without {hash} {n} {ix} r hr E =
    let z : ℕ = seek ix (hash r) (r + 1) in
    let size : ℕ = length ix in
    let place : Holds ix z (r + 1) = place_found hash ix r E.on_walk (item_stands E r hr) in
    let is : at ix z ≡ r + 1 = place.is in
    let zb : z < size = place.below in
    let e = empty_place E in
    let eb : e.place < size = e.below in
    let room : n < size = E.room in
    let other : e.place ≡ z → ⊥ = λ k. (let s : at ix e.place ≡ at ix z = ap (λ (j : ℕ). at ix j) k in omega (arith, e.is)) in
    let next = onward_follows size z zb in
    let T : (w : ℕ) → copies w (set ix z 0) + one (r + 1) w ≡ copies w ix + one 0 w = λ w. (rw is at (copies_set w ix z 0 zb)) in
    let R : Rehomed hash size (set ix z 0) (rehome hash n (set ix z 0) (onward size z) (size - 1)) =
    rehomed hash n size z e.place zb eb (set ix z 0) (onward size z) (size - 1) (simp length-set) (follows_below zb next)
    (at_kept ix z 0 e.place other ∙ e.is)
    (all_but_one e.place next eb other)
    (reach_next next eb other (reach_all_suc z e.place zb eb))
    (λ v l. omega (arith, T v, one_not 0 v (omega arith), E.others v l))
    (pending_start hash size ix z refl zb (omega arith) E.on_walk) in
    let used : at ix z ≡ 0 → ⊥ = omega arith in
    rw (ne_eqb (at ix z) 0 used) (record {
      len = R.len;
      room = room;
      none = omega (arith, R.same (r + 1), T (r + 1), one_same (r + 1) (r + 1) refl, one_not 0 (r + 1) (omega arith), E.once r hr);
      once = λ i l k. omega (arith, R.same (i + 1), T (i + 1), one_not (r + 1) (i + 1) (omega arith), one_not 0 (i + 1) (omega arith), E.once i l);
      others = λ w l. omega (arith, R.same w, T w, one_not (r + 1) w (omega arith), one_not 0 w (omega arith), E.others w l);
      empty = omega (arith, R.same 0, T 0, one_not (r + 1) 0 (omega arith), one_same 0 0 refl, E.empty);
      on_walk = R.on_walk;
    })

-- The last item gets the number of the one that left. The hashes after that are those of the items then.
module _ {hash : ℕ → ℕ} {n r : ℕ} {ix : List ℕ} (hr : r < n) (W : Without hash n r (length ix) ix) (hash' : ℕ → ℕ)
    (kept : (i : ℕ) → i < n - 1 → (i ≡ r → ⊥) → hash' i ≡ hash i) (came : r < n - 1 → hash' r ≡ hash (n - 1)) where
  -- A place in use that does not name the last item has the home that it had.
  same_home : (x : ℕ) → 0 < at ix x → (at ix x ≡ n → ⊥) → hash' (at ix x - 1) ≡ hash (at ix x - 1)
  same_home x u k =
      let b = used_below ix x u in
      let m : at ix x ≤ n = by_le (at ix x) n (λ l. l) (λ l. absurd (absent (at ix x) ix x b (W.others (at ix x) l) refl)) in
      kept (at ix x - 1) (omega arith) (λ j. absent (r + 1) ix x b W.none (omega arith))

  -- The item that left was the last.
  was_last : r ≡ n - 1 → Exact hash' (n - 1) ix
  was_last k =
      record {
        room = omega (arith, W.room);
        once = λ i l. W.once i (omega arith) (omega arith);
        others = λ w l. by_eq w n (λ j. rw j (none_last)) (λ j. W.others w (omega arith));
        empty = omega (arith, W.empty);
        on_walk = λ x y hx hy u b. W.on_walk x y hx hy u (rw (same_home x u (λ j. absent n ix x hx none_last j)) at b);
      }
    where
      none_last : copies n ix ≡ 0
      none_last = let e : r + 1 ≡ n = omega arith in (rw e at W.none)

  -- It was not, and the last item stands at place z.
  was_inner : (z : ℕ) → r < n - 1 → z < length ix → at ix z ≡ n → Exact hash' (n - 1) (set ix z (r + 1))
  was_inner z k zb is =
      let T : (w : ℕ) → copies w (set ix z (r + 1)) + one n w ≡ copies w ix + one (r + 1) w = λ w. (rw is at (copies_set w ix z (r + 1) zb)) in
      let last : copies n ix ≡ 1 = (let e : n - 1 + 1 ≡ n = omega arith in (rw e at (W.once (n - 1) (omega arith) (omega arith)))) in
      let gone : copies n (set ix z (r + 1)) ≡ 0 = omega (arith, T n, one_same n n refl, one_not (r + 1) n (omega arith)) in
      record {
        room = simp length-set (omega (arith, W.room));
        once = λ i l. by_eq i r
            (λ j. omega (arith, T (i + 1), one_not n (i + 1) (omega arith), one_same (r + 1) (i + 1) (omega arith), none_at i j))
            (λ j. omega (arith, T (i + 1), one_not n (i + 1) (omega arith), one_not (r + 1) (i + 1) (omega arith), W.once i (omega arith) j));
        others = λ w l. by_eq w n (λ j. rw j gone)
            (λ j. omega (arith, T w, one_not n w (omega arith), one_not (r + 1) w (omega arith), W.others w (omega arith)));
        empty = simp length-set (omega (arith, T 0, one_not n 0 (omega arith), one_not (r + 1) 0 (omega arith), W.empty));
        on_walk = simp length-set (λ x y hx hy u b. used_kept ix z (r + 1) y zb (omega arith) (by_eq x z
            (λ j.
            let s : at (set ix z (r + 1)) x ≡ r + 1 = rw j (at_stored ix z (r + 1) zb) in
            let b' : Before (hash (n - 1) % length ix) z y = (rw (s, more_less r, came k, j) at b) in
            W.on_walk z y zb hy (omega arith) (rw is b'))
            (λ j.
            let s : at (set ix z (r + 1)) x ≡ at ix x = at_kept ix z (r + 1) x j in
            let u' : 0 < at ix x = omega arith in
            let o : at ix x ≡ n → ⊥ = λ q. absent n (set ix z (r + 1)) x (simp length-set hx) gone (s ∙ q) in
            W.on_walk x y hx hy u' (rw (s, same_home x u' o) at b))));
      }
    where
      none_at : (i : ℕ) → i ≡ r → copies (i + 1) ix ≡ 0
      none_at i j = rw j W.none

  renumber_exact : Exact hash' (n - 1) (renumber ix (hash (n - 1)) (n - 1) r)
  unfolding renumber
  renumber_exact =
      let m : ℕ = n - 1 in
      let z : ℕ = seek ix (hash m) (m + 1) in
      let e : m + 1 ≡ n = omega arith in
      by_eq r m
      (λ k.
      let free : at ix z ≡ 0 = place_none ix (hash m) m (copies_stands 0 ix (omega (arith, W.empty, W.room))) (rw (← k) W.none) in
      rw (eq-eqb (at ix z) 0 free) (was_last k))
      (λ k.
      let stands = copies_stands (m + 1) ix (omega (arith, W.once m (omega arith) (λ j. k (sym j)))) in
      let place : Holds ix z (m + 1) = place_found hash ix m W.on_walk stands in
      let is : at ix z ≡ n = place.is ∙ e in
      let used : at ix z ≡ 0 → ⊥ = omega arith in
      rw (ne_eqb (at ix z) 0 used) (was_inner z (omega arith) place.below is))

-- Item r leaves. After that number r is the item that was last, and the others have the numbers that they had.
pub remove_exact : {hash : ℕ → ℕ} {n : ℕ} {ix : List ℕ} → Exact hash n ix → (r : ℕ) → r < n → (hash' : ℕ → ℕ)
    → ((i : ℕ) → i < n - 1 → (i ≡ r → ⊥) → hash' i ≡ hash i) → (r < n - 1 → hash' r ≡ hash (n - 1))
    → Exact hash' (n - 1) (remove hash n ix r)
unfolding remove
remove_exact {hash} {n} {ix} E r hr hash' kept came =
    let W = vacate_without r hr E in
    renumber_exact hr (rw W.len W) hash' kept came
