-- An index that is exact: a fresh one is, it stays so where an item is added, and each item has one place, at which its walk stops.
use Rattle.std.proofs.Common.{◌≡◌, ℕ, ◌+◌, ◌-◌, ◌%◌, ◌<◌, Bool, true, eqb, List, length, set, replicate, refl, arith, length-set, eq-eqb, eqb-true}
use lib.ListN.{length-replicate, get_or-eq_default}
use Rattle.arith.proofs.Cases.{by_eq, by_le}
use Rattle.index.specs.Walk.{at, walk, seek, add}
use Rattle.index.specs.Exact.{copies, Before, OnWalk, Exact}
use Rattle.index.proofs.CopyLaws.{copies_at, copies_set, Stands, copies_stands, absent, copies_fresh, copies_fresh_other}
use Rattle.index.proofs.CopyLaws.{at_stored, at_kept, used_kept, one, one_same, one_not}
use Rattle.index.proofs.WalkLaws.{StopsAt, walk_stops, empty_stops, passing_stops, stops_passing, is_empty, stops_empty, passed_used, stops_used}

more_less : (i : ℕ) → i + 1 - 1 ≡ i
more_less i = omega arith

-- A place past the last is not in use.
pub used_below : (ix : List ℕ) (x : ℕ) → 0 < at ix x → x < length ix
used_below ix x u = by_le (length ix) x (λ l. absurd (omega (arith, get_or-eq_default ix 0 l))) (λ l. l)

-- An index of zeros is exact for no items.
pub fresh_exact : (hash : ℕ → ℕ) (size : ℕ) → 0 < size → Exact hash 0 (replicate size 0)
fresh_exact hash size h =
    record {
      room = rw (length-replicate {A = ℕ} size 0) h;
      once = λ i l. absurd (omega arith);
      others = λ w l. copies_fresh_other w size l;
      empty = rw (length-replicate {A = ℕ} size 0) (omega (arith, copies_fresh size));
      on_walk = λ x y hx hy u b. absurd (let o = copies_at (at fresh x) fresh x hx refl in omega (arith, copies_fresh_other (at fresh x) size u));
    }
  where
    fresh : List ℕ
    fresh = replicate size 0

module _ {hash : ℕ → ℕ} {n : ℕ} {ix : List ℕ} (E : Exact hash n ix) where
  -- Every place in use names an item.
  pub names_item : (x : ℕ) → 0 < at ix x → at ix x - 1 < n
  names_item x u = by_le (at ix x) n (λ l. omega arith) (λ l. absurd (absent (at ix x) ix x (used_below ix x u) (E.others (at ix x) l) refl))

  -- Some place is empty, and every item stands somewhere.
  pub empty_place : Stands 0 ix
  empty_place = copies_stands 0 ix (omega (arith, E.room, E.empty))

  pub item_stands : (i : ℕ) → i < n → Stands (i + 1) ix
  item_stands i l = copies_stands (i + 1) ix (omega (arith, E.once i l))

  -- The index is exact for other hashes that are the same on the items.
  pub exact_hash : (hash' : ℕ → ℕ) → ((i : ℕ) → i < n → hash' i ≡ hash i) → Exact hash' n ix
  exact_hash hash' s =
      record {
        room = E.room;
        once = E.once;
        others = E.others;
        empty = E.empty;
        on_walk = λ x y hx hy u b. E.on_walk x y hx hy u (rw (s (at ix x - 1) (names_item x u)) at b);
      }

  -- The next item is added: the index is exact for one item more, if a place is left empty.
  pub add_exact : n + 1 < length ix → Exact hash (n + 1) (add ix (hash n) n)
  unfolding add seek
  add_exact room =
      let e = empty_place in
      let z : ℕ = walk ix is_empty (hash n) in
      let S : StopsAt ix is_empty (hash n % length ix) z = walk_stops ix is_empty (hash n) e.place e.below (empty_stops is_empty _ e.is) in
      let free : at ix z ≡ 0 = stops_empty _ S.here in
      let zb : z < length ix = S.below in
      let T : (w : ℕ) → copies w (set ix z (n + 1)) + one 0 w ≡ copies w ix + one (n + 1) w = λ w. (rw free at (copies_set w ix z (n + 1) zb)) in
      let m = E.empty in
      record {
        room = simp length-set room;
        once = λ i l. by_eq i n
            (λ k. omega (arith, T (i + 1), one_not 0 (i + 1) (omega arith), one_same (n + 1) (i + 1) (omega arith), E.others (i + 1) (omega arith)))
            (λ k. omega (arith, T (i + 1), one_not 0 (i + 1) (omega arith), one_not (n + 1) (i + 1) (omega arith), E.once i (omega arith)));
        others = λ w l. omega (arith, T w, one_not 0 w (omega arith), one_not (n + 1) w (omega arith), E.others w (omega arith));
        empty = simp length-set (omega (arith, T 0, one_same 0 0 refl, one_not (n + 1) 0 (omega arith)));
        on_walk = simp length-set (λ x y hx hy u b. by_eq x z
            (λ k.
            let s : at (set ix z (n + 1)) x ≡ n + 1 = rw k (at_stored ix z (n + 1) zb) in
            let b' : Before (hash n % length ix) z y = (rw (s, more_less n, k) at b) in
            used_kept ix z (n + 1) y zb (omega arith) (passed_used is_empty _ (S.passed y hy b')))
            (λ k.
            let s : at (set ix z (n + 1)) x ≡ at ix x = at_kept ix z (n + 1) x k in
            used_kept ix z (n + 1) y zb (omega arith) (E.on_walk x y hx hy (omega arith) (rw s at b))));
      }

-- A place holds a word.
pub record Holds (ix : List ℕ) (z w : ℕ) : Type 0 where
  pub below : z < length ix
  pub is : at ix z ≡ w

-- An item that stands somewhere, on its walk, is found by its walk. One that stands nowhere is not.
pub place_found : (hash : ℕ → ℕ) (ix : List ℕ) (i : ℕ) → OnWalk hash (length ix) ix → Stands (i + 1) ix → Holds ix (seek ix (hash i) (i + 1)) (i + 1)
unfolding seek
place_found hash ix i W s =
    let test : ℕ → Bool = λ w. eqb w (i + 1) in
    let x : ℕ = s.place in
    let passes : test (at ix x) ≡ true = eq-eqb _ _ s.is in
    let u : 0 < at ix x = omega (arith, s.is) in
    let item : at ix x - 1 ≡ i = omega (arith, s.is) in
    let S = walk_stops ix test (hash i) x s.below (passing_stops test (at ix x) passes) in
    let v = stops_used S x s.below u passes (λ y hy b. W x y s.below hy u (rw item b)) in
    record { below = S.below; is = eqb-true _ _ (stops_passing test _ S.here v) }

pub place_none : (ix : List ℕ) (h i : ℕ) → Stands 0 ix → copies (i + 1) ix ≡ 0 → at ix (seek ix h (i + 1)) ≡ 0
unfolding seek
place_none ix h i s none =
    let test : ℕ → Bool = λ w. eqb w (i + 1) in
    let S = walk_stops ix test h s.place s.below (empty_stops test _ s.is) in
    by_eq (at ix (walk ix test h)) 0 (λ k. k)
    (λ k. absurd (absent (i + 1) ix (walk ix test h) S.below none (eqb-true _ _ (stops_passing test _ S.here (omega arith)))))
