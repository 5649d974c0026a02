-- What each definition makes of one place. Those that count the places left have a law for each turn of the loop that computes them.
-- The worked examples are checked before these laws, which quote the definitions: a definition that says something else is refused there first.
use Rattle.std.proofs.Common.{◌≡◌, ℕ, zero, suc, ◌+◌, ◌-◌, ◌%◌, ◌^◌, ◌<◌, ◌≤◌, Bool, true, false, eqb, List, length, set, sym, refl, ◌∙◌, arith, length-set}
use Rattle.std.proofs.Common.{Option, Some, None}
use Rattle.std.proofs.Common.{le-ltb, lt-ltb, eq-eqb, ne_eqb, le-leb}
use lib.ListN.{get_or-eq_default}
use lib.Seq.{set_out}
use borrow.Author.Tests.{lt-leb}
use Rattle.arith.proofs.Cases.{by_test, by_eq, by_le}
use Rattle.index.specs.declared.Probed.{Probed}
use Rattle.index.specs.declared.Probed.TheVariants.{Hit, Empty, Other}
use Rattle.index.specs.Walk.{at, onward, walk_from, walk, hits, find_from, find, probed, seek, add, add_again, rehome, vacate, renumber, remove}
use Rattle.index.proofs.CycleLaws.{onward_follows, follows_below}

-- The place one step on, by the test of the code.
pub onward_on : (size q : ℕ) → q + 1 < size → q + 1 ≡ onward size q
unfolding onward
onward_on size q h = rw (lt-ltb _ _ h)

pub onward_back : (size q : ℕ) → size ≤ q + 1 → 0 ≡ onward size q
unfolding onward
onward_back size q h = rw (le-ltb _ _ h)

pub onward_below : (size q : ℕ) → q < size → onward size q < size
onward_below size q h = follows_below h (onward_follows size q h)

-- A number above 0 as a successor.
some : (left : ℕ) → 0 < left → left ≡ suc (left - 1)
some left h = omega arith

suc_less : (n : ℕ) → suc n - 1 ≡ n
suc_less n = omega arith

-- A walk at place q: it stops at an empty place or at a word that passes, else it goes on, until no place is left.
module _ (ix : List ℕ) (test : ℕ → Bool) (q left : ℕ) where
  pub walk_empty : 0 < left → at ix q ≡ 0 → walk_from ix test q left ≡ q
  unfolding walk_from
  walk_empty h e = rw (some left h, eq-eqb _ _ e)

  pub walk_passing : 0 < left → (at ix q ≡ 0 → ⊥) → test (at ix q) ≡ true → walk_from ix test q left ≡ q
  unfolding walk_from
  walk_passing h n e = rw (some left h, ne_eqb _ _ n, e)

  pub walk_on : 0 < left → (at ix q ≡ 0 → ⊥) → test (at ix q) ≡ false → walk_from ix test q left ≡ walk_from ix test (onward (length ix) q) (left - 1)
  unfolding walk_from
  walk_on h n e = rw (some left h, ne_eqb _ _ n, e, suc_less)

  pub walk_over : left ≤ 0 → walk_from ix test q left ≡ length ix
  unfolding walk_from
  walk_over h = let e : left ≡ 0 = omega arith in rw e

pub seek_start : (ix : List ℕ) (h w : ℕ) → walk_from ix (λ v. eqb v w) (h % length ix) (length ix) ≡ seek ix h w
unfolding seek walk
seek_start ix h w = refl

-- Past the last place 0 is read.
pub at_past : (ix : List ℕ) (z : ℕ) → length ix ≤ z → at ix z ≡ 0
at_past ix z l = get_or-eq_default ix 0 l

-- An item is added at the place z that its walk gives. Past the last place nothing is stored.
pub add_in : (ix : List ℕ) (h i z : ℕ) → z ≡ seek ix h 0 → set ix z (i + 1) ≡ add ix h i
unfolding add
add_in ix h i z e = rw e

pub add_past : (ix : List ℕ) (h i z : ℕ) → z ≡ seek ix h 0 → length ix ≤ z → ix ≡ add ix h i
unfolding add
add_past ix h i z e l = sym (rw (← e) (set_out ix z (i + 1) l))

-- An item is renumbered at the place z that its walk gives, if the place is in use.
pub renumber_in : (ix : List ℕ) (h m r z : ℕ) → z ≡ seek ix h (m + 1) → (at ix z ≡ 0 → ⊥) → set ix z (r + 1) ≡ renumber ix h m r
unfolding renumber
renumber_in ix h m r z e n = rw (← e, ne_eqb (at ix z) 0 n)

pub renumber_none : (ix : List ℕ) (h m r z : ℕ) → z ≡ seek ix h (m + 1) → at ix z ≡ 0 → ix ≡ renumber ix h m r
unfolding renumber
renumber_none ix h m r z e n = rw (← e, eq-eqb (at ix z) 0 n)

pub renumber_past : (ix : List ℕ) (h m r z : ℕ) → z ≡ seek ix h (m + 1) → length ix ≤ z → ix ≡ renumber ix h m r
renumber_past ix h m r z e l = renumber_none ix h m r z e (at_past ix z l)

-- One look of a lookup, by the tests of the code.
module _ (n : ℕ) (test : ℕ → Bool) (word : ℕ) where
  probed_named : (i : ℕ) (b : Bool) → word ≡ i + 1 → i < n → test i ≡ b → hits n test word ≡ b
  probed_named i b e l t = let item : word - 1 ≡ i = omega arith in rw (le-leb word n (omega arith), item) t

  pub probed_hit : (i : ℕ) → word ≡ i + 1 → i < n → test i ≡ true → Hit i ≡ probed n test word
  unfolding probed
  probed_hit i e l t = let item : word - 1 ≡ i = omega arith in rw (ne_eqb word 0 (omega arith), probed_named i true e l t, item)

  pub probed_miss : (i : ℕ) → word ≡ i + 1 → i < n → test i ≡ false → Other ≡ probed n test word
  unfolding probed
  probed_miss i e l t = rw (ne_eqb word 0 (omega arith), probed_named i false e l t)

  pub probed_empty : word ≡ 0 → Empty ≡ probed n test word
  unfolding probed
  probed_empty e = rw (eq-eqb word 0 e)

  pub probed_no_item : n < word → Other ≡ probed n test word
  unfolding probed
  probed_no_item l = rw (ne_eqb word 0 (omega arith), lt-leb word n l)

-- A word less 1, with 0 wrapped round: below a count it is the item that the word names, and else the word names no item.
pub less_one_names : (word item n : ℕ) → (item + 1) % 2 ^ 64 ≡ word → item < n → n < 2 ^ 64 → word ≡ item + 1
less_one_names word item n e l f = omega arith

pub less_one_over : (word item n : ℕ) → (item + 1) % 2 ^ 64 ≡ word → item < 2 ^ 64 → n ≤ item → (word ≡ 0 → ⊥) → n < word
less_one_over word item n e f l k = omega arith

-- The same of that item as the code works it out.
abbrev less_one : ℕ → ℕ
less_one word = (word + 18446744073709551615) % 2 ^ 64

pub worked_out_names : (word n : ℕ) → word < 2 ^ 64 → less_one word < n → n < 2 ^ 64 → word ≡ less_one word + 1
worked_out_names word n w l f = less_one_names word (less_one word) n (omega arith) l f

pub worked_out_over : (word n : ℕ) → word < 2 ^ 64 → n ≤ less_one word → (word ≡ 0 → ⊥) → n < word
worked_out_over word n w l k = less_one_over word (less_one word) n (omega arith) (omega arith) l k

-- What a lookup gives after one look, where the rest of its walk gives a place.
abbrev pub after_look : Probed → Option ℕ → Option ℕ
after_look (Hit i) rest = Some i
after_look Empty rest = None
after_look Other rest = rest

-- A lookup at place q, by what it makes of the word there, and where no place is left.
module _ (n : ℕ) (test : ℕ → Bool) (ix : List ℕ) (q left : ℕ) where
  find_look : (size : ℕ) → length ix ≡ size → 0 < left
      → find_from n test ix q left ≡ after_look (probed n test (at ix q)) (find_from n test ix (onward size q) (left - 1))
  unfolding find_from probed
  find_look size len h = by_eq (at ix q) 0
      (λ e. rw (walk_empty ix (hits n test) q left h e, eq-eqb (at ix q) 0 e))
      (λ k. by_test (hits n test (at ix q))
      (λ t. rw (walk_passing ix (hits n test) q left h k t, ne_eqb (at ix q) 0 k, t))
      (λ t. rw (walk_on ix (hits n test) q left h k t, ne_eqb (at ix q) 0 k, t, len)))

  -- The look at place q gave p, and p is one of the three.
  pub find_turn : {p p' : Probed} (size : ℕ) → length ix ≡ size → 0 < left → p ≡ probed n test (at ix q) → p ≡ p'
      → after_look p' (find_from n test ix (onward size q) (left - 1)) ≡ find_from n test ix q left
  find_turn size len h e which = rw (← which, e) (sym (find_look size len h))

  pub find_over : left ≤ 0 → None ≡ find_from n test ix q left
  unfolding find_from
  find_over h = rw (walk_over ix (hits n test) q left h, at_past ix (length ix) (omega arith))

-- The same at the home q of a hash, with all places left.
pub find_home : (n : ℕ) (test : ℕ → Bool) (ix : List ℕ) (h : ℕ) {p p' : Probed} (size q : ℕ) → length ix ≡ size → 0 < size → q ≡ h % size
    → p ≡ probed n test (at ix q) → p ≡ p' → after_look p' (find_from n test ix (onward size q) (size - 1)) ≡ find n test ix h
unfolding find
find_home n test ix h size q len room home e which = rw (len, ← home) (find_turn n test ix q size size len room e which)

-- Among no items nothing is found, whatever the words are.
find_from_none : (test : ℕ → Bool) (ix : List ℕ) (q left : ℕ) → find_from 0 test ix q left ≡ None
find_from_none test ix q zero = sym (find_over 0 test ix q 0 (omega arith))
find_from_none test ix q (suc left) =
    let look = find_look 0 test ix q (suc left) (length ix) refl (omega arith) in
    by_eq (at ix q) 0
    (λ e. rw (look, ← probed_empty 0 test (at ix q) e))
    (λ k. rw (look, ← probed_no_item 0 test (at ix q) (omega arith), suc_less left) (find_from_none test ix (onward (length ix) q) left))

pub find_among_none : (test : ℕ → Bool) (ix : List ℕ) (h : ℕ) → find 0 test ix h ≡ None
unfolding find
find_among_none test ix h = find_from_none test ix (h % length ix) (length ix)

-- A word that names an item is added again, and one that names none is not.
pub add_again_named : (hash : ℕ → ℕ) (n : ℕ) (ix : List ℕ) (v : ℕ) → v ≤ n → add_again hash n ix v ≡ add ix (hash (v - 1)) (v - 1)
unfolding add_again
add_again_named hash n ix v l = rw (le-leb v n l)

pub add_again_nothing : (hash : ℕ → ℕ) (n : ℕ) (ix : List ℕ) (v : ℕ) → n < v → add_again hash n ix v ≡ ix
unfolding add_again
add_again_nothing hash n ix v l = rw (lt-leb v n l)

-- The pass at place q: it ends at an empty place, goes on after a place in use, and ends where no place is left.
module _ (hash : ℕ → ℕ) (n : ℕ) (ix : List ℕ) (q left : ℕ) where
  pub rehome_empty : 0 < left → at ix q ≡ 0 → rehome hash n ix q left ≡ ix
  unfolding rehome
  rehome_empty h e = rw (some left h, eq-eqb _ _ e)

  pub rehome_over : left ≤ 0 → rehome hash n ix q left ≡ ix
  unfolding rehome
  rehome_over h = let e : left ≡ 0 = omega arith in rw e

  pub rehome_on : (size : ℕ) → length ix ≡ size → 0 < left → (at ix q ≡ 0 → ⊥)
      → rehome hash n ix q left ≡ rehome hash n (add_again hash n (set ix q 0) (at ix q)) (onward size q) (left - 1)
  unfolding rehome
  rehome_on size len h k = rw (some left h, ne_eqb _ _ k, suc_less, len)

-- A place is vacated if it is in use.
module _ (hash : ℕ → ℕ) (n : ℕ) (ix : List ℕ) (z : ℕ) where
  pub vacate_none : at ix z ≡ 0 → ix ≡ vacate hash n ix z
  unfolding vacate
  vacate_none e = rw (eq-eqb (at ix z) 0 e)

  pub vacate_used : (size : ℕ) → length ix ≡ size → (at ix z ≡ 0 → ⊥) → rehome hash n (set ix z 0) (onward size z) (size - 1) ≡ vacate hash n ix z
  unfolding vacate
  vacate_used size len k = rw (ne_eqb (at ix z) 0 k, len)

-- Removal, once the place z of the item is known.
pub remove_by : (hash : ℕ → ℕ) (n : ℕ) (ix : List ℕ) (r z : ℕ) → z ≡ seek ix (hash r) (r + 1)
    → renumber (vacate hash n ix z) (hash (n - 1)) (n - 1) r ≡ remove hash n ix r
unfolding remove
remove_by hash n ix r z e = rw e

-- No operation changes the number of places.
pub add_length : (ix : List ℕ) (h i : ℕ) → length (add ix h i) ≡ length ix
unfolding add
add_length ix h i = simp length-set

pub add_again_length : (hash : ℕ → ℕ) (n : ℕ) (ix : List ℕ) (v : ℕ) → length (add_again hash n ix v) ≡ length ix
add_again_length hash n ix v = by_le v n
    (λ l. rw (add_again_named hash n ix v l) (add_length ix (hash (v - 1)) (v - 1)))
    (λ l. rw (add_again_nothing hash n ix v l))

pub rehome_length : (hash : ℕ → ℕ) (n : ℕ) (ix : List ℕ) (q left : ℕ) → length (rehome hash n ix q left) ≡ length ix
rehome_length hash n ix q zero = rw (rehome_over hash n ix q 0 (omega arith))
rehome_length hash n ix q (suc left) = by_eq (at ix q) 0
    (λ e. rw (rehome_empty hash n ix q (suc left) (omega arith) e))
    (λ k.
    let turned : List ℕ = add_again hash n (set ix q 0) (at ix q) in
    rw (rehome_on hash n ix q (suc left) (length ix) refl (omega arith) k, suc_less left)
    (rehome_length hash n turned (onward (length ix) q) left ∙ add_again_length hash n (set ix q 0) (at ix q) ∙ simp length-set))

pub vacate_length : (hash : ℕ → ℕ) (n : ℕ) (ix : List ℕ) (z : ℕ) → length (vacate hash n ix z) ≡ length ix
vacate_length hash n ix z = by_eq (at ix z) 0
    (λ e. rw (← vacate_none hash n ix z e))
    (λ k. rw (← vacate_used hash n ix z (length ix) refl k) (rehome_length hash n (set ix z 0) (onward (length ix) z) (length ix - 1) ∙ simp length-set))

pub remove_length : (hash : ℕ → ℕ) (n : ℕ) (ix : List ℕ) (r : ℕ) → length (remove hash n ix r) ≡ length ix
unfolding remove
remove_length hash n ix r =
    renumber_length (vacate hash n ix (seek ix (hash r) (r + 1))) ∙ vacate_length hash n ix (seek ix (hash r) (r + 1))
  where
    renumber_length : (iy : List ℕ) → length (renumber iy (hash (n - 1)) (n - 1) r) ≡ length iy
    renumber_length iy = by_eq (at iy (seek iy (hash (n - 1)) (n - 1 + 1))) 0
        (λ e. rw (← renumber_none iy (hash (n - 1)) (n - 1) r _ refl e))
        (λ k. rw (← renumber_in iy (hash (n - 1)) (n - 1) r _ refl k) (simp length-set))

-- Removal asks for no hash but those of the items: hashes that are the same on them give the same.
module _ (hash hash' : ℕ → ℕ) (n : ℕ) (same : (i : ℕ) → i < n → hash i ≡ hash' i) where
  pub add_again_agrees : (ix : List ℕ) (v : ℕ) → 0 < v → add_again hash n ix v ≡ add_again hash' n ix v
  add_again_agrees ix v u = by_le v n
      (λ l. rw (add_again_named hash n ix v l, add_again_named hash' n ix v l, same (v - 1) (omega arith)))
      (λ l. rw (add_again_nothing hash n ix v l, add_again_nothing hash' n ix v l))

  pub rehome_agrees : (ix : List ℕ) (q left : ℕ) → rehome hash n ix q left ≡ rehome hash' n ix q left
  rehome_agrees ix q zero = rehome_over hash n ix q 0 (omega arith) ∙ sym (rehome_over hash' n ix q 0 (omega arith))
  rehome_agrees ix q (suc left) = by_eq (at ix q) 0
      (λ e. rehome_empty hash n ix q (suc left) (omega arith) e ∙ sym (rehome_empty hash' n ix q (suc left) (omega arith) e))
      (λ k. rw (
        rehome_on hash n ix q (suc left) (length ix) refl (omega arith) k,
        rehome_on hash' n ix q (suc left) (length ix) refl (omega arith) k,
        suc_less left,
        add_again_agrees (set ix q 0) (at ix q) (omega arith),
      )
      (rehome_agrees (add_again hash' n (set ix q 0) (at ix q)) (onward (length ix) q) left))

  vacate_agrees : (ix : List ℕ) (z : ℕ) → vacate hash n ix z ≡ vacate hash' n ix z
  vacate_agrees ix z = by_eq (at ix z) 0
      (λ e. sym (vacate_none hash n ix z e) ∙ vacate_none hash' n ix z e)
      (λ k.
      let size = length ix in
      let pass = rehome_agrees (set ix z 0) (onward size z) (size - 1) in
      sym (vacate_used hash n ix z size refl k) ∙ pass ∙ vacate_used hash' n ix z size refl k)

  pub remove_agrees : (ix : List ℕ) (r : ℕ) → r < n → remove hash n ix r ≡ remove hash' n ix r
  unfolding remove
  remove_agrees ix r h = rw (same r h, same (n - 1) (omega arith), vacate_agrees ix (seek ix (hash' r) (r + 1)))

-- Lookup asks only of items whether they pass: tests that are the same on them give the same.
module _ (n : ℕ) (test test' : ℕ → Bool) (same : (i : ℕ) → i < n → test i ≡ test' i) where
  hits_agrees : (w : ℕ) → 0 < w → hits n test w ≡ hits n test' w
  hits_agrees w u = by_le w n (λ l. rw (le-leb w n l, same (w - 1) (omega arith))) (λ l. rw (lt-leb w n l))

  probed_agrees : (w : ℕ) → probed n test w ≡ probed n test' w
  unfolding probed
  probed_agrees w = by_eq w 0 (λ e. rw (eq-eqb w 0 e)) (λ k. rw (ne_eqb w 0 k, hits_agrees w (omega arith)))

  find_from_agrees : (ix : List ℕ) (q left : ℕ) → find_from n test ix q left ≡ find_from n test' ix q left
  find_from_agrees ix q zero = sym (find_over n test ix q 0 (omega arith)) ∙ find_over n test' ix q 0 (omega arith)
  find_from_agrees ix q (suc left) =
      let size = length ix in
      let rest = find_from_agrees ix (onward size q) left in
      rw (
        find_look n test ix q (suc left) size refl (omega arith),
        find_look n test' ix q (suc left) size refl (omega arith),
        probed_agrees (at ix q),
        suc_less left,
        rest,
      )

  pub find_agrees : (ix : List ℕ) (h : ℕ) → find n test ix h ≡ find n test' ix h
  unfolding find
  find_agrees ix h = find_from_agrees ix (h % length ix) (length ix)
