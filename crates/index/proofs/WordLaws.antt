-- What the words of an index are below. An item's number, plus 1, is at most the count, and every other word of a step stood there before: so a bound that is
-- over all words and over the count stays over all words. On any words.
use Rattle.std.proofs.Common.{◌≡◌, ℕ, zero, suc, ◌+◌, ◌-◌, ◌<◌, List, length, set, refl, arith}
use lib.Seq.{set_out}
use Rattle.arith.proofs.Cases.{by_eq, by_le}
use Rattle.index.specs.Walk.{at, onward, seek, add, add_again, rehome, vacate, renumber, remove}
use Rattle.index.proofs.CopyLaws.{at_stored, at_kept}
use Rattle.index.proofs.StepLaws.{add_again_named, add_again_nothing, rehome_empty, rehome_over, rehome_on, vacate_none, vacate_used, renumber_in}
use Rattle.index.proofs.StepLaws.{renumber_none}

-- Every word is below a bound.
abbrev pub Below : ℕ → List ℕ → Type 0
Below bound ix = (q : ℕ) → at ix q < bound

stored_below : (bound : ℕ) (ix : List ℕ) (z v : ℕ) → v < bound → Below bound ix → Below bound (set ix z v)
stored_below bound ix z v small words q =
    by_le (length ix) z
    (λ past. rw (set_out ix z v past) (words q))
    (λ inside. by_eq q z (λ same. rw same (omega (arith, at_stored ix z v inside))) (λ other. omega (arith, words q, at_kept ix z v q other)))

pub add_below : (bound : ℕ) (ix : List ℕ) (h i : ℕ) → i + 1 < bound → Below bound ix → Below bound (add ix h i)
unfolding add
add_below bound ix h i small words = stored_below bound ix (seek ix h 0) (i + 1) small words

add_again_below : (bound : ℕ) (hash : ℕ → ℕ) (n : ℕ) (ix : List ℕ) (v : ℕ) → 0 < v → v < bound → Below bound ix → Below bound (add_again hash n ix v)
add_again_below bound hash n ix v used small words =
    by_le v n
    (λ l. rw (add_again_named hash n ix v l) (add_below bound ix (hash (v - 1)) (v - 1) (omega arith) words))
    (λ l. rw (add_again_nothing hash n ix v l) words)

rehome_below : (bound : ℕ) (hash : ℕ → ℕ) (n : ℕ) (ix : List ℕ) (q left : ℕ) → Below bound ix → Below bound (rehome hash n ix q left)
rehome_below bound hash n ix q zero words = rw (rehome_over hash n ix q 0 (omega arith)) words
rehome_below bound hash n ix q (suc left) words =
    by_eq (at ix q) 0
    (λ e. rw (rehome_empty hash n ix q (suc left) (omega arith) e) words)
    (λ k.
    let emptied : Below bound (set ix q 0) = stored_below bound ix q 0 (omega (arith, words q)) words in
    let less : suc left - 1 ≡ left = omega arith in
    rw (rehome_on hash n ix q (suc left) (length ix) refl (omega arith) k, less)
    (rehome_below bound hash n (add_again hash n (set ix q 0) (at ix q)) (onward (length ix) q) left
    (add_again_below bound hash n (set ix q 0) (at ix q) (omega arith) (words q) emptied)))

vacate_below : (bound : ℕ) (hash : ℕ → ℕ) (n : ℕ) (ix : List ℕ) (z : ℕ) → Below bound ix → Below bound (vacate hash n ix z)
vacate_below bound hash n ix z words =
    by_eq (at ix z) 0
    (λ e. rw (← vacate_none hash n ix z e) words)
    (λ k.
    rw (← vacate_used hash n ix z (length ix) refl k)
    (rehome_below bound hash n (set ix z 0) (onward (length ix) z) (length ix - 1) (stored_below bound ix z 0 (omega (arith, words z)) words)))

renumber_below : (bound : ℕ) (ix : List ℕ) (h m r : ℕ) → r + 1 < bound → Below bound ix → Below bound (renumber ix h m r)
renumber_below bound ix h m r small words =
    by_eq (at ix (seek ix h (m + 1))) 0
    (λ e. rw (← renumber_none ix h m r (seek ix h (m + 1)) refl e) words)
    (λ k. rw (← renumber_in ix h m r (seek ix h (m + 1)) refl k) (stored_below bound ix (seek ix h (m + 1)) (r + 1) small words))

pub remove_below : (bound : ℕ) (hash : ℕ → ℕ) (n : ℕ) (ix : List ℕ) (r : ℕ) → r + 1 < bound → Below bound ix → Below bound (remove hash n ix r)
unfolding remove
remove_below bound hash n ix r small words =
    renumber_below bound (vacate hash n ix (seek ix (hash r) (r + 1))) (hash (n - 1)) (n - 1) r small
    (vacate_below bound hash n ix (seek ix (hash r) (r + 1)) words)
