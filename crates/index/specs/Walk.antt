-- An index by hash. It is a list of places that holds a word in each: 0 in an empty place, else the number of an item, counted from 0, plus 1. The
-- definitions take any words and any count: `n` is the number of items, and `hash i` the hash of item i.
use Rattle.std.specs.Prelude.{ℕ, zero, suc, ◌+◌, ◌-◌, ◌%◌, Bool, true, false, cond, List, length, ◌==◌, nat_eq, nat_le, nat_lt, slice_index, slice_set, Option}
use Rattle.std.specs.Prelude.{Some, None}
use Rattle.index.specs.declared.Probed.{Probed}
use Rattle.index.specs.declared.Probed.TheVariants.{Hit, Empty, Other}

-- The word at a place. Past the last place it reads as 0, and a store there changes nothing.
abbrev pub at : List ℕ → ℕ → ℕ
at ix q = slice_index ix q

-- The place one step on: after the last place comes the first.
unfoldable pub onward : ℕ → ℕ → ℕ
onward size q = cond (nat_lt (q + 1) size) (q + 1) 0

-- A walk stops at an empty place, and at a word that passes its test.
abbrev pub stops : (ℕ → Bool) → ℕ → Bool
stops test word = cond (word == 0) true (test word)

-- The place at which a walk stops that is at place q and has so many places left to look at. A walk that stops nowhere ends past the last place.
unfoldable pub walk_from : List ℕ → (ℕ → Bool) → ℕ → ℕ → ℕ
walk_from ix test q zero = length ix
walk_from ix test q (suc left) = cond (stops test (at ix q)) q (walk_from ix test (onward (length ix) q) left)

-- The walk of a hash: it starts at the hash's home, goes round, and looks at each place once at most.
unfoldable pub walk : List ℕ → (ℕ → Bool) → ℕ → ℕ
walk ix test h = walk_from ix test (h % length ix) (length ix)

-- Does a word that is not 0 name an item that passes a test? A word over the count names no item.
abbrev pub hits : ℕ → (ℕ → Bool) → ℕ → Bool
hits n test word = cond (nat_le word n) (test (word - 1)) false

-- What a lookup gives that stops at this word: its item, or nowhere for 0.
abbrev pub named : ℕ → Option ℕ
named word = cond (word == 0) None (Some (word - 1))

-- Lookup, at place q with so many places left: the first item on the walk that passes a test.
unfoldable pub find_from : ℕ → (ℕ → Bool) → List ℕ → ℕ → ℕ → Option ℕ
find_from n test ix q left = named (at ix (walk_from ix (hits n test) q left))

-- Lookup on the whole walk of a hash.
unfoldable pub find : ℕ → (ℕ → Bool) → List ℕ → ℕ → Option ℕ
find n test ix h = find_from n test ix (h % length ix) (length ix)

-- What lookup makes of one word: it has found an item, it is at the end of the walk, or it goes on.
unfoldable pub probed : ℕ → (ℕ → Bool) → ℕ → Probed
probed n test word = cond (word == 0) Empty (cond (hits n test word) (Hit (word - 1)) Other)

-- The first place on the walk of a hash that holds the given word. If there is none, it is the place at which the walk stops, or the number of places.
unfoldable pub seek : List ℕ → ℕ → ℕ → ℕ
seek ix h word = walk ix (λ v. nat_eq v word) h

-- Item i is added: it fills the empty place at which its walk stops, if there is one.
unfoldable pub add : List ℕ → ℕ → ℕ → List ℕ
add ix h i = slice_set ix (seek ix h 0) (i + 1)

-- The item that a word, not 0, names is added again. A word over the count adds nothing.
unfoldable pub add_again : (ℕ → ℕ) → ℕ → List ℕ → ℕ → List ℕ
add_again hash n ix word = cond (nat_le word n) (add ix (hash (word - 1)) (word - 1)) ix

-- The pass over the places after an emptied one, at place q with so many places left. It stops at the first place that it meets empty. It empties each place
-- before that one and adds the place's item again.
unfoldable pub rehome : (ℕ → ℕ) → ℕ → List ℕ → ℕ → ℕ → List ℕ
rehome hash n ix q zero = ix
rehome hash n ix q (suc left) =
    cond (at ix q == 0) ix (rehome hash n (add_again hash n (slice_set ix q 0) (at ix q)) (onward (length ix) q) left)

-- A place in use is emptied, and the pass goes over the other places. If the place is empty, nothing changes.
unfoldable pub vacate : (ℕ → ℕ) → ℕ → List ℕ → ℕ → List ℕ
vacate hash n ix z = cond (at ix z == 0) ix (rehome hash n (slice_set ix z 0) (onward (length ix) z) (length ix - 1))

-- Item m, of hash h, gets the number r. If no place on its walk names it, nothing changes.
unfoldable pub renumber : List ℕ → ℕ → ℕ → ℕ → List ℕ
renumber ix h m r = cond (at ix (seek ix h (m + 1)) == 0) ix (slice_set ix (seek ix h (m + 1)) (r + 1))

-- Item r of n leaves, before the last item moves into its number: its place is vacated, and then the last item gets its number. Item r still counts while its
-- place is vacated, so a second place that names it adds it again.
unfoldable pub remove : (ℕ → ℕ) → ℕ → List ℕ → ℕ → List ℕ
remove hash n ix r = renumber (vacate hash n ix (seek ix (hash r) (r + 1))) (hash (n - 1)) (n - 1) r
