-- Numbers that fit a word, lists of them, and held items that fit: what a store, an addition, a removal and a sweep leave fits.
use Prim.Native.Nat.{ℕ, ◌+◌, ◌-◌, ◌<◌, ◌^◌}
use mathlib.Core.Path.{◌≡◌, refl}
use mathlib.Core.Bool.{Bool, true, ◌&&◌}
use mathlib.Core.List.{List, [], ◌∷◌}
use native.Mathlib.Omega.{arith}
use lib.Dec.{ltb}
use lib.ListN.{length, set, length-set}
use borrow.Author.Tests.{ltb-true, lt-ltb}
use Rattle.arith.proofs.Cases.{by_test}
use Rattle.held.specs.Held.{Held, Items, wrapped, item_at, removed, appended, stored}
use Rattle.held.specs.Round.{Round, sweep}
use Rattle.held.proofs.FindingLaws.{WordsBelow, added_below, removed_below}
use Rattle.held.proofs.RoundLaws.{sweep_keeps, sweep_next}
use Rattle.rules.specs.Calls.{Every}
use Rattle.rules.specs.Widths.{lendable}
use Rattle.demands.proofs.WidthLaws.{both_true}
use Rattle.demands.proofs.EveryLaws.{of_item, every_set}

-- A number fits a word of 64 bits.
abbrev pub Word : ℕ → Type 0
Word n = n < 2 ^ 64

-- Words can be lent just where each of them, and their number, fits a word.
are_both_true : (a b : Bool) → a ≡ true → b ≡ true → (a && b) ≡ true
are_both_true a b first second = rw (first, second)

pub lendable_length : (ws : List ℕ) → lendable ws ≡ true → Word (length ws)
lendable_length ws lent = ltb-true _ _ (both_true (ltb (length ws) (2 ^ 64)) _ lent).0

pub lendable_words : (ws : List ℕ) → lendable ws ≡ true → Every Word ws
lendable_words [] lent = tt
lendable_words (w ∷ ws) lent =
    let size : Word (length (w ∷ ws)) = lendable_length (w ∷ ws) lent in
    let parts = both_true (ltb w (2 ^ 64)) _ (both_true (ltb (length (w ∷ ws)) (2 ^ 64)) _ lent).1 in
    (ltb-true _ _ parts.0, lendable_words ws (are_both_true _ _ (lt-ltb (length ws) (2 ^ 64) (omega arith)) parts.1))

pub words_are_lendable : (ws : List ℕ) → Word (length ws) → Every Word ws → lendable ws ≡ true
words_are_lendable [] size every = refl
words_are_lendable (w ∷ ws) size every =
    let rest = both_true (ltb (length ws) (2 ^ 64)) _ (words_are_lendable ws (omega arith) every.1) in
    are_both_true _ _ (lt-ltb (length (w ∷ ws)) (2 ^ 64) size) (are_both_true _ _ (lt-ltb w (2 ^ 64) every.0) rest.1)

-- The place after the one at which a hand, sweep or cursor is read.
pub next_place_fits : (i count : ℕ) → Word count → Word (wrapped i count + 1)
next_place_fits i count fits = by_test (ltb i count) (λ below. rw below (omega (arith, ltb-true i count below))) (λ past. rw past (omega arith))

-- Held items that fit: their count, the room for them, what stands in every place, also in a free one, and the words of their index, if there is one.
pub record HeldFits {A : Type 0} (Q : A → Type 0) (h : Held A) : Type 0 where
  pub count : Word h.count
  pub room : Word (length h.places)
  pub items : Every Q h.places
  pub finding : WordsBelow (2 ^ 64) h.finding

module _ {A : Type 0} (Q : A → Type 0) (h : Held A) (f : HeldFits Q h) where
  pub item_fits : (items : Items A) → Q items.free → (i : ℕ) → Q (item_at items h i)
  item_fits items q i = of_item Q h.places i items.free q f.items

  pub stored_fits : (i : ℕ) (x : A) → Q x → HeldFits Q (stored h i x)
  stored_fits i x q = record {
    count = f.count;
    room = rw length-set f.room;
    items = every_set Q h.places i x q f.items;
    finding = f.finding;
  }

  pub appended_fits : (items : Items A) (x : A) → Q x → Word (h.count + 1) → HeldFits Q (appended items h x)
  appended_fits items x q next = record {
    count = next;
    room = rw length-set f.room;
    items = every_set Q h.places h.count x q f.items;
    finding = added_below (2 ^ 64) h.finding (items.hash x) h.count next f.finding;
  }

  pub removed_fits : (items : Items A) → Q items.free → (p : ℕ) → p < h.count → HeldFits Q (removed items h p)
  unfolding removed
  removed_fits items q p below = record {
    count = omega (arith, f.count);
    room = rw (length-set, length-set) f.room;
    items = every_set Q (set h.places p (item_at items h (h.count - 1))) (h.count - 1) items.free q
        (every_set Q h.places p (item_at items h (h.count - 1)) (item_fits items q (h.count - 1)) f.items);
    finding = removed_below items h (2 ^ 64) p (omega (arith, f.count)) f.finding;
  }

-- A sweep of such items leaves such items, and a place that fits for the next look.
pub record RoundFits {A : Type 0} (Q : A → Type 0) (r : Round A) : Type 0 where
  pub items : HeldFits Q r.items
  pub next : Word r.next

pub swept_fits : {A : Type 0} (Q : A → Type 0) (items : Items A) → Q items.free → (goes : A → Bool) (n : ℕ) (r : Round A)
    → RoundFits Q r → RoundFits Q (sweep items goes n r)
swept_fits Q items q goes n r f = record {
  items = sweep_keeps items goes (HeldFits Q) (λ h p below passes g. removed_fits Q h g items q p below) n r f.items;
  next = omega (arith, sweep_next items goes n r, f.next, f.items.count);
}
