-- Forth and back for one shard: the words that the copy and the additions leave, and that the indexes built are exact.
use Prim.Native.Nat.{ℕ, zero, suc, ◌+◌, ◌-◌, ◌*◌, ◌≤◌, ◌<◌}
use native.Mathlib.Omega.{arith}
use mathlib.Core.Path.{◌≡◌, refl, ap, sym, ◌∙◌}
use mathlib.Core.List.{List, [], ◌∷◌, ◌++◌, map, append-nil, append_assoc}
use lib.Dec.{lit<}
use lib.ListN.{length, take, drop, replicate, length-append, length-replicate, length-drop}
use lib.Seq.{take_at, drop_at, length-take-le}
use Rattle.rows.specs.Segments.{segment}
use Rattle.rows.specs.Rows.{unrow}
use Rattle.rows.proofs.RowLaws.{by_listed, listed}
use Rattle.rows.proofs.SegmentLaws.{segment_length}
use Rattle.index.specs.declared.Index.{Index}
use Rattle.index.specs.Walk as Index
use Rattle.index.specs.Exact.{Exact}
use Rattle.index.specs.Layout.{Fits, places_for, places_of, with_places, item_word, hash_of}
use Rattle.index.proofs.StepLaws.{add_length}
use Rattle.index.proofs.ExactLaws.{fresh_exact, add_exact}
use Rattle.index.proofs.LayoutLaws.{same_places, places_length, then_fits, then_places, then_hash, with_with, length_with}
use Rattle.held.specs.Held.{by_index, hash_at, found_otherwise}
use Rattle.held.specs.Layout.{table_in, index_words}
use Rattle.held.proofs.FindingLaws.{indexed}
use Rattle.ledger.specs.Model.{debt_items, with_debts}
use Rattle.ledger.specs.Layout as Ledger
use Rattle.ledger.proofs.LayoutLaws.{words_ledger}
use Rattle.shard_map.specs.Model.{Shard, slot_items}
use Rattle.shard_map.specs.Layout.{slots_at, slot_width, slot_of, slot_words, ledger_start, shard_words, slot_index, shard, words_of}
use Rattle.shard_map.proofs.LayoutLaws.{cap_is, rest_length}
use Rattle.shard_map.proofs.ReadBack.{Sized, debt_cap_is, words_length, shard_of_words}
use Rattle.converter_shards.specs.Layout01.{slot_width01, ledger_start01, ledger_words01, shard_words01, slot_of01, slot_words01}
use Rattle.converter_shards.specs.Layout01.{shard01, ledger01, words01, ledger_words_of01}
use Rattle.converter_shards.specs.code.RowChecks.{Counted}
use Rattle.converter_shards.specs.Forth.{added_up_to, built_index, forth, back}
use Rattle.converter_shards.specs.code.Carried.{debt_index_in_shard, carried, carried_shard}
use Rattle.converter_shards.proofs.Layout01Laws.{cap01_is, debt_cap01_is, words_ledger01, Sized01, ledger_words01_length, words01_of_back}
use Rattle.converter_shards.proofs.ShardLaws.{slots_within, debts_within}
use Rattle.converter_shards.proofs.CarryLaws.{carried_longer, carried_shorter, carried_rows_are_items}
use Rattle.converter_shards.proofs.PresentLaws.{slot_field, debt_field}

-- Items added in order: the number of places stays, one more item, and the same for hashes that agree.
pub added_length : (hash : ℕ → ℕ) (n : ℕ) (ix : List ℕ) → length (added_up_to hash n ix) ≡ length ix
unfolding added_up_to
added_length hash zero ix = refl
added_length hash (suc n) ix = add_length (added_up_to hash n ix) (hash n) n ∙ added_length hash n ix

added_next : (hash : ℕ → ℕ) (n : ℕ) (ix : List ℕ) → added_up_to hash (n + 1) ix ≡ Index.add (added_up_to hash n ix) (hash n) n
unfolding added_up_to
added_next hash n ix = let next : n + 1 ≡ suc n = omega arith in rw next

added_agrees : (hash hash' : ℕ → ℕ) (n : ℕ) (ix : List ℕ) → ((i : ℕ) → i < n → hash i ≡ hash' i) → added_up_to hash n ix ≡ added_up_to hash' n ix
unfolding added_up_to
added_agrees hash hash' zero ix same = refl
added_agrees hash hash' (suc n) ix same = rw (same n (omega arith), added_agrees hash hash' n ix (λ i below. same i (omega arith)))

-- An index built from empty places is exact for the items that were added, duplicates or not.
pub built_exact : (hash : ℕ → ℕ) (n size : ℕ) → n < size → Exact hash n (added_up_to hash n (replicate size 0))
unfolding added_up_to
built_exact hash zero size room = fresh_exact hash size room
built_exact hash (suc n) size room =
    let long : length (added_up_to hash n (replicate size 0)) ≡ size = added_length hash n (replicate size 0) ∙ length-replicate {A = ℕ} size 0 in
    let next : n + 1 ≡ suc n = omega arith in
    rw next at (add_exact (built_exact hash n size (omega arith)) (omega (arith, long)))

-- The loop of the additions: the first i items are added, and nothing else is changed.
abbrev pub added_in : Index → List ℕ → ℕ → List ℕ
added_in index ws i = added_up_to (hash_of index ws) i (places_of index ws)

pub record Adding (index : Index) (n : ℕ) (ws₀ ws : List ℕ) (i : ℕ) : Type 0 where
  pub within : i ≤ n
  pub is : ws ≡ with_places index ws₀ (added_in index ws₀ i)

module _ {index : Index} {n : ℕ} {ws₀ : List ℕ} (fits : Fits index n ws₀) where
  pub adding_start : Adding index n ws₀ ws₀ 0
  unfolding added_up_to
  adding_start = record { within = omega arith; is = sym (same_places index ws₀) }

  module _ {ws : List ℕ} {i : ℕ} (A : Adding index n ws₀ ws i) where
    long : length (added_in index ws₀ i) ≡ index.size
    long = added_length _ i _ ∙ places_length index ws₀ fits.inside

    pub adding_fits : Fits index n ws
    adding_fits = then_fits (added_in index ws₀ i) fits long A.is

    pub adding_long : length ws ≡ length ws₀
    adding_long = rw A.is (length_with index n ws₀ (added_in index ws₀ i) fits long)

    pub adding_next : i < n → {ws' : List ℕ} {hash : ℕ} → hash ≡ item_word index 0 ws i → ws' ≡ with_places index ws (Index.add (places_of index ws) hash i)
        → Adding index n ws₀ ws' (i + 1)
    adding_next below {ws'} {hash} read added =
        let own : hash ≡ hash_of index ws₀ i = read ∙ then_hash (added_in index ws₀ i) fits long A.is i below in
        let there = then_places (added_in index ws₀ i) fits long A.is in
        let same : Index.add (places_of index ws) hash i ≡ added_in index ws₀ (i + 1) = rw (there, own) (sym (added_next (hash_of index ws₀) i
        (places_of index ws₀))) in
        record {
          within = omega arith;
          is = added ∙ ap (with_places index ws) same
              ∙ ap (λ (w : List ℕ). with_places index w (added_in index ws₀ (i + 1))) A.is
              ∙ with_with index n ws₀ (added_in index ws₀ i) fits long (added_in index ws₀ (i + 1));
        }

    pub adding_over : n ≤ i → ws ≡ with_places index ws₀ (added_in index ws₀ n)
    adding_over end = let e : i ≡ n = omega (arith, A.within) in rw e at A.is

-- Words that an index parts: its places, and other places in it.
module _ (index : Index) (a b c : List ℕ) (before : length a ≡ index.base) (own : length b ≡ index.size) where
  places_between : places_of index (a ++ (b ++ c)) ≡ b
  unfolding places_of
  places_between = rw (drop_at a (b ++ c) index.base before) (take_at b c index.size own)

  with_between : (ix : List ℕ) → with_places index (a ++ (b ++ c)) ix ≡ a ++ (ix ++ c)
  unfolding with_places
  with_between ix = rw (take_at a (b ++ c) index.base before, drop_at a (b ++ c) index.base before, drop_at b c index.size own)

-- A shard whose items are found by these indexes.
abbrev pub with_indexes : Shard → List ℕ → List ℕ → Shard
with_indexes s slots debts = record {
  slots = found_otherwise s.slots (by_index slots);
  hand = s.hand;
  sweep = s.sweep;
  ledger = with_debts s.ledger (found_otherwise s.ledger.debts (by_index debts));
}

-- The present words of a shard before its indexes.
unfoldable pub before_indexes : Shard → List ℕ
before_indexes s = s.slots.count ∷ s.hand ∷ s.sweep ∷ (unrow (map slot_words s.slots.places) ++ ledger_words_of01 s.ledger)

words_split : (s : Shard) (slots debts : List ℕ) → words_of (with_indexes s slots debts) ≡ before_indexes s ++ (slots ++ debts)
unfolding words_of Ledger.words_of before_indexes ledger_words_of01
words_split s slots debts = simp (append_assoc, append-nil)

zeros_twice : (m n : ℕ) → replicate {A = ℕ} (m + n) 0 ≡ replicate m 0 ++ replicate n 0
zeros_twice zero n = let none : 0 + n ≡ n = omega arith in rw none
zeros_twice (suc m) n = let next : suc m + n ≡ suc (m + n) = omega arith in rw next (ap {B = List ℕ} (λ r. 0 ∷ r) (zeros_twice m n))

-- A present shard has room for cap slots and cap debts.
pub present_sized01 : (cap : ℕ) (ws : List ℕ) → Sized01 cap (shard cap ws)
unfolding shard
present_sized01 cap ws = record { slots = cap_is cap ws; debts = debt_cap_is cap ws; others = refl }

-- Back: the words of a present shard, with slots of six words and without the indexes, are document 01's words of it.
module _ (cap : ℕ) (ws : List ℕ) (size : length ws ≡ shard_words cap) where
  abbrev past : List ℕ
  past = drop (ledger_start cap) ws

  ledger_back : carried (ledger_words01 cap) past ≡ ledger_words_of01 (shard cap ws).ledger
  unfolding shard table_in Ledger.words_of ledger_words_of01
  ledger_back =
      let long = rest_length cap ws size in
      let own = Ledger.ledger cap past in
      let front : List ℕ = ledger_words_of01 own in
      let parts : Ledger.words_of own ≡ front ++ (own.others ++ index_words own.debts.finding) = simp append-nil in
      carried_shorter (ledger_words01 cap) past (omega (arith, long))
      ∙ ap (take (ledger_words01 cap)) (sym (words_ledger cap past long) ∙ parts)
      ∙ take_at front (own.others ++ index_words own.debts.finding) (ledger_words01 cap) (ledger_words01_length cap (shard cap ws) (present_sized01 cap ws))

  pub after_back : {n : ℕ} → n ≡ shard_words01 cap → carried_shard slot_width slot_width01 cap n ws ≡ words01 (back (shard cap ws))
  unfolding carried_shard words01 shard table_in carried
  after_back {n} is =
      let rows_room = segment_length slots_at (slot_width * cap) ws (omega arith) in
      let left : n - (slots_at + slot_width01 * cap) ≡ ledger_words01 cap = rw is (omega arith) in
      let six = by_listed slot_width (λ row. carried slot_width01 row ≡ slot_words01 (slot_of row)) (λ f. refl) in
      rw (
        left,
        ledger_back,
        ← listed slots_at (take slots_at ws) (length-take-le slots_at ws (omega arith)),
        carried_rows_are_items slot_of slot_words01 slot_width slot_width01 six cap (segment slots_at (slot_width * cap) ws) (omega (arith, rows_room)),
      )
      (sym (words01_of_back (shard cap ws)))

module _ {cap : ℕ} {ws : List ℕ} (counted : Counted cap ws) where
  abbrev own : Shard
  own = shard01 cap ws

  abbrev zeros : List ℕ
  zeros = replicate (places_for cap) 0

  abbrev slots_built : List ℕ
  slots_built = built_index slot_items cap own.slots

  abbrev debts_built : List ℕ
  debts_built = built_index debt_items cap own.ledger.debts

  size : length ws ≡ shard_words01 cap
  size = counted.size

  zeros_long : length zeros ≡ places_for cap
  zeros_long = length-replicate {A = ℕ} (places_for cap) 0

  slots_built_long : length slots_built ≡ places_for cap
  slots_built_long = added_length _ _ zeros ∙ zeros_long

  debts_built_long : length debts_built ≡ places_for cap
  debts_built_long = added_length _ _ zeros ∙ zeros_long

  -- With indexes of the right length it is a present shard.
  module _ (slots debts : List ℕ) (slots_long : length slots ≡ places_for cap) (debts_long : length debts ≡ places_for cap) where
    pub indexed_sized : Sized cap (with_indexes own slots debts)
    unfolding shard01 ledger01
    indexed_sized = record {
      slots = cap01_is cap ws;
      slots_kind = ap indexed slots_long;
      debts = debt_cap01_is cap ws;
      debts_kind = ap indexed debts_long;
      others = refl;
    }

    abbrev written : List ℕ
    written = words_of (with_indexes own slots debts)

    written_long : length written ≡ shard_words cap
    written_long = words_length cap (with_indexes own slots debts) indexed_sized

    before_long : length (before_indexes own) ≡ (slot_index cap).base
    before_long =
        let all = length-append (before_indexes own) (slots ++ debts) in
        let both = length-append slots debts in
        let same : length written ≡ length (before_indexes own ++ (slots ++ debts)) = ap length (words_split own slots debts) in
        omega (arith, written_long, slots_long, debts_long)

    -- The hashes that the additions read are those of the items.
    slots_hash : (i : ℕ) → i < cap → hash_of (slot_index cap) written i ≡ hash_at slot_items own.slots i
    slots_hash i below =
        slot_field cap written (λ s. s.hash) 0 (λ row. refl) (lit< tt) i below
        ∙ ap (λ (s : Shard). hash_at slot_items s.slots i) (shard_of_words cap (with_indexes own slots debts) indexed_sized)

    debts_hash : (i : ℕ) → i < cap → hash_of (debt_index_in_shard cap) written i ≡ hash_at debt_items own.ledger.debts i
    debts_hash i below =
        debt_field cap written (λ d. d.hash) 0 (λ row. refl) (lit< tt) i below
        ∙ ap (λ (s : Shard). hash_at debt_items s.ledger.debts i) (shard_of_words cap (with_indexes own slots debts) indexed_sized)

    module _ (room : 0 < cap) where
      slots_index_fits : {n : ℕ} → n ≡ own.slots.count → Fits (slot_index cap) n written
      slots_index_fits is = record {
        room = omega arith;
        inside = omega (arith, written_long);
        items = omega (arith, written_long, slots_within counted is);
        within = lit< tt;
      }

      debts_index_fits : {n : ℕ} → n ≡ own.ledger.debts.count → Fits (debt_index_in_shard cap) n written
      debts_index_fits is = record {
        room = omega arith;
        inside = omega (arith, written_long);
        items = omega (arith, written_long, debts_within counted is);
        within = lit< tt;
      }

    -- The slots are added, and the debts are added.
    slots_added : {n : ℕ} → n ≡ own.slots.count → slots ≡ zeros
        → with_places (slot_index cap) written (added_in (slot_index cap) written n) ≡ words_of (with_indexes own slots_built debts)
    slots_added {n} is empty =
        let front : List ℕ = before_indexes own in
        let parts = words_split own slots debts in
        let places : places_of (slot_index cap) written ≡ slots =
        ap (places_of (slot_index cap)) parts ∙ places_between (slot_index cap) front slots debts before_long slots_long in
        let same : added_in (slot_index cap) written n ≡ slots_built =
        ap (added_up_to (hash_of (slot_index cap) written) n) (places ∙ empty)
        ∙ added_agrees _ _ n zeros (λ i below. slots_hash i (omega (arith, slots_within counted is)))
        ∙ ap (λ (m : ℕ). added_up_to (hash_at slot_items own.slots) m zeros) is in
        ap (with_places (slot_index cap) written) same ∙ ap (λ (w : List ℕ). with_places (slot_index cap) w slots_built) parts
        ∙ with_between (slot_index cap) front slots debts before_long slots_long slots_built ∙ sym (words_split own slots_built debts)

    debts_added : {n : ℕ} → n ≡ own.ledger.debts.count → debts ≡ zeros
        → with_places (debt_index_in_shard cap) written (added_in (debt_index_in_shard cap) written n) ≡ words_of (with_indexes own slots debts_built)
    debts_added {n} is empty =
        let front : List ℕ = before_indexes own ++ slots in
        let starts : length front ≡ (debt_index_in_shard cap).base = simp length-append (omega (arith, before_long, slots_long)) in
        let parts : written ≡ front ++ (debts ++ []) = words_split own slots debts ∙ simp (append_assoc, append-nil) in
        let together : front ++ (debts_built ++ []) ≡ before_indexes own ++ (slots ++ debts_built) = simp (append_assoc, append-nil) in
        let places : places_of (debt_index_in_shard cap) written ≡ debts =
        ap (places_of (debt_index_in_shard cap)) parts ∙ places_between (debt_index_in_shard cap) front debts [] starts debts_long in
        let same : added_in (debt_index_in_shard cap) written n ≡ debts_built =
        ap (added_up_to (hash_of (debt_index_in_shard cap) written) n) (places ∙ empty)
        ∙ added_agrees _ _ n zeros (λ i below. debts_hash i (omega (arith, debts_within counted is)))
        ∙ ap (λ (m : ℕ). added_up_to (hash_at debt_items own.ledger.debts) m zeros) is in
        ap (with_places (debt_index_in_shard cap) written) same ∙ ap (λ (w : List ℕ). with_places (debt_index_in_shard cap) w debts_built) parts
        ∙ with_between (debt_index_in_shard cap) front debts [] starts debts_long debts_built ∙ together ∙ sym (words_split own slots debts_built)

  -- The copy: the shard with empty indexes.
  copied : {n : ℕ} → n ≡ shard_words cap → carried_shard slot_width01 slot_width cap n ws ≡ words_of (with_indexes own zeros zeros)
  unfolding carried_shard before_indexes shard01 table_in carried
  copied {n} is =
      let rest : List ℕ = drop (ledger_start01 cap) ws in
      let rest_long : length rest ≡ ledger_words01 cap = omega (arith, size, length-drop (ledger_start01 cap) ws) in
      let rows_room = segment_length slots_at (slot_width01 * cap) ws (omega (arith, size)) in
      let left : n - (slots_at + slot_width * cap) ≡ length rest + (places_for cap + places_for cap) = rw is (omega (arith, rest_long)) in
      let seven = by_listed slot_width01 (λ row. carried slot_width row ≡ slot_words (slot_of01 row)) (λ f. refl) in
      rw (
        left,
        carried_longer rest (places_for cap + places_for cap),
        zeros_twice (places_for cap) (places_for cap),
        ← listed slots_at (take slots_at ws) (length-take-le slots_at ws (omega (arith, size))),
        carried_rows_are_items slot_of01 slot_words slot_width01 slot_width seven cap (segment slots_at (slot_width01 * cap) ws) (omega (arith, rows_room)),
      )
      (sym (words_split own zeros zeros
      ∙ rw (words_ledger01 cap rest rest_long)
      (ap (λ (r : List ℕ). own.slots.count ∷ own.hand ∷ own.sweep ∷ r) (append_assoc (unrow (map slot_words own.slots.places)) rest (zeros ++ zeros)))))

  -- The three steps of the code.
  module _ {copy : List ℕ} {m : ℕ} (long : m ≡ shard_words cap) (first : copy ≡ carried_shard slot_width01 slot_width cap m ws) where
    copy_is : copy ≡ words_of (with_indexes own zeros zeros)
    copy_is = first ∙ copied long

    pub slots_fits : {n : ℕ} → n ≡ own.slots.count → 0 < cap → Fits (slot_index cap) n copy
    slots_fits is room = rw copy_is (slots_index_fits zeros zeros zeros_long zeros_long room is)

    module _ {after : List ℕ} {n : ℕ} (is : n ≡ own.slots.count) (second : after ≡ with_places (slot_index cap) copy (added_in (slot_index cap) copy n)) where
      after_slots : after ≡ words_of (with_indexes own slots_built zeros)
      after_slots =
          second ∙ ap (λ (w : List ℕ). with_places (slot_index cap) w (added_in (slot_index cap) w n)) copy_is
          ∙ slots_added zeros zeros zeros_long zeros_long is refl

      pub debts_fits : {k : ℕ} → k ≡ own.ledger.debts.count → 0 < cap → Fits (debt_index_in_shard cap) k after
      debts_fits is_too room = rw after_slots (debts_index_fits slots_built zeros slots_built_long zeros_long room is_too)

      pub after_debts : {k : ℕ} → k ≡ own.ledger.debts.count → {done : List ℕ}
          → done ≡ with_places (debt_index_in_shard cap) after (added_in (debt_index_in_shard cap) after k) → done ≡ words_of (forth cap own)
      unfolding forth
      after_debts {k} is_too third =
          third ∙ ap (λ (w : List ℕ). with_places (debt_index_in_shard cap) w (added_in (debt_index_in_shard cap) w k)) after_slots
          ∙ debts_added slots_built zeros slots_built_long zeros_long is_too refl
