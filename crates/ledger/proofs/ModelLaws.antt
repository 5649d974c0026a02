-- Laws that the proofs of the code go by: one turn of a loop is one step of the definition that counts the looks left; what a definition is in each
-- case that the code goes through; and words that are lent stay lent after each call.
use Rattle.std.proofs.Common.{Option, Some, None, Ok}
use Prim.Native.Nat.{ℕ, suc, ◌+◌, ◌-◌, ◌≤◌, ◌<◌, min}
use native.Mathlib.Omega.{arith}
use mathlib.Core.Path.{◌≡◌, refl, ap, sym, ◌∙◌}
use mathlib.Core.Bool.{Bool, true, false, cond}
use mathlib.Core.List.{List}
use lib.ListN.{length}
use borrow.Author.Tests.{lt-ltb, le-ltb, le-leb, lt-leb}
use Rattle.units.specs.declared.Nanos.{Nanos}
use Rattle.bucket.specs.declared.BucketConfig.{BucketConfig}
use Rattle.settings.specs.Eviction.{ledger_scan}
use Rattle.index.specs.Walk as Index
use Rattle.index.specs.Layout.{Fits, places_of, with_places, hash_of, keyed}
use Rattle.index.proofs.StepLaws.{find_among_none}
use Rattle.held.specs.Held.{with_added, removed, without_item}
use Rattle.held.specs.Round as Round
use Rattle.rows.specs.Outcome.{Outcome, outcome}
use Rattle.rows.proofs.OutcomeLaws.{answer_is, after_is}
use Rattle.held.proofs.IndexLaws.{indexed_fits, indexed_find, indexed_add, indexed_remove}
use Rattle.held.proofs.RoundLaws.{look_goes, look_stays, look_none, ByLooks}
use Rattle.ledger.specs.declared.Debt.{Debt}
use Rattle.ledger.specs.declared.Choice.{Choice}
use Rattle.ledger.specs.declared.Choice.TheVariants.{Settled, Soonest}
use Rattle.ledger.specs.Model.{Recorded, no_room}
use Rattle.ledger.specs.Model.{Ledger, Sound, no_debt, debt_items, cap_of, debt_at, settling_at, settled_by, cursor_of, with_count, with_cursor, with_finding}
use Rattle.ledger.specs.Model.{with_debt, owes, place_of}
use Rattle.ledger.specs.Model.{remove_at, append, taken_at, taken, round_of, with_round, look, sweep, sooner, scan_from, scan, drop_chosen, make_room, joined}
use Rattle.ledger.specs.Model.{later, recorded_at}
use Rattle.ledger.specs.Model.{recorded, credit, paid_at, paid_down}
use Rattle.ledger.specs.Layout.{debt_index, ledger, Intact}
use Rattle.ledger.proofs.LayoutLaws.{cap_is, index_put, debts_indexed}
use Rattle.ledger.proofs.StepLaws.{cursor_below, found_owes, look_sound}
use Rattle.ledger.proofs.RecordLaws.{sooner_is_either, chosen, scan_chooses_held, scan_sound, make_room_sound, make_room_makes_room}

-- Append and removal, store by store, as the code makes them: first in the index, then in the places, last the count.
module _ (l : Ledger) where
  pub append_by_stores : (d : Debt)
      → with_count (with_debt (with_finding l (with_added l.debts.finding d.hash l.debts.count)) l.debts.count d) (l.debts.count + 1) ≡ append l d
  unfolding append
  append_by_stores d = refl

  abbrev unnamed : ℕ → Ledger
  unnamed p = with_finding l (without_item debt_items l.debts p)

  pub remove_by_stores : (p : ℕ)
      → with_count (with_debt (with_debt (unnamed p) p (debt_at (unnamed p) (l.debts.count - 1))) (l.debts.count - 1) no_debt) (l.debts.count - 1)
      ≡ remove_at l p
  unfolding remove_at removed
  remove_by_stores p = refl

-- A debt has its hash for a key: a test of the hash and then of the key is a test of the hash.
tested_twice : (b : Bool) → cond b b false ≡ b
tested_twice true = refl
tested_twice false = refl

-- Lookup, addition and removal in the words' index, as the crate `index` makes them.
module _ {cap : ℕ} {ws : List ℕ} (intact : Intact cap ws) where
  abbrev stands : Ledger
  stands = ledger cap ws

  pub debts_fit : Fits (debt_index cap) stands.debts.count ws
  debts_fit = indexed_fits (debts_indexed intact)

  pub found_in_index : (hash : ℕ)
      → Index.find stands.debts.count (keyed (debt_index cap) ws hash hash) (places_of (debt_index cap) ws) hash ≡ place_of stands hash
  unfolding place_of
  found_in_index hash = indexed_find (debts_indexed intact) hash hash (owes hash) (λ d. tested_twice (owes hash d))

  -- Where there are no debts none is found, whatever the index holds.
  pub none_found : (hash : ℕ) → stands.debts.count ≡ 0 → None ≡ place_of stands hash
  none_found hash e =
      let none = find_among_none (keyed (debt_index cap) ws hash hash) (places_of (debt_index cap) ws) hash in
      sym (rw e none) ∙ found_in_index hash

  pub added_to_index : (hash i : ℕ) → ledger cap (with_places (debt_index cap) ws (Index.add (places_of (debt_index cap) ws) hash i))
      ≡ with_finding stands (with_added stands.debts.finding hash i)
  added_to_index hash i = indexed_add (debts_indexed intact) (ledger cap) (with_finding stands) (index_put cap ws intact.size) hash i

  pub removed_from_index : (p : ℕ) → p < stands.debts.count
      → ledger cap (with_places (debt_index cap) ws (Index.remove (hash_of (debt_index cap) ws) stands.debts.count (places_of (debt_index cap) ws) p))
      ≡ with_finding stands (without_item debt_items stands.debts p)
  removed_from_index p below = indexed_remove (debts_indexed intact) (ledger cap) (with_finding stands) (index_put cap ws intact.size) p below

-- Take and pay down, once lookup has given a place and it is known which.
module _ (l : Ledger) (hash : ℕ) {place known : Option ℕ} (gave : place ≡ place_of l hash) (is : place ≡ known) where
  pub taken_where : taken_at l known ≡ taken l hash
  unfolding taken
  taken_where = rw (← gave, is)

  pub paid_where : (cost : ℕ) (c : BucketConfig) → paid_at l (credit c cost) known ≡ paid_down l hash cost c
  unfolding paid_down
  paid_where cost c = rw (← gave, is)

-- A look of the sweep at a settled debt, and at an unsettled one.
module _ (at : Nanos) (l : Ledger) where
  pub look_settled : 0 < l.debts.count → (settling_at l (cursor_of l)).0 ≤ at.0 → remove_at (with_cursor l (cursor_of l)) (cursor_of l) ≡ look at l
  unfolding look remove_at
  look_settled some settled = ap (with_round l) (look_goes debt_items (settled_by at) (round_of l) some (le-leb _ _ settled))

  pub look_unsettled : 0 < l.debts.count → at.0 < (settling_at l (cursor_of l)).0 → with_cursor l (cursor_of l + 1) ≡ look at l
  unfolding look
  look_unsettled some unsettled = ap (with_round l) (look_stays debt_items (settled_by at) (round_of l) some (lt-leb _ _ unsettled))

-- The scan of a full ledger: its start, no look left, a settled debt, an unsettled one.
pub scan_start : (at : Nanos) (l : Ledger) → scan_from at (min ledger_scan l.debts.count) l (cursor_of l) ≡ scan at l
unfolding scan
scan_start at l = refl

module _ (at : Nanos) (left : ℕ) (l : Ledger) (best : ℕ) where
  pub scan_end : left ≤ 0 → scan_from at left l best ≡ outcome (Soonest best) l
  unfolding scan_from
  scan_end none = let e : left ≡ 0 = omega arith in rw e

  pub scan_settled : 0 < left → (settling_at l (cursor_of l)).0 ≤ at.0
      → scan_from at left l best ≡ outcome (Settled (cursor_of l)) (with_cursor l (cursor_of l))
  unfolding scan_from
  scan_settled some settled = let e : left ≡ suc (left - 1) = omega arith in rw (e, scan_from, le-leb _ _ settled)

  pub scan_turn : 0 < left → at.0 < (settling_at l (cursor_of l)).0
      → scan_from at left l best ≡ scan_from at (left - 1) (with_cursor l (cursor_of l + 1)) (sooner l best (cursor_of l))
  unfolding scan_from
  scan_turn some unsettled =
      let e : left ≡ suc (left - 1) = omega arith in
      ap (λ (n : ℕ). scan_from at n l best) e ∙ rw (scan_from, lt-leb _ _ unsettled)

-- Room is made, once the scan has chosen: a settled debt goes, the soonest goes where debts may be forgotten, else it stays.
module _ (at : Nanos) (l : Ledger) {m : Ledger} {choice : Choice} (forget : Bool) (p : ℕ) (gave : outcome choice m ≡ scan at l) where
  pub settled_dropped : choice ≡ Settled p → outcome (Ok tt) (remove_at m p) ≡ make_room at forget l
  unfolding make_room drop_chosen
  settled_dropped is = rw (← gave, is)

  pub soonest_dropped : choice ≡ Soonest p → forget ≡ true → outcome (Ok tt) (remove_at m p) ≡ make_room at forget l
  unfolding make_room drop_chosen
  soonest_dropped is may = rw (← gave, is, may)

  pub soonest_kept : choice ≡ Soonest p → forget ≡ false → outcome (no_room (record { 0 = (settling_at m p).0 - at.0 })) m ≡ make_room at forget l
  unfolding make_room drop_chosen
  soonest_kept is may = rw (← gave, is, may)

-- Recording: the hash is there; it is not; and then there is room, or room was made, or not.
module _ (l : Ledger) (d : Debt) (at : Nanos) (forget : Bool) where
  pub recorded_existing : {place : Option ℕ} {p : ℕ} → place ≡ place_of l d.hash → place ≡ Some p
      → outcome (Ok tt) (with_debt l p (later (debt_at l p) d.settles)) ≡ recorded l d at forget
  unfolding recorded recorded_at
  recorded_existing gave is = rw (← gave, is)

  pub recorded_new : {place : Option ℕ} → place ≡ place_of l d.hash → place ≡ None → recorded_at l d at forget None ≡ recorded l d at forget
  unfolding recorded
  recorded_new gave is = rw (← gave, is)

  pub recorded_free : l.debts.count < cap_of l → outcome (Ok tt) (append l d) ≡ recorded_at l d at forget None
  unfolding recorded_at
  recorded_free free = rw (lt-ltb _ _ free)

  pub recorded_full : {m : Ledger} {r known : Recorded} → cap_of l ≤ l.debts.count → outcome r m ≡ make_room at forget l → r ≡ known
      → joined d m known ≡ recorded_at l d at forget None
  unfolding recorded_at
  recorded_full full made is = rw (le-ltb _ _ full, ← made, is)

-- Words that are lent have room for cap debts, and a debt that is held stands below the cap. Where there is a debt the cursor, as
-- it is read, stands at one, and the sooner of two that are held is held.
pub intact_cap : {cap : ℕ} {ws : List ℕ} → Intact cap ws → cap_of (ledger cap ws) ≡ cap
intact_cap {cap} {ws} intact = cap_is cap ws

pub intact_below : {cap : ℕ} {ws : List ℕ} {i : ℕ} → Intact cap ws → i < (ledger cap ws).debts.count → i < cap
intact_below intact below = omega (arith, intact.sound.count_fits, intact_cap intact)

pub intact_cursor : {cap c : ℕ} {ws : List ℕ} → Intact cap ws → 0 < (ledger cap ws).debts.count → c ≡ cursor_of (ledger cap ws)
    → (c < (ledger cap ws).debts.count) × (c < cap)
intact_cursor {cap} {c} {ws} intact some is =
    let below : c < (ledger cap ws).debts.count = rw is (cursor_below (ledger cap ws) some) in (below, intact_below intact below)

pub intact_sooner : {cap : ℕ} {ws : List ℕ} {best c : ℕ} → Intact cap ws → best < (ledger cap ws).debts.count → c < (ledger cap ws).debts.count
    → sooner (ledger cap ws) best c < (ledger cap ws).debts.count
intact_sooner {cap} {ws} {best} {c} intact b d = sooner_is_either (ledger cap ws) best c (λ p. p < (ledger cap ws).debts.count) b d

-- In words that are lent, a place that lookup gives holds a debt.
module _ {cap : ℕ} {ws : List ℕ} (hash : ℕ) {place : Option ℕ} {p : ℕ} (intact : Intact cap ws)
    (gave : place ≡ place_of (ledger cap ws) hash) (is : place ≡ Some p) where
  pub found_held : p < (ledger cap ws).debts.count
  found_held = (found_owes (ledger cap ws) hash p (sym gave ∙ is)).below

  pub found_below : p < cap
  found_below = intact_below intact found_held

-- Words stay lent while their length is kept and their ledger is sound. After a call that is so by what the call gave (the ledger alone, or an
-- answer with it) and by what its operation keeps.
module _ {cap : ℕ} {ws ws' : List ℕ} (intact : Intact cap ws) (same : length ws' ≡ length ws) where
  pub intact_after : {l : Ledger} → ledger cap ws' ≡ l → Sound l → Intact cap ws'
  intact_after gave s = record { size = rw same intact.size; sound = rw gave s }

  pub intact_after_answer : {A : Type 0} {a : A} {o : Outcome A Ledger} → outcome a (ledger cap ws') ≡ o → Sound o.after → Intact cap ws'
  intact_after_answer gave s = intact_after (after_is gave) s

-- The sweep by its looks, for its loop.
pub sweep_by_looks : (cap : ℕ) (at : Nanos) → ByLooks (Intact cap) (ledger cap) (sweep at) (look at) (λ l. l.debts.count)
unfolding sweep look Round.sweep
sweep_by_looks cap at = record {
  none_left = λ l. refl;
  one_more = λ n l. refl;
  no_item = λ l none. ap (with_round l) (look_none debt_items (settled_by at) (round_of l) none);
  stay_lent = λ {ws} intact same looked. intact_after intact same looked (look_sound at (ledger cap ws) intact.sound);
}

-- After a scan the words are still lent, and the place that it chose holds a debt.
pub record AfterScan (cap : ℕ) (ws : List ℕ) (choice : Choice) : Type 0 where
  pub intact : Intact cap ws
  pub chosen_below : chosen choice < (ledger cap ws).debts.count

pub after_scan : {cap : ℕ} {ws ws' : List ℕ} {choice : Choice} (at : Nanos) → Intact cap ws → 0 < (ledger cap ws).debts.count → length ws' ≡ length ws
    → outcome choice (ledger cap ws') ≡ scan at (ledger cap ws) → AfterScan cap ws' choice
after_scan {cap} {ws} at intact some same gave = record {
  intact = intact_after_answer intact same gave (scan_sound at (ledger cap ws) some intact.sound);
  chosen_below = rw (answer_is gave, after_is gave) (scan_chooses_held at (ledger cap ws) some);
}

pub choice_held : {cap : ℕ} {ws : List ℕ} {choice known : Choice} → AfterScan cap ws choice → choice ≡ known
    → chosen known < (ledger cap ws).debts.count
choice_held after is = rw is at after.chosen_below

-- After room was made the words are still lent, and there is room for a debt.
pub after_make_room : {cap : ℕ} {ws ws' : List ℕ} {r : Recorded} (at : Nanos) (forget : Bool) → Intact cap ws → 0 < (ledger cap ws).debts.count
    → length ws' ≡ length ws
    → outcome r (ledger cap ws') ≡ make_room at forget (ledger cap ws) → r ≡ Ok tt → Intact cap ws' × ((ledger cap ws').debts.count < cap)
after_make_room {cap} {ws} {ws'} at forget intact some same gave done =
    let free = make_room_makes_room (ledger cap ws) at forget some intact.sound (sym (answer_is gave) ∙ done) in
    let free' : (ledger cap ws').debts.count < cap_of (ledger cap ws') = rw (after_is gave) free in
    (intact_after_answer intact same gave (make_room_sound (ledger cap ws) at forget some intact.sound), omega (arith, free', cap_is cap ws'))
