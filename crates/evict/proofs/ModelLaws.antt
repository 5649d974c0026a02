-- Laws of the eviction that its functions go by: one look is one step of the definition that counts the looks left; what a definition is in each case that
-- the code goes through; and that words which are lent stay so. What an eviction keeps is in CaseLaws.
use Rattle.std.proofs.Common.{Option, Some, None, Ok, Err}
use Prim.Native.Nat.{ℕ, suc, ◌-◌, ◌<◌, min}
use native.Mathlib.Omega.{arith}
use mathlib.Core.Path.{◌≡◌, refl, ap, sym, ◌∙◌}
use mathlib.Core.Bool.{Bool, true, false}
use mathlib.Core.List.{List}
use lib.ListN.{length}
use borrow.Author.Tests.{eq-eqb, ne_eqb}
use Rattle.units.specs.declared.Nanos.{Nanos}
use Rattle.settings.specs.Eviction.{clock_scan}
use Rattle.bucket.specs.declared.BucketConfig.{BucketConfig}
use Rattle.bucket.specs.declared.Due.{Due}
use Rattle.bucket.specs.Bucket.{Accepted, shortfall_at, due_after}
use Rattle.bucket.proofs.BucketLaws.{due_by_number}
use Rattle.rows.specs.Outcome.{Outcome, outcome}
use Rattle.rows.proofs.OutcomeLaws.{answer_is, after_is}
use Rattle.slot.specs.declared.Slot.{Slot}
use Rattle.slot.specs.Slot.{recovery}
use Rattle.ledger.specs.declared.Debt.{Debt}
use Rattle.ledger.specs.Model.{Recorded, no_room}
use Rattle.ledger.specs.code.Prepared.{Prepared}
use Rattle.ledger.specs.Model as Ledger
use Rattle.ledger.specs.code.Prepared.{prepared, written, finished, ReadyFor}
use Rattle.ledger.proofs.PreparedLaws.{prepared_ready, recorded_in_steps}
use Rattle.ledger.proofs.RecordLaws.{recorded_sound}
use Rattle.shard_map.specs.Model.{Shard, slot_at, with_ledger, in_ledger, hand_of}
use Rattle.shard_map.specs.Layout.{shard, Intact}
use Rattle.shard_map.proofs.StepLaws.{change_sound, ledger_sound}
use Rattle.shard_map.proofs.ModelLaws.{intact_after, intact_after_answer, StillLent}
use Rattle.evict.specs.declared.Awaited.{Awaited}
use Rattle.evict.specs.declared.Walk.{Walk}
use Rattle.evict.specs.declared.Victim.{Victim}
use Rattle.evict.specs.declared.Victim.TheVariants.{Free, Owing}
use Rattle.evict.specs.Evict.{Room, or_else, Notes, noted, looked, goes_at_once, walk_from, walked, victim_of, place_of_victim}
use Rattle.evict.specs.Evict.{evict_at, debt_left, refusal_wait, evict_victim, evicted}
use Rattle.evict.specs.code.Awaited.{awaiting, notes_of, new_walk, walk_noted}
use Rattle.evict.proofs.AwaitedLaws.{new_walk_notes_nothing, awaited_recovers_soonest}
use Rattle.evict.proofs.WalkLaws.{VictimIs, walk_kept, walk_chooses, remarked_sound}
use Rattle.evict.proofs.CaseLaws.{debt_recorded}

-- What a look of the walk notes: of a full slot, and of one that is not full, by its mark. The code has worked out the shortfall n, and what is awaited then.
module _ (c : BucketConfig) (at : Nanos) (w : Walk) (p : ℕ) (slot : Slot) {n : ℕ} (is : n ≡ shortfall_at c slot.bucket at) where
  pub noted_full : n ≡ 0 → record { full = or_else w.full (Some p); unmarked = w.unmarked; awaited = w.awaited } ≡ walk_noted c at w p slot
  unfolding noted
  noted_full full = rw (eq-eqb _ _ (sym is ∙ full))

  module _ (owing : n ≡ 0 → ⊥) {awaited : Awaited} (awaits : awaited ≡ awaiting c at w.awaited slot.bucket) where
    pub noted_unmarked : slot.mark ≡ 0 → record { full = w.full; unmarked = or_else w.unmarked (Some p); awaited = awaited } ≡ walk_noted c at w p slot
    unfolding noted
    noted_unmarked clear = rw (ne_eqb _ _ (rw is at owing), eq-eqb _ _ clear, awaits)

    pub noted_marked : (slot.mark ≡ 0 → ⊥) → record { full = w.full; unmarked = w.unmarked; awaited = awaited } ≡ walk_noted c at w p slot
    unfolding noted
    noted_marked set = rw (ne_eqb _ _ (rw is at owing), ne_eqb _ _ set, awaits)

-- The walk: its start, and its end where no look is left.
pub walk_start : (c : BucketConfig) (at : Nanos) (s : Shard) → walk_from c at (min clock_scan s.slots.count) s (notes_of c new_walk) ≡ walked c at s
unfolding walked
walk_start c at s = rw (new_walk_notes_nothing c)

pub walk_end : (c : BucketConfig) (at : Nanos) (left : ℕ) (s : Shard) (n : Notes) → left ≡ 0
    → walk_from c at left s n ≡ record { ended = None; notes = n; after = s }
unfolding walk_from
walk_end c at left s n none = rw none

-- A look at the place of the hand, as the code makes it: it gives the slot and leaves the shard t. The slot goes at once, or the walk goes on.
module _ (c : BucketConfig) (at : Nanos) (left : ℕ) (s : Shard) (w : Walk) {t : Shard} {pos : ℕ} {slot : Slot} {goes : Bool} (more : 0 < left)
    (there : pos ≡ hand_of s) (saw : outcome slot t ≡ outcome (slot_at s pos) (looked s pos)) (told : goes ≡ goes_at_once c at slot) where
  abbrev n : Notes
  n = notes_of c w

  pub walk_ends_at_once : goes ≡ true → walk_from c at left s n ≡ record { ended = Some pos; notes = n; after = t }
  unfolding walk_from
  walk_ends_at_once so =
      let e : left ≡ suc (left - 1) = omega arith in
      let test : goes_at_once c at (slot_at s (hand_of s)) ≡ true = rw (answer_is saw, there) at (sym told ∙ so) in
      rw (after_is saw, there) (ap (λ (k : ℕ). walk_from c at k s n) e ∙ rw (walk_from, test))

  pub walk_turn : Accepted c → goes ≡ false → {v : Walk} → v ≡ walk_noted c at w pos slot → walk_from c at left s n ≡ walk_from c at (left - 1) t (notes_of c v)
  unfolding walk_from
  walk_turn a not noting =
      let e : left ≡ suc (left - 1) = omega arith in
      let test : goes_at_once c at (slot_at s (hand_of s)) ≡ false = rw (answer_is saw, there) at (sym told ∙ not) in
      rw (noting, awaited_recovers_soonest a at w pos slot, after_is saw, answer_is saw, there) (ap (λ (k : ℕ). walk_from c at k s n) e ∙ rw (walk_from, test))

-- After a look of the walk, and after a debt is recorded, the words are still lent, and hold as many slots as before.
module _ {cap : ℕ} {ws ws' : List ℕ} (intact : Intact cap ws) (same : length ws' ≡ length ws) where
  pub after_look : {a slot : Slot} (pos : ℕ) → outcome a (shard cap ws') ≡ outcome slot (looked (shard cap ws) pos) → StillLent cap ws ws'
  after_look pos gave =
      let cleared = change_sound (shard cap ws) pos _ intact.sound in
      record {
        intact = intact_after_answer intact same gave (record { room = cleared.room; count_fits = cleared.count_fits; ledger = cleared.ledger });
        count = ap (λ s. s.slots.count) (after_is gave);
      }

  pub after_record : {r : Recorded} (d : Debt) (at : Nanos) (forget : Bool)
      → outcome r (shard cap ws') ≡ in_ledger (shard cap ws) (Ledger.recorded (shard cap ws).ledger d at forget) → StillLent cap ws ws'
  after_record d at forget gave = record {
    intact = intact_after_answer intact same gave
        (ledger_sound (shard cap ws) _ intact.sound (recorded_sound (shard cap ws).ledger d at forget intact.sound.ledger));
    count = ap (λ s. s.slots.count) (after_is gave);
  }

-- The same once the ledger is ready for a debt, and then the debt can be written.
pub record Prepares (cap : ℕ) (ws ws' : List ℕ) (r : Prepared) : Type 0 where
  pub lent : StillLent cap ws ws'
  pub ready : ReadyFor (shard cap ws').ledger r

pub after_prepare : {cap : ℕ} {ws ws' : List ℕ} {r : Prepared} (hash : ℕ) (at : Nanos) (forget : Bool) → Intact cap ws → length ws' ≡ length ws
    → outcome r (shard cap ws') ≡ in_ledger (shard cap ws) (prepared (shard cap ws).ledger hash at forget) → Prepares cap ws ws' r
after_prepare {cap} {ws} hash at forget intact same gave =
    let is = prepared_ready (shard cap ws).ledger at forget intact.sound.ledger hash in
    record {
      lent = record {
        intact = intact_after_answer intact same gave (ledger_sound (shard cap ws) _ intact.sound is.0);
        count = ap (λ s. s.slots.count) (after_is gave);
      };
      ready = rw (answer_is gave, after_is gave) is.1;
    }

pub may_be_written : {cap : ℕ} {ws ws' : List ℕ} {r known : Prepared} → Prepares cap ws ws' r → r ≡ known → ReadyFor (shard cap ws').ledger known
may_be_written after is = rw is at after.ready

-- A debt that is written once the ledger is ready for it is recorded; and one that the ledger has no room for is not.
module _ (s : Shard) (d : Debt) (at : Nanos) (forget : Bool) {t : Shard} {r : Prepared}
    (gave : outcome r t ≡ in_ledger s (prepared s.ledger d.hash at forget)) where
  in_steps : {known : Prepared} → r ≡ known → finished d t.ledger known ≡ Ledger.recorded s.ledger d at forget
  in_steps is = recorded_in_steps s.ledger d at forget (ap (λ o. outcome o.answer o.after.ledger) gave) is

  pub written_is_recorded : {place : Option ℕ} {u : Shard} → r ≡ Ok place → u ≡ with_ledger t (written t.ledger place d)
      → outcome (Ok tt) u ≡ in_ledger s (Ledger.recorded s.ledger d at forget)
  written_is_recorded is wrote = rw (wrote, after_is gave) (ap (in_ledger s) (rw (after_is gave) at (in_steps is)))

  full_is_not_recorded : {wait : Nanos} → r ≡ Err (record { wait = wait }) → outcome (no_room wait) t ≡ in_ledger s (Ledger.recorded s.ledger d at forget)
  full_is_not_recorded is = rw (after_is gave) (ap (in_ledger s) (rw (after_is gave) at (in_steps is)))

-- So with the debt of the slot at p, which the code has read.
pub debt_not_recorded : (c : BucketConfig) (at : Nanos) (forget : Bool) (p : ℕ) (s : Shard) {t : Shard} {r : Prepared} {slot : Slot} {wait : Nanos}
    → slot ≡ slot_at s p → outcome r t ≡ in_ledger s (prepared s.ledger slot.hash at forget) → r ≡ Err (record { wait = wait })
    → outcome (no_room wait) t ≡ in_ledger s (debt_recorded c at forget s p)
debt_not_recorded c at forget p s read gave is = full_is_not_recorded s (debt_left c at (slot_at s p)) at forget (rw read at gave) is

-- After the walk the words are still lent, and the victim is held.
pub record AfterWalk (cap : ℕ) (ws : List ℕ) (v : Victim) : Type 0 where
  pub intact : Intact cap ws
  pub held : place_of_victim v < (shard cap ws).slots.count

victim_held : (c : BucketConfig) (at : Nanos) (s : Shard) (v : Victim) → VictimIs c at s v → place_of_victim v < s.slots.count
victim_held c at s (Free p) full = full.below
victim_held c at s (Owing p) below = below

pub after_walk : (c : BucketConfig) (at : Nanos) {cap : ℕ} {ws ws' : List ℕ} {ended : Option ℕ} {n : Notes} → Intact cap ws → 0 < (shard cap ws).slots.count
    → length ws' ≡ length ws → walked c at (shard cap ws) ≡ record { ended = ended; notes = n; after = shard cap ws' }
    → AfterWalk cap ws' (victim_of ended n.full n.unmarked (hand_of (shard cap ws)))
after_walk c at {cap} {ws} {ws'} {ended} {n} intact some same is =
    let kept = rw is at (walk_kept c at (shard cap ws) intact.sound some) in
    record {
      intact = intact_after intact same refl (remarked_sound (shard cap ws) (shard cap ws') kept.same intact.sound);
      held = victim_held c at (shard cap ws') (victim_of ended n.full n.unmarked (hand_of (shard cap ws)))
          (rw is at (walk_chooses c at (shard cap ws) intact.sound some));
    }

-- An eviction is the walk, the choice of the victim, and what happens to the victim.
pub evicted_in_steps : (c : BucketConfig) (at : Nanos) (forget : Bool) (s : Shard) {ended : Option ℕ} {n : Notes} {t : Shard} {first : ℕ} {v : Victim}
    {o : Outcome Room Shard} → walked c at s ≡ record { ended = ended; notes = n; after = t } → first ≡ hand_of s
    → v ≡ victim_of ended n.full n.unmarked first → o ≡ evict_victim c at forget t n.soonest v → o ≡ evicted c at forget s
unfolding evicted
evicted_in_steps c at forget s is hand chosen gave = rw (is, ← hand, ← chosen) gave

-- The code makes the debt of the slot at p of the slot that it read and of when it is due to be full, by the recovery that it worked out.
pub debt_recorded_lem : (c : BucketConfig) (at : Nanos) (forget : Bool) (p : ℕ) (s : Shard) {t : Shard} {r : Recorded} {slot : Slot} {takes : Nanos}
    {full : Due}
    → slot ≡ slot_at s p → takes.0 ≡ recovery c slot at → full ≡ due_after at takes
    → outcome r t ≡ in_ledger s (Ledger.recorded s.ledger (record { hash = slot.hash; settles = full.moment }) at forget)
    → outcome r t ≡ in_ledger s (debt_recorded c at forget s p)
debt_recorded_lem c at forget p s read takes due gave = rw (due ∙ due_by_number at _ takes, read) at gave

-- The eviction of a slot that owes, once its debt is recorded, or is not.
module _ (c : BucketConfig) (at : Nanos) (forget : Bool) (p soonest : ℕ) (s : Shard) {r : Recorded} {t : Shard}
    (gave : outcome r t ≡ in_ledger s (debt_recorded c at forget s p)) where
  pub owing_goes_out : r ≡ Ok tt → outcome (Ok tt) (evict_at t p) ≡ evict_victim c at forget s soonest (Owing p)
  owing_goes_out is = rw (after_is gave, sym (answer_is gave) ∙ is)

  pub owing_stays : {wait : Nanos} → r ≡ no_room wait
      → outcome (Err (due_after at (refusal_wait soonest wait))) t ≡ evict_victim c at forget s soonest (Owing p)
  owing_stays is = rw (after_is gave, sym (answer_is gave) ∙ is)
