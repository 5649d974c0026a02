-- How replies are told, how many words the store is lent, and how the run stands after line 1.
use Prim.Native.Nat.{ℕ, ◌-◌, ◌≤◌, ◌<◌, min}
use native.Mathlib.Omega.{arith}
use native.Mathlib.Nat.{min-le_right}
use mathlib.Core.Path.{◌≡◌, subst, sym, ap, ◌∙◌}
use mathlib.Core.Bool.{Bool, true, false, cond}
use mathlib.Core.List.{List, ◌++◌}
use lib.Dec.{eqb}
use lib.ListN.{length, take, drop, length-take}
use borrow.Author.Tests.{eq-eqb, ne_eqb}
use borrow.Rule.Slice.PartMut.{put_mid}
use Rattle.rows.specs.Outcome.{Outcome, outcome}
use Rattle.settings.specs.declared.Settings.{Settings}
use Rattle.settings.specs.Settings.{settings_refusal, size_refusal, with_classes}
use Rattle.settings.proofs.SettingsLaws.{no_refusal_hands_on}
use Rattle.store.specs.Refusals.{set_up_refusal}
use Rattle.store.proofs.RefusalLaws.{other_length_is_refused}
use Rattle.rules.proofs.RefusedLaws.{set_up_refusal_is_told}
use Rattle.rules.specs.declared.Reply.{Reply}
use Rattle.rules.specs.Replies as Replies
use Rattle.rules.specs.declared.codes.Told.{Told}
use Rattle.desk_answers.specs.declared.Stage.{Stage}
use Rattle.desk_answers.specs.declared.Stage.TheVariants.{Open, Ended}
use Rattle.desk_answers.specs.Desk.{store_size, stage_after, in_store, set_up, served_first, served_next}
use Rattle.store.specs.Memory.{memory_words}

none_fits : (b : Bool) {n words : ℕ} → n ≤ words → cond b n 0 ≤ words
none_fits true fits = fits
none_fits false fits = omega arith

module _ (s : Settings) where
  pub no_size : (words : ℕ) → (size_refusal s ≡ 0 → ⊥) → 0 ≡ store_size s words
  unfolding store_size
  no_size words refused = rw (ne_eqb _ _ refused)

  pub size_is : (words : ℕ) → size_refusal s ≡ 0 → min (memory_words s) words ≡ store_size s words
  unfolding store_size
  size_is words accepted = rw (eq-eqb _ _ accepted)

  pub opens : (code : ℕ) → code ≡ 0 → Open s ≡ stage_after s code
  unfolding stage_after
  opens code accepted = rw (eq-eqb _ _ accepted)

  pub ends : (code : ℕ) → (code ≡ 0 → ⊥) → Ended code ≡ stage_after s code
  unfolding stage_after
  ends code refused = rw (ne_eqb _ _ refused)

  -- The store is lent no more than there is.
  pub size_fits : (words : ℕ) → store_size s words ≤ words
  unfolding store_size
  size_fits words = none_fits (eqb (size_refusal s) 0) (min-le_right (memory_words s) words)

-- Other words have come back in the place of the store's, with an answer: that is the call on the store.
pub lent_answered : {A : Type 0} {a : A} {size : ℕ} (s : Settings) (memory ys : List ℕ) (call : List ℕ → Outcome A (List ℕ))
    → size ≡ store_size s (length memory)
    → outcome a ys ≡ call (take (size - 0) memory) → outcome a (put_mid 0 (size - 0) memory ys) ≡ in_store s call memory
lent_answered {size = size} s memory ys call is gave =
    let whole : size - 0 ≡ store_size s (length memory) = omega (arith, is) in
    rw whole (ap (λ (o : Outcome _ (List ℕ)). outcome o.answer (o.after ++ drop (store_size s (length memory)) memory)) (rw whole at gave))

-- What a line was told, and how the run stands then: after the first line, and after another.
pub first_served : (s : Settings) {t : Told} {stage : Stage} {memory : List ℕ} {o : Outcome Told (List ℕ)} → outcome t memory ≡ o
    → stage ≡ stage_after s t.code
    → outcome (record { told = t; stage = stage }) memory ≡ served_first s o
first_served s gave is = rw is (ap (served_first s) gave)

pub next_served : (s : Settings) {t : Told} {memory : List ℕ} {o : Outcome Told (List ℕ)} → outcome t memory ≡ o
    → outcome (record { told = t; stage = Open s }) memory ≡ served_next s o
next_served s gave = ap (served_next s) gave

-- Settings that need more words than the memory has are refused as 5, and the run ends. The settings of a line have no classes.
pub too_large_is_refused_5 : (s : Settings) (memory : List ℕ) → s.classes ≡ 0 → settings_refusal s ≡ 0 → length memory < memory_words s
    → (set_up s memory).answer ≡ record { told = record { code = 15; number = 0; moment = 0 }; stage = Ended 15 }
too_large_is_refused_5 s memory unclassed accepted more =
    let size = store_size s (length memory) in
    let lent = take size memory in
    let other : length lent ≡ memory_words s → ⊥ = λ same. omega (arith, same, more, size_fits s (length memory), length-take size memory) in
    let refusal : 5 ≡ set_up_refusal s lent = sym (no_refusal_hands_on _ _ accepted ∙ other_length_is_refused (memory_words s) lent other) in
    let same : with_classes 0 s ≡ s = ap (λ (n : ℕ). with_classes n s) (sym unclassed) in
    let plain : 5 ≡ set_up_refusal (with_classes 0 s) lent = subst (λ (t : Settings). 5 ≡ set_up_refusal t lent) (sym same) refusal in
    sym (rw (ends s 15 (λ none. omega (arith, none)))
    (ap (λ (o : Outcome Reply (List ℕ)). (served_first s (Replies.told o)).answer) (set_up_refusal_is_told s lent plain (λ none. omega (arith, none)))))
