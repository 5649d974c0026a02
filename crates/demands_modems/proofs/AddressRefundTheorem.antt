-- The window with refunds for addresses: of the rules, of every limiter that meets demand 2, of code as the contracts tell, and of the exports. In accepted
-- calls an address has the bytes k exactly where it has the identity of k, and a refused call counts nothing. So all sums are those of the identity.
use Prim.Native.Nat.{ℕ}
use mathlib.Core.Path.{◌≡◌, refl, sym, ap, subst, ◌∙◌}
use mathlib.Core.Bool.{Bool, true, false, ◌&&◌, true≢false}
use mathlib.Core.List.{List, [], ◌∷◌}
use native.Mathlib.Omega.{arith}
use contract.Lifetimes.{Lfts}
use lib.Dec.{eqb}
use lib.ListN.{length}
use borrow.Author.Tests.{eq-eqb, eqb-true}
use Rattle.arith.proofs.Cases.{by_test, by_eq}
use Rattle.rows.specs.Outcome.{Outcome}
use Rattle.settings.specs.declared.Settings.{Settings}
use Rattle.settings.specs.declared.rate.Rate.{Rate}
use Rattle.rules.specs.declared.Reply.{Reply}
use Rattle.rules.specs.declared.Reply.TheVariants.{Refused}
use Rattle.rules.specs.Asks.{Ask, requests, looks, undoes, passes, refunds, removes}
use Rattle.rules.specs.Widths.{settings_fit}
use Rattle.rules.specs.Calls.{Call, keyed, whole, Terms, Answered, rules, replies, accepted, fits, Every}
use Rattle.rules.proofs.CallLaws.{refusal_of, unaccepted_refused}
use Rattle.modems.specs.Address.{address_bytes, are_bytes, identity_of, hash_of, key_of}
use Rattle.modems.specs.Names.{Name, named_in}
use Rattle.modems.proofs.KeyLaws.{equal_keys_have_equal_addresses}
use Rattle.limiter.specs.Exported as Exported
use Rattle.demands.specs.Demands.{table_words, Limiter, set_up_by, settings_by, answering, Demand2}
use Rattle.demands.specs.CodeContracts.{Contracts}
use Rattle.demands.specs.Exports.{Exports, numbers_fit, called, ExportContracts}
use Rattle.demands.specs.Refunds.{reserves_it, removes_it, ask_called, ask_refunded, tokens_counted, of_named, called_of, refunded_of, WithinRefunds, named}
use Rattle.demands.specs.Refunds.{FairTo}
use Rattle.demands.specs.Refunds.{WithinRefundWindow}
use Rattle.demands.proofs.EveryLaws.{every_implies}
use Rattle.demands.proofs.WidthLaws.{both_true}
use Rattle.demands.proofs.NameLaws.{addresses_fit}
use Rattle.demands.proofs.RefundTheorem.{CountAlike, same_tokens, within_alike, rules_stay_within_the_refund_window, as_the_rules}
use Rattle.demands.proofs.CodeTheorem.{contracts_meet_demand2}
use Rattle.demands.proofs.ExportTheorem.{callers_have_demand2}
use Rattle.demands_modems.specs.AddressDemands.{same_bytes, addressed}
use Rattle.demands_modems.specs.AddressRefunds.{WithinAddressRefundWindow, AddressRefundWindow}
use Rattle.demands_modems.proofs.AddressLaws.{IsAddress, same_bytes_are_equal, grant_of_nothing, Kept, rules_keep, no_shared_hash, accepted_is_address}
use Rattle.demands_modems.proofs.Theorem.{on_addresses, named_demand2_gives_demand2}

-- An address has its own bytes.
same_as_itself : (bytes : List ℕ) → same_bytes bytes bytes ≡ true
same_as_itself [] = refl
same_as_itself (x ∷ bytes) = rw (eq-eqb x x refl, same_as_itself bytes)

-- A call that is refused counts nothing, whatever its name.
called_refused : (t u : ℕ) (own : Bool) (ask : Ask) (n : ℕ) → ask_called own t u ask (Refused n) ≡ 0
called_refused t u own (requests r at cost) n = refl
called_refused t u own (looks l) n = refl
called_refused t u own (undoes undo) n = refl
called_refused t u own (passes table class at cost) n = refl

refunded_refused : (own : Bool) (ask : Ask) (n : ℕ) → ask_refunded own ask (Refused n) ≡ 0
refunded_refused own (requests r at cost) n = refl
refunded_refused own (looks l) n = refl
refunded_refused true (undoes (refunds cost)) n = refl
refunded_refused false (undoes (refunds cost)) n = refl
refunded_refused own (undoes removes) n = refl
refunded_refused own (passes table class at cost) n = refl

-- Where no name counts, nothing does.
no_name_no_tokens : {S : Type 0} (t u : ℕ) (answered : List (Answered S (List ℕ))) → tokens_counted (called_of (λ bytes. false) t u) answered ≡ 0
unfolding tokens_counted
no_name_no_tokens t u [] = refl
no_name_no_tokens {S} t u (a ∷ rest) = omega (arith, nothing a.call, no_name_no_tokens t u rest)
  where
    nothing : (c : Call S (List ℕ)) → of_named (λ bytes ask. ask_called false t u ask a.reply) 0 c ≡ 0
    nothing (keyed s bytes (requests r at cost)) = grant_of_nothing a.reply
    nothing (keyed s bytes (looks l)) = refl
    nothing (keyed s bytes (undoes undo)) = refl
    nothing (keyed s bytes (passes table class at cost)) = grant_of_nothing a.reply
    nothing (whole s what) = refl

module _ {S : Type 0} (means : S → Settings) (fit : S → Bool) where
  abbrev terms : Terms S (List ℕ)
  terms = addressed means fit

  -- Two ways to say which names count, alike for addresses. The names of accepted calls are addresses, so both count alike.
  module _ (which other : List ℕ → Bool) (same : (bytes : List ℕ) → IsAddress bytes → which bytes ≡ other bytes) where
    taken_alike : {A : Type 0} (f : Bool → Ask → A) (none : A) (c : Call S (List ℕ)) (reply : Reply) (ws : List ℕ) → fits terms c ≡ true
        → accepted terms (record { call = c; reply = reply; rules_words = ws }) ≡ true
        → of_named (λ bytes. f (which bytes)) none c ≡ of_named (λ bytes. f (other bytes)) none c
    taken_alike f none (keyed s bytes ask) reply ws fits' taken =
        ap (λ (own : Bool). f own ask) (same bytes (accepted_is_address means fit s bytes ask reply ws fits' taken))
    taken_alike f none (whole s what) reply ws fits' taken = refl

    never_alike : (test : Ask → Bool) (answered : List (Answered S (List ℕ))) → Every (Kept means fit) answered
        → Every (λ a. accepted terms a ≡ true → of_named (λ bytes ask. test ask && which bytes) false a.call ≡ false) answered
        → Every (λ a. accepted terms a ≡ true → of_named (λ bytes ask. test ask && other bytes) false a.call ≡ false) answered
    never_alike test [] kept never = tt
    never_alike test (a ∷ rest) kept never = (
      λ taken.
          sym (taken_alike (λ own ask. test ask && own) false a.call a.reply a.rules_words kept.0.fitting taken) ∙ never.0 taken,
      never_alike test rest kept.1 never.1,
    )

    module _ (count : Bool → Ask → Reply → ℕ) (refused : (own : Bool) (ask : Ask) (n : ℕ) → count own ask (Refused n) ≡ 0) where
      abbrev counted : (List ℕ → Bool) → Call S (List ℕ) → Reply → ℕ
      counted names c reply = of_named (λ bytes ask. count (names bytes) ask reply) 0 c

      refused_alike : (c : Call S (List ℕ)) (n : ℕ) → counted which c (Refused n) ≡ counted other c (Refused n)
      refused_alike (keyed s bytes ask) n = refused (which bytes) ask n ∙ sym (refused (other bytes) ask n)
      refused_alike (whole s what) n = refl

      call_alike : (a : Answered S (List ℕ)) → Kept means fit a → counted which a.call a.reply ≡ counted other a.call a.reply
      call_alike a kept =
          by_test (accepted terms a)
          (λ taken. taken_alike (λ own ask. count own ask a.reply) 0 a.call a.reply a.rules_words kept.fitting taken)
          (λ not.
          let told = kept.ruled ∙ ap (λ (o : Outcome Reply (List ℕ)). o.answer) (unaccepted_refused terms a not) in
          subst (λ (reply : Reply). counted which a.call reply ≡ counted other a.call reply) (sym told)
          (refused_alike a.call (refusal_of terms a.call a.rules_words)))

      pub counts_alike : (answered : List (Answered S (List ℕ))) → Every (Kept means fit) answered
          → CountAlike (λ a. counted which a.call a.reply) (λ a. counted other a.call a.reply) answered
      counts_alike answered kept = every_implies _ _ call_alike answered kept

  -- An address has the bytes k exactly where it has the identity of k; and no address has bytes that are no address.
  module _ (k : List ℕ) where
    abbrev own : List ℕ → Bool
    own bytes = same_bytes bytes k

    abbrev its : List ℕ → Bool
    its = named terms (identity_of k)

    own_is_its : IsAddress k → (bytes : List ℕ) → IsAddress bytes → own bytes ≡ its bytes
    own_is_its is_Address bytes named' =
        by_test (same_bytes bytes k)
        (λ same.
        let is = same_bytes_are_equal bytes k same in
        rw (same, ap hash_of is, ap key_of is, eq-eqb (hash_of k) (hash_of k) refl, eq-eqb (key_of k) (key_of k) refl))
        (λ other. by_test (its bytes)
        (λ yes.
        let keys = eqb-true (key_of bytes) (key_of k) (both_true (eqb (hash_of bytes) (hash_of k)) (eqb (key_of bytes) (key_of k)) yes).1 in
        let is = equal_keys_have_equal_addresses bytes k named'.1 is_Address.1 named'.0 is_Address.0 keys in
        absurd (true≢false (sym (rw is (same_as_itself k)) ∙ other)))
        (λ no. other ∙ sym no))

    no_address_is_no_name : (IsAddress k → ⊥) → (bytes : List ℕ) → IsAddress bytes → own bytes ≡ false
    no_address_is_no_name no_address bytes named' =
        by_test (same_bytes bytes k) (λ same. absurd (no_address (rw (same_bytes_are_equal bytes k same) at named'))) (λ other. other)

  -- A list that stays within the window with refunds for identities does so for addresses.
  within_for_addresses : (s : Settings) (rate : Rate) (answered : List (Answered S (List ℕ))) → Every (Kept means fit) answered
      → WithinRefundWindow terms refunded_of s rate answered → WithinAddressRefundWindow means fit s rate answered
  within_for_addresses s rate answered kept below same rising apart k not_removed not_reserved t u le =
      by_eq (length k) address_bytes
      (λ six. by_test (are_bytes k) (λ bytes. of_an_address (six, bytes)) (λ no_bytes. of_none (λ is. true≢false (sym is.1 ∙ no_bytes))))
      (λ other. of_none (λ is. other is.0))
    where
      of_an_address : IsAddress k → WithinRefunds rate (refunded_of (own k)) (called_of (own k) t u) t u answered
      of_an_address is_Address =
          let there = own_is_its k is_Address in
          let back : (bytes : List ℕ) → IsAddress bytes → its k bytes ≡ own k bytes = λ bytes named'. sym (there bytes named') in
          let fair : FairTo terms s (identity_of k) answered = record {
            same_settings = same;
            rising = rising;
            apart = no_shared_hash means fit answered apart;
            not_removed = never_alike (own k) (its k) there removes_it answered kept not_removed;
          } in
          within_alike rate (refunded_of (its k)) (refunded_of (own k)) (called_of (its k) t u) (called_of (own k) t u) t u answered
          (counts_alike (its k) (own k) back ask_refunded refunded_refused answered kept)
          (counts_alike (its k) (own k) back (λ own. ask_called own t u) (called_refused t u) answered kept)
          (below (identity_of k) fair (never_alike (own k) (its k) there reserves_it answered kept not_reserved) t u le)

      of_none : (IsAddress k → ⊥) → WithinRefunds rate (refunded_of (own k)) (called_of (own k) t u) t u answered
      of_none no_address =
          let alike =
          counts_alike (own k) (λ bytes. false) (no_address_is_no_name k no_address) (λ own. ask_called own t u) (called_refused t u) answered kept in
          rw (same_tokens (called_of (own k) t u) (called_of (λ bytes. false) t u) answered alike, no_name_no_tokens t u answered) (omega arith)

  pub rules_keep_the_address_refund_window : AddressRefundWindow means fit (answering terms (rules terms))
  rules_keep_the_address_refund_window table s rate ws _ _ _ rated refuses done' cs fits' =
      let settings = settings_by terms table s in
      let fresh = (set_up_by terms table s ws).after in
      within_for_addresses settings rate (replies terms (rules terms) cs fresh fresh) (rules_keep means fit cs fresh fits')
      (rules_stay_within_the_refund_window terms settings rate (table_words table) ws rated refuses done' cs)

  -- So does every limiter that meets demand 2, and one for calls by key and by address.
  pub demand2_keeps_the_address_refund_window : (l : Limiter S (List ℕ)) → Demand2 terms l → AddressRefundWindow means fit l
  demand2_keeps_the_address_refund_window l equal =
      as_the_rules terms (addresses_fit means fit) l equal (WithinAddressRefundWindow means fit) rules_keep_the_address_refund_window

  pub named_demand2_keeps_the_address_refund_window : (l : Limiter S Name) → Demand2 (named_in means fit) l
      → AddressRefundWindow means fit (on_addresses means fit l)
  named_demand2_keeps_the_address_refund_window l equal =
      demand2_keeps_the_address_refund_window (on_addresses means fit l) (named_demand2_gives_demand2 means fit l equal)

module _ (κs : Lfts 1) (κs₂ : Lfts 2) (ptr other_ptr : ℕ × ℕ) (name : ℕ) where
  -- Code as the contracts tell.
  pub contracts_keep_the_address_refund_window : (l : Limiter Settings Name) → Contracts κs κs₂ ptr other_ptr name l
      → AddressRefundWindow (λ s. s) settings_fit (on_addresses (λ s. s) settings_fit l)
  contracts_keep_the_address_refund_window l c =
      named_demand2_keeps_the_address_refund_window (λ s. s) settings_fit l (contracts_meet_demand2 κs κs₂ ptr other_ptr name l c)

  -- The exports that C and Rust call.
  pub exports_keep_the_address_refund_window : (e : Exports) → ExportContracts κs κs₂ ptr other_ptr name e
      → AddressRefundWindow Exported.settings_of numbers_fit (on_addresses Exported.settings_of numbers_fit (called e))
  exports_keep_the_address_refund_window e c =
      named_demand2_keeps_the_address_refund_window Exported.settings_of numbers_fit (called e)
      (callers_have_demand2 κs κs₂ ptr other_ptr name e c)
