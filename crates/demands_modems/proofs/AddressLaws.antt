-- The conditions of the window for addresses give those for identities, of the same list; and the tokens that it counts for an address are among those of its
-- identity. What is no address is granted none.
use Prim.Native.Nat.{ℕ, ◌≤◌}
use mathlib.Core.Path.{◌≡◌, refl, ap, ◌∙◌}
use mathlib.Core.Bool.{Bool, true, false, false≢true}
use mathlib.Core.List.{List, [], ◌∷◌}
use lib.Dec.{eqb}
use lib.ListN.{length}
use native.Mathlib.Omega.{arith}
use borrow.Author.Tests.{eq-eqb, eqb-true}
use Rattle.arith.proofs.Cases.{by_test}
use Rattle.rows.specs.Outcome.{Outcome}
use Rattle.settings.specs.declared.Settings.{Settings}
use Rattle.settings.specs.declared.decision.Decision.TheVariants.{Acquired, Retry, Impossible}
use Rattle.shard.specs.declared.Identity.{Identity}
use Rattle.rules.specs.declared.Reply.{Reply}
use Rattle.rules.specs.declared.Reply.TheVariants.{Tried, Reserved, Nothing, Done, Count, Refused}
use Rattle.rules.specs.Replies.{of_grant}
use Rattle.rules.specs.Asks.{Ask, requests, looks, undoes, passes, as_try, manner_of}
use Rattle.rules.specs.Calls as Calls
use Rattle.rules.specs.Calls.{Call, keyed, whole, Answered, rules, replies, accepted, fits, all_fit, Every}
use Rattle.rules.proofs.CallLaws.{refusal_of, keyed_not_refused, accepted_not_refused, unaccepted_refused}
use Rattle.modems.specs.Address.{address_bytes, are_bytes, identity_of, hash_of, key_of, address_refusal}
use Rattle.modems.proofs.AddressLaws.{not_refused_is_six_bytes}
use Rattle.modems.proofs.KeyLaws.{equal_keys_have_equal_addresses}
use Rattle.demands.specs.Demands as Demands
use Rattle.demands.proofs.EveryLaws.{every_implies}
use Rattle.demands.proofs.WidthLaws.{both_true, name_of_call_fits}
use Rattle.demands.proofs.NameLaws.{bytes_of_lendable}
use Rattle.demands_modems.specs.AddressDemands.{same_bytes, usable, ask_tokens, tokens_of, tokens_usable, OfAddress, OfUndone, addressed, Agree, NoSharedHash}
use Rattle.demands_modems.specs.AddressDemands.{NeverRefundedOrRemoved}

-- Six bytes.
abbrev pub IsAddress : List ℕ → Type 0
IsAddress k = (length k ≡ address_bytes) × (are_bytes k ≡ true)

-- The same bytes are equal lists.
pub same_bytes_are_equal : (a b : List ℕ) → same_bytes a b ≡ true → a ≡ b
same_bytes_are_equal [] [] = λ same. refl
same_bytes_are_equal [] (y ∷ b) = λ same. absurd (false≢true same)
same_bytes_are_equal (x ∷ a) [] = λ same. absurd (false≢true same)
same_bytes_are_equal (x ∷ a) (y ∷ b) = λ same.
    let both = both_true (eqb x y) (same_bytes a b) same in
    rw (eqb-true x y both.0, same_bytes_are_equal a b both.1)

-- What is at most as much for every wait is at most as much for every reply; and what is nothing for every wait is nothing.
grant_le : (f g : ℕ → ℕ) → ((wait : ℕ) → f wait ≤ g wait) → (reply : Reply) → of_grant f 0 reply ≤ of_grant g 0 reply
grant_le f g le (Tried (Acquired due)) = le 0
grant_le f g le (Tried (Retry due)) = omega arith
grant_le f g le (Tried Impossible) = omega arith
grant_le f g le (Reserved due) = le due.wait.0
grant_le f g le Nothing = omega arith
grant_le f g le Done = omega arith
grant_le f g le (Count n) = omega arith
grant_le f g le (Refused n) = omega arith

pub grant_of_nothing : (reply : Reply) → of_grant {A = ℕ} (λ wait. 0) 0 reply ≡ 0
grant_of_nothing (Tried (Acquired due)) = refl
grant_of_nothing (Tried (Retry due)) = refl
grant_of_nothing (Tried Impossible) = refl
grant_of_nothing (Reserved due) = refl
grant_of_nothing Nothing = refl
grant_of_nothing Done = refl
grant_of_nothing (Count n) = refl
grant_of_nothing (Refused n) = refl

module _ (k : List ℕ) (t u : ℕ) where
  usable_le : (bytes : List ℕ) (moment cost : ℕ) → usable k t u bytes moment cost ≤ Demands.usable (identity_of k) t u (identity_of bytes) moment cost
  unfolding usable Demands.usable
  usable_le bytes moment cost =
      by_test (same_bytes bytes k)
      (λ same.
      let is = same_bytes_are_equal bytes k same in
      rw (same, ap hash_of is, ap key_of is, eq-eqb (hash_of k) (hash_of k) refl, eq-eqb (key_of k) (key_of k) refl) (omega arith))
      (λ other. rw other (omega arith))

  ask_tokens_le : (bytes : List ℕ) (ask : Ask) (reply : Reply)
      → ask_tokens k t u bytes ask reply ≤ Demands.ask_tokens (identity_of k) t u (identity_of bytes) ask reply
  ask_tokens_le bytes (requests r at cost) reply = grant_le _ _ (λ wait. usable_le bytes (Demands.usable_from (manner_of r) at wait) cost) reply
  ask_tokens_le bytes (looks l) reply = omega arith
  ask_tokens_le bytes (undoes undo) reply = omega arith
  ask_tokens_le bytes (passes table class at cost) reply = grant_le _ _ (λ wait. usable_le bytes (Demands.usable_from as_try at wait) cost) reply

  ask_refused_has_no_tokens : (bytes : List ℕ) (ask : Ask) (n : ℕ) → ask_tokens k t u bytes ask (Refused n) ≡ 0
  ask_refused_has_no_tokens bytes (requests r at cost) n = refl
  ask_refused_has_no_tokens bytes (looks l) n = refl
  ask_refused_has_no_tokens bytes (undoes undo) n = refl
  ask_refused_has_no_tokens bytes (passes table class at cost) n = refl

  others_have_no_tokens : (bytes : List ℕ) (ask : Ask) (reply : Reply) → same_bytes bytes k ≡ false → ask_tokens k t u bytes ask reply ≡ 0
  unfolding usable
  others_have_no_tokens bytes (requests r at cost) reply other = rw other (grant_of_nothing reply)
  others_have_no_tokens bytes (looks l) reply other = refl
  others_have_no_tokens bytes (undoes undo) reply other = refl
  others_have_no_tokens bytes (passes table class at cost) reply other = rw other (grant_of_nothing reply)

module _ {S : Type 0} (means : S → Settings) (fit : S → Bool) where
  abbrev terms : Calls.Terms S (List ℕ)
  terms = addressed means fit

  -- What is known of every answer of the rules to calls that fit.
  pub record Kept (a : Answered S (List ℕ)) : Type 0 where
    pub fitting : fits terms a.call ≡ true
    pub ruled : a.reply ≡ (rules terms a.call a.rules_words).answer

  pub rules_keep : (cs : List (Call S (List ℕ))) (ws : List ℕ) → all_fit terms cs ≡ true → Every Kept (replies terms (rules terms) cs ws ws)
  unfolding replies
  rules_keep [] ws = λ fits'. tt
  rules_keep (c ∷ cs) ws = λ fits'.
      let both = both_true (fits terms c) (all_fit terms cs) fits' in
      (record { fitting = both.0; ruled = refl }, rules_keep cs (rules terms c ws).after both.1)

  -- Equal addresses have equal keys.
  keys_agree : (a b : Call S (List ℕ)) → OfAddress (λ one. OfAddress (λ other. hash_of one ≡ hash_of other → one ≡ other) b) a
      → Calls.OfKey terms (λ i. Calls.OfKey terms (λ j. i.hash ≡ j.hash → i.key ≡ j.key) b) a
  keys_agree (keyed s one ask) (keyed s' other ask') agree = λ hashes. ap key_of (agree hashes)
  keys_agree (keyed s one ask) (whole s' what) agree = tt
  keys_agree (whole s what) b agree = tt

  pub no_shared_hash : (answered : List (Answered S (List ℕ))) → NoSharedHash means fit answered → Demands.NoSharedHash terms answered
  unfolding NoSharedHash Demands.NoSharedHash
  no_shared_hash [] apart = tt
  no_shared_hash (a ∷ rest) apart =
      (every_implies _ _ (λ b agree taken also. keys_agree a.call b.call (agree taken also)) rest apart.0, no_shared_hash rest apart.1)

  -- The bytes of an accepted call are an address.
  pub accepted_is_address : (s : S) (bytes : List ℕ) (ask : Ask) (reply : Reply) (ws : List ℕ) → fits terms (keyed s bytes ask) ≡ true
      → accepted terms (record { call = keyed s bytes ask; reply = reply; rules_words = ws }) ≡ true → IsAddress bytes
  accepted_is_address s bytes ask reply ws fits' taken =
      let none = accepted_not_refused terms (record { call = keyed s bytes ask; reply = reply; rules_words = ws }) taken in
      (not_refused_is_six_bytes bytes (keyed_not_refused terms s bytes ask ws none).0, bytes_of_lendable bytes (name_of_call_fits terms s bytes ask fits'))

  -- Different addresses have different keys: a refund or a removal of another address is one of another key.
  module _ (k : List ℕ) (is_Address : IsAddress k) where
    other_key_undone : (c : Call S (List ℕ)) (reply : Reply) (ws : List ℕ) → fits terms c ≡ true
        → accepted terms (record { call = c; reply = reply; rules_words = ws }) ≡ true → OfUndone (λ bytes. bytes ≡ k → ⊥) c
        → Calls.OfUndone terms (λ id. id.hash ≡ hash_of k → id.key ≡ key_of k → ⊥) c
    other_key_undone (keyed s bytes (requests r at cost)) reply ws fits' taken not_k = tt
    other_key_undone (keyed s bytes (looks l)) reply ws fits' taken not_k = tt
    other_key_undone (keyed s bytes (undoes u)) reply ws fits' taken not_k = λ hashes keys.
        let named = accepted_is_address s bytes (undoes u) reply ws fits' taken in
        not_k (equal_keys_have_equal_addresses bytes k named.1 is_Address.1 named.0 is_Address.0 keys)
    other_key_undone (keyed s bytes (passes table class at cost)) reply ws fits' taken not_k = tt
    other_key_undone (whole s what) reply ws fits' taken not_k = tt

    pub never_refunded_or_removed : (answered : List (Answered S (List ℕ))) → Every Kept answered → NeverRefundedOrRemoved means fit k answered
        → Demands.NeverRefundedOrRemoved terms (identity_of k) answered
    never_refunded_or_removed [] kept never = tt
    never_refunded_or_removed (a ∷ rest) kept never = (
      λ taken. other_key_undone a.call a.reply a.rules_words kept.0.fitting taken (never.0 taken),
      never_refunded_or_removed rest kept.1 never.1,
    )

  module _ (k : List ℕ) (t u : ℕ) where
    tokens_le : (c : Call S (List ℕ)) (reply : Reply) → tokens_of k t u c reply ≤ Demands.tokens_of terms (identity_of k) t u c reply
    tokens_le (keyed s bytes ask) reply = ask_tokens_le k t u bytes ask reply
    tokens_le (whole s what) reply = omega arith

    pub tokens_among_the_identitys : (answered : List (Answered S (List ℕ)))
        → tokens_usable k t u answered ≤ Demands.tokens_usable terms (identity_of k) t u answered
    unfolding tokens_usable Demands.tokens_usable
    tokens_among_the_identitys [] = omega arith
    tokens_among_the_identitys (a ∷ rest) = omega (arith, tokens_among_the_identitys rest, tokens_le a.call a.reply)

    -- What is no address is granted nothing.
    module _ (no_address : IsAddress k → ⊥) where
      unaccepted_has_no_tokens : (c : Call S (List ℕ)) (n : ℕ) → tokens_of k t u c (Refused n) ≡ 0
      unaccepted_has_no_tokens (keyed s bytes ask) n = ask_refused_has_no_tokens k t u bytes ask n
      unaccepted_has_no_tokens (whole s what) n = refl

      accepted_has_no_tokens : (c : Call S (List ℕ)) (reply : Reply) (ws : List ℕ) → fits terms c ≡ true
          → accepted terms (record { call = c; reply = reply; rules_words = ws }) ≡ true → tokens_of k t u c reply ≡ 0
      accepted_has_no_tokens (keyed s bytes ask) reply ws fits' taken =
          by_test (same_bytes bytes k)
          (λ same. absurd (no_address (rw (same_bytes_are_equal bytes k same) at (accepted_is_address s bytes ask reply ws fits' taken))))
          (λ other. others_have_no_tokens k t u bytes ask reply other)
      accepted_has_no_tokens (whole s what) reply ws fits' taken = refl

      call_has_no_tokens : (a : Answered S (List ℕ)) → Kept a → tokens_of k t u a.call a.reply ≡ 0
      call_has_no_tokens a kept =
          by_test (accepted terms a)
          (λ taken. accepted_has_no_tokens a.call a.reply a.rules_words kept.fitting taken)
          (λ refused.
          let told = kept.ruled ∙ ap (λ (o : Outcome Reply (List ℕ)). o.answer) (unaccepted_refused terms a refused) in
          ap (tokens_of k t u a.call) told ∙ unaccepted_has_no_tokens a.call (refusal_of terms a.call a.rules_words))

      pub no_address_no_tokens : (answered : List (Answered S (List ℕ))) → Every Kept answered → tokens_usable k t u answered ≡ 0
      unfolding tokens_usable
      no_address_no_tokens [] kept = refl
      no_address_no_tokens (a ∷ rest) kept = omega (arith, call_has_no_tokens a kept.0, no_address_no_tokens rest kept.1)
