-- Whether a key is named by an accepted call of a list at all. If it is, no accepted call names another key of its hash; if not, nothing happens to it.
use Prim.Native.Nat.{ℕ}
use mathlib.Core.Path.{◌≡◌, refl, sym, ap, subst, ◌∙◌}
use mathlib.Core.Bool.{Bool, true, false, cond, true≢false}
use mathlib.Core.List.{List, [], ◌∷◌}
use lib.Dec.{eqb}
use borrow.Author.Tests.{eqb-true}
use Rattle.arith.proofs.Cases.{by_test}
use Rattle.shard.specs.declared.Identity.{Identity}
use Rattle.rules.specs.declared.Reply.{Reply}
use Rattle.rules.specs.Asks.{Ask, requests, looks, undoes, passes, refunds, removes}
use Rattle.rules.specs.Calls.{Call, keyed, whole, Terms, rules, Answered, replies, OfKey, accepted, Every}
use Rattle.rules.proofs.CallLaws.{unaccepted_refused}
use Rattle.demands.specs.Demands.{Agree, NoSharedHash}
use Rattle.demands.proofs.LineBound.{LineBound}
use Rattle.demands.proofs.GivenLaws.{if_own, ask_gave, given, happened, refusal_gives_nothing}
use Rattle.demands.proofs.OwnBucket.{ruled}

-- Whether an identity is the key.
unfoldable pub is : Identity → Identity → Bool
is k id = cond (eqb id.hash k.hash) (eqb id.key k.key) false

is_same : (k id : Identity) → is k id ≡ true → id ≡ k
unfolding is
is_same k id e =
    by_test (eqb id.hash k.hash)
    (λ h. let key : id.key ≡ k.key = eqb-true _ _ (rw h at e) in
    let hash : id.hash ≡ k.hash = eqb-true _ _ h in
    λ i. record { hash = hash i; key = key i })
    (λ h. absurd (true≢false (sym (rw h at e))))

own_key : (k id : Identity) → is k id ≡ true → id.hash ≡ k.hash → id.key ≡ k.key
own_key k id e hash = ap (λ (i : Identity). i.key) (is_same k id e)

-- Whether a call names it.
module _ {S N : Type 0} (terms : Terms S N) where
  abbrev pub names : Identity → Call S N → Bool
  names k (keyed s n ask) = is k (terms.identity n)
  names k (whole s what) = false

  -- What holds of the key that a call names holds of k, if the call names k.
  named : (k : Identity) (Q : Identity → Type 0) (c : Call S N) → names k c ≡ true → OfKey terms Q c → Q k
  named k Q (keyed s n ask) e q = subst Q (is_same k (terms.identity n) e) q
  named k Q (whole s what) e q = absurd (true≢false (sym e))

  -- What follows for every identity follows for the one that a call names.
  key_implies : (Q R : Identity → Type 0) → ((id : Identity) → Q id → R id) → (c : Call S N) → OfKey terms Q c → OfKey terms R c
  key_implies Q R f (keyed s n ask) q = f (terms.identity n) q
  key_implies Q R f (whole s what) q = tt

  -- An accepted call names no other key of the hash.
  abbrev pub Alone : Identity → Answered S N → Type 0
  Alone k a = accepted terms a ≡ true → OfKey terms (λ id. id.hash ≡ k.hash → id.key ≡ k.key) a.call

  -- An accepted call that names the key, and whether there is one in a list.
  unfoldable pub calls : Identity → Answered S N → Bool
  calls k a = cond (accepted terms a) (names k a.call) false

  unfoldable pub appears : Identity → List (Answered S N) → Bool
  appears k [] = false
  appears k (a ∷ rest) = cond (calls k a) true (appears k rest)

  record Calls (k : Identity) (a : Answered S N) : Type 0 where
    taken : accepted terms a ≡ true
    named : names k a.call ≡ true

  calls_both : (k : Identity) (a : Answered S N) → calls k a ≡ true → Calls k a
  unfolding calls
  calls_both k a e =
      by_test (accepted terms a) (λ t. record { taken = t; named = rw t at e }) (λ t. absurd (true≢false (sym (rw t at e))))

  -- A call that agrees with one that names the key is alone, and so is one with which that one agrees.
  agrees_with : (k : Identity) (a b : Answered S N) → Calls k b → Agree terms a b → Alone k a
  agrees_with k a b c agree taken =
      key_implies (λ i. OfKey terms (λ j. i.hash ≡ j.hash → i.key ≡ j.key) b.call) (λ i. i.hash ≡ k.hash → i.key ≡ k.key)
      (λ i q hash. named k (λ j. i.hash ≡ j.hash → i.key ≡ j.key) b.call c.named q hash) a.call (agree taken c.taken)

  agreed_with : (k : Identity) (a b : Answered S N) → Calls k a → Agree terms a b → Alone k b
  agreed_with k a b c agree taken =
      key_implies (λ j. k.hash ≡ j.hash → k.key ≡ j.key) (λ j. j.hash ≡ k.hash → j.key ≡ k.key) (λ j q hash. sym (q (sym hash))) b.call
      (named k (λ i. OfKey terms (λ j. i.hash ≡ j.hash → i.key ≡ j.key) b.call) a.call c.named (agree c.taken taken))

  rest_alone : (k : Identity) (a : Answered S N) → Calls k a → (rest : List (Answered S N)) → Every (Agree terms a) rest → Every (Alone k) rest
  rest_alone k a c [] agree = tt
  rest_alone k a c (b ∷ rest) agree = (agreed_with k a b c agree.0, rest_alone k a c rest agree.1)

  first_alone : (k : Identity) (a : Answered S N) (rest : List (Answered S N)) → appears k rest ≡ true → Every (Agree terms a) rest → Alone k a
  unfolding appears
  first_alone k a [] e agree = absurd (true≢false (sym e))
  first_alone k a (b ∷ rest) e agree =
      by_test (calls k b)
      (λ t. agrees_with k a b (calls_both k b t) agree.0)
      (λ t. first_alone k a rest (rw t at e) agree.1)

  own_alone : (k : Identity) (c : Call S N) → names k c ≡ true → OfKey terms (λ id. id.hash ≡ k.hash → id.key ≡ k.key) c
  own_alone k (keyed s n ask) e = own_key k (terms.identity n) e
  own_alone k (whole s what) e = tt

  pub appearing_is_alone : (k : Identity) (answered : List (Answered S N)) → appears k answered ≡ true → NoSharedHash terms answered → Every (Alone k) answered
  unfolding appears NoSharedHash
  appearing_is_alone k [] e apart = tt
  appearing_is_alone k (a ∷ rest) e apart =
      by_test (calls k a)
      (λ t. let c = calls_both k a t in (λ taken. own_alone k a.call c.named, rest_alone k a c rest apart.0))
      (λ t. let there : appears k rest ≡ true = rw t at e in (first_alone k a rest there apart.0, appearing_is_alone k rest there apart.1))

-- Nothing happens to a key that no accepted call names.
module _ {A P C : ℕ} (B : LineBound A P C) (k : Identity) where
  unnamed_call : {H : Type 0} (id : Identity) (own other : H) → is k id ≡ false → if_own k id own other ≡ other
  unfolding is if_own
  unnamed_call id own other e = by_test (eqb id.hash k.hash) (λ h. rw (h, rw h at e)) (λ h. rw h)

  unnamed_ask_gives_nothing : (id : Identity) (ask : Ask) (reply : Reply) (g : B.History) → is k id ≡ false → ask_gave B k id ask reply g ≡ g
  unnamed_ask_gives_nothing id (requests r at cost) reply g e = unnamed_call id _ g e
  unnamed_ask_gives_nothing id (looks l) reply g e = refl
  unnamed_ask_gives_nothing id (undoes (refunds cost)) reply g e = unnamed_call id _ g e
  unnamed_ask_gives_nothing id (undoes removes) reply g e = refl
  unnamed_ask_gives_nothing id (passes table class at cost) reply g e = unnamed_call id _ g e

module _ {S N : Type 0} (terms : Terms S N) {A P C : ℕ} (B : LineBound A P C) (k : Identity) where
  unnamed_gives_nothing : (c : Call S N) (reply : Reply) (g : B.History) → names terms k c ≡ false → given B terms k c reply g ≡ g
  unnamed_gives_nothing (keyed s n ask) reply g e = unnamed_ask_gives_nothing B k (terms.identity n) ask reply g e
  unnamed_gives_nothing (whole s what) reply g e = refl

  uncalled_gives_nothing : (c : Call S N) (ws : List ℕ) (g : B.History) → calls terms k (ruled terms c ws) ≡ false
      → given B terms k c (rules terms c ws).answer g ≡ g
  unfolding calls
  uncalled_gives_nothing c ws g e =
      by_test (accepted terms (ruled terms c ws))
      (λ yes'. unnamed_gives_nothing c (rules terms c ws).answer g (rw yes' at e))
      (λ no'. rw (unaccepted_refused terms (ruled terms c ws) no') (refusal_gives_nothing B terms k c _ g))

  pub nothing_happens_to_the_absent : (cs : List (Call S N)) (ws : List ℕ) (g : B.History) → appears terms k (replies terms (rules terms) cs ws ws) ≡ false
      → happened B terms k (replies terms (rules terms) cs ws ws) g ≡ g
  unfolding appears replies happened
  nothing_happens_to_the_absent [] ws g e = refl
  nothing_happens_to_the_absent (c ∷ cs) ws g e =
      by_test (calls terms k (ruled terms c ws))
      (λ yes'. absurd (true≢false (rw yes' at e)))
      (λ no'.
      let rest : List (Answered S N) = replies terms (rules terms) cs (rules terms c ws).after (rules terms c ws).after in
      ap (happened B terms k rest) (uncalled_gives_nothing c ws g no') ∙ nothing_happens_to_the_absent cs (rules terms c ws).after g (rw no' at e))
