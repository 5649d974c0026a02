-- What an example has to show to break a part of demand 3, and that it breaks it. An example grows its store by calls, from the words that set_up_lem leaves.
use Prim.Native.Nat.{ℕ, ◌+◌, ◌*◌, ◌-◌}
use native.Mathlib.Omega.{arith}
use mathlib.Core.Path.{◌≡◌, refl, sym, ap, ◌∙◌}
use mathlib.Core.Bool.{Bool, true, false, ◌&&◌, cond, true≢false}
use mathlib.Core.List.{List, [], ◌∷◌, ◌++◌}
use lib.Dec.{ltb, eqb}
use lib.ListN.{replicate}
use borrow.Author.Tests.{ltb-true, eq-eqb}
use Rattle.units.specs.declared.Nanos.{Nanos}
use Rattle.bucket.specs.declared.Request.TheVariants.{Acquire}
use Rattle.settings.specs.declared.Limit.TheVariants.{Open}
use Rattle.settings.specs.declared.Settings.{Settings}
use Rattle.settings.specs.declared.rate.Rate.{Rate}
use Rattle.settings.specs.Eviction.{capacity_of}
use Rattle.settings.specs.Rate.{burst_of}
use Rattle.shard.specs.declared.Identity.{Identity}
use Rattle.shard.specs.Model.{holds}
use Rattle.rules.specs.declared.Reply.{Reply}
use Rattle.rules.specs.declared.Reply.TheVariants.{Done}
use Rattle.store.specs.Memory.{shard_at}
use Rattle.rules.specs.Replies.{code_of, number_of}
use Rattle.rules.specs.Asks.{as_try, reply_to}
use Rattle.rules.specs.Rules.{set_up}
use Rattle.rules.specs.Calls as Calls
use Rattle.rules.specs.Calls.{try, reserve, Terms, by_key, Every}
use Rattle.perkey.specs.Edges.{two_per_second, limited, key_of}
use Rattle.rules.specs.Widths.{settings_fit, lendable}
use Rattle.demands.specs.Demands as Demands
use Rattle.demands.specs.ByKey.{Call, Implementation, rules, Answered, replies, accepted, SameSettings, TimesNeverFall, Agree, NoSharedHash}
use Rattle.demands.specs.ByKey.{NeverRefundedOrRemoved, tokens_usable, answering, Demand2, WindowAdding, OwnBucket, fits, all_fit}
use Rattle.demands.specs.Demands.{untabled, own_reply}
use Rattle.store.specs.Memory.{memory_words}

-- A store of one shard, by its rate and by how many keys it has room for; in most examples two tokens a second, up to four.
abbrev pub store_for : Rate → ℕ → Settings
store_for rate keys = limited rate (capacity_of keys) 1

abbrev pub room_for : ℕ → Settings
room_for keys = store_for two_per_second keys

-- Memory for some settings, not yet zero, and the words that set_up_lem leaves in it.
abbrev pub memory : Settings → List ℕ
memory s = replicate (memory_words s) 1

abbrev pub fresh : Settings → List ℕ
fresh s = (set_up s (memory s)).after

-- Every call of an example is made at moment 0.
abbrev pub start : Nanos
start = record { 0 = 0 }

-- The words that an implementation leaves after some calls.
unfoldable pub after : {S N : Type 0} → Calls.Implementation S N → List (Calls.Call S N) → List ℕ → List ℕ
after f [] ws = ws
after f (c ∷ cs) ws = after f cs (f c ws).after

module _ {S N : Type 0} (terms : Terms S N) where
  -- A call after some others, as it is answered: the implementation starts from some words, and the rules beside it from theirs.
  abbrev pub answered_after : Calls.Implementation S N → List (Calls.Call S N) → Calls.Call S N → List ℕ → List ℕ → Calls.Answered S N
  answered_after f cs c ws law = record { call = c; reply = (f c (after f cs ws)).answer; rules_words = after (Calls.rules terms) cs law }

  -- What holds of every call of a list, as it is answered, holds of the last one.
  last_of_every : (Q : Calls.Answered S N → Type 0) (f : Calls.Implementation S N) (c : Calls.Call S N) (cs : List (Calls.Call S N)) (ws law : List ℕ)
      → Every Q (Calls.replies terms f (cs ++ c ∷ []) ws law) → Q (answered_after f cs c ws law)
  unfolding Calls.replies after
  last_of_every Q f c [] ws law every = every.0
  last_of_every Q f c (b ∷ cs) ws law every = last_of_every Q f c cs (f b ws).after (Calls.rules terms b law).after every.1

-- Whether two replies have the same code and number.
abbrev pub same_told : Reply → Reply → Bool
same_told a b = eqb (code_of a) (code_of b) && eqb (number_of a) (number_of b)

same_is_told : {a b : Reply} → a ≡ b → same_told a b ≡ false → ⊥
same_is_told {a} {b} e otherwise = true≢false (sym (rw (eq-eqb _ _ (ap code_of e), eq-eqb _ _ (ap number_of e)) refl) ∙ otherwise)

-- An implementation tells something else than the rules.
pub record TellsOtherwise (f : Implementation) (c : Call) (ws : List ℕ) : Type 0 where
  pub fit : fits c ≡ true
  pub lent : lendable ws ≡ true
  pub otherwise : same_told (f c ws).answer (rules c ws).answer ≡ false

pub telling_otherwise_fails_demand2 : {f : Implementation} {c : Call} {ws : List ℕ} → TellsOtherwise f c ws → Demand2 (answering f) → ⊥
telling_otherwise_fails_demand2 {f} {c} {ws} told demand = same_is_told (ap (λ o. o.answer) (demand.answers c ws told.fit told.lent)) told.otherwise

-- Calls on a store, as the table of edges writes them.
abbrev pub calls_on : Settings → List (Settings → Call) → List Call
calls_on s [] = []
calls_on s (c ∷ cs) = c s ∷ calls_on s cs

-- A try for one token at moment 0 after some calls, from some words, at two tokens a second and up to four. An implementation misdecides it: the rules accept
-- it, the modem holds a slot or a debt in the words that they made, and the reply is not that of its bucket.
module _ {S N : Type 0} (terms : Terms S N) where
  pub record MisdecidesFrom (ws : List ℕ) (f : Calls.Implementation S N) (s : S) (cs : List (Calls.Call S N)) (n : N) : Type 0 where
    pub rated : (terms.settings s).limit ≡ Open two_per_second
    pub fit : Calls.all_fit terms (cs ++ try s start n 1 ∷ []) ≡ true
    pub lent : lendable ws ≡ true
    pub accepts : Calls.accepted terms (answered_after terms f cs (try s start n 1) ws ws) ≡ true
    pub holding : holds (terms.identity n) (shard_at (terms.settings s) (terms.identity n).hash (after (Calls.rules terms) cs ws)) ≡ true
    pub otherwise :
        same_told (f (try s start n 1) (after f cs ws)).answer
        (own_reply (terms.settings s) two_per_second start (terms.identity n) Acquire 1 (after (Calls.rules terms) cs ws)) ≡ false

  pub misdeciding_breaks_own_bucket : {ws : List ℕ} {f : Calls.Implementation S N} {s : S} {cs : List (Calls.Call S N)} {n : N} → MisdecidesFrom ws f s cs n
      → Demands.OwnBucket terms (Demands.answering terms f) → ⊥
  misdeciding_breaks_own_bucket {ws} {f} {s} {cs} {n} shown own_bucket =
      let last : Calls.Call S N = try s start n 1 in
      let decided = last_of_every terms _ f last cs ws ws (own_bucket ws (cs ++ last ∷ []) shown.lent shown.fit) in
      same_is_told (decided shown.accepts two_per_second shown.rated (omega arith) (omega arith) shown.holding) shown.otherwise

-- By key, on a fresh store with room for some keys.
abbrev pub Misdecides : Implementation → ℕ → List (Settings → Call) → Identity → Type 0
Misdecides f keys cs id = MisdecidesFrom by_key (fresh (room_for keys)) f (room_for keys) (calls_on (room_for keys) cs) id

-- Reservations at moment 0, by key and cost; the hash of a key is its own number, and the longest wait is 10 ns.
abbrev pub reservation : Settings → ℕ × ℕ → Call
reservation s x = reserve s start (key_of x.0) x.1 (record { 0 = 10 })

abbrev pub reservations : Settings → List (ℕ × ℕ) → List Call
reservations s [] = []
reservations s (x ∷ xs) = reservation s x ∷ reservations s xs

-- They meet the conditions of the window, whatever the implementation answers.
module _ (f : Implementation) (s : Settings) where
  have_same_settings : (xs : List (ℕ × ℕ)) (ws law : List ℕ) → SameSettings s (replies f (reservations s xs) ws law)
  unfolding Calls.replies
  have_same_settings [] ws law = tt
  have_same_settings (x ∷ xs) ws law = (λ _. refl, have_same_settings xs _ _)

  zero_either_way : (b : Bool) → ◌≡◌ {A = ℕ} (cond b 0 0) 0
  zero_either_way true = refl
  zero_either_way false = refl

  have_rising_times : (xs : List (ℕ × ℕ)) (ws law : List ℕ) → TimesNeverFall 0 (replies f (reservations s xs) ws law)
  unfolding Calls.replies Demands.TimesNeverFall
  have_rising_times [] ws law = tt
  have_rising_times (x ∷ xs) ws law = (omega arith, rw zero_either_way (have_rising_times xs _ _))

  agree_with_others : (a : Answered) (x : ℕ × ℕ) → a.call ≡ reservation s x → (xs : List (ℕ × ℕ)) (ws law : List ℕ)
      → Every (Agree a) (replies f (reservations s xs) ws law)
  unfolding Calls.replies
  agree_with_others a x is [] ws law = tt
  agree_with_others a x is (y ∷ ys) ws law = (rw is (λ _ _ e. e), agree_with_others a x is ys _ _)

  have_no_shared_hash : (xs : List (ℕ × ℕ)) (ws law : List ℕ) → NoSharedHash (replies f (reservations s xs) ws law)
  unfolding Calls.replies Demands.NoSharedHash
  have_no_shared_hash [] ws law = tt
  have_no_shared_hash (x ∷ xs) ws law = (agree_with_others _ x refl xs _ _, have_no_shared_hash xs _ _)

  never_return : (k : Identity) (xs : List (ℕ × ℕ)) (ws law : List ℕ) → NeverRefundedOrRemoved k (replies f (reservations s xs) ws law)
  unfolding Calls.replies
  never_return k [] ws law = tt
  never_return k (x ∷ xs) ws law = (λ _. tt, never_return k xs _ _)

-- By such reservations on a fresh store an implementation overgrants a key at a moment, which is a window by itself.
abbrev pub parts_granted : Implementation → Rate → ℕ → List (ℕ × ℕ) → ℕ → ℕ → ℕ
parts_granted f rate keys xs key moment =
    let s = store_for rate keys in
    tokens_usable (key_of key) moment moment (replies f (reservations s xs) (fresh s) (fresh s)) * rate.period.0

abbrev pub parts_allowed : ℕ → Rate → ℕ → ℕ
parts_allowed moments rate moment = burst_of rate * rate.period.0 + (moment - moment + moments) * rate.amount

pub record Overgrants (moments : ℕ) (f : Implementation) (rate : Rate) (keys : ℕ) (xs : List (ℕ × ℕ)) (key moment : ℕ) : Type 0 where
  pub settings : settings_fit (store_for rate keys) ≡ true
  pub lent : lendable (memory (store_for rate keys)) ≡ true
  pub fit : all_fit (reservations (store_for rate keys) xs) ≡ true
  pub set_up_lem : (set_up (store_for rate keys) (memory (store_for rate keys))).answer ≡ Done
  pub over : ltb (parts_allowed moments rate moment) (parts_granted f rate keys xs key moment) ≡ true

pub overgranting_breaks_the_window : {moments : ℕ} {f : Implementation} {rate : Rate} {keys : ℕ} {xs : List (ℕ × ℕ)} {key moment : ℕ}
    → Overgrants moments f rate keys xs key moment → WindowAdding moments (answering f) → ⊥
overgranting_breaks_the_window {moments} {f} {rate} {keys} {xs} {key} {moment} shown window =
    let s : Settings = store_for rate keys in
    let ws : List ℕ = fresh s in
    let fair = window untabled s rate (memory s) refl shown.settings shown.lent refl refl shown.set_up_lem (reservations s xs) shown.fit
    (have_same_settings f s xs ws ws) (have_rising_times f s xs ws ws)
    (have_no_shared_hash f s xs ws ws) in
    let bound = fair (key_of key) (never_return f s (key_of key) xs ws ws) moment moment (omega arith) in
    omega (arith, bound, ltb-true (parts_allowed moments rate moment) (parts_granted f rate keys xs key moment) shown.over)
