-- The window with refunds (request 11 of document 02), as a claim about any limiter. The window of Demands stays as it is.
--
-- In plain English. Behind each clause stands the name that states it.
--
-- The window with refunds.                                                                               RefundWindow
-- The list of calls, its settings and the words it starts from are those of the window.                  OfFreshLists
-- Of the calls that are not refused by number                                                            accepted
-- all have these settings, the moments never fall, no two name different keys of one hash,               SameSettings, TimesNeverFall, NoSharedHash
-- none removes the key k, and none reserves for k. Refunds to k are allowed.                             NeverRemoved, NeverReserved
-- Add up the tokens granted to k in calls with moments from t to u, by tries through a class too.        tokens_counted, called_of
-- Add up the tokens refunded to k between the first and the last of these grants.                        refunded_between
-- A refund that is answered known, by slot or by debt, counts its stated cost; any other counts 0.       refunded_of
-- Times the period, the first sum is at most                                                             WithinRefunds
-- burst × period + (u - t) × amount, plus the second sum times the period.                               parts_allowed
--
-- "Between" means by place in the list: a refund counts if one of these grants comes before it and another comes after it. Only grants of at least one token
-- bound it; that makes the claim stronger. The window of Demands adds one moment to those from t to u: a reservation that was asked for before t, with its
-- wait rounded up, can first be usable at t. Here nothing is added: a grant counts only if its call is at t or later.
--
-- The same holds if k is reserved for, where a grant counts only if its call is at t or later and its tokens are usable at u or before. For a try both moments
-- are that of the call, so for lists that have no reservation for k, refused ones included, this is the
-- claim above.                                                                                           SpanWindow, spanned_of
--
-- Both claims are over any terms, as those of Demands are.
--
-- Theorems, in proofs/:
-- * `rules_keep_the_refund_window`, `rules_keep_the_span_window`: the rules keep both. `demand2_keeps_the_refund_window`, `demand2_keeps_the_span_window`: so
--   does every limiter that meets demand 2.
-- * `contracts_keep_the_refund_window`, `exports_keep_the_refund_window`: so does code that is as the contracts of `perkey`, `modems` and `class_calls`, or of
--   the exports, tell its callers. `contracts_keep_the_span_window`, `exports_keep_the_span_window`: so it is with the second claim.
--   `key_contracts_keep_the_refund_window`: in lists of calls by key.
-- * `refund_window_without_refunds_is_false_of_the_rules`, `refund_window_by_slots_is_false_of_the_rules`: the refunds cannot be left out, nor can those that
--   pay down a debt. `refunding_twice_breaks_the_refund_window`: a limiter that gives back twice what a refund states does not keep it.
use Rattle.std.specs.Prelude.{ℕ, ◌+◌, ◌*◌, ◌-◌, ◌≤◌, ◌≡◌, Bool, true, false, cond, ◌&&◌, List, [], ◌∷◌, leb, eqb}
use Rattle.units.specs.declared.Nanos.{Nanos}
use Rattle.settings.specs.declared.Limit.TheVariants.{Open}
use Rattle.settings.specs.declared.Settings.{Settings}
use Rattle.settings.specs.declared.eviction.WhenFull.TheVariants.{RefuseNew}
use Rattle.settings.specs.declared.rate.Rate.{Rate}
use Rattle.settings.specs.Rate.{burst_of}
use Rattle.shard.specs.declared.Identity.{Identity}
use Rattle.rules.specs.declared.Reply.{Reply}
use Rattle.rules.specs.declared.Reply.TheVariants.{Tried, Reserved, Nothing, Done, Count, Refused}
use Rattle.rules.specs.Replies.{of_grant}
use Rattle.rules.specs.Asks.{refunds, removes, Ask, requests, looks, undoes, passes, Manner, as_try, as_reservation, manner_of}
use Rattle.rules.specs.Widths.{lendable}
use Rattle.rules.specs.Calls.{Call, keyed, whole, Terms, Answered, replies, accepted, all_fit, Every}
use Rattle.demands.specs.Demands.{Table, table_fits, Limiter, set_up_by, settings_by, SameSettings, TimesNeverFall, NoSharedHash, usable_from}

-- By what is asked of a key: a value where tokens are asked for, given how, when and how many; another value for all else.
abbrev pub of_request : {A : Type 0} → (Manner → Nanos → ℕ → A) → A → Ask → A
of_request f other (requests r at cost) = f (manner_of r) at cost
of_request f other (looks l) = other
of_request f other (undoes u) = other
of_request f other (passes table class at cost) = f as_try at cost

-- A value for a refund, given its stated cost; one for a removal; another for all else.
abbrev pub of_undo : {A : Type 0} → (ℕ → A) → A → A → Ask → A
of_undo refunded removed other (requests r at cost) = other
of_undo refunded removed other (looks l) = other
of_undo refunded removed other (undoes (refunds cost)) = refunded cost
of_undo refunded removed other (undoes removes) = removed
of_undo refunded removed other (passes table class at cost) = other

-- Whether a manner is that of a reservation; whether an ask reserves; whether it removes.
abbrev pub as_reserved : Manner → Bool
as_reserved as_try = false
as_reserved as_reservation = true

abbrev pub reserves_it : Ask → Bool
reserves_it ask = of_request (λ m at cost. as_reserved m) false ask

abbrev pub removes_it : Ask → Bool
removes_it ask = of_undo (λ cost. false) true false ask

-- The tokens, if they are of the key in question; else 0.
abbrev pub of_own : Bool → ℕ → ℕ
of_own own tokens = cond own tokens 0

-- The tokens of a grant, if its call is at t or later and they are usable at u or before.
unfoldable pub in_span : ℕ → ℕ → ℕ → ℕ → ℕ → ℕ
in_span t u asked ready cost = cond (leb t asked) (cond (leb ready u) cost 0) 0

-- By the moment of the call: the tokens granted in a call with a moment from t to u.
abbrev pub ask_called : Bool → ℕ → ℕ → Ask → Reply → ℕ
ask_called own t u ask reply = of_request (λ m at cost. of_grant (λ wait. of_own own (in_span t u at.0 at.0 cost)) 0 reply) 0 ask

-- By both moments: the tokens granted in a call at t or later, and usable at u or before.
abbrev pub ask_spanned : Bool → ℕ → ℕ → Ask → Reply → ℕ
ask_spanned own t u ask reply = of_request (λ m at cost. of_grant (λ wait. of_own own (in_span t u at.0 (usable_from m at wait) cost)) 0 reply) 0 ask

-- The tokens refunded: the stated cost of a refund that is answered known.
abbrev pub if_known : ℕ → Reply → ℕ
if_known cost (Tried decision) = 0
if_known cost (Reserved due) = 0
if_known cost Nothing = 0
if_known cost Done = cost
if_known cost (Count n) = 0
if_known cost (Refused n) = 0

abbrev pub ask_refunded : Bool → Ask → Reply → ℕ
ask_refunded own ask reply = of_undo (λ cost. of_own own (if_known cost reply)) 0 0 ask

-- A count of tokens for each answered call, and their sum over a list.
abbrev pub Counting : Type 0 → Type 0 → Type 0
Counting S N = Answered S N → ℕ

unfoldable pub tokens_counted : {S N : Type 0} → Counting S N → List (Answered S N) → ℕ
tokens_counted count [] = 0
tokens_counted count (a ∷ rest) = count a + tokens_counted count rest

-- Refunded tokens count if tokens were granted before them and tokens are granted after them.
unfoldable pub if_between : ℕ → ℕ → ℕ → ℕ
if_between before after tokens = cond (leb 1 before) (cond (leb 1 after) tokens 0) 0

-- The tokens refunded between the first and the last of the counted grants, given the tokens of these grants that come before the list.
unfoldable pub refunded_between : {S N : Type 0} → (refunded granted : Counting S N) → ℕ → List (Answered S N) → ℕ
refunded_between refunded granted before [] = 0
refunded_between refunded granted before (a ∷ rest) =
    if_between before (tokens_counted granted rest) (refunded a) + refunded_between refunded granted (granted a + before) rest

-- What may be granted from t to u, times the period: the burst, what comes back from t to u, and the tokens refunded between.
abbrev pub parts_allowed : {S N : Type 0} → Rate → (refunded granted : Counting S N) → ℕ → ℕ → List (Answered S N) → ℕ
parts_allowed rate refunded granted t u answered =
    burst_of rate * rate.period.0 + (u - t) * rate.amount + refunded_between refunded granted 0 answered * rate.period.0

-- No more is granted.
abbrev pub WithinRefunds : {S N : Type 0} → Rate → (refunded granted : Counting S N) → ℕ → ℕ → List (Answered S N) → Type 0
WithinRefunds rate refunded granted t u answered = tokens_counted granted answered * rate.period.0 ≤ parts_allowed rate refunded granted t u answered

-- By the name of a call and what it asks; a call that names none has another value.
abbrev pub of_named : {S N A : Type 0} → (N → Ask → A) → A → Call S N → A
of_named f other (keyed s n ask) = f n ask
of_named f other (whole s what) = other

-- The three counts of a call as it was answered. `own` says which names are those of the key in question.
module _ {S N : Type 0} (own : N → Bool) where
  abbrev pub called_of : ℕ → ℕ → Counting S N
  called_of t u a = of_named (λ n ask. ask_called (own n) t u ask a.reply) 0 a.call

  abbrev pub spanned_of : ℕ → ℕ → Counting S N
  spanned_of t u a = of_named (λ n ask. ask_spanned (own n) t u ask a.reply) 0 a.call

  abbrev pub refunded_of : Counting S N
  refunded_of a = of_named (λ n ask. ask_refunded (own n) ask a.reply) 0 a.call

module _ {S N : Type 0} (terms : Terms S N) where
  -- No accepted call reserves for the key in question; none removes it.
  abbrev pub NeverReserved : (N → Bool) → List (Answered S N) → Type 0
  NeverReserved own = Every (λ a. accepted terms a ≡ true → of_named (λ n ask. reserves_it ask && own n) false a.call ≡ false)

  abbrev pub NeverRemoved : (N → Bool) → List (Answered S N) → Type 0
  NeverRemoved own = Every (λ a. accepted terms a ≡ true → of_named (λ n ask. removes_it ask && own n) false a.call ≡ false)

  -- A claim on every list that the window is about: from a fresh store, with a rate set, under RefuseNew.
  abbrev pub OfFreshLists : (Settings → Rate → List (Answered S N) → Type 0) → Limiter S N → Type 0
  OfFreshLists Claim l =
      (table : Table) (s : S) (rate : Rate) (ws : List ℕ) → table_fits table ≡ true → terms.settings_fit s ≡ true → lendable ws ≡ true →
      (terms.settings s).limit ≡ Open rate → (terms.settings s).eviction.when_full ≡ RefuseNew → (set_up_by terms table s ws).answer ≡ Done →
      (cs : List (Call S N)) → all_fit terms cs ≡ true →
      Claim (settings_by terms table s) rate (replies terms l.answers cs (l.sets_up_lem table s ws).after (l.sets_up_lem table s ws).after)

  -- The names of a key.
  abbrev pub named : Identity → N → Bool
  named k n = eqb (terms.identity n).hash k.hash && eqb (terms.identity n).key k.key

  -- The conditions on a list and a key that both claims have.
  pub record FairTo (s : Settings) (k : Identity) (answered : List (Answered S N)) : Type 0 where
    pub same_settings : SameSettings terms s answered
    pub rising : TimesNeverFall terms 0 answered
    pub apart : NoSharedHash terms answered
    pub not_removed : NeverRemoved (named k) answered

  -- Request 11 for one list, by a way to count refunds.
  abbrev pub WithinRefundWindow : ((N → Bool) → Counting S N) → Settings → Rate → List (Answered S N) → Type 0
  WithinRefundWindow refunded s rate answered =
      (k : Identity) → FairTo s k answered → NeverReserved (named k) answered →
      (t u : ℕ) → t ≤ u → WithinRefunds rate (refunded (named k)) (called_of (named k) t u) t u answered

  abbrev pub RefundWindowCounting : ((N → Bool) → Counting S N) → Limiter S N → Type 0
  RefundWindowCounting refunded l = OfFreshLists (WithinRefundWindow refunded) l

  -- Request 11.
  abbrev pub RefundWindow : Limiter S N → Type 0
  RefundWindow l = RefundWindowCounting refunded_of l

  -- The same where the key may be reserved for.
  abbrev pub WithinSpanWindow : Settings → Rate → List (Answered S N) → Type 0
  WithinSpanWindow s rate answered =
      (k : Identity) → FairTo s k answered →
      (t u : ℕ) → t ≤ u → WithinRefunds rate (refunded_of (named k)) (spanned_of (named k) t u) t u answered

  abbrev pub SpanWindow : Limiter S N → Type 0
  SpanWindow l = OfFreshLists WithinSpanWindow l
