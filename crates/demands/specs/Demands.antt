-- What is promised of a limiter, as claims about any limiter: of demand 1, that a call which is refused by number changes no word (`RefusedChangesNothing`);
-- demand 2, that it does what the rules say; demand 3, the window, the own bucket and the window of a class. That no call faults, overflows or fails to end is
-- what `rt` proves of every function. No operation and no export has a `requires`: the contracts in src/ of `perkey`, `modems`, `class_calls`, `debt_calls`,
-- `limiter`, `limiter_modems`, `limiter_classes` and `limiter_debts` show that.
--
-- Demand 3 in plain English. Behind each clause stands the name that states it.
--
-- Take any list of tries, tries through a class, reservations, peeks, looks at available, at counts, at
-- length or at the debts of a shard, refunds and removals,                                               Call
-- each with its own settings and naming a modem by key or by hardware address,                            Terms (Calls)
-- calls that are refused by number among them, with any numbers that code can be given.                  fits, lendable
-- Each call gets the words that the call before it left.                                                 replies
--
-- The window.                                                                                            Window
-- The settings have a rate and turn new keys away when full. Set-up accepts them, with a class table
-- or without one. The list starts from the words that the limiter's own set_up_lem leaves.                   Table
-- Of the calls that are not refused by number                                                            accepted
-- all have these settings,                                                                               SameSettings
-- the moments never fall,                                                                                TimesNeverFall
-- no two name different keys of one hash,                                                                NoSharedHash
-- and none refunds or removes the key k.                                                                 NeverRefundedOrRemoved
-- Add up the tokens granted to k that first become usable from moment t to moment u.                     tokens_usable
-- Times the period, the sum is at most burst × period + (u - t + 1) × amount,                            WithinWindow 1
-- however often k was evicted and came back.
--
-- The own bucket.                                                                                        OwnBucket
-- The list starts from any words, and has any settings, moments, hashes and rule when full.
-- A try or a reservation is not refused by number, has a rate, and costs from 1 to the burst;
-- its key holds a slot or a debt, in the words that the rules make of the list so far.                    holds
-- Then it is answered as that slot's bucket answers it, or a fresh bucket in that debt:                   ByOwnBucket, own_reply
-- never for lack of space. A try through a class, of a cost that is also over no burst on the chain, is answered so by that bucket and those on the chain:
-- it waits for the largest of their waits.                                                                ByOwnBucketAndChain
--
-- The window of a class.                                                                                 ClassWindow
-- The list starts from any words, and has any rule when full and any hashes, and a rate or none.
-- Of the calls that are not refused by number all have one settings record,                              SameSettings
-- all tries through a class have one class table,                                                        SameTable
-- and the moments never fall.                                                                            TimesNeverFall
-- Add up the tokens of the granted tries with class d on their chain, at moments from t to u.             tokens_through
-- Times the period of d, the sum is at most burst × period + (u - t + 1) × amount, by the rate of d.      WithinRate 1
--
-- All three parts are over any terms: they hold of lists in which every call names a key (`by_key` of `rules`), of lists in which every call names an address
-- (`by_address` of `modems`), of lists that mix both (`by_name` of `modems`), and of lists whose calls also write their settings as the numbers of a C struct,
-- each in its own way (`exported`).
--
-- Theorems, in proofs/:
-- * `rules_meet_demand3`: the rules meet it. `demand2_gives_demand3`: so does every limiter that meets demand 2.
-- * `demand2_changes_nothing_where_refused`: a limiter that meets demand 2 changes no word and no record where it refuses.
-- * `contracts_meet_demand2`, `contracts_meet_demand3`: so does code that is as the contracts of `perkey`, `modems`, `class_calls` and `debt_calls` tell
--   its callers, in lists that mix their calls.
-- * `exports_meet_demand2`: what C and Rust call gives the rules' replies as numbers. `exports_meet_demand3`: so their callers have a limiter that meets it.
-- * `window_adding_none_is_false_of_the_rules`: the + 1 cannot be left out.
-- * `demand2_tells_moments`, `told_moments_count_alike`: the tokens that the window counts are those counted by the moments that grants tell (Moments).
-- * `rules_keep_the_class_window_exactly`, `demand2_keeps_the_class_window_exactly`: the window of a class holds without the + 1 as well.
-- * Request 10, isolation, has its own page: `Isolated` in Isolation. `rules_are_isolated`, `limiters_are_isolated`, `contracts_are_isolated`,
--   `exports_are_isolated`: the rules, every limiter that meets demand 2, code and exports have it. `grown_total_is_the_sum`: on a grown store the total is the
--   slots of all shards.
-- * Request 11, the window of a key that may be refunded, has its own page: `RefundWindow` in Refunds. `rules_keep_the_refund_window`: the rules keep it.
--   `demand2_keeps_the_refund_window`, `contracts_keep_the_refund_window`, `exports_keep_the_refund_window`: so do every limiter that meets demand 2, code and
--   exports. It is about the same lists as the window here, with tries through a class among them: a granted one counts as a grant to its key.
-- * Impostors are refuted in ImpostorLaws and ClassImpostors. Demand 3 alone admits a limiter that turns every newcomer away at first
--   (`turns_newcomers_away_meets_demand3`); demand 2 shuts it out (`turns_newcomers_away_fails_demand2`).
use Rattle.std.specs.Prelude.{ℕ, ◌+◌, ◌*◌, ◌-◌, ◌≤◌, ◌<◌, ◌≡◌, Bool, true, cond, List, [], ◌∷◌, leb, eqb, length}
use Rattle.rows.specs.Outcome.{Outcome}
use Rattle.units.specs.declared.Nanos.{Nanos}
use Rattle.bucket.specs.declared.Request.{Request}
use Rattle.settings.specs.declared.Limit.TheVariants.{Open}
use Rattle.settings.specs.declared.Settings.{Settings}
use Rattle.settings.specs.declared.eviction.WhenFull.TheVariants.{RefuseNew}
use Rattle.settings.specs.declared.rate.Rate.{Rate}
use Rattle.settings.specs.Rate.{burst_of, config_of}
use Rattle.settings.specs.Settings.{shape_of}
use Rattle.classes.specs.declared.Class.{Class}
use Rattle.classes.specs.Classes.{class_at}
use Rattle.classes.specs.Chains.{among, least_burst}
use Rattle.classes.specs.Layout.{classes_in}
use Rattle.ledger.specs.declared.Debt.{Debt}
use Rattle.shard.specs.declared.Identity.{Identity}
use Rattle.shard.specs.Model.{own_decision, holds}
use Rattle.store.specs.Memory.{shard_at, buckets_at}
use Rattle.rules.specs.declared.Reply.{Reply}
use Rattle.rules.specs.declared.Reply.TheVariants.{Done}
use Rattle.rules.specs.Replies.{of_grant, numbered}
use Rattle.rules.specs.Asks.{Ask, requests, looks, undoes, passes, Manner, as_try, as_reservation, manner_of, reply_to, with_table, chain_of, through_chain}
use Rattle.rules.specs.Rules.{class_set_up}
use Rattle.rules.specs.Widths.{lendable, records_fit}
use Rattle.rules.specs.Debts as Debts
use Rattle.rules.specs.Debts.{lent}
use Rattle.rules.specs.Calls.{Call, keyed, whole, Terms, Implementation, Answered, Every, clock_after}
use Rattle.rules.specs.Calls.{list_debts, settings_of, rules, replies, accepted, OfKey, OfUndone, fits, all_fit}

-- Set-up and clear are called without a class table, or with one. Without one they mean the empty table.
pub data Table : Type 0 where
  untabled : Table
  tabled : List ℕ → Table

abbrev pub table_words : Table → List ℕ
table_words untabled = []
table_words (tabled words) = words

abbrev pub table_fits : Table → Bool
table_fits table = lendable (table_words table)

-- A limiter, as its caller has it: set_up_lem, clear, and an answer to every other call. Each gives a reply and leaves words. A list of debts is
-- answered for the number of lent records: by its contract the answer depends on nothing else of them. The records after it are those of `lists`, for the
-- settings, the moment, the shard's number, the records that are lent, and the words.
pub record Limiter (S N : Type 0) : Type 0 where
  pub sets_up_lem : Table → S → List ℕ → Outcome Reply (List ℕ)
  pub clears : Table → S → List ℕ → Outcome Reply (List ℕ)
  pub answers : Implementation S N
  pub lists : S → Nanos → ℕ → List Debt → List ℕ → List Debt

-- The tokens of one grant, if it is the key's and they first become usable from t to u.
unfoldable pub usable : Identity → ℕ → ℕ → Identity → ℕ → ℕ → ℕ
usable k t u id moment cost =
    cond (eqb id.hash k.hash) (cond (eqb id.key k.key) (cond (leb t moment) (cond (leb moment u) cost 0) 0) 0) 0

-- The tokens of a grant (`of_grant`) are usable at once where a try was made, and from the call's moment plus the wait answered where a reservation was.
abbrev pub usable_from : Manner → Nanos → ℕ → ℕ
usable_from as_try at wait = at.0
usable_from as_reservation at wait = at.0 + wait

abbrev pub ask_tokens : Identity → ℕ → ℕ → Identity → Ask → Reply → ℕ
ask_tokens k t u id (requests r at cost) reply = of_grant (λ wait. usable k t u id (usable_from (manner_of r) at wait) cost) 0 reply
ask_tokens k t u id (looks l) reply = 0
ask_tokens k t u id (undoes undo) reply = 0
ask_tokens k t u id (passes table class at cost) reply = of_grant (λ wait. usable k t u id (usable_from as_try at wait) cost) 0 reply

-- The tokens of a granted try through a class, if its chain has class d and its moment is from t to u.
unfoldable pub through : List Class → ℕ → ℕ → ℕ → ℕ → ℕ → ℕ → ℕ
through cs d t u class moment cost = cond (among d (chain_of cs class)) (cond (leb t moment) (cond (leb moment u) cost 0) 0) 0

abbrev pub ask_tokens_through : List Class → ℕ → ℕ → ℕ → Ask → Reply → ℕ
ask_tokens_through cs d t u (requests r at cost) reply = 0
ask_tokens_through cs d t u (looks l) reply = 0
ask_tokens_through cs d t u (undoes undo) reply = 0
ask_tokens_through cs d t u (passes table class at cost) reply = of_grant (λ wait. through cs d t u class at.0 cost) 0 reply

-- No more tokens from any t to any u than a rate allows, with some moments added to those from t to u.
abbrev pub WithinRate : ℕ → Rate → (ℕ → ℕ → ℕ) → Type 0
WithinRate added rate tokens =
    (t u : ℕ) → t ≤ u → tokens t u * rate.period.0 ≤ burst_of rate * rate.period.0 + (u - t + added) * rate.amount

-- What is said of the class table of an ask, if it has one.
abbrev pub OfTable : (List Class → Type 0) → Ask → Type 0
OfTable Q (requests r at cost) = Unit {0}
OfTable Q (looks l) = Unit {0}
OfTable Q (undoes undo) = Unit {0}
OfTable Q (passes table class at cost) = Q (classes_in table)

-- What a key's own bucket answers to a request: its slot's bucket, else a fresh one in its debt.
abbrev pub own_reply : Settings → Rate → Nanos → Identity → Request → ℕ → List ℕ → Reply
own_reply s rate at id r cost ws = reply_to (manner_of r) (own_decision (config_of rate) id r cost at (shard_at s id.hash ws))

module _ {S N : Type 0} (terms : Terms S N) where
  -- Set-up by the rules. Clear is the same. The settings that a store has after it: those with the number of classes of the table.
  abbrev pub set_up_by : Table → S → List ℕ → Outcome Reply (List ℕ)
  set_up_by table s ws = class_set_up (terms.settings s) (table_words table) ws

  abbrev pub settings_by : Table → S → Settings
  settings_by table s = with_table (table_words table) (terms.settings s)

  -- The records after a list of debts, by the rules.
  abbrev pub records_by : S → Nanos → ℕ → List Debt → List ℕ → List Debt
  records_by s at i records ws = (Debts.list_debts (terms.settings s) at i (lent ws records)).after.records

  -- A limiter that is set up and cleared and lists debts as the rules say, and answers calls in a way of its own. The rules are such a limiter.
  abbrev pub answering : Implementation S N → Limiter S N
  answering f = record { sets_up_lem = set_up_by; clears = set_up_by; answers = f; lists = records_by }

  -- Demand 2, for all that code can be given: every reply, and all words and records after it, are those of the rules.
  pub record Demand2 (l : Limiter S N) : Type 0 where
    pub sets_up_lem : (table : Table) (s : S) (ws : List ℕ) → table_fits table ≡ true → terms.settings_fit s ≡ true → lendable ws ≡ true
        → l.sets_up_lem table s ws ≡ set_up_by table s ws
    pub clears : (table : Table) (s : S) (ws : List ℕ) → table_fits table ≡ true → terms.settings_fit s ≡ true → lendable ws ≡ true
        → l.clears table s ws ≡ set_up_by table s ws
    pub answers : (c : Call S N) (ws : List ℕ) → fits terms c ≡ true → lendable ws ≡ true → l.answers c ws ≡ rules terms c ws
    pub lists : (s : S) (at : Nanos) (i : ℕ) (records : List Debt) (ws : List ℕ) → fits terms (list_debts s at i (length records)) ≡ true
        → records_fit records ≡ true → lendable ws ≡ true → l.lists s at i records ws ≡ records_by s at i records ws

  -- Of demand 1: where the reply is a refusal by number, all words and all records are as they were.
  pub record RefusedChangesNothing (l : Limiter S N) : Type 0 where
    pub sets_up_lem : (table : Table) (s : S) (ws : List ℕ) → table_fits table ≡ true → terms.settings_fit s ≡ true → lendable ws ≡ true
        → numbered (l.sets_up_lem table s ws).answer ≡ true → (l.sets_up_lem table s ws).after ≡ ws
    pub clears : (table : Table) (s : S) (ws : List ℕ) → table_fits table ≡ true → terms.settings_fit s ≡ true → lendable ws ≡ true
        → numbered (l.clears table s ws).answer ≡ true → (l.clears table s ws).after ≡ ws
    pub answers : (c : Call S N) (ws : List ℕ) → fits terms c ≡ true → lendable ws ≡ true → numbered (l.answers c ws).answer ≡ true
        → (l.answers c ws).after ≡ ws
    pub lists : (s : S) (at : Nanos) (i : ℕ) (records : List Debt) (ws : List ℕ) → fits terms (list_debts s at i (length records)) ≡ true
        → records_fit records ≡ true → lendable ws ≡ true → numbered (l.answers (list_debts s at i (length records)) ws).answer ≡ true
        → l.lists s at i records ws ≡ records

  -- The conditions of the window rule bind accepted calls only. They all have the settings of set_up_lem;
  abbrev pub SameSettings : Settings → List (Answered S N) → Type 0
  SameSettings s = Every (λ a. accepted terms a ≡ true → settings_of terms a.call ≡ s)

  -- their moments never fall;
  abbrev pub clock : ℕ → Answered S N → ℕ
  clock before a = cond (accepted terms a) (clock_after a.call before) before

  unfoldable pub TimesNeverFall : ℕ → List (Answered S N) → Type 0
  TimesNeverFall before [] = Unit {0}
  TimesNeverFall before (a ∷ rest) = (before ≤ clock before a) × TimesNeverFall (clock before a) rest

  -- no two of them name different keys with the same hash;
  abbrev pub Agree : Answered S N → Answered S N → Type 0
  Agree a b =
      accepted terms a ≡ true → accepted terms b ≡ true → OfKey terms (λ i. OfKey terms (λ j. i.hash ≡ j.hash → i.key ≡ j.key) b.call) a.call

  unfoldable pub NoSharedHash : List (Answered S N) → Type 0
  NoSharedHash [] = Unit {0}
  NoSharedHash (a ∷ rest) = Every (Agree a) rest × NoSharedHash rest

  -- and none of them refunds or removes the key in question.
  abbrev pub NeverRefundedOrRemoved : Identity → List (Answered S N) → Type 0
  NeverRefundedOrRemoved k = Every (λ a. accepted terms a ≡ true → OfUndone terms (λ id. id.hash ≡ k.hash → id.key ≡ k.key → ⊥) a.call)

  -- The tokens of a call, if it grants any; and those of a list.
  abbrev pub tokens_of : Identity → ℕ → ℕ → Call S N → Reply → ℕ
  tokens_of k t u (keyed s n ask) reply = ask_tokens k t u (terms.identity n) ask reply
  tokens_of k t u (whole s what) reply = 0

  unfoldable pub tokens_usable : Identity → ℕ → ℕ → List (Answered S N) → ℕ
  tokens_usable k t u [] = 0
  tokens_usable k t u (a ∷ rest) = tokens_of k t u a.call a.reply + tokens_usable k t u rest

  -- One list stays within the window, with some moments added to those from t to u.
  abbrev pub WithinWindow : ℕ → Settings → Rate → List (Answered S N) → Type 0
  WithinWindow added s rate answered =
      SameSettings s answered → TimesNeverFall 0 answered → NoSharedHash answered →
      (k : Identity) → NeverRefundedOrRemoved k answered →
      (t u : ℕ) → t ≤ u →
      tokens_usable k t u answered * rate.period.0 ≤ burst_of rate * rate.period.0 + (u - t + added) * rate.amount

  -- Every list does that starts from a fresh store, with a rate set, under RefuseNew: from the words that the limiter's set_up_lem leaves where the rules
  -- accept it.
  abbrev pub WindowAdding : ℕ → Limiter S N → Type 0
  WindowAdding added l =
      (table : Table) (s : S) (rate : Rate) (ws : List ℕ) → table_fits table ≡ true → terms.settings_fit s ≡ true → lendable ws ≡ true →
      (terms.settings s).limit ≡ Open rate → (terms.settings s).eviction.when_full ≡ RefuseNew → (set_up_by table s ws).answer ≡ Done →
      (cs : List (Call S N)) → all_fit terms cs ≡ true →
      WithinWindow added (settings_by table s) rate (replies terms l.answers cs (l.sets_up_lem table s ws).after (l.sets_up_lem table s ws).after)

  -- Demand 3, first part: the window. No key is granted more in any window than its burst and what comes back in that time and in one moment more. That
  -- moment cannot be left out: waits are rounded up to whole nanoseconds, so tokens that came back within the nanosecond before t can first be usable at t.
  abbrev pub Window : Limiter S N → Type 0
  Window l = WindowAdding 1 l

  -- An accepted request with a rate and a cost from 1 to the burst, for a key that holds a slot or a debt, is answered by its own bucket.
  abbrev pub ByOwnBucket : Answered S N → Settings → Identity → Request → Nanos → ℕ → Type 0
  ByOwnBucket a s id r at cost =
      accepted terms a ≡ true → (rate : Rate) → s.limit ≡ Open rate → 1 ≤ cost → cost ≤ burst_of rate →
      holds id (shard_at s id.hash a.rules_words) ≡ true →
      a.reply ≡ own_reply s rate at id r cost a.rules_words

  -- So is a try through a class, where no burst on the chain is less than its cost: by its own bucket and the buckets on the chain, in the rules' words.
  abbrev pub ByOwnBucketAndChain : Answered S N → Settings → Identity → List Class → ℕ → Nanos → ℕ → Type 0
  ByOwnBucketAndChain a s id cs class at cost =
      cost ≤ least_burst cs (chain_of cs class) →
      ByOwnBucket a s id (through_chain cs class at cost (buckets_at (shape_of s) a.rules_words)) at cost

  abbrev pub DecidedBy : Answered S N → Call S N → Type 0
  DecidedBy a (keyed s n (requests r at cost)) = ByOwnBucket a (terms.settings s) (terms.identity n) r at cost
  DecidedBy a (keyed s n (looks l)) = Unit {0}
  DecidedBy a (keyed s n (undoes u)) = Unit {0}
  DecidedBy a (keyed s n (passes table class at cost)) =
      ByOwnBucketAndChain a (with_table table (terms.settings s)) (terms.identity n) (classes_in table) class at cost
  DecidedBy a (whole s what) = Unit {0}

  -- Demand 3, second part: the own bucket. From any words, whatever the settings, times and hashes, no such request is decided by lack of space.
  abbrev pub OwnBucket : Limiter S N → Type 0
  OwnBucket l =
      (ws : List ℕ) (cs : List (Call S N)) → lendable ws ≡ true → all_fit terms cs ≡ true →
      Every (λ a. DecidedBy a a.call) (replies terms l.answers cs ws ws)

  -- The condition on class tables binds accepted calls only: all tries through a class have one table.
  abbrev pub CallOfTable : (List Class → Type 0) → Call S N → Type 0
  CallOfTable Q (keyed s n ask) = OfTable Q ask
  CallOfTable Q (whole s what) = Unit {0}

  abbrev pub SameTable : List Class → List (Answered S N) → Type 0
  SameTable cs = Every (λ a. accepted terms a ≡ true → CallOfTable (λ own. own ≡ cs) a.call)

  -- The tokens that pass through class d from t to u, of a call and of a list.
  abbrev pub tokens_through_of : List Class → ℕ → ℕ → ℕ → Call S N → Reply → ℕ
  tokens_through_of cs d t u (keyed s n ask) reply = ask_tokens_through cs d t u ask reply
  tokens_through_of cs d t u (whole s what) reply = 0

  unfoldable pub tokens_through : List Class → ℕ → ℕ → ℕ → List (Answered S N) → ℕ
  tokens_through cs d t u [] = 0
  tokens_through cs d t u (a ∷ rest) = tokens_through_of cs d t u a.call a.reply + tokens_through cs d t u rest

  -- One list stays within the rate of every class, with some moments added to those from t to u.
  abbrev pub WithinClassWindows : ℕ → Settings → List Class → List (Answered S N) → Type 0
  WithinClassWindows added s cs answered =
      SameSettings s answered → SameTable cs answered → TimesNeverFall 0 answered → s.classes ≡ length cs →
      (d : ℕ) → d < length cs → WithinRate added (class_at cs d).rate (λ t u. tokens_through cs d t u answered)

  abbrev pub ClassWindowAdding : ℕ → Limiter S N → Type 0
  ClassWindowAdding added l =
      (s : Settings) (table : List Class) (ws : List ℕ) (cs : List (Call S N)) → lendable ws ≡ true → all_fit terms cs ≡ true →
      WithinClassWindows added s table (replies terms l.answers cs ws ws)

  -- Demand 3, third part (request 9): the window of a class. From any words, no class passes more in any window than its burst and what comes back in that
  -- time and in one moment more.
  abbrev pub ClassWindow : Limiter S N → Type 0
  ClassWindow l = ClassWindowAdding 1 l

  -- Demand 3 is all three parts.
  pub record Demand3 (l : Limiter S N) : Type 0 where
    pub window : Window l
    pub own_bucket : OwnBucket l
    pub class_window : ClassWindow l
