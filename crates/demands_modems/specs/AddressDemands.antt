-- Demand 3 as it reads for hardware addresses (request 4 of document 02): the window for every address, in lists whose calls name modems by the bytes of
-- their addresses. `Demands` of crate demands has it for identities, in lists that may mix calls by key and by address; here names and sums are those of
-- bytes. A list that has calls by key too, such as looks at available, is one of those lists, with `identity_of` of `modems` for the address.
--
-- In plain English. Behind each clause stands the name that states it.
--
-- Take any list of tries, reservations, peeks, refunds and removals by address, each with any bytes, and looks at the length,
-- calls that are refused by number among them, as 11 and 12 too, with any numbers that code can be given. fits (Calls)
-- Each call gets the words that the call before it left.                                                 replies (Calls)
--
-- The window.                                                                                            AddressWindow
-- The settings have a rate and turn new keys away when full, and the list starts from the words that an accepted set_up_lem leaves, with a class table or
-- without one.                                                                                           Table (Demands)
-- Of the calls that are not refused by number                                                            accepted (Calls)
-- all have these settings,                                                                               SameSettings (Demands)
-- the moments never fall,                                                                                TimesNeverFall (Demands)
-- no two name different addresses of one hash,                                                           NoSharedHash
-- and none refunds or removes the address k.                                                             NeverRefundedOrRemoved
-- Add up the tokens granted to k that first become usable from moment t to moment u.                     tokens_usable
-- Times the period, the sum is at most burst × period + (u - t + 1) × amount.                            WithinWindow
--
-- The own bucket is that of `Demands`: an address has the slot or the debt of its identity.                OwnBucket (Demands)
--
-- Theorems, in proofs/:
-- * `rules_meet_address_demand3`: the rules meet it. `demand2_gives_address_demand3`: so does every limiter that meets demand 2.
-- * `contracts_meet_address_demand3`: so does code that is as the contracts of `perkey` and `modems` tell its callers.
-- * `exports_meet_address_demand3`: so do the exports that C and Rust call.
-- * Request 11 for addresses has its own page: `AddressRefundWindow` in AddressRefunds.
use Rattle.std.specs.Prelude.{ℕ, ◌+◌, ◌*◌, ◌-◌, ◌≤◌, ◌≡◌, Bool, true, false, cond, ◌&&◌, List, [], ◌∷◌, leb, eqb}
use Rattle.settings.specs.declared.Limit.TheVariants.{Open}
use Rattle.settings.specs.declared.Settings.{Settings}
use Rattle.settings.specs.declared.eviction.WhenFull.TheVariants.{RefuseNew}
use Rattle.settings.specs.declared.rate.Rate.{Rate}
use Rattle.settings.specs.Rate.{burst_of}
use Rattle.rules.specs.declared.Reply.{Reply}
use Rattle.rules.specs.declared.Reply.TheVariants.{Done}
use Rattle.rules.specs.Replies.{of_grant}
use Rattle.rules.specs.Asks.{Ask, requests, looks, undoes, passes, as_try, manner_of}
use Rattle.rules.specs.Widths.{lendable}
use Rattle.rules.specs.Calls.{Call, keyed, whole, Terms, Answered, replies, accepted, all_fit, Every}
use Rattle.modems.specs.Address.{hash_of}
use Rattle.modems.specs.Names.{addressed_in}
use Rattle.demands.specs.Demands as Demands
use Rattle.demands.specs.Demands.{Table, table_fits, Limiter, set_up_by, settings_by, SameSettings, TimesNeverFall, OwnBucket, usable_from}

-- Whether two addresses are the same, byte by byte.
abbrev pub same_bytes : List ℕ → List ℕ → Bool
same_bytes [] [] = true
same_bytes [] (y ∷ b) = false
same_bytes (x ∷ a) [] = false
same_bytes (x ∷ a) (y ∷ b) = eqb x y && same_bytes a b

-- The tokens of one grant, if it is the address's and they first become usable from t to u.
unfoldable pub usable : List ℕ → ℕ → ℕ → List ℕ → ℕ → ℕ → ℕ
usable k t u bytes moment cost = cond (same_bytes bytes k) (cond (leb t moment) (cond (leb moment u) cost 0) 0) 0

abbrev pub ask_tokens : List ℕ → ℕ → ℕ → List ℕ → Ask → Reply → ℕ
ask_tokens k t u bytes (requests r at cost) reply = of_grant (λ wait. usable k t u bytes (usable_from (manner_of r) at wait) cost) 0 reply
ask_tokens k t u bytes (looks l) reply = 0
ask_tokens k t u bytes (undoes undo) reply = 0
ask_tokens k t u bytes (passes table class at cost) reply = of_grant (λ wait. usable k t u bytes (usable_from as_try at wait) cost) 0 reply

module _ {S : Type 0} where
  abbrev pub tokens_of : List ℕ → ℕ → ℕ → Call S (List ℕ) → Reply → ℕ
  tokens_of k t u (keyed s bytes ask) reply = ask_tokens k t u bytes ask reply
  tokens_of k t u (whole s what) reply = 0

  unfoldable pub tokens_usable : List ℕ → ℕ → ℕ → List (Answered S (List ℕ)) → ℕ
  tokens_usable k t u [] = 0
  tokens_usable k t u (a ∷ rest) = tokens_of k t u a.call a.reply + tokens_usable k t u rest

  -- What is said of the bytes that a call names, if it names any; and of those of a refund or a removal.
  abbrev pub OfAddress : (List ℕ → Type 0) → Call S (List ℕ) → Type 0
  OfAddress Q (keyed s bytes ask) = Q bytes
  OfAddress Q (whole s what) = Unit {0}

  abbrev pub OfUndone : (List ℕ → Type 0) → Call S (List ℕ) → Type 0
  OfUndone Q (keyed s bytes (requests r at cost)) = Unit {0}
  OfUndone Q (keyed s bytes (looks l)) = Unit {0}
  OfUndone Q (keyed s bytes (undoes u)) = Q bytes
  OfUndone Q (keyed s bytes (passes table class at cost)) = Unit {0}
  OfUndone Q (whole s what) = Unit {0}

module _ {S : Type 0} (means : S → Settings) (fit : S → Bool) where
  abbrev pub addressed : Terms S (List ℕ)
  addressed = addressed_in means fit

  -- No two accepted calls name different addresses with the same hash;
  abbrev pub Agree : Answered S (List ℕ) → Answered S (List ℕ) → Type 0
  Agree a b =
      accepted addressed a ≡ true → accepted addressed b ≡ true
      → OfAddress (λ one. OfAddress (λ other. hash_of one ≡ hash_of other → one ≡ other) b.call) a.call

  unfoldable pub NoSharedHash : List (Answered S (List ℕ)) → Type 0
  NoSharedHash [] = Unit {0}
  NoSharedHash (a ∷ rest) = Every (Agree a) rest × NoSharedHash rest

  -- and none of them refunds or removes the address in question.
  abbrev pub NeverRefundedOrRemoved : List ℕ → List (Answered S (List ℕ)) → Type 0
  NeverRefundedOrRemoved k = Every (λ a. accepted addressed a ≡ true → OfUndone (λ bytes. bytes ≡ k → ⊥) a.call)

  -- One list stays within the window.
  abbrev pub WithinWindow : Settings → Rate → List (Answered S (List ℕ)) → Type 0
  WithinWindow s rate answered =
      SameSettings addressed s answered → TimesNeverFall addressed 0 answered → NoSharedHash answered →
      (k : List ℕ) → NeverRefundedOrRemoved k answered →
      (t u : ℕ) → t ≤ u →
      tokens_usable k t u answered * rate.period.0 ≤ burst_of rate * rate.period.0 + (u - t + 1) * rate.amount

  -- Demand 3 for addresses: the window, and the own bucket.
  abbrev pub AddressWindow : Limiter S (List ℕ) → Type 0
  AddressWindow l =
      (table : Table) (s : S) (rate : Rate) (ws : List ℕ) → table_fits table ≡ true → fit s ≡ true → lendable ws ≡ true →
      (means s).limit ≡ Open rate → (means s).eviction.when_full ≡ RefuseNew → (set_up_by addressed table s ws).answer ≡ Done →
      (cs : List (Call S (List ℕ))) → all_fit addressed cs ≡ true →
      WithinWindow (settings_by addressed table s) rate
      (replies addressed l.answers cs (l.sets_up_lem table s ws).after (l.sets_up_lem table s ws).after)

  pub record AddressDemand3 (l : Limiter S (List ℕ)) : Type 0 where
    pub window : AddressWindow l
    pub own_bucket : OwnBucket addressed l
