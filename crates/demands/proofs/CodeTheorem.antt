-- Code that is as the contracts of its operations tell meets demand 2, and so demand 3: in lists that mix calls by key, calls by address, tries through a
-- class, looks at the length and lists of debts; and so in lists of calls by key alone.
use Prim.Native.Nat.{ℕ}
use mathlib.Core.Path.{◌≡◌, refl, sym, ◌∙◌}
use mathlib.Core.Bool.{true, false≢true}
use mathlib.Core.List.{List}
use lib.ListN.{length, length-replicate}
use contract.Lifetimes.{Lfts}
use Rattle.bucket.specs.declared.Request.TheVariants.{Acquire, Reserve, Through}
use Rattle.units.specs.declared.Nanos.{Nanos}
use Rattle.settings.specs.declared.Settings.{Settings}
use Rattle.settings.specs.Settings.{shape_of}
use Rattle.ledger.specs.declared.Debt.{Debt}
use Rattle.ledger.specs.Model.{no_debt}
use Rattle.shard.specs.declared.Identity.{Identity}
use Rattle.rules.specs.Asks.{Ask, requests, looks, undoes, passes, in_force, peeks, tokens, turn_aways, refunds, removes}
use Rattle.rules.specs.Rules.{keyed_rule}
use Rattle.rules.specs.Widths.{settings_fit, lendable, records_fit}
use Rattle.rules.specs.Calls.{Call, keyed, whole, len, debts, list_debts, by_key, rules, fits}
use Rattle.rules.proofs.CallLaws.{by_key_is_the_rule}
use Rattle.rules.proofs.DebtLaws.{listing_is_the_call}
use Rattle.modems.specs.Names.{Name, key, address, by_name}
use Rattle.demands.specs.Demands.{Table, untabled, tabled, table_fits, Limiter, set_up_by, records_by, answering, Demand2, Demand3}
use Rattle.demands.specs.CodeContracts.{KeyContracts, Contracts}
use Rattle.demands.specs.Moments.{TellsMoments}
use Rattle.demands.proofs.DebtCalls.{blank, blank_fits, records_as_told, room_as_told}
use Rattle.demands.proofs.WidthLaws.{ask_is_offered, no_call_through_others, keys_fit}
use Rattle.demands.proofs.NameLaws.{names_fit, key_is_the_rule}
use Rattle.demands.proofs.Theorem.{demand2_gives_demand3}
use Rattle.demands.proofs.MomentLaws.{demand2_tells_moments}
use Rattle.demands.proofs.IsolationTheorem.{limiters_are_isolated}
use Rattle.demands.specs.Isolation.{code_can_be_given, Isolated}

-- A call that names a key, among calls that may name an address.
named : (s : Settings) (id : Identity) (ask : Ask) (ws : List ℕ) → rules by_name (keyed s (key id) ask) ws ≡ keyed_rule (in_force ask s) id ask ws
named s id ask ws = key_is_the_rule (λ s. s) settings_fit s id ask ws

module _ (κs : Lfts 1) (κs₂ : Lfts 2) (ptr other_ptr : ℕ × ℕ) (name : ℕ) where
  -- The rules themselves are as the contracts tell, so that what follows is said of something.
  pub rules_are_as_the_contracts_tell : Contracts κs κs₂ ptr other_ptr name (answering by_name (rules by_name))
  rules_are_as_the_contracts_tell = record {
    by_key = record {
      sets_up_lem = λ s ws _ _ _. refl;
      clears = λ s ws _ _ _. refl;
      tries = λ s at id cost ws _ _ _. named s id (requests Acquire at cost) ws;
      reserves = λ s at id cost longest ws _ _ _. named s id (requests (Reserve longest) at cost) ws;
      peeks = λ s at id cost ws _ _ _. named s id (looks (peeks at cost)) ws;
      tells_available = λ s at id ws _ _ _. named s id (looks (tokens at)) ws;
      tells_turned_away = λ s id ws _ _ _. named s id (looks turn_aways) ws;
      tells_length = λ s ws _ _ _. refl;
      refunds = λ s id cost ws _ _ _. named s id (undoes (refunds cost)) ws;
      removes = λ s id ws _ _ _. named s id (undoes removes) ws;
    };
    by_address = record {
      tries = λ s at bytes cost ws _ _ _. refl;
      reserves = λ s at bytes cost longest ws _ _ _. refl;
      peeks = λ s at bytes cost ws _ _ _. refl;
      refunds = λ s bytes cost ws _ _ _. refl;
      removes = λ s bytes ws _ _ _. refl;
    };
    by_class = record {
      sets_up_lem = λ s table ws _ _ _ _. refl;
      clears = λ s table ws _ _ _ _. refl;
      tries = λ s table class at id cost ws _ _ _. named s id (passes table class at cost) ws;
    };
    of_debts = record { lists = λ s at i records ws _ _ _. sym (listing_is_the_call (shape_of s) s at i ws records) };
  }

  module _ (l : Limiter Settings Name) (all : Contracts κs κs₂ ptr other_ptr name l) where
    abbrev c : KeyContracts κs ptr name l
    c = all.by_key

    -- No operation asks anything of its caller: `tt` shows all that is asked. A request that waits for other buckets too is no call: it does not fit.
    asked_by_key : (s : Settings) (id : Identity) (ask : Ask) (ws : List ℕ) → fits by_name (keyed s (key id) ask) ≡ true → lendable ws ≡ true
        → l.answers (keyed s (key id) ask) ws ≡ keyed_rule (in_force ask s) id ask ws
    asked_by_key s id (requests Acquire at cost) ws = λ fit lent. c.tries s at id cost ws fit lent tt
    asked_by_key s id (requests (Reserve longest) at cost) ws = λ fit lent. c.reserves s at id cost longest ws fit lent tt
    asked_by_key s id (requests (Through others) at cost) ws = λ fit lent. absurd (no_call_through_others by_name s (key id) others at cost fit)
    asked_by_key s id (looks (peeks at cost)) ws = λ fit lent. c.peeks s at id cost ws fit lent tt
    asked_by_key s id (looks (tokens at)) ws = λ fit lent. c.tells_available s at id ws fit lent tt
    asked_by_key s id (looks turn_aways) ws = λ fit lent. c.tells_turned_away s id ws fit lent tt
    asked_by_key s id (undoes (refunds cost)) ws = λ fit lent. c.refunds s id cost ws fit lent tt
    asked_by_key s id (undoes removes) ws = λ fit lent. c.removes s id ws fit lent tt
    asked_by_key s id (passes table class at cost) ws = λ fit lent. all.by_class.tries s table class at id cost ws fit lent tt

    -- Set-up and clear, with a table and without one.
    set_up_as_told : (table : Table) (s : Settings) (ws : List ℕ) → table_fits table ≡ true → settings_fit s ≡ true → lendable ws ≡ true
        → l.sets_up_lem table s ws ≡ set_up_by by_name table s ws
    set_up_as_told untabled s ws few fit lent = c.sets_up_lem s ws fit lent tt
    set_up_as_told (tabled words) s ws few fit lent = all.by_class.sets_up_lem s words ws fit few lent tt

    clear_as_told : (table : Table) (s : Settings) (ws : List ℕ) → table_fits table ≡ true → settings_fit s ≡ true → lendable ws ≡ true
        → l.clears table s ws ≡ set_up_by by_name table s ws
    clear_as_told untabled s ws few fit lent = c.clears s ws fit lent tt
    clear_as_told (tabled words) s ws few fit lent = all.by_class.clears s words ws fit few lent tt

    -- A list of debts: its records, and its answer.
    records_as_the_rules : (s : Settings) (at : Nanos) (i : ℕ) (records : List Debt) (ws : List ℕ) → fits by_name (list_debts s at i (length records)) ≡ true
        → records_fit records ≡ true → lendable ws ≡ true → l.lists s at i records ws ≡ records_by by_name s at i records ws
    records_as_the_rules s at i records ws fit small lent =
        records_as_told (λ r. r) s at i ws (λ room. l.answers (list_debts s at i room) ws) (λ rs. l.lists s at i rs ws) records
        (all.of_debts.lists s at i records ws fit small lent)

    debts_as_the_rules : (s : Settings) (at : Nanos) (i room : ℕ) (ws : List ℕ) → fits by_name (list_debts s at i room) ≡ true → lendable ws ≡ true
        → l.answers (list_debts s at i room) ws ≡ rules by_name (list_debts s at i room) ws
    debts_as_the_rules s at i room ws fit lent =
        room_as_told (λ r. r) s at i ws (λ n. l.answers (list_debts s at i n) ws) (λ rs. l.lists s at i rs ws) room
        (all.of_debts.lists s at i (blank room) ws (rw (length-replicate {A = Debt} room no_debt) fit) (blank_fits room) lent)

    -- The same limiter where every call names a key.
    abbrev as_named : Call Settings Identity → Call Settings Name
    as_named (keyed s id ask) = keyed s (key id) ask
    as_named (whole s what) = whole s what

    abbrev pub on_keys : Limiter Settings Identity
    on_keys = record { sets_up_lem = l.sets_up_lem; clears = l.clears; answers = λ call ws. l.answers (as_named call) ws; lists = l.lists }

    pub key_contracts_meet_demand2 : Demand2 by_key on_keys
    key_contracts_meet_demand2 = record { sets_up_lem = set_up_as_told; clears = clear_as_told; answers = ruled; lists = records_as_the_rules }
      where
        ruled : (call : Call Settings Identity) (ws : List ℕ) → fits by_key call ≡ true → lendable ws ≡ true
            → l.answers (as_named call) ws ≡ rules by_key call ws
        ruled (keyed s id ask) ws = λ fit lent. asked_by_key s id ask ws fit lent ∙ sym (by_key_is_the_rule s id ask ws)
        ruled (whole s len) ws = λ fit lent. c.tells_length s ws fit lent tt
        ruled (whole s (debts at i room)) ws = λ fit lent. debts_as_the_rules s at i room ws fit lent

    pub key_contracts_meet_demand3 : Demand3 by_key on_keys
    key_contracts_meet_demand3 = demand2_gives_demand3 by_key keys_fit on_keys key_contracts_meet_demand2

  module _ (l : Limiter Settings Name) (c : Contracts κs κs₂ ptr other_ptr name l) where
    pub contracts_meet_demand2 : Demand2 by_name l
    contracts_meet_demand2 = record { sets_up_lem = set_up_as_told l c; clears = clear_as_told l c; answers = ruled; lists = records_as_the_rules l c }
      where
        ruled : (call : Call Settings Name) (ws : List ℕ) → fits by_name call ≡ true → lendable ws ≡ true → l.answers call ws ≡ rules by_name call ws
        ruled (keyed s (key id) ask) ws = λ fit lent. asked_by_key l c s id ask ws fit lent ∙ sym (named s id ask ws)
        ruled (keyed s (address bytes) (requests Acquire at cost)) ws = λ fit lent. c.by_address.tries s at bytes cost ws fit lent tt
        ruled (keyed s (address bytes) (requests (Reserve longest) at cost)) ws = λ fit lent. c.by_address.reserves s at bytes cost longest ws fit lent tt
        ruled (keyed s (address bytes) (requests (Through others) at cost)) ws = λ fit lent.
            absurd (no_call_through_others by_name s (address bytes) others at cost fit)
        ruled (keyed s (address bytes) (looks (peeks at cost))) ws = λ fit lent. c.by_address.peeks s at bytes cost ws fit lent tt
        ruled (keyed s (address bytes) (looks (tokens at))) ws = λ fit lent.
            absurd (false≢true (ask_is_offered by_name s (address bytes) (looks (tokens at)) fit))
        ruled (keyed s (address bytes) (looks turn_aways)) ws = λ fit lent.
            absurd (false≢true (ask_is_offered by_name s (address bytes) (looks turn_aways) fit))
        ruled (keyed s (address bytes) (undoes (refunds cost))) ws = λ fit lent. c.by_address.refunds s bytes cost ws fit lent tt
        ruled (keyed s (address bytes) (undoes removes)) ws = λ fit lent. c.by_address.removes s bytes ws fit lent tt
        ruled (keyed s (address bytes) (passes table class at cost)) ws = λ fit lent.
            absurd (false≢true (ask_is_offered by_name s (address bytes) (passes table class at cost) fit))
        ruled (whole s len) ws = λ fit lent. c.by_key.tells_length s ws fit lent tt
        ruled (whole s (debts at i room)) ws = λ fit lent. debts_as_the_rules l c s at i room ws fit lent

    pub contracts_meet_demand3 : Demand3 by_name l
    contracts_meet_demand3 = demand2_gives_demand3 by_name (names_fit (λ s. s) settings_fit) l contracts_meet_demand2

    pub contracts_tell_moments : TellsMoments by_name l
    contracts_tell_moments = demand2_tells_moments by_name (names_fit (λ s. s) settings_fit) l contracts_meet_demand2

    pub contracts_are_isolated : Isolated by_name (code_can_be_given by_name) l.answers
    contracts_are_isolated = limiters_are_isolated by_name l contracts_meet_demand2
