-- What C and Rust call meets demand 2, told as numbers, and gives its callers a limiter that meets demand 3.
use Prim.Native.Nat.{ℕ, ◌+◌, ◌-◌, ◌<◌}
use native.Mathlib.Omega.{arith}
use mathlib.Core.Path.{◌≡◌, refl, sym, ap, ◌∙◌}
use mathlib.Core.Bool.{true, false, false≢true}
use mathlib.Core.List.{List}
use contract.Lifetimes.{Lfts}
use borrow.Author.Tests.{ne_eqb}
use lib.Dec.{eqb}
use lib.ListN.{length, replicate, length-replicate}
use Rattle.arith.proofs.Cases.{by_eq}
use Rattle.rows.specs.Outcome.{Outcome, outcome}
use Rattle.units.specs.declared.Nanos.{Nanos}
use Rattle.units.specs.Units.{nanos_of}
use Rattle.bucket.specs.declared.Request.TheVariants.{Acquire, Reserve, Through}
use Rattle.settings.specs.declared.Settings.{Settings}
use Rattle.settings.specs.Before as Before
use Rattle.settings.specs.Settings.{shape_of}
use Rattle.store.specs.Memory.{memory_words}
use Rattle.ledger.specs.declared.Debt.{Debt}
use Rattle.ledger.specs.Model.{no_debt}
use Rattle.shard.specs.declared.Identity.{Identity}
use Rattle.rules.specs.declared.Reply.{Reply}
use Rattle.rules.specs.declared.codes.Told.{Told}
use Rattle.rules.specs.declared.Reply.TheVariants.{Done, Refused}
use Rattle.rules.specs.Replies.{told_of, told, Kind, decides, reserves, counts, knows}
use Rattle.rules.specs.Asks.{Ask, requests, looks, undoes, passes, in_force, peeks, tokens, turn_aways, refunds, removes}
use Rattle.rules.specs.Rules as Rules
use Rattle.rules.specs.Rules.{table_set_up_refusal_in, set_up_in, set_up_for, set_up, clear, class_set_up, class_clear, keyed_rule}
use Rattle.rules.specs.Widths.{lendable, records_fit}
use Rattle.rules.specs.Calls.{Call, keyed, whole, len, debts, list_debts, Terms, kind_of, settings_of, rules, rules_in, fits, Every}
use Rattle.rules.proofs.RefusedLaws.{unless_refused_accepts, unless_refused_refuses}
use Rattle.rules.proofs.DebtLaws.{listing_is_the_call}
use Rattle.rules.proofs.KindLaws.{OfKind, acquired, retried, impossible, reserved, not_reserved, counted, known, unknown}
use Rattle.rules.proofs.CallLaws.{refusal_of, rule_of, not_refused_is_ruled, refused_is_told, rule_answers_in_kind}
use Rattle.modems.specs.Address as Address
use Rattle.modems.specs.Names.{Name, key, address}
use Rattle.limiter.specs.declared.LimiterSettings.{LimiterSettings}
use Rattle.limiter.specs.Exported as Exported
use Rattle.limiter.specs.Exported.{identity_of}
use Rattle.demands.specs.Demands.{Table, untabled, tabled, table_words, table_fits, Limiter, set_up_by, settings_by, records_by, Demand2, Demand3}
use Rattle.demands.specs.Moments.{TellsMoments}
use Rattle.demands.specs.PlaceOrder.{Turn, AllOf, run, SameWithoutIndexes}
use Rattle.demands.specs.TurnAways.{EqualButForTurnAways, ListDecidedAlike}
use Rattle.demands.specs.Exports.{Exports, numbers_fit, exported, through, set_up_through, clear_through, ExportDemand2, reading, read_as, called}
use Rattle.demands.specs.Exports.{ExportContracts}
use Rattle.demands.proofs.DebtCalls.{blank, blank_fits, records_as_told, room_as_told}
use Rattle.demands.proofs.WidthLaws.{ask_is_offered, no_call_through_others, NamesFit}
use Rattle.demands.proofs.NameLaws.{names_fit, key_is_the_rule}
use Rattle.demands.proofs.Theorem.{demand2_gives_demand3}
use Rattle.demands.proofs.MomentLaws.{demand2_tells_moments}
use Rattle.demands.proofs.PlaceOrderTheorem.{by_limiter, TurnFits, limiter_is_as_without_indexes}
use Rattle.demands.proofs.TurnAwayTheorem.{limiter_decides_alike}
use Rattle.demands.proofs.IsolationTheorem.{limiters_are_isolated}
use Rattle.demands.specs.Isolation.{code_can_be_given, Isolated}
use Rattle.demands.proofs.SizeTheorem.{limiter_answers_as_at_the_shape_of_before}

-- A reply that is told as numbers is read, by its kind, as it was.
in_kind_comes_back : {at : Nanos} {kind : Kind} {r : Reply} → OfKind at kind r → reading kind (told_of r) ≡ r
unfolding reading
in_kind_comes_back acquired = refl
in_kind_comes_back (retried wait) = refl
in_kind_comes_back impossible = refl
in_kind_comes_back (reserved wait) = refl
in_kind_comes_back not_reserved = refl
in_kind_comes_back (counted n) = refl
in_kind_comes_back known = refl
in_kind_comes_back unknown = refl

-- The code of a refusal is none of the others.
no_other_code : (n code : ℕ) → code < 10 → eqb (10 + n) code ≡ false
no_other_code n code small = ne_eqb (10 + n) code (λ same. omega arith)

number_comes_back : (n : ℕ) → Refused (10 + n - 10) ≡ Refused n
number_comes_back n = ap Refused (omega arith)

pub refusal_comes_back : (kind : Kind) (n : ℕ) → reading kind (told_of (Refused n)) ≡ Refused n
unfolding reading
refusal_comes_back decides n =
    rw (no_other_code n 0 (omega arith), no_other_code n 1 (omega arith), no_other_code n 2 (omega arith)) (number_comes_back n)
refusal_comes_back reserves n = rw (no_other_code n 0 (omega arith), no_other_code n 3 (omega arith)) (number_comes_back n)
refusal_comes_back counts n = rw (no_other_code n 0 (omega arith)) (number_comes_back n)
refusal_comes_back knows n = rw (no_other_code n 0 (omega arith), no_other_code n 3 (omega arith)) (number_comes_back n)

-- So what the rules answer to a call comes back from its numbers, and so does what they answer to set_up_lem.
pub reply_comes_back : {S N : Type 0} (terms : Terms S N) (c : Call S N) (ws : List ℕ) → read_as (kind_of c) (told (rules terms c ws)) ≡ rules terms c ws
reply_comes_back terms c ws =
    by_eq (refusal_of terms c ws) 0
    (λ none.
    rw (not_refused_is_ruled terms c ws none) (ap (λ r. outcome r (rule_of terms c ws).after) (in_kind_comes_back (rule_answers_in_kind terms c ws))))
    (λ some. rw (refused_is_told terms c ws some) (ap (λ r. outcome r ws) (refusal_comes_back (kind_of c) (refusal_of terms c ws))))

set_up_comes_back : (s : Settings) (table ws : List ℕ) → read_as knows (told (set_up_for s table ws)) ≡ set_up_for s table ws
unfolding set_up_in
set_up_comes_back s table ws =
    let number : ℕ = table_set_up_refusal_in (shape_of s) s table ws in
    let zeros : Outcome Reply (List ℕ) = outcome Done (replicate (memory_words s) 0) in
    by_eq number 0
    (λ none. rw (unless_refused_accepts number ws zeros none)
    (ap (λ r. outcome r (replicate (memory_words s) 0)) (in_kind_comes_back {at = record { 0 = 0 }} known)))
    (λ some. rw (unless_refused_refuses number ws zeros some) (ap (λ r. outcome r ws) (refusal_comes_back knows number)))

-- The rules, told as numbers, are as the contracts of the exports tell, so that what follows is said of something.
abbrev pub told_rules : Exports
told_rules = record {
  set_up_lem = λ n ws. told (set_up (Exported.settings_of n) ws);
  clear = λ n ws. told (clear (Exported.settings_of n) ws);
  try = λ n at hash key cost ws. told (keyed_rule (Exported.settings_of n) (identity_of hash key) (requests Acquire (nanos_of at) cost) ws);
  reserve = λ n at hash key cost longest ws.
      told (keyed_rule (Exported.settings_of n) (identity_of hash key) (requests (Reserve (nanos_of longest)) (nanos_of at) cost) ws);
  peek = λ n at hash key cost ws. told (keyed_rule (Exported.settings_of n) (identity_of hash key) (looks (peeks (nanos_of at) cost)) ws);
  available = λ n at hash key ws. told (keyed_rule (Exported.settings_of n) (identity_of hash key) (looks (tokens (nanos_of at))) ws);
  turned_away_met = λ n hash key ws. told (keyed_rule (Exported.settings_of n) (identity_of hash key) (looks turn_aways) ws);
  length = λ n ws. told (rules exported (whole n len) ws);
  refund = λ n hash key cost ws. told (keyed_rule (Exported.settings_of n) (identity_of hash key) (undoes (refunds cost)) ws);
  remove = λ n hash key ws. told (keyed_rule (Exported.settings_of n) (identity_of hash key) (undoes removes) ws);
  modem_try = λ n at bytes cost ws. told (Address.try_acquire (Exported.settings_of n) (nanos_of at) bytes cost ws);
  modem_reserve = λ n at bytes cost longest ws. told (Address.reserve (Exported.settings_of n) (nanos_of at) bytes cost (nanos_of longest) ws);
  modem_peek = λ n at bytes cost ws. told (Address.peek (Exported.settings_of n) (nanos_of at) bytes cost ws);
  modem_refund = λ n bytes cost ws. told (Address.refund (Exported.settings_of n) bytes cost ws);
  modem_remove = λ n bytes ws. told (Address.remove (Exported.settings_of n) bytes ws);
  class_set_up_met = λ n table ws. told (class_set_up (Exported.settings_of n) table ws);
  class_clear_met = λ n table ws. told (class_clear (Exported.settings_of n) table ws);
  class_try_met = λ n table at hash key class cost ws.
      told (Rules.class_try (Exported.settings_of n) table (nanos_of at) (identity_of hash key) class cost ws);
  debts = λ n at shard room ws. told (rules exported (whole n (debts (nanos_of at) shard room)) ws);
  records = λ n at shard records ws. records_by exported n (nanos_of at) shard records ws;
}

module _ (κs : Lfts 1) (κs₂ : Lfts 2) (ptr other_ptr : ℕ × ℕ) (name : ℕ) where
  pub rules_are_as_the_exports_tell : ExportContracts κs κs₂ ptr other_ptr name told_rules
  rules_are_as_the_exports_tell = record {
    by_key = record {
      sets_up_lem = λ n ws _ _ _. refl;
      clears = λ n ws _ _ _. refl;
      tries = λ n at id cost ws _ _ _. refl;
      reserves = λ n at id cost longest ws _ _ _. refl;
      peeks = λ n at id cost ws _ _ _. refl;
      tells_available = λ n at id ws _ _ _. refl;
      tells_turned_away = λ n id ws _ _ _. refl;
      tells_length = λ n ws _ _ _. refl;
      refunds = λ n id cost ws _ _ _. refl;
      removes = λ n id ws _ _ _. refl;
    };
    by_address = record {
      tries = λ n at bytes cost ws _ _ _. refl;
      reserves = λ n at bytes cost longest ws _ _ _. refl;
      peeks = λ n at bytes cost ws _ _ _. refl;
      refunds = λ n bytes cost ws _ _ _. refl;
      removes = λ n bytes ws _ _ _. refl;
    };
    by_class = record {
      sets_up_lem = λ n table ws _ _ _ _. refl;
      clears = λ n table ws _ _ _ _. refl;
      tries = λ n table class at id cost ws _ _ _. refl;
    };
    of_debts = record {
      lists = λ n at i records ws _ _ _.
          let s = Exported.settings_of n in
          sym (ap told (listing_is_the_call (shape_of s) s at i ws records));
    };
  }

  module _ (e : Exports) (c : ExportContracts κs κs₂ ptr other_ptr name e) where
    -- No export asks anything of its caller: `tt` shows all that is asked.
    pub exports_meet_demand2 : ExportDemand2 e
    exports_meet_demand2 = record { sets_up_lem = set_up_ruled; clears = clear_ruled; answers = ruled; lists = records_ruled }
      where
        set_up_ruled : (table : Table) (n : LimiterSettings) (ws : List ℕ) → table_fits table ≡ true → numbers_fit n ≡ true → lendable ws ≡ true
            → set_up_through e table n ws ≡ told (set_up_by exported table n ws)
        set_up_ruled untabled n ws few small lent = c.by_key.sets_up_lem n ws small lent tt
        set_up_ruled (tabled table) n ws few small lent = c.by_class.sets_up_lem n table ws small few lent tt

        clear_ruled : (table : Table) (n : LimiterSettings) (ws : List ℕ) → table_fits table ≡ true → numbers_fit n ≡ true → lendable ws ≡ true
            → clear_through e table n ws ≡ told (set_up_by exported table n ws)
        clear_ruled untabled n ws few small lent = c.by_key.clears n ws small lent tt
        clear_ruled (tabled table) n ws few small lent = c.by_class.clears n table ws small few lent tt

        -- A list of debts: its records, and what it gives.
        records_ruled : (n : LimiterSettings) (at : Nanos) (i : ℕ) (records : List Debt) (ws : List ℕ)
            → fits exported (list_debts n at i (length records)) ≡ true → records_fit records ≡ true → lendable ws ≡ true
            → e.records n at.0 i records ws ≡ records_by exported n at i records ws
        records_ruled n at i records ws fit small lent =
            records_as_told told_of (Exported.settings_of n) at i ws (λ room. e.debts n at.0 i room ws) (λ rs. e.records n at.0 i rs ws) records
            (c.of_debts.lists n at i records ws fit small lent)

        debts_ruled : (n : LimiterSettings) (at : Nanos) (i room : ℕ) (ws : List ℕ) → fits exported (list_debts n at i room) ≡ true → lendable ws ≡ true
            → e.debts n at.0 i room ws ≡ told (rules exported (list_debts n at i room) ws)
        debts_ruled n at i room ws fit lent =
            room_as_told told_of (Exported.settings_of n) at i ws (λ m. e.debts n at.0 i m ws) (λ rs. e.records n at.0 i rs ws) room
            (c.of_debts.lists n at i (blank room) ws (rw (length-replicate {A = Debt} room no_debt) fit) (blank_fits room) lent)

        -- A call that names a key follows the rule of what it asks.
        keyed_rule_lem : (n : LimiterSettings) (id : Identity) (ask : Ask) (ws : List ℕ) {o : Outcome Told (List ℕ)}
            → o ≡ told (keyed_rule (in_force ask (Exported.settings_of n)) id ask ws) → o ≡ told (rules exported (keyed n (key id) ask) ws)
        keyed_rule_lem n id ask ws gave = gave ∙ ap told (sym (key_is_the_rule Exported.settings_of numbers_fit n id ask ws))

        ruled : (call : Call LimiterSettings Name) (ws : List ℕ) → fits exported call ≡ true → lendable ws ≡ true
            → through e call ws ≡ told (rules exported call ws)
        ruled (keyed n (key id) (requests Acquire at cost)) ws = λ fit lent.
            keyed_rule_lem n id (requests Acquire at cost) ws (c.by_key.tries n at id cost ws fit lent tt)
        ruled (keyed n (key id) (requests (Reserve longest) at cost)) ws = λ fit lent.
            keyed_rule_lem n id (requests (Reserve longest) at cost) ws (c.by_key.reserves n at id cost longest ws fit lent tt)
        ruled (keyed n (key id) (requests (Through others) at cost)) ws = λ fit lent. absurd (no_call_through_others exported n (key id) others at cost fit)
        ruled (keyed n (key id) (looks (peeks at cost))) ws = λ fit lent.
            keyed_rule_lem n id (looks (peeks at cost)) ws (c.by_key.peeks n at id cost ws fit lent tt)
        ruled (keyed n (key id) (looks (tokens at))) ws = λ fit lent.
            keyed_rule_lem n id (looks (tokens at)) ws (c.by_key.tells_available n at id ws fit lent tt)
        ruled (keyed n (key id) (looks turn_aways)) ws = λ fit lent.
            keyed_rule_lem n id (looks turn_aways) ws (c.by_key.tells_turned_away n id ws fit lent tt)
        ruled (keyed n (key id) (undoes (refunds cost))) ws = λ fit lent.
            keyed_rule_lem n id (undoes (refunds cost)) ws (c.by_key.refunds n id cost ws fit lent tt)
        ruled (keyed n (key id) (undoes removes)) ws = λ fit lent. keyed_rule_lem n id (undoes removes) ws (c.by_key.removes n id ws fit lent tt)
        ruled (keyed n (key id) (passes table class at cost)) ws = λ fit lent.
            keyed_rule_lem n id (passes table class at cost) ws (c.by_class.tries n table class at id cost ws fit lent tt)
        ruled (keyed n (address bytes) (requests Acquire at cost)) ws = λ fit lent. c.by_address.tries n at bytes cost ws fit lent tt
        ruled (keyed n (address bytes) (requests (Reserve longest) at cost)) ws = λ fit lent. c.by_address.reserves n at bytes cost longest ws fit lent tt
        ruled (keyed n (address bytes) (requests (Through others) at cost)) ws = λ fit lent.
            absurd (no_call_through_others exported n (address bytes) others at cost fit)
        ruled (keyed n (address bytes) (looks (peeks at cost))) ws = λ fit lent. c.by_address.peeks n at bytes cost ws fit lent tt
        ruled (keyed n (address bytes) (looks (tokens at))) ws = λ fit lent.
            absurd (false≢true (ask_is_offered exported n (address bytes) (looks (tokens at)) fit))
        ruled (keyed n (address bytes) (looks turn_aways)) ws = λ fit lent.
            absurd (false≢true (ask_is_offered exported n (address bytes) (looks turn_aways) fit))
        ruled (keyed n (address bytes) (undoes (refunds cost))) ws = λ fit lent. c.by_address.refunds n bytes cost ws fit lent tt
        ruled (keyed n (address bytes) (undoes removes)) ws = λ fit lent. c.by_address.removes n bytes ws fit lent tt
        ruled (keyed n (address bytes) (passes table class at cost)) ws = λ fit lent.
            absurd (false≢true (ask_is_offered exported n (address bytes) (passes table class at cost) fit))
        ruled (whole n len) ws = λ fit lent. c.by_key.tells_length n ws fit lent tt
        ruled (whole n (debts at i room)) ws = λ fit lent. debts_ruled n at i room ws fit lent

    -- So a caller has a limiter that meets demand 2, in whatever numbers each call writes its settings.
    pub callers_have_demand2 : Demand2 exported (called e)
    callers_have_demand2 = record {
      sets_up_lem = λ table n ws few fit lent.
          ap (read_as knows) (exports_meet_demand2.sets_up_lem table n ws few fit lent)
          ∙ set_up_comes_back (settings_by exported table n) (table_words table) ws;
      clears = λ table n ws few fit lent.
          ap (read_as knows) (exports_meet_demand2.clears table n ws few fit lent) ∙ set_up_comes_back (settings_by exported table n) (table_words table) ws;
      answers = λ call ws fit lent. ap (read_as (kind_of call)) (exports_meet_demand2.answers call ws fit lent) ∙ reply_comes_back exported call ws;
      lists = exports_meet_demand2.lists;
    }

    names : NamesFit exported
    names = names_fit Exported.settings_of numbers_fit

    pub exports_meet_demand3 : Demand3 exported (called e)
    exports_meet_demand3 = demand2_gives_demand3 exported names (called e) callers_have_demand2

    -- They tell moments as the rules do (request 1), answer as a store without indexes does (request 3), as the rules do at the shape of before (request 6),
    -- alike whatever the counts of tries turned away (request 8), and on a key whatever the other shards hold (request 10).
    pub exports_tell_moments : TellsMoments exported (called e)
    exports_tell_moments = demand2_tells_moments exported names (called e) callers_have_demand2

    pub exports_are_as_without_indexes : (n : LimiterSettings) → numbers_fit n ≡ true → (table : Table) → table_fits table ≡ true
        → (ws : List ℕ) → lendable ws ≡ true → (set_up_by exported table n ws).answer ≡ Done
        → (ts : List (Turn LimiterSettings Name)) → Every (TurnFits exported) ts → AllOf exported (settings_by exported table n) ts
        → SameWithoutIndexes exported (by_limiter (called e) n) (settings_by exported table n) ts ((called e).sets_up_lem table n ws).after
    exports_are_as_without_indexes n fit = limiter_is_as_without_indexes exported names (called e) callers_have_demand2 n fit

    pub exports_answer_as_at_the_shape_of_before : (c : Call LimiterSettings Name) (ws : List ℕ) → fits exported c ≡ true → lendable ws ≡ true
        → Before.settings_refusal (settings_of exported c) ≡ 0 → (called e).answers c ws ≡ rules_in exported Before.shape_of c ws
    exports_answer_as_at_the_shape_of_before = limiter_answers_as_at_the_shape_of_before exported (called e) callers_have_demand2

    pub exports_decide_alike : (n : LimiterSettings) → numbers_fit n ≡ true → (table : Table) → (ts : List (Turn LimiterSettings Name)) (ws vs : List ℕ)
        → Every (TurnFits exported) ts → AllOf exported (settings_by exported table n) ts → lendable ws ≡ true → lendable vs ≡ true
        → EqualButForTurnAways (settings_by exported table n) ws vs
        → ListDecidedAlike (settings_by exported table n) ts (run (by_limiter (called e) n) ts ws) (run (by_limiter (called e) n) ts vs)
    exports_decide_alike n fit = limiter_decides_alike exported names (called e) callers_have_demand2 n fit

    pub exports_are_isolated : Isolated exported (code_can_be_given exported) (called e).answers
    exports_are_isolated = limiters_are_isolated exported (called e) callers_have_demand2
