-- The limiter as C and Rust call it: the ten exports of `limiter` that are lent words, on plain numbers, the five of `limiter_modems`, on numbers and the bytes
-- of an address, the three of `limiter_classes`, on numbers and the words of a class table, and the one of `limiter_debts`, on numbers and records; demand 2 of
-- them; and the limiter that a caller has in them, who reads replies from their numbers. Each call of a list writes its settings as numbers of its own. The
-- other exports are lent no words, so they are no calls of a list: the number of words, the hash of a key, the identity of an address, the version.
use Rattle.std.specs.Prelude.{ℕ, ◌-◌, ◌≡◌, Bool, true, cond, ◌&&◌, List, eqb}
use Rattle.std.proofs.Math.ListN as ListN
use contract.Lifetimes.{Lfts}
use Rattle.std.specs.Borrow.{Bor, MutBor}
use Rattle.rows.specs.Outcome.{Outcome, outcome}
use Rattle.units.specs.declared.Nanos.{Nanos}
use Rattle.units.specs.Units.{nanos_of}
use Rattle.bucket.specs.declared.Request.TheVariants.{Acquire, Reserve, Through}
use Rattle.bucket.specs.declared.Due.{Due}
use Rattle.settings.specs.declared.decision.Decision.TheVariants.{Acquired, Retry, Impossible}
use Rattle.ledger.specs.declared.Debt.{Debt}
use Rattle.shard.specs.declared.Identity.{Identity}
use Rattle.rules.specs.declared.Reply.{Reply}
use Rattle.rules.specs.declared.Reply.TheVariants.{Tried, Reserved, Nothing, Done, Count, Refused}
use Rattle.rules.specs.declared.codes.Told.{Told}
use Rattle.rules.specs.Replies.{told_of, told, Kind, decides, reserves, counts, knows}
use Rattle.rules.specs.Asks.{requests, looks, undoes, passes, peeks, tokens, turn_aways, refunds, removes}
use Rattle.rules.specs.Widths.{fits64, fits32, lendable, records_fit}
use Rattle.rules.specs.Debts as Debts
use Rattle.rules.specs.Debts.{Lent}
use Rattle.rules.specs.Calls.{Call, keyed, whole, len, debts, Terms, try, reserve, peek, available, times_turned_away, length, refund, remove, class_try}
use Rattle.rules.specs.Calls.{kind_of}
use Rattle.rules.specs.Calls.{list_debts, rules, fits}
use Rattle.modems.specs.Names.{Name, key, address, named_in}
use Rattle.limiter.specs.declared.LimiterSettings.{LimiterSettings}
use Rattle.limiter.specs.Exported.{settings_of}
use Rattle.limiter.proofs.limiter_set_up.Reads as SetUp
use Rattle.limiter.proofs.limiter_clear.Reads as Clear
use Rattle.limiter.proofs.limiter_try.Reads as Try
use Rattle.limiter.proofs.limiter_reserve.Reads as Reserve
use Rattle.limiter.proofs.limiter_peek.Reads as Peek
use Rattle.limiter.proofs.limiter_available.Reads as Available
use Rattle.limiter.proofs.limiter_turned_away.Reads as TurnedAway
use Rattle.limiter.proofs.limiter_length.Reads as Length
use Rattle.limiter.proofs.limiter_refund.Reads as Refund
use Rattle.limiter.proofs.limiter_remove.Reads as Remove
use Rattle.limiter_modems.proofs.limiter_modem_try.Reads as ModemTry
use Rattle.limiter_modems.proofs.limiter_modem_reserve.Reads as ModemReserve
use Rattle.limiter_modems.proofs.limiter_modem_peek.Reads as ModemPeek
use Rattle.limiter_modems.proofs.limiter_modem_refund.Reads as ModemRefund
use Rattle.limiter_modems.proofs.limiter_modem_remove.Reads as ModemRemove
use Rattle.limiter_classes.proofs.limiter_table_set_up.Reads as ClassSetUp
use Rattle.limiter_classes.proofs.limiter_table_clear.Reads as ClassClear
use Rattle.limiter_classes.proofs.limiter_table_try.Reads as ClassTry
use Rattle.demands.specs.Demands.{Table, untabled, tabled, table_fits, Limiter, set_up_by, records_by}
use Rattle.demands.specs.CodeContracts.{lent_at, seen_at}

-- What each export gives for its numbers, bytes and words: three numbers, and words. A list of debts gives them for a number of lent records, and leaves
-- records, too.
abbrev Gives : Type 0
Gives = List ℕ → Outcome Told (List ℕ)

pub record Exports : Type 0 where
  pub set_up_lem : LimiterSettings → Gives
  pub clear : LimiterSettings → Gives
  pub try : LimiterSettings → (at hash key cost : ℕ) → Gives
  pub reserve : LimiterSettings → (at hash key cost longest : ℕ) → Gives
  pub peek : LimiterSettings → (at hash key cost : ℕ) → Gives
  pub available : LimiterSettings → (at hash key : ℕ) → Gives
  pub turned_away_met : LimiterSettings → (hash key : ℕ) → Gives
  pub length : LimiterSettings → Gives
  pub refund : LimiterSettings → (hash key cost : ℕ) → Gives
  pub remove : LimiterSettings → (hash key : ℕ) → Gives
  pub modem_try : LimiterSettings → (at : ℕ) → List ℕ → (cost : ℕ) → Gives
  pub modem_reserve : LimiterSettings → (at : ℕ) → List ℕ → (cost longest : ℕ) → Gives
  pub modem_peek : LimiterSettings → (at : ℕ) → List ℕ → (cost : ℕ) → Gives
  pub modem_refund : LimiterSettings → List ℕ → (cost : ℕ) → Gives
  pub modem_remove : LimiterSettings → List ℕ → Gives
  pub class_set_up_met : LimiterSettings → (table : List ℕ) → Gives
  pub class_clear_met : LimiterSettings → (table : List ℕ) → Gives
  pub class_try_met : LimiterSettings → (table : List ℕ) → (at hash key class cost : ℕ) → Gives
  pub debts : LimiterSettings → (at shard room : ℕ) → Gives
  pub records : LimiterSettings → (at shard : ℕ) → List Debt → List ℕ → List Debt

-- The numbers of a settings struct fit their widths.
abbrev pub numbers_fit : LimiterSettings → Bool
numbers_fit n =
    fits64 n.period && fits64 n.max_keys && fits64 n.shards && fits64 n.idle && fits32 n.closed && fits32 n.amount
    && fits32 n.has_burst && fits32 n.burst && fits32 n.has_initial && fits32 n.initial && fits32 n.has_idle && fits32 n.forget_debt
    && fits32 n.classes

-- Settings as such a struct, whatever numbers mean them, and modems by key or by address.
abbrev pub exported : Terms LimiterSettings Name
exported = named_in settings_of numbers_fit

-- The export by which a call is made, with the call's own numbers. There is none for the tokens and the count of an address, for a try through a class by
-- address, and for a try that waits for other buckets. No list has such a call: `offered_by_address` of `modems` or `RequestFits` of `rules` is false of it.
abbrev no_export : Gives
no_export ws = outcome (told_of Nothing) ws

abbrev pub through : Exports → Call LimiterSettings Name → Gives
through e (keyed n (key id) (requests Acquire at cost)) = e.try n at.0 id.hash id.key cost
through e (keyed n (key id) (requests (Reserve longest) at cost)) = e.reserve n at.0 id.hash id.key cost longest.0
through e (keyed n (key id) (requests (Through others) at cost)) = no_export
through e (keyed n (key id) (looks (peeks at cost))) = e.peek n at.0 id.hash id.key cost
through e (keyed n (key id) (looks (tokens at))) = e.available n at.0 id.hash id.key
through e (keyed n (key id) (looks turn_aways)) = e.turned_away_met n id.hash id.key
through e (keyed n (key id) (undoes (refunds cost))) = e.refund n id.hash id.key cost
through e (keyed n (key id) (undoes removes)) = e.remove n id.hash id.key
through e (keyed n (key id) (passes table class at cost)) = e.class_try_met n table at.0 id.hash id.key class cost
through e (keyed n (address bytes) (requests Acquire at cost)) = e.modem_try n at.0 bytes cost
through e (keyed n (address bytes) (requests (Reserve longest) at cost)) = e.modem_reserve n at.0 bytes cost longest.0
through e (keyed n (address bytes) (requests (Through others) at cost)) = no_export
through e (keyed n (address bytes) (looks (peeks at cost))) = e.modem_peek n at.0 bytes cost
through e (keyed n (address bytes) (looks (tokens at))) = no_export
through e (keyed n (address bytes) (looks turn_aways)) = no_export
through e (keyed n (address bytes) (undoes (refunds cost))) = e.modem_refund n bytes cost
through e (keyed n (address bytes) (undoes removes)) = e.modem_remove n bytes
through e (keyed n (address bytes) (passes table class at cost)) = no_export
through e (whole n len) = e.length n
through e (whole n (debts at i room)) = e.debts n at.0 i room

-- The exports by which a store is set up and cleared, without a table and with one.
abbrev pub set_up_through : Exports → Table → LimiterSettings → Gives
set_up_through e untabled n = e.set_up_lem n
set_up_through e (tabled table) n = e.class_set_up_met n table

abbrev pub clear_through : Exports → Table → LimiterSettings → Gives
clear_through e untabled n = e.clear n
clear_through e (tabled table) n = e.class_clear_met n table

-- Demand 2 of the exports: whatever numbers the settings are written in, all numbers of a reply are those of the rules' reply, and all words and records are
-- those of the rules.
pub record ExportDemand2 (e : Exports) : Type 0 where
  pub sets_up_lem : (table : Table) (n : LimiterSettings) (ws : List ℕ) → table_fits table ≡ true → numbers_fit n ≡ true → lendable ws ≡ true
      → set_up_through e table n ws ≡ told (set_up_by exported table n ws)
  pub clears : (table : Table) (n : LimiterSettings) (ws : List ℕ) → table_fits table ≡ true → numbers_fit n ≡ true → lendable ws ≡ true
      → clear_through e table n ws ≡ told (set_up_by exported table n ws)
  pub answers : (c : Call LimiterSettings Name) (ws : List ℕ) → fits exported c ≡ true → lendable ws ≡ true → through e c ws ≡ told (rules exported c ws)
  pub lists : (n : LimiterSettings) (at : Nanos) (i : ℕ) (records : List Debt) (ws : List ℕ) → fits exported (list_debts n at i (ListN.length records)) ≡ true
      → records_fit records ≡ true → lendable ws ≡ true → e.records n at.0 i records ws ≡ records_by exported n at i records ws

-- How a caller reads a reply, by the kind of the call. The code tells which reply of that kind it is. A number or a moment that this reply does not have is not
-- read; `ExportDemand2` says that it is 0. Any other code is read as a refusal, by the code less 10; a code below 10 is read as `Refused 0`, which the rules
-- never answer.
abbrev refused_by : Told → Reply
refused_by r = Refused (r.code - 10)

abbrev due_in : Told → ℕ → Due
due_in r wait = record { wait = record { 0 = wait }; moment = record { 0 = r.moment } }

unfoldable pub reading : Kind → Told → Reply
reading decides r =
    cond (eqb r.code 0) (Tried (Acquired (due_in r 0)))
    (cond (eqb r.code 1) (Tried (Retry (due_in r r.number)))
    (cond (eqb r.code 2) (Tried Impossible) (refused_by r)))
reading reserves r = cond (eqb r.code 0) (Reserved (due_in r r.number)) (cond (eqb r.code 3) Nothing (refused_by r))
reading counts r = cond (eqb r.code 0) (Count r.number) (refused_by r)
reading knows r = cond (eqb r.code 0) Done (cond (eqb r.code 3) Nothing (refused_by r))

abbrev pub read_as : Kind → Outcome Told (List ℕ) → Outcome Reply (List ℕ)
read_as kind o = outcome (reading kind o.answer) o.after

-- The limiter that a caller has who reads so.
abbrev pub called : Exports → Limiter LimiterSettings Name
called e = record {
  sets_up_lem = λ table n ws. read_as knows (set_up_through e table n ws);
  clears = λ table n ws. read_as knows (clear_through e table n ws);
  answers = λ c ws. read_as (kind_of c) (through e c ws);
  lists = λ n at i records ws. e.records n at.0 i records ws;
}

-- For any lifetimes and any place of the lent words: no answer depends on them.
module _ (κs : Lfts 1) (ptr : ℕ × ℕ) (name : ℕ) where
  -- The arguments of an export as its contract has them: the settings, the words, and the numbers of a moment and a key.
  abbrev on_whole : LimiterSettings → List ℕ → LimiterSettings × (MutBor (List ℕ) × Unit {0})
  on_whole n ws = (n, (lent_at ptr name ws, tt))

  abbrev on_key : {A : Type 0} → LimiterSettings → List ℕ → Identity → A → LimiterSettings × (MutBor (List ℕ) × (ℕ × (ℕ × A)))
  on_key n ws id more = (n, (lent_at ptr name ws, (id.hash, (id.key, more))))

  abbrev at_moment : {A : Type 0} → LimiterSettings → List ℕ → Nanos → Identity → A → LimiterSettings × (MutBor (List ℕ) × (ℕ × (ℕ × (ℕ × A))))
  at_moment n ws at id more = (n, (lent_at ptr name ws, (at.0, (id.hash, (id.key, more)))))

  -- The same of an export that only reads the words.
  abbrev seen_on_whole : LimiterSettings → List ℕ → LimiterSettings × (Bor (List ℕ) × Unit {0})
  seen_on_whole n ws = (n, (seen_at ptr ws, tt))

  abbrev seen_on_key : {A : Type 0} → LimiterSettings → List ℕ → Identity → A → LimiterSettings × (Bor (List ℕ) × (ℕ × (ℕ × A)))
  seen_on_key n ws id more = (n, (seen_at ptr ws, (id.hash, (id.key, more))))

  abbrev seen_at_moment : {A : Type 0} → LimiterSettings → List ℕ → Nanos → Identity → A → LimiterSettings × (Bor (List ℕ) × (ℕ × (ℕ × (ℕ × A))))
  seen_at_moment n ws at id more = (n, (seen_at ptr ws, (at.0, (id.hash, (id.key, more)))))

  -- Of each export: where its numbers fit and what it asks is shown, its contract holds of what it gives. (`Asked` and `Learnt`: Contracts.)
  pub record KeyExportContracts (e : Exports) : Type 0 where
    pub sets_up_lem : (n : LimiterSettings) (ws : List ℕ) → numbers_fit n ≡ true → lendable ws ≡ true →
        let o = e.set_up_lem n ws in
        SetUp.Asked κs (on_whole n ws) → SetUp.Learnt κs (on_whole n ws) o.answer (on_whole n o.after)
    pub clears : (n : LimiterSettings) (ws : List ℕ) → numbers_fit n ≡ true → lendable ws ≡ true →
        let o = e.clear n ws in
        Clear.Asked κs (on_whole n ws) → Clear.Learnt κs (on_whole n ws) o.answer (on_whole n o.after)
    pub tries : (n : LimiterSettings) (at : Nanos) (id : Identity) (cost : ℕ) (ws : List ℕ) →
        fits exported (try n at (key id) cost) ≡ true → lendable ws ≡ true →
        let o = e.try n at.0 id.hash id.key cost ws in
        Try.Asked κs (at_moment n ws at id (cost, tt)) →
        Try.Learnt κs (at_moment n ws at id (cost, tt)) o.answer (at_moment n o.after at id (cost, tt))
    pub reserves : (n : LimiterSettings) (at : Nanos) (id : Identity) (cost : ℕ) (longest : Nanos) (ws : List ℕ) →
        fits exported (reserve n at (key id) cost longest) ≡ true → lendable ws ≡ true →
        let o = e.reserve n at.0 id.hash id.key cost longest.0 ws in
        Reserve.Asked κs (at_moment n ws at id (cost, (longest.0, tt))) →
        Reserve.Learnt κs (at_moment n ws at id (cost, (longest.0, tt))) o.answer (at_moment n o.after at id (cost, (longest.0, tt)))
    pub peeks : (n : LimiterSettings) (at : Nanos) (id : Identity) (cost : ℕ) (ws : List ℕ) →
        fits exported (peek n at (key id) cost) ≡ true → lendable ws ≡ true →
        let o = e.peek n at.0 id.hash id.key cost ws in
        Peek.Asked κs (seen_at_moment n ws at id (cost, tt)) →
        Peek.Learnt κs (seen_at_moment n ws at id (cost, tt)) o.answer (seen_at_moment n o.after at id (cost, tt))
    pub tells_available : (n : LimiterSettings) (at : Nanos) (id : Identity) (ws : List ℕ) →
        fits exported (available n at (key id)) ≡ true → lendable ws ≡ true →
        let o = e.available n at.0 id.hash id.key ws in
        Available.Asked κs (seen_at_moment n ws at id tt) →
        Available.Learnt κs (seen_at_moment n ws at id tt) o.answer (seen_at_moment n o.after at id tt)
    pub tells_turned_away : (n : LimiterSettings) (id : Identity) (ws : List ℕ) →
        fits exported (times_turned_away n (key id)) ≡ true → lendable ws ≡ true →
        let o = e.turned_away_met n id.hash id.key ws in
        TurnedAway.Asked κs (seen_on_key n ws id tt) →
        TurnedAway.Learnt κs (seen_on_key n ws id tt) o.answer (seen_on_key n o.after id tt)
    pub tells_length : (n : LimiterSettings) (ws : List ℕ) →
        fits exported (length n) ≡ true → lendable ws ≡ true →
        let o = e.length n ws in
        Length.Asked κs (seen_on_whole n ws) →
        Length.Learnt κs (seen_on_whole n ws) o.answer (seen_on_whole n o.after)
    pub refunds : (n : LimiterSettings) (id : Identity) (cost : ℕ) (ws : List ℕ) →
        fits exported (refund n (key id) cost) ≡ true → lendable ws ≡ true →
        let o = e.refund n id.hash id.key cost ws in
        Refund.Asked κs (on_key n ws id (cost, tt)) →
        Refund.Learnt κs (on_key n ws id (cost, tt)) o.answer (on_key n o.after id (cost, tt))
    pub removes : (n : LimiterSettings) (id : Identity) (ws : List ℕ) →
        fits exported (remove n (key id)) ≡ true → lendable ws ≡ true →
        let o = e.remove n id.hash id.key ws in
        Remove.Asked κs (on_key n ws id tt) →
        Remove.Learnt κs (on_key n ws id tt) o.answer (on_key n o.after id tt)

-- The exports of `limiter_modems` are lent the bytes of the address, too.
module _ (κs : Lfts 2) (ptr bytes_ptr : ℕ × ℕ) (name : ℕ) where
  -- The arguments of an export as its contract has them: the settings, the words, the moment if there is one, the bytes, and what else is asked.
  abbrev on_address : {A : Type 0} → LimiterSettings → List ℕ → List ℕ → A → LimiterSettings × (MutBor (List ℕ) × (Bor (List ℕ) × A))
  on_address n ws bytes more = (n, (lent_at ptr name ws, (seen_at bytes_ptr bytes, more)))

  abbrev at_moment_on_address : {A : Type 0} → LimiterSettings → List ℕ → Nanos → List ℕ → A → LimiterSettings × (MutBor (List ℕ) × (ℕ × (Bor (List ℕ) × A)))
  at_moment_on_address n ws at bytes more = (n, (lent_at ptr name ws, (at.0, (seen_at bytes_ptr bytes, more))))

  abbrev seen_at_moment_on_address : {A : Type 0} → LimiterSettings → List ℕ → Nanos → List ℕ → A → LimiterSettings × (Bor (List ℕ) × (ℕ × (Bor (List ℕ) × A)))
  seen_at_moment_on_address n ws at bytes more = (n, (seen_at ptr ws, (at.0, (seen_at bytes_ptr bytes, more))))

  pub record AddressExportContracts (e : Exports) : Type 0 where
    pub tries : (n : LimiterSettings) (at : Nanos) (bytes : List ℕ) (cost : ℕ) (ws : List ℕ) →
        fits exported (try n at (address bytes) cost) ≡ true → lendable ws ≡ true →
        let o = e.modem_try n at.0 bytes cost ws in
        ModemTry.Asked κs (at_moment_on_address n ws at bytes (cost, tt)) →
        ModemTry.Learnt κs (at_moment_on_address n ws at bytes (cost, tt)) o.answer (at_moment_on_address n o.after at bytes (cost, tt))
    pub reserves : (n : LimiterSettings) (at : Nanos) (bytes : List ℕ) (cost : ℕ) (longest : Nanos) (ws : List ℕ) →
        fits exported (reserve n at (address bytes) cost longest) ≡ true → lendable ws ≡ true →
        let o = e.modem_reserve n at.0 bytes cost longest.0 ws in
        ModemReserve.Asked κs (at_moment_on_address n ws at bytes (cost, (longest.0, tt))) →
        ModemReserve.Learnt κs (at_moment_on_address n ws at bytes (cost, (longest.0, tt))) o.answer
        (at_moment_on_address n o.after at bytes (cost, (longest.0, tt)))
    pub peeks : (n : LimiterSettings) (at : Nanos) (bytes : List ℕ) (cost : ℕ) (ws : List ℕ) →
        fits exported (peek n at (address bytes) cost) ≡ true → lendable ws ≡ true →
        let o = e.modem_peek n at.0 bytes cost ws in
        ModemPeek.Asked κs (seen_at_moment_on_address n ws at bytes (cost, tt)) →
        ModemPeek.Learnt κs (seen_at_moment_on_address n ws at bytes (cost, tt)) o.answer (seen_at_moment_on_address n o.after at bytes (cost, tt))
    pub refunds : (n : LimiterSettings) (bytes : List ℕ) (cost : ℕ) (ws : List ℕ) →
        fits exported (refund n (address bytes) cost) ≡ true → lendable ws ≡ true →
        let o = e.modem_refund n bytes cost ws in
        ModemRefund.Asked κs (on_address n ws bytes (cost, tt)) →
        ModemRefund.Learnt κs (on_address n ws bytes (cost, tt)) o.answer (on_address n o.after bytes (cost, tt))
    pub removes : (n : LimiterSettings) (bytes : List ℕ) (ws : List ℕ) →
        fits exported (remove n (address bytes)) ≡ true → lendable ws ≡ true →
        let o = e.modem_remove n bytes ws in
        ModemRemove.Asked κs (on_address n ws bytes tt) →
        ModemRemove.Learnt κs (on_address n ws bytes tt) o.answer (on_address n o.after bytes tt)

-- The exports of `limiter_classes` are lent the class table, too.
module _ (κs : Lfts 2) (ptr table_ptr : ℕ × ℕ) (name : ℕ) where
  abbrev with_table : {A : Type 0} → LimiterSettings → List ℕ → List ℕ → A → LimiterSettings × (Bor (List ℕ) × (MutBor (List ℕ) × A))
  with_table n table ws more = (n, (seen_at table_ptr table, (lent_at ptr name ws, more)))

  -- The numbers of a try through a class: the moment, the key, the class and the cost.
  abbrev numbers_of : Nanos → Identity → ℕ → ℕ → ℕ × (ℕ × (ℕ × (ℕ × (ℕ × Unit {0}))))
  numbers_of at id class cost = (at.0, (id.hash, (id.key, (class, (cost, tt)))))

  pub record ClassExportContracts (e : Exports) : Type 0 where
    pub sets_up_lem : (n : LimiterSettings) (table ws : List ℕ) → numbers_fit n ≡ true → lendable table ≡ true → lendable ws ≡ true →
        let o = e.class_set_up_met n table ws in
        ClassSetUp.Asked κs (with_table n table ws tt) → ClassSetUp.Learnt κs (with_table n table ws tt) o.answer (with_table n table o.after tt)
    pub clears : (n : LimiterSettings) (table ws : List ℕ) → numbers_fit n ≡ true → lendable table ≡ true → lendable ws ≡ true →
        let o = e.class_clear_met n table ws in
        ClassClear.Asked κs (with_table n table ws tt) → ClassClear.Learnt κs (with_table n table ws tt) o.answer (with_table n table o.after tt)
    pub tries : (n : LimiterSettings) (table : List ℕ) (class : ℕ) (at : Nanos) (id : Identity) (cost : ℕ) (ws : List ℕ) →
        fits exported (class_try n table class at (key id) cost) ≡ true → lendable ws ≡ true →
        let o = e.class_try_met n table at.0 id.hash id.key class cost ws in
        ClassTry.Asked κs (with_table n table ws (numbers_of at id class cost)) →
        ClassTry.Learnt κs (with_table n table ws (numbers_of at id class cost)) o.answer (with_table n table o.after (numbers_of at id class cost))

-- The export of `limiter_debts` is lent records, too. What its `ensures` tells is written out here, as for the operation (Contracts; `limiter_debts_is_read`,
-- `limiter_debts_asks_nothing`). Whatever records are lent, the numbers and the words are those that `debts` has for how many they are. The records after are
-- those of `records`.
abbrev pub DebtsLearnt : LimiterSettings → ℕ → ℕ → Lent → Told → Lent → Type 0
DebtsLearnt n at i before t after = outcome t after ≡ told (Debts.list_debts (settings_of n) (nanos_of at) i before)

pub record DebtExportContracts (e : Exports) : Type 0 where
  pub lists : (n : LimiterSettings) (at : Nanos) (i : ℕ) (records : List Debt) (ws : List ℕ) →
      fits exported (list_debts n at i (ListN.length records)) ≡ true → records_fit records ≡ true → lendable ws ≡ true →
      let o = e.debts n at.0 i (ListN.length records) ws in
      DebtsLearnt n at.0 i (Debts.lent ws records) o.answer (Debts.lent o.after (e.records n at.0 i records ws))

-- Of these four objects of the archive.
module _ (κs : Lfts 1) (κs₂ : Lfts 2) (ptr other_ptr : ℕ × ℕ) (name : ℕ) where
  pub record ExportContracts (e : Exports) : Type 0 where
    pub by_key : KeyExportContracts κs ptr name e
    pub by_address : AddressExportContracts κs₂ ptr other_ptr name e
    pub by_class : ClassExportContracts κs₂ ptr other_ptr name e
    pub of_debts : DebtExportContracts e
