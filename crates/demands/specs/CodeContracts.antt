-- Code as its caller knows it: what the contracts of the ten operations of `perkey`, of the five of `modems`, of the three of `class_calls` and of the one of
-- `debt_calls` tell. They answer calls of one list, in which each call names a modem by key or by address (`by_name`). `Asked` and `Learnt` are an operation's
-- `requires` and `ensures` (src/lib.rt of the first three crates) as the check gives them to its callers: `Asked` of the arguments, `Learnt` of the arguments
-- at entry, the result, and the arguments at exit.
use Rattle.std.specs.Prelude.{ℕ, ◌≡◌, true, List}
use Rattle.std.proofs.Math.ListN as ListN
use contract.Lifetimes.{Lfts}
use Rattle.std.specs.Borrow.{Bor, MutBor}
use Rattle.rows.specs.Outcome.{outcome}
use Rattle.units.specs.declared.Nanos.{Nanos}
use Rattle.settings.specs.declared.Settings.{Settings}
use Rattle.ledger.specs.declared.Debt.{Debt}
use Rattle.shard.specs.declared.Identity.{Identity}
use Rattle.rules.specs.declared.Reply.{Reply}
use Rattle.rules.specs.Widths.{settings_fit, lendable, records_fit}
use Rattle.rules.specs.Debts as Debts
use Rattle.rules.specs.Debts.{Lent}
use Rattle.rules.specs.Calls.{try, reserve, peek, available, times_turned_away, length, refund, remove, class_try, list_debts, fits}
use Rattle.modems.specs.Names.{Name, key, address, by_name}
use Rattle.perkey.proofs.set_up.Reads as SetUp
use Rattle.perkey.proofs.clear.Reads as Clear
use Rattle.perkey.proofs.try_acquire_with_cost.Reads as Try
use Rattle.perkey.proofs.reserve.Reads as Reserve
use Rattle.perkey.proofs.peek.Reads as Peek
use Rattle.perkey.proofs.available.Reads as Available
use Rattle.perkey.proofs.turned_away.Reads as TurnedAway
use Rattle.perkey.proofs.len.Reads as Len
use Rattle.perkey.proofs.refund.Reads as Refund
use Rattle.perkey.proofs.remove.Reads as Remove
use Rattle.modems.proofs.try_acquire_with_cost.Reads as ModemTry
use Rattle.modems.proofs.reserve.Reads as ModemReserve
use Rattle.modems.proofs.peek.Reads as ModemPeek
use Rattle.modems.proofs.refund.Reads as ModemRefund
use Rattle.modems.proofs.remove.Reads as ModemRemove
use Rattle.class_calls.proofs.class_set_up.Reads as ClassSetUp
use Rattle.class_calls.proofs.class_clear.Reads as ClassClear
use Rattle.class_calls.proofs.class_try.Reads as ClassTry
use Rattle.demands.specs.Demands.{untabled, tabled, Limiter}

-- Words, bytes or records that are lent at some place, to be read alone.
abbrev pub seen_at : {A : Type 0} → ℕ × ℕ → List A → Bor (List A)
seen_at ptr ws = record { ref_ptr = ptr; now = ws }

-- The same, lent to be written.
abbrev pub lent_at : {A : Type 0} → ℕ × ℕ → ℕ → List A → MutBor (List A)
lent_at ptr name ws = record { ref_ptr = ptr; ghost_name = name; now = ws }

-- For any lifetimes and any place of the lent words: no answer depends on them.
module _ (κs : Lfts 1) (ptr : ℕ × ℕ) (name : ℕ) where
  abbrev seen : List ℕ → Bor (List ℕ)
  seen ws = seen_at ptr ws

  abbrev lent : List ℕ → MutBor (List ℕ)
  lent ws = lent_at ptr name ws

  -- Of each operation of `perkey`: where its numbers fit and what it asks is shown, its contract holds of what the code gives.
  pub record KeyContracts (l : Limiter Settings Name) : Type 0 where
    pub sets_up_lem : (s : Settings) (ws : List ℕ) → settings_fit s ≡ true → lendable ws ≡ true →
        let o = l.sets_up_lem untabled s ws in
        SetUp.Asked κs (s, (lent ws, tt)) →
        SetUp.Learnt κs (s, (lent ws, tt)) o.answer (s, (lent o.after, tt))
    pub clears : (s : Settings) (ws : List ℕ) → settings_fit s ≡ true → lendable ws ≡ true →
        let o = l.clears untabled s ws in
        Clear.Asked κs (s, (lent ws, tt)) →
        Clear.Learnt κs (s, (lent ws, tt)) o.answer (s, (lent o.after, tt))
    pub tries : (s : Settings) (at : Nanos) (id : Identity) (cost : ℕ) (ws : List ℕ) → fits by_name (try s at (key id) cost) ≡ true → lendable ws ≡ true →
        let o = l.answers (try s at (key id) cost) ws in
        Try.Asked κs (s, (lent ws, (at, (id, (cost, tt))))) →
        Try.Learnt κs (s, (lent ws, (at, (id, (cost, tt))))) o.answer (s, (lent o.after, (at, (id, (cost, tt)))))
    pub reserves : (s : Settings) (at : Nanos) (id : Identity) (cost : ℕ) (longest : Nanos) (ws : List ℕ) →
        fits by_name (reserve s at (key id) cost longest) ≡ true → lendable ws ≡ true →
        let o = l.answers (reserve s at (key id) cost longest) ws in
        Reserve.Asked κs (s, (lent ws, (at, (id, (cost, (longest, tt)))))) →
        Reserve.Learnt κs (s, (lent ws, (at, (id, (cost, (longest, tt)))))) o.answer (s, (lent o.after, (at, (id, (cost, (longest, tt))))))
    pub peeks : (s : Settings) (at : Nanos) (id : Identity) (cost : ℕ) (ws : List ℕ) → fits by_name (peek s at (key id) cost) ≡ true → lendable ws ≡ true →
        let o = l.answers (peek s at (key id) cost) ws in
        Peek.Asked κs (s, (seen ws, (at, (id, (cost, tt))))) →
        Peek.Learnt κs (s, (seen ws, (at, (id, (cost, tt))))) o.answer (s, (seen o.after, (at, (id, (cost, tt)))))
    pub tells_available : (s : Settings) (at : Nanos) (id : Identity) (ws : List ℕ) → fits by_name (available s at (key id)) ≡ true → lendable ws ≡ true →
        let o = l.answers (available s at (key id)) ws in
        Available.Asked κs (s, (seen ws, (at, (id, tt)))) →
        Available.Learnt κs (s, (seen ws, (at, (id, tt)))) o.answer (s, (seen o.after, (at, (id, tt))))
    pub tells_turned_away : (s : Settings) (id : Identity) (ws : List ℕ) → fits by_name (times_turned_away s (key id)) ≡ true → lendable ws ≡ true →
        let o = l.answers (times_turned_away s (key id)) ws in
        TurnedAway.Asked κs (s, (seen ws, (id, tt))) →
        TurnedAway.Learnt κs (s, (seen ws, (id, tt))) o.answer (s, (seen o.after, (id, tt)))
    pub tells_length : (s : Settings) (ws : List ℕ) → fits by_name (length s) ≡ true → lendable ws ≡ true →
        let o = l.answers (length s) ws in
        Len.Asked κs (s, (seen ws, tt)) →
        Len.Learnt κs (s, (seen ws, tt)) o.answer (s, (seen o.after, tt))
    pub refunds : (s : Settings) (id : Identity) (cost : ℕ) (ws : List ℕ) → fits by_name (refund s (key id) cost) ≡ true → lendable ws ≡ true →
        let o = l.answers (refund s (key id) cost) ws in
        Refund.Asked κs (s, (lent ws, (id, (cost, tt)))) →
        Refund.Learnt κs (s, (lent ws, (id, (cost, tt)))) o.answer (s, (lent o.after, (id, (cost, tt))))
    pub removes : (s : Settings) (id : Identity) (ws : List ℕ) → fits by_name (remove s (key id)) ≡ true → lendable ws ≡ true →
        let o = l.answers (remove s (key id)) ws in
        Remove.Asked κs (s, (lent ws, (id, tt))) →
        Remove.Learnt κs (s, (lent ws, (id, tt))) o.answer (s, (lent o.after, (id, tt)))

-- The operations of `modems` are lent the bytes of the address, too.
module _ (κs : Lfts 2) (ptr bytes_ptr : ℕ × ℕ) (name : ℕ) where
  -- The arguments of an operation as its contract has them: the settings, the words, the moment if there is one, the bytes, and what else is asked.
  abbrev on_address : {A : Type 0} → Settings → List ℕ → List ℕ → A → Settings × (MutBor (List ℕ) × (Bor (List ℕ) × A))
  on_address s ws bytes more = (s, (lent_at ptr name ws, (seen_at bytes_ptr bytes, more)))

  abbrev at_moment : {A : Type 0} → Settings → List ℕ → Nanos → List ℕ → A → Settings × (MutBor (List ℕ) × (Nanos × (Bor (List ℕ) × A)))
  at_moment s ws at bytes more = (s, (lent_at ptr name ws, (at, (seen_at bytes_ptr bytes, more))))

  -- The same of an operation that only reads the words.
  abbrev seen_at_moment : {A : Type 0} → Settings → List ℕ → Nanos → List ℕ → A → Settings × (Bor (List ℕ) × (Nanos × (Bor (List ℕ) × A)))
  seen_at_moment s ws at bytes more = (s, (seen_at ptr ws, (at, (seen_at bytes_ptr bytes, more))))

  pub record AddressContracts (l : Limiter Settings Name) : Type 0 where
    pub tries : (s : Settings) (at : Nanos) (bytes : List ℕ) (cost : ℕ) (ws : List ℕ) → fits by_name (try s at (address bytes) cost) ≡ true
        → lendable ws ≡ true →
        let o = l.answers (try s at (address bytes) cost) ws in
        ModemTry.Asked κs (at_moment s ws at bytes (cost, tt)) →
        ModemTry.Learnt κs (at_moment s ws at bytes (cost, tt)) o.answer (at_moment s o.after at bytes (cost, tt))
    pub reserves : (s : Settings) (at : Nanos) (bytes : List ℕ) (cost : ℕ) (longest : Nanos) (ws : List ℕ) →
        fits by_name (reserve s at (address bytes) cost longest) ≡ true → lendable ws ≡ true →
        let o = l.answers (reserve s at (address bytes) cost longest) ws in
        ModemReserve.Asked κs (at_moment s ws at bytes (cost, (longest, tt))) →
        ModemReserve.Learnt κs (at_moment s ws at bytes (cost, (longest, tt))) o.answer (at_moment s o.after at bytes (cost, (longest, tt)))
    pub peeks : (s : Settings) (at : Nanos) (bytes : List ℕ) (cost : ℕ) (ws : List ℕ) → fits by_name (peek s at (address bytes) cost) ≡ true
        → lendable ws ≡ true →
        let o = l.answers (peek s at (address bytes) cost) ws in
        ModemPeek.Asked κs (seen_at_moment s ws at bytes (cost, tt)) →
        ModemPeek.Learnt κs (seen_at_moment s ws at bytes (cost, tt)) o.answer (seen_at_moment s o.after at bytes (cost, tt))
    pub refunds : (s : Settings) (bytes : List ℕ) (cost : ℕ) (ws : List ℕ) → fits by_name (refund s (address bytes) cost) ≡ true → lendable ws ≡ true →
        let o = l.answers (refund s (address bytes) cost) ws in
        ModemRefund.Asked κs (on_address s ws bytes (cost, tt)) →
        ModemRefund.Learnt κs (on_address s ws bytes (cost, tt)) o.answer (on_address s o.after bytes (cost, tt))
    pub removes : (s : Settings) (bytes : List ℕ) (ws : List ℕ) → fits by_name (remove s (address bytes)) ≡ true → lendable ws ≡ true →
        let o = l.answers (remove s (address bytes)) ws in
        ModemRemove.Asked κs (on_address s ws bytes tt) →
        ModemRemove.Learnt κs (on_address s ws bytes tt) o.answer (on_address s o.after bytes tt)

-- The operations of `class_calls` are lent the class table, too.
module _ (κs : Lfts 2) (ptr table_ptr : ℕ × ℕ) (name : ℕ) where
  -- The arguments of an operation as its contract has them: the settings, the table, the words, and what else is asked.
  abbrev with_table : {A : Type 0} → Settings → List ℕ → List ℕ → A → Settings × (Bor (List ℕ) × (MutBor (List ℕ) × A))
  with_table s table ws more = (s, (seen_at table_ptr table, (lent_at ptr name ws, more)))

  pub record ClassContracts (l : Limiter Settings Name) : Type 0 where
    pub sets_up_lem : (s : Settings) (table ws : List ℕ) → settings_fit s ≡ true → lendable table ≡ true → lendable ws ≡ true →
        let o = l.sets_up_lem (tabled table) s ws in
        ClassSetUp.Asked κs (with_table s table ws tt) →
        ClassSetUp.Learnt κs (with_table s table ws tt) o.answer (with_table s table o.after tt)
    pub clears : (s : Settings) (table ws : List ℕ) → settings_fit s ≡ true → lendable table ≡ true → lendable ws ≡ true →
        let o = l.clears (tabled table) s ws in
        ClassClear.Asked κs (with_table s table ws tt) →
        ClassClear.Learnt κs (with_table s table ws tt) o.answer (with_table s table o.after tt)
    pub tries : (s : Settings) (table : List ℕ) (class : ℕ) (at : Nanos) (id : Identity) (cost : ℕ) (ws : List ℕ) →
        fits by_name (class_try s table class at (key id) cost) ≡ true → lendable ws ≡ true →
        let o = l.answers (class_try s table class at (key id) cost) ws in
        ClassTry.Asked κs (with_table s table ws (at, (id, (class, (cost, tt))))) →
        ClassTry.Learnt κs (with_table s table ws (at, (id, (class, (cost, tt))))) o.answer (with_table s table o.after (at, (id, (class, (cost, tt)))))

-- The operation of `debt_calls` is lent records, too. The older check made no `Asked` and `Learnt` of it, so what its `ensures` tells is written out
-- here. `list_debts_is_read` and `list_debts_asks_nothing` (proofs/DebtCalls.antt) show by computation that its contract says this and asks nothing. Whatever
-- records are lent, the answer and the words are those that the limiter has for how many they are. The records after are those of `lists`.
abbrev pub ListDebtsLearnt : Settings → Nanos → ℕ → Lent → Reply → Lent → Type 0
ListDebtsLearnt s at i before r after = outcome r after ≡ Debts.list_debts s at i before

pub record DebtContracts (l : Limiter Settings Name) : Type 0 where
  pub lists : (s : Settings) (at : Nanos) (i : ℕ) (records : List Debt) (ws : List ℕ) → fits by_name (list_debts s at i (ListN.length records)) ≡ true
      → records_fit records ≡ true → lendable ws ≡ true →
      let o = l.answers (list_debts s at i (ListN.length records)) ws in
      ListDebtsLearnt s at i (Debts.lent ws records) o.answer (Debts.lent o.after (l.lists s at i records ws))

-- Of all four crates.
module _ (κs : Lfts 1) (κs₂ : Lfts 2) (ptr other_ptr : ℕ × ℕ) (name : ℕ) where
  pub record Contracts (l : Limiter Settings Name) : Type 0 where
    pub by_key : KeyContracts κs ptr name l
    pub by_address : AddressContracts κs₂ ptr other_ptr name l
    pub by_class : ClassContracts κs₂ ptr other_ptr name l
    pub of_debts : DebtContracts l
