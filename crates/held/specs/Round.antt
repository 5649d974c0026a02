-- Items that looks go round, one item a look, and the sweep: looks that take out the items which pass a test. It is one sweep, for slots and debts alike.
use Rattle.std.specs.Prelude.{ℕ, zero, suc, ◌+◌, Bool, cond, eqb}
use Rattle.held.specs.Held.{Held, Items, wrapped, item_at, removed}

-- The items, and the place at which the next look begins.
pub record Round (A : Type 0) : Type 0 where
  pub items : Held A
  pub next : ℕ

-- That place as it is read: the first one where it stands at or past the count.
abbrev pub next_of : {A : Type 0} → Round A → ℕ
next_of r = wrapped r.next r.items.count

-- `goes` is the test.
module _ {A : Type 0} (items : Items A) (goes : A → Bool) where
  -- A look at place p: an item that passes goes, and what moves into its place is looked at next; else the next look is one place on.
  unfoldable pub look_at : Round A → ℕ → Round A
  look_at r p = cond (goes (item_at items r.items p)) (record { items = removed items r.items p; next = p }) (record { items = r.items; next = p + 1 })

  -- The next look; there is none where no item is left.
  unfoldable pub look : Round A → Round A
  look r = cond (eqb r.items.count 0) r (look_at r (next_of r))

  -- The sweep: so many looks, going round again if need be.
  unfoldable pub sweep : ℕ → Round A → Round A
  sweep zero r = r
  sweep (suc left) r = sweep left (look r)
