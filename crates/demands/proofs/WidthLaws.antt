-- Of what fits, the parts fit: the calls of a list, and the name that a call has.
use mathlib.Core.Path.{◌≡◌, refl}
use Prim.Native.Nat.{ℕ}
use mathlib.Core.Bool.{Bool, true, false, ◌&&◌, false≢true}
use Rattle.units.specs.declared.Nanos.{Nanos}
use Rattle.bucket.specs.declared.Request.TheVariants.{Through}
use Rattle.rules.specs.Asks.{Ask, requests}
use Rattle.rules.specs.Widths.{fits64, fits32, key_fits, ask_fits}
use Rattle.rules.specs.Calls.{keyed, Terms, by_key, fits}

pub both_true : (a b : Bool) → (a && b) ≡ true → (a ≡ true) × (b ≡ true)
both_true true b both = (refl, both)
both_true false b both = (both, cc)

-- Of a call on a key, what is offered of its name, and the name itself.
module _ {S N : Type 0} (terms : Terms S N) (s : S) (n : N) (ask : Ask) (fit : fits terms (keyed s n ask) ≡ true) where
  named : (terms.settings_fit s && terms.name_fits n && terms.offers n ask) ≡ true
  named = (both_true (terms.settings_fit s && terms.name_fits n && terms.offers n ask) (ask_fits ask) fit).0

  pub ask_is_offered : terms.offers n ask ≡ true
  ask_is_offered = (both_true (terms.settings_fit s && terms.name_fits n) (terms.offers n ask) named).1

  pub name_of_call_fits : terms.name_fits n ≡ true
  name_of_call_fits =
      (both_true (terms.settings_fit s) (terms.name_fits n) (both_true (terms.settings_fit s && terms.name_fits n) (terms.offers n ask) named).0).1

-- No call asks for a try that waits for other buckets too.
pub no_call_through_others : {S N : Type 0} (terms : Terms S N) (s : S) (n : N) (others at : Nanos) (cost : ℕ)
    → fits terms (keyed s n (requests (Through others) at cost)) ≡ true → ⊥
no_call_through_others terms s n others at cost fit =
    let ask : Ask = requests (Through others) at cost in
    let asked = (both_true (terms.settings_fit s && terms.name_fits n && terms.offers n ask) (ask_fits ask) fit).1 in
    let parts = (both_true (fits64 at.0 && false) (fits32 cost) asked).0 in
    false≢true (both_true (fits64 at.0) false parts).1

-- A name that code can be given, and that is not refused, means a hash and a key that fit their widths.
abbrev pub NamesFit : {S N : Type 0} → Terms S N → Type 0
NamesFit {S} {N} terms = (n : N) → terms.name_fits n ≡ true → terms.refusal n ≡ 0 → key_fits (terms.identity n) ≡ true

pub keys_fit : NamesFit by_key
keys_fit id fit none = fit
