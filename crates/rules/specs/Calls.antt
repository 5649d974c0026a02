-- Calls of the limiter, implementations of them, and lists of calls as they are answered.
--
-- How a call writes its settings and whom it names are open: settings can be a record or the numbers of a C struct, and a modem can be named by its key or by
-- its hardware address. `Terms` says what they mean. Everything below is said once, for any terms.
use Rattle.std.specs.Prelude.{ℕ, Bool, true, not, ◌&&◌, List, [], ◌∷◌}
use Rattle.rows.specs.Outcome.{Outcome}
use Rattle.units.specs.declared.Nanos.{Nanos}
use Rattle.bucket.specs.declared.Request.TheVariants.{Acquire, Reserve}
use Rattle.settings.specs.declared.Settings.{Settings}
use Rattle.settings.specs.declared.Shape.{Shape}
use Rattle.settings.specs.Settings.{shape_of}
use Rattle.shard.specs.declared.Identity.{Identity}
use Rattle.rules.specs.declared.Reply.{Reply}
use Rattle.rules.specs.Replies.{numbered, Kind, counts}
use Rattle.rules.specs.Asks.{Ask, requests, looks, undoes, passes, peeks, tokens, turn_aways, refunds, removes, in_force, clock_after_ask, kind_of_ask}
use Rattle.rules.specs.Rules.{unless_refused, keyed_rule_in, len_in}
use Rattle.rules.specs.Debts.{debts_in}
use Rattle.rules.specs.Widths.{fits64, settings_fit, key_fits, ask_fits}

-- What a call asks that names no key: how many keys have a slot, or, at a moment, the debts of a shard, given the shard's number and how many
-- records are lent.
pub data Whole : Type 0 where
  len : Whole
  debts : Nanos → ℕ → ℕ → Whole

abbrev pub clock_after_whole : Whole → ℕ → ℕ
clock_after_whole len before = before
clock_after_whole (debts at i room) before = at.0

abbrev pub whole_fits : Whole → Bool
whole_fits len = true
whole_fits (debts at i room) = fits64 at.0 && fits64 i && fits64 room

-- The rule of such a call, in memory of a shape.
abbrev pub whole_rule_in : Shape → Settings → Whole → List ℕ → Outcome Reply (List ℕ)
whole_rule_in shape s len ws = len_in shape s ws
whole_rule_in shape s (debts at i room) ws = debts_in shape s at i room ws

-- A call has its settings. It asks something of a key, which it names, or something that names no key. Set-up and clear are no calls of a list.
pub data Call (S N : Type 0) : Type 0 where
  keyed : S → N → Ask → Call S N
  whole : S → Whole → Call S N

-- What settings and names mean: the settings; the identity of a name, and the number by which the name is refused, 0 if it is not; what can be asked of it. And
-- whether their numbers are such that code can be given them.
pub record Terms (S N : Type 0) : Type 0 where
  pub settings : S → Settings
  pub identity : N → Identity
  pub refusal : N → ℕ
  pub offers : N → Ask → Bool
  pub settings_fit : S → Bool
  pub name_fits : N → Bool

-- Settings as they are, and keys by their identity: no name is refused, and all can be asked of it.
abbrev pub by_key : Terms Settings Identity
by_key = record { settings = λ s. s; identity = λ id. id; refusal = λ id. 0; offers = λ id ask. true; settings_fit = settings_fit; name_fits = key_fits }

-- An implementation answers a call and leaves words.
abbrev pub Implementation : Type 0 → Type 0 → Type 0
Implementation S N = Call S N → List ℕ → Outcome Reply (List ℕ)

-- A call as it was answered: the call, the reply, and the words that the rules had made before it.
pub record Answered (S N : Type 0) : Type 0 where
  pub call : Call S N
  pub reply : Reply
  pub rules_words : List ℕ

module _ {S N : Type 0} where
  -- The calls by the names of their operations.
  abbrev pub try : S → Nanos → N → ℕ → Call S N
  try s at n cost = keyed s n (requests Acquire at cost)

  abbrev pub reserve : S → Nanos → N → ℕ → Nanos → Call S N
  reserve s at n cost longest = keyed s n (requests (Reserve longest) at cost)

  abbrev pub peek : S → Nanos → N → ℕ → Call S N
  peek s at n cost = keyed s n (looks (peeks at cost))

  abbrev pub available : S → Nanos → N → Call S N
  available s at n = keyed s n (looks (tokens at))

  abbrev pub times_turned_away : S → N → Call S N
  times_turned_away s n = keyed s n (looks turn_aways)

  abbrev pub refund : S → N → ℕ → Call S N
  refund s n cost = keyed s n (undoes (refunds cost))

  abbrev pub remove : S → N → Call S N
  remove s n = keyed s n (undoes removes)

  abbrev pub class_try : S → List ℕ → ℕ → Nanos → N → ℕ → Call S N
  class_try s table class at n cost = keyed s n (passes table class at cost)

  abbrev pub length : S → Call S N
  length s = whole s len

  abbrev pub list_debts : S → Nanos → ℕ → ℕ → Call S N
  list_debts s at i room = whole s (debts at i room)

  -- Of a call: its settings as it writes them; the clock after it, given the clock before; the kind of its reply.
  abbrev pub written_of : Call S N → S
  written_of (keyed s n ask) = s
  written_of (whole s what) = s

  abbrev pub clock_after : Call S N → ℕ → ℕ
  clock_after (keyed s n ask) before = clock_after_ask ask before
  clock_after (whole s what) before = clock_after_whole what before

  abbrev pub kind_of : Call S N → Kind
  kind_of (keyed s n ask) = kind_of_ask ask
  kind_of (whole s what) = counts

module _ {S N : Type 0} (terms : Terms S N) where
  -- The settings that a call goes by: those that it writes. A try through a class takes the number of classes from its table instead.
  abbrev pub settings_of : Call S N → Settings
  settings_of (keyed s n ask) = in_force ask (terms.settings s)
  settings_of (whole s what) = terms.settings s

  -- The rules, over memory of the shape that some function gives the settings. A call is refused for its name before anything else is looked at.
  abbrev pub rules_in : (Settings → Shape) → Implementation S N
  rules_in shapes (keyed s n ask) ws =
      let settings = in_force ask (terms.settings s) in
      unless_refused (terms.refusal n) ws (keyed_rule_in (shapes settings) settings (terms.identity n) ask ws)
  rules_in shapes (whole s what) ws = let settings = terms.settings s in whole_rule_in (shapes settings) settings what ws

  -- The rules are such an implementation.
  abbrev pub rules : Implementation S N
  rules c ws = rules_in shape_of c ws

  -- Each call gets the words that the implementation left; beside it run the rules, on the words that they left themselves.
  unfoldable pub replies : Implementation S N → List (Call S N) → List ℕ → List ℕ → List (Answered S N)
  replies f [] ws rules_words = []
  replies f (c ∷ cs) ws rules_words =
      record { call = c; reply = (f c ws).answer; rules_words = rules_words } ∷ replies f cs (f c ws).after (rules c rules_words).after

  -- A call is accepted where the rules, in their own words, do not refuse it by number.
  unfoldable pub accepted : Answered S N → Bool
  accepted a = not (numbered (rules a.call a.rules_words).answer)

  -- What is said of the identity that a call names, if it names one; and of that of a refund or a removal.
  abbrev pub OfKey : (Identity → Type 0) → Call S N → Type 0
  OfKey Q (keyed s n ask) = Q (terms.identity n)
  OfKey Q (whole s what) = Unit {0}

  abbrev pub OfUndone : (Identity → Type 0) → Call S N → Type 0
  OfUndone Q (keyed s n (requests r at cost)) = Unit {0}
  OfUndone Q (keyed s n (looks l)) = Unit {0}
  OfUndone Q (keyed s n (undoes u)) = Q (terms.identity n)
  OfUndone Q (keyed s n (passes table class at cost)) = Unit {0}
  OfUndone Q (whole s what) = Unit {0}

  -- A call can be made where its settings, its name and its numbers fit, and what it asks can be asked of such a name.
  abbrev pub fits : Call S N → Bool
  fits (keyed s n ask) = terms.settings_fit s && terms.name_fits n && terms.offers n ask && ask_fits ask
  fits (whole s what) = terms.settings_fit s && whole_fits what

  abbrev pub all_fit : List (Call S N) → Bool
  all_fit [] = true
  all_fit (c ∷ cs) = fits c && all_fit cs

-- Something holds of every member of a list.
abbrev pub Every : {A : Type 0} → (A → Type 0) → List A → Type 0
Every Q [] = Unit {0}
Every Q (x ∷ xs) = Q x × Every Q xs
