-- What code can be given: numbers within the widths of their types, in settings, in what is asked and in lent words.
use Rattle.std.specs.Prelude.{ℕ, ◌^◌, Bool, true, false, ◌&&◌, List, [], ◌∷◌, ltb, length, Option, Some, None}
use Rattle.units.specs.declared.Nanos.{Nanos}
use Rattle.bucket.specs.declared.Request.{Request}
use Rattle.bucket.specs.declared.Request.TheVariants.{Acquire, Reserve, Through}
use Rattle.settings.specs.declared.Limit.{Limit}
use Rattle.settings.specs.declared.Limit.TheVariants.{Closed, Open}
use Rattle.settings.specs.declared.Settings.{Settings}
use Rattle.settings.specs.declared.rate.Rate.{Rate}
use Rattle.ledger.specs.declared.Debt.{Debt}
use Rattle.shard.specs.declared.Identity.{Identity}
use Rattle.rules.specs.Asks.{Look, peeks, tokens, turn_aways, Undo, refunds, removes, Ask, requests, looks, undoes, passes}

-- A number fits 64 bits (`u64`, `usize`), or 32 bits (`u32`).
abbrev pub fits64 : ℕ → Bool
fits64 n = ltb n (2 ^ 64)

abbrev pub fits32 : ℕ → Bool
fits32 n = ltb n (2 ^ 32)

-- The numbers of a settings record fit.
abbrev pub tokens_fit : Option ℕ → Bool
tokens_fit None = true
tokens_fit (Some n) = fits32 n

abbrev pub IdleFits : Option Nanos → Bool
IdleFits None = true
IdleFits (Some span) = fits64 span.0

abbrev pub rate_fits : Rate → Bool
rate_fits r = fits32 r.amount && fits64 r.period.0 && tokens_fit r.burst && tokens_fit r.initial

abbrev pub limit_fits : Limit → Bool
limit_fits Closed = true
limit_fits (Open rate) = rate_fits rate

abbrev pub settings_fit : Settings → Bool
settings_fit s =
    limit_fits s.limit && fits64 s.eviction.max_keys && IdleFits s.eviction.idle_ttl && fits64 s.shards
    && fits32 s.classes

-- Words can be lent, as `&[u64]` or `&mut [u64]`, where each of them and their number fit.
abbrev words_fit : List ℕ → Bool
words_fit [] = true
words_fit (w ∷ ws) = fits64 w && words_fit ws

abbrev pub lendable : List ℕ → Bool
lendable ws = fits64 (length ws) && words_fit ws

-- Records of debts can be lent where both numbers of each fit, and their number (`whole_fits` of Calls).
abbrev pub records_fit : List Debt → Bool
records_fit [] = true
records_fit (d ∷ ds) = fits64 d.hash && fits64 d.settles.0 && records_fit ds

-- The numbers of a key, and of what is asked of it, fit.
abbrev pub key_fits : Identity → Bool
key_fits id = fits64 id.hash && fits64 id.key

-- No caller asks for a try that waits for other buckets too: the try through a class does.
abbrev pub RequestFits : Request → Bool
RequestFits Acquire = true
RequestFits (Reserve longest) = fits64 longest.0
RequestFits (Through others) = false

abbrev pub look_fits : Look → Bool
look_fits (peeks at cost) = fits64 at.0 && fits32 cost
look_fits (tokens at) = fits64 at.0
look_fits turn_aways = true

abbrev pub undo_fits : Undo → Bool
undo_fits (refunds cost) = fits32 cost
undo_fits removes = true

abbrev pub ask_fits : Ask → Bool
ask_fits (requests r at cost) = fits64 at.0 && RequestFits r && fits32 cost
ask_fits (looks l) = look_fits l
ask_fits (undoes u) = undo_fits u
ask_fits (passes table class at cost) = lendable table && fits64 class && fits64 at.0 && fits32 cost
