-- The rules: what every operation answers and leaves, for settings and words of any kind.
use Rattle.std.specs.Prelude.{ℕ, cond, List, [], eqb, replicate}
use Rattle.rows.specs.Outcome.{Outcome, outcome}
use Rattle.units.specs.declared.Nanos.{Nanos}
use Rattle.bucket.specs.declared.Request.TheVariants.{Acquire, Reserve}
use Rattle.settings.specs.declared.Settings.{Settings}
use Rattle.settings.specs.declared.Shape.{Shape}
use Rattle.settings.specs.Settings.{first_refusal, shape_of}
use Rattle.classes.specs.Classes.{table_refusal}
use Rattle.classes.specs.Layout.{classes_in}
use Rattle.shard.specs.declared.Identity.{Identity}
use Rattle.store.specs.Memory.{total_of, words_in, part_in, shard_in, in_part, buckets_at, with_buckets}
use Rattle.store.specs.Refusals.{set_up_refusal_in, keyed_refusal_in, len_refusal_in}
use Rattle.rules.specs.declared.Reply.{Reply}
use Rattle.rules.specs.declared.Reply.TheVariants.{Done, Count, Refused}
use Rattle.rules.specs.Asks.{Ask, requests, looks, undoes, passes, peeks, tokens, turn_aways, refunds, removes}
use Rattle.rules.specs.Asks.{with_table, further_of, in_its_shard, buckets_after}

-- A call that is refused by number changes nothing of what it is lent.
unfoldable pub unless_refused : {A : Type 0} → ℕ → A → Outcome Reply A → Outcome Reply A
unless_refused refusal before accepted = cond (eqb refusal 0) accepted (outcome (Refused refusal) before)

-- A call on a key, in memory of a shape. It is refused first for the settings and the memory, then for what it asks.
abbrev pub ask_refusal_in : Shape → Settings → Identity → Ask → List ℕ → ℕ
ask_refusal_in shape s id ask ws = first_refusal (keyed_refusal_in shape s id.hash ws) (further_of ask)

-- Else it does what it asks in the shard of its key, and the total moves with the slots. The other shards stay as they are.
abbrev pub shard_outcome : Shape → Settings → Identity → Ask → List ℕ → Outcome Reply (List ℕ)
shard_outcome shape s id ask ws = let part = part_in shape id.hash in in_part part ws (in_its_shard s id ask (buckets_at shape ws) (shard_in part ws))

-- Then a try through a class stores the class buckets. No other ask touches them.
abbrev pub classes_stored : Shape → Ask → Reply → List ℕ → List ℕ
classes_stored shape (requests r at cost) reply ws = ws
classes_stored shape (looks l) reply ws = ws
classes_stored shape (undoes u) reply ws = ws
classes_stored shape (passes table class at cost) reply ws = with_buckets shape ws (buckets_after (passes table class at cost) reply (buckets_at shape ws))

abbrev pub keyed_outcome : Shape → Settings → Identity → Ask → List ℕ → Outcome Reply (List ℕ)
keyed_outcome shape s id ask ws =
    let o = shard_outcome shape s id ask ws in
    outcome o.answer (classes_stored shape ask o.answer o.after)

unfoldable pub keyed_rule_in : Shape → Settings → Identity → Ask → List ℕ → Outcome Reply (List ℕ)
keyed_rule_in shape s id ask ws = unless_refused (ask_refusal_in shape s id ask ws) ws (keyed_outcome shape s id ask ws)

-- The shape is that of the settings.
abbrev pub ask_refusal : Settings → Identity → Ask → List ℕ → ℕ
ask_refusal s id ask ws = ask_refusal_in (shape_of s) s id ask ws

abbrev pub keyed_rule : Settings → Identity → Ask → List ℕ → Outcome Reply (List ℕ)
keyed_rule s id ask ws = keyed_rule_in (shape_of s) s id ask ws

-- A try, a reservation, a peek, a look at the tokens, a look at the count of tries turned away, a refund, a removal, a try through a class.
abbrev pub try_acquire : Settings → Nanos → Identity → ℕ → List ℕ → Outcome Reply (List ℕ)
try_acquire s at id cost ws = keyed_rule s id (requests Acquire at cost) ws

abbrev pub reserve : Settings → Nanos → Identity → ℕ → Nanos → List ℕ → Outcome Reply (List ℕ)
reserve s at id cost longest ws = keyed_rule s id (requests (Reserve longest) at cost) ws

abbrev pub peek : Settings → Nanos → Identity → ℕ → List ℕ → Outcome Reply (List ℕ)
peek s at id cost ws = keyed_rule s id (looks (peeks at cost)) ws

abbrev pub available : Settings → Nanos → Identity → List ℕ → Outcome Reply (List ℕ)
available s at id ws = keyed_rule s id (looks (tokens at)) ws

abbrev pub times_turned_away : Settings → Identity → List ℕ → Outcome Reply (List ℕ)
times_turned_away s id ws = keyed_rule s id (looks turn_aways) ws

abbrev pub refund : Settings → Identity → ℕ → List ℕ → Outcome Reply (List ℕ)
refund s id cost ws = keyed_rule s id (undoes (refunds cost)) ws

abbrev pub remove : Settings → Identity → List ℕ → Outcome Reply (List ℕ)
remove s id ws = keyed_rule s id (undoes removes) ws

abbrev pub class_try : Settings → List ℕ → Nanos → Identity → ℕ → ℕ → List ℕ → Outcome Reply (List ℕ)
class_try s table at id class cost ws = keyed_rule (with_table table s) id (passes table class at cost) ws

-- Set-up and clear with a class table zero all words. They are refused for the settings and the memory, then for the table.
abbrev pub table_set_up_refusal_in : Shape → Settings → List ℕ → List ℕ → ℕ
table_set_up_refusal_in shape s table ws = first_refusal (set_up_refusal_in shape s ws) (table_refusal (classes_in table))

unfoldable pub set_up_in : Shape → Settings → List ℕ → List ℕ → Outcome Reply (List ℕ)
set_up_in shape s table ws = unless_refused (table_set_up_refusal_in shape s table ws) ws (outcome Done (replicate (words_in shape) 0))

abbrev pub set_up_for : Settings → List ℕ → List ℕ → Outcome Reply (List ℕ)
set_up_for s table ws = set_up_in (shape_of s) s table ws

-- The settings take the number of classes from the table.
abbrev pub class_set_up : Settings → List ℕ → List ℕ → Outcome Reply (List ℕ)
class_set_up s table ws = set_up_for (with_table table s) table ws

abbrev pub class_clear : Settings → List ℕ → List ℕ → Outcome Reply (List ℕ)
class_clear s table ws = class_set_up s table ws

-- Without a table they are those with the empty one, whatever number of classes the settings have.
abbrev pub set_up : Settings → List ℕ → Outcome Reply (List ℕ)
set_up s ws = class_set_up s [] ws

abbrev pub clear : Settings → List ℕ → Outcome Reply (List ℕ)
clear s ws = set_up s ws

-- Length: the total, which stands in one word. No shard is looked at.
unfoldable pub len_in : Shape → Settings → List ℕ → Outcome Reply (List ℕ)
len_in shape s ws = unless_refused (len_refusal_in shape s ws) ws (outcome (Count (total_of ws)) ws)

abbrev pub len : Settings → List ℕ → Outcome Reply (List ℕ)
len s ws = len_in (shape_of s) s ws
