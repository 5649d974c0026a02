-- `idle_limit_millis` rounds a span up to milliseconds and adds 1, by dividing the span less one nanosecond.
use Rattle.settings.proofs.SettingsLaws.{no_span_limit, some_span_limit}
use native.Mathlib.Omega.{arith}
use mathlib.Core.Path.{sym}
use Rattle.settings.proofs.idle_limit_millis.Goals as goal

pub returns-then-span-eq0 : goal.returns-then-span-eq0
returns-then-span-eq0 c = rw c.if-span-eq0.true (sym no_span_limit)

pub overflow_add-result : goal.overflow_add-result
overflow_add-result c = rw c.millis-whole.ensures (omega arith)

pub returns : goal.returns
returns c = rw c.millis-whole.ensures (some_span_limit _ (omega arith))
