-- `tokens_in` counts the bucket that it views; there is none on a closed limiter.
use Rattle.bucket.specs.Bucket.{Accepted}
use Rattle.settings.proofs.RateLaws.{accepted_rate}
use borrow.Author.Rules.{rules}
use Rattle.perkey.proofs.tokens_in.Goals as goal

-- The configuration that is made is accepted.
accepted : (c : goal.After-config-config) → Accepted c.config-config.result
accepted c = rw c.config-config.ensures (accepted_rate _ (rw c.in-Open.is at c.requires.2))

-- The configuration that is made is accepted.
accepted_2 : (c : goal.After-view-bucket) → Accepted c.config-config.result
accepted_2 c = rw c.config-config.ensures (accepted_rate _ (rw c.in-Open.is at c.requires.2))

pub view-bucket-requires : goal.view-bucket-requires
view-bucket-requires c = let pre' = c.requires in
    (pre'.0, pre'.1, accepted c)

pub available_at-requires : goal.available_at-requires
available_at-requires c = accepted_2 c

pub returns-in-Closed : goal.returns-in-Closed
returns-in-Closed c = rw c.in-Closed.is

pub returns-in-Open : goal.returns-in-Open
returns-in-Open c = rw c.in-Open.is (rw (c.view-bucket.ensures, c.config-config.ensures) at c.available_at.ensures)
