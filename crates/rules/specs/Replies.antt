-- What an operation answers, as numbers, and what a reply says of its call: whether it refuses it, and what it grants.
use Rattle.std.specs.Prelude.{ℕ, ◌+◌, Bool, true, false}
use Rattle.rows.specs.Outcome.{Outcome, outcome}
use Rattle.settings.specs.declared.decision.Decision.TheVariants.{Acquired, Retry, Impossible}
use Rattle.rules.specs.declared.Reply.{Reply}
use Rattle.rules.specs.declared.Reply.TheVariants.{Tried, Reserved, Nothing, Done, Count, Refused}
use Rattle.rules.specs.declared.codes.Told.{Told}

-- The desk's code of a reply: 0 granted, accepted, known or counted, 1 to be tried again, 2 impossible, 3 none or unknown, 10 + n refused as n.
abbrev pub code_of : Reply → ℕ
code_of (Tried (Acquired due)) = 0
code_of (Tried (Retry due)) = 1
code_of (Tried Impossible) = 2
code_of (Reserved due) = 0
code_of Nothing = 3
code_of Done = 0
code_of (Count n) = 0
code_of (Refused n) = 10 + n

-- The number beside the code: the wait of a retry or a reservation, the number counted, else 0.
abbrev pub number_of : Reply → ℕ
number_of (Tried (Acquired due)) = 0
number_of (Tried (Retry due)) = due.wait.0
number_of (Tried Impossible) = 0
number_of (Reserved due) = due.wait.0
number_of Nothing = 0
number_of Done = 0
number_of (Count n) = n
number_of (Refused n) = 0

-- The moment at which a grant is usable, or at which to try again: now plus the wait. All other replies have 0.
abbrev pub moment_of : Reply → ℕ
moment_of (Tried (Acquired due)) = due.moment.0
moment_of (Tried (Retry due)) = due.moment.0
moment_of (Tried Impossible) = 0
moment_of (Reserved due) = due.moment.0
moment_of Nothing = 0
moment_of Done = 0
moment_of (Count n) = 0
moment_of (Refused n) = 0

-- A reply as these three numbers. What the rule leaves stays as it is.
abbrev pub told_of : Reply → Told
told_of r = record { code = code_of r; number = number_of r; moment = moment_of r }

abbrev pub told : {A : Type 0} → Outcome Reply A → Outcome Told A
told o = outcome (told_of o.answer) o.after

-- Whether a reply is a refusal by number.
abbrev pub numbered : Reply → Bool
numbered (Tried decision) = false
numbered (Reserved due) = false
numbered Nothing = false
numbered Done = false
numbered (Count n) = false
numbered (Refused n) = true

-- `f` of the wait if the reply grants, else the other value. Acquired and a reservation both grant, whichever request is answered so: a try that
-- is answered as a reservation counts as a grant, and so does a reservation that is answered as a try.
abbrev pub of_grant : {A : Type 0} → (ℕ → A) → A → Reply → A
of_grant f other (Tried (Acquired due)) = f 0
of_grant f other (Tried (Retry due)) = other
of_grant f other (Tried Impossible) = other
of_grant f other (Reserved due) = f due.wait.0
of_grant f other Nothing = other
of_grant f other Done = other
of_grant f other (Count n) = other
of_grant f other (Refused n) = other

-- The kinds of replies. A try and a peek get a decision, a reservation its wait or nothing, a look at tokens, counts or keys how many there are, and a refund
-- or a removal whether the key was known.
pub data Kind : Type 0 where
  decides : Kind
  reserves : Kind
  counts : Kind
  knows : Kind
