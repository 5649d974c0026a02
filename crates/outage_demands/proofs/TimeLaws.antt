-- The moments of a run never fall, on any memory: the next row has the least moment, and a told moment is never before its call.
use Rattle.std.proofs.Common.{Some}
use Prim.Native.Nat.{ℕ, ◌≤◌, ◌<◌}
use native.Mathlib.Omega.{arith}
use mathlib.Core.Path.{◌≡◌, sym}
use mathlib.Core.Bool.{Bool, true, false, cond, true≢false}
use mathlib.Core.List.{List}
use lib.ListN.{length}
use Rattle.arith.proofs.Cases.{by_eq}
use Rattle.rows.specs.Outcome.{Outcome}
use Rattle.settings.specs.declared.Settings.{Settings}
use Rattle.rules.specs.declared.Reply.{Reply}
use Rattle.rules.specs.Replies.{told_of}
use Rattle.desk_answers.specs.Desk.{identity_of}
use Rattle.outage_rows.specs.declared.Row.{Row}
use Rattle.outage_rows.specs.Model.{State, row_at, is_live, cost_of, next, made, after_try, tried_at}
use Rattle.outage_rows.proofs.NextLaws.{next_found}
use Rattle.outage_rows.proofs.RunLaws.{again_denied, tried_rows}
use Rattle.outage_rows.proofs.EndLaws.{by_again, row_tried, row_other}
use Rattle.rules.specs.Calls.{by_key}
use Rattle.demands.specs.Demands as Demands
use Rattle.demands.specs.ByKey.{Answered, accepted, TimesNeverFall}
use Rattle.outage_demands.proofs.ReplyLaws.{TryReply, try_reply, denied_later}
use Rattle.outage_demands.proofs.CallLaws.{answered_try, answered_in, by_tries}

-- Every live row waits for a moment that is not before the clock.
abbrev pub Waits : ℕ → List Row → Type 0
Waits before rows = (j : ℕ) → j < length rows → is_live (row_at rows j) ≡ true → before ≤ (row_at rows j).at.0

-- A row that is tried again waits for a moment that is not before its try.
abbrev NotBefore : ℕ → Row → Type 0
NotBefore least new = is_live new ≡ true → least ≤ new.at.0

pub waits_later : (row : Row) (r : Reply) → TryReply row.at r → NotBefore row.at.0 (after_try row (told_of r))
waits_later row r reply =
    by_again (NotBefore row.at.0) row (told_of r)
    (λ t live. denied_later reply (again_denied (made row) (told_of r) t).code)
    (λ t live. absurd (true≢false (sym live)))

-- The clock after a try is at the try's moment, or where it was.
clock_within : (b : Bool) (before at : ℕ) → before ≤ at → (before ≤ cond b at before) × (cond b at before ≤ at)
clock_within true before at le = (le, omega arith)
clock_within false before at le = (omega arith, le)

module _ (s : Settings) where
  waits_on : (v : State) (p before : ℕ) → next v.rows ≡ Some p → before ≤ (row_at v.rows p).at.0 → Waits before (tried_at s v p).rows
  waits_on v p before is le j b live =
      let f = next_found v.rows p is in
      let row = row_at v.rows p in
      by_eq j p
      (λ same.
      let later = waits_later row _ (try_reply s row.at (identity_of row.key) (cost_of row.cost) v.store) in
      let new_live = rw (same, row_tried s v p f.below) at live in
      rw (same, row_tried s v p f.below) (omega (arith, later new_live)))
      (λ other. rw (row_other s v p j other)
      (omega (arith, f.least j (rw (tried_rows s v p) at b) (rw (row_other s v p j other) at live))))

  pub run_never_goes_back : (n : ℕ) (v : State) (before : ℕ) → Waits before v.rows → TimesNeverFall before (answered_in s n v)
  unfolding Demands.TimesNeverFall
  run_never_goes_back =
      by_tries s (λ v l w. (before : ℕ) → Waits before v.rows → TimesNeverFall before l)
      (λ v before waits. tt)
      (λ v p is rest w then before waits.
      let f = next_found v.rows p is in
      let within = clock_within (accepted (answered_try s v p)) before (row_at v.rows p).at.0 (waits p f.below f.live) in
      (within.0, then (Demands.clock by_key before (answered_try s v p)) (waits_on v p _ is within.1)))
