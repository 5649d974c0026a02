use Rattle.std.proofs.Common.{◌≡◌, ℕ, Option, Result, Err, sym, ◌∙◌, rules}
use Rattle.lesson_lines.specs.declared.Wrong.{Wrong}
use Rattle.lesson_lines.specs.Lesson.{idle_at}
use Rattle.lesson_lines.proofs.words.idle_at.Goals as goal

pub returns-then-dash_at : goal.returns-then-dash_at
unfolding idle_at
returns-then-dash_at c = rw (sym c.dash_at.ensures ∙ c.if-dash_at.true)

pub returns-in_err-time : goal.returns-in_err-time
unfolding idle_at
returns-in_err-time c =
    let a = c.args in
    let wrong : ◌≡◌ {A = Result (Option ℕ × ℕ) Wrong} (Err c.in_err-time.field-0.0) (idle_at a.line.now a.from a.end) =
    rw (sym c.dash_at.ensures ∙ c.if-dash_at.false, sym c.number_at.ensures ∙ c.in_err-time.was) in
    search rules

pub returns : goal.returns
unfolding idle_at
returns c = rw (sym c.dash_at.ensures ∙ c.if-dash_at.false, sym c.number_at.ensures ∙ c.in_ok-time.was)
