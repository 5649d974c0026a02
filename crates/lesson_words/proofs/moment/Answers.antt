use Rattle.std.proofs.Common.{◌≡◌, ℕ, Result, Ok, Err, drop, sym, ◌∙◌, rules}
use Rattle.lesson_words.specs.declared.Fault.{Fault}
use Rattle.lesson_words.specs.Times.{time_of}
use Rattle.lesson_words.specs.Values.{moment_of}
use Rattle.lesson_words.proofs.ValueLaws.{moment_after_the_clock, moment_by_itself}
use Rattle.lesson_words.proofs.moment.Goals as goal

pub returns-in_ok-time-in-Some : goal.returns-in_ok-time-in-Some
returns-in_ok-time-in-Some c =
    let rest = c.in-Some.ensures.cases in
    let read : ◌≡◌ {A = Result ℕ Fault} (time_of (drop 1 c.args.word.now)) (Ok c.in_ok-time-in-Some.field-0) =
    rw (← rest.1) (sym c.time.ensures ∙ c.in_ok-time-in-Some.was) in
    c.later.ensures ∙ rw read at (moment_after_the_clock c.args.clock c.args.word.now rest.0)

pub returns-in_err-time-in-Some : goal.returns-in_err-time-in-Some
returns-in_err-time-in-Some c =
    let rest = c.in-Some.ensures.cases in
    let read : ◌≡◌ {A = Result ℕ Fault} (time_of (drop 1 c.args.word.now)) (Err c.in_err-time-in-Some.field-0.0) =
    rw (← rest.1) (sym c.time.ensures ∙ c.in_err-time-in-Some.was) in
    let wrong : ◌≡◌ {A = Result ℕ Fault} (Err c.in_err-time-in-Some.field-0.0) (moment_of c.args.clock c.args.word.now) =
    rw read at (moment_after_the_clock c.args.clock c.args.word.now rest.0) in
    search rules

pub returns-in-None : goal.returns-in-None
returns-in-None c = c.time-in-None.ensures ∙ moment_by_itself _ _ c.in-None.ensures.cases
