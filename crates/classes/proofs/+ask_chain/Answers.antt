-- `ask_chain` goes up the table as the chain does.
use Rattle.std.proofs.Common.{ℕ, ap, sym, ◌∙◌, arith}
use Rattle.bucket.specs.declared.BucketConfig.{BucketConfig}
use Rattle.classes.proofs.LayoutLaws.{class_has_words}
use Rattle.classes.proofs.AnswerLaws.{none_answers, over_its_own_burst, top_answers, answer_goes_up, named_takes}
use Rattle.classes.proofs.+ask_chain.Goals as goal

-- The burst that the code compares.
abbrev capacity : BucketConfig → ℕ
capacity k = k.capacity

pub returns-then-allowed-eq0 : goal.returns-then-allowed-eq0
returns-then-allowed-eq0 t c = c.none_asked.ensures ∙ none_answers _ _ _ _ _ _ c.if-allowed-eq0.true

pub config_at-config-requires : goal.config_at-config-requires
config_at-config-requires t c = (class_has_words _ _ c.requires.0.named, c.requires.0.sound.rates _ c.requires.0.named)

pub returns-then-config-cost : goal.returns-then-config-cost
returns-then-config-cost t c =
    over_its_own_burst _ _ _ _ _ _ c.if-allowed-eq0.false (omega (arith, ap capacity c.config_at-config.ensures))

pub load_parent-parent-requires : goal.load_parent-parent-requires
load_parent-parent-requires t c = class_has_words _ _ c.requires.0.named

pub returns-in-None : goal.returns-in-None
returns-in-None t c =
    let takes = named_takes _ _ c.requires.0 c.args.cost (omega (arith, ap capacity c.config_at-config.ensures)) in
    rw c.own_wait-own.ensures (top_answers _ _ _ _ _ _ c.if-allowed-eq0.false takes (sym c.in-None.ensures))

pub returns-in-Some : goal.returns-in-Some
returns-in-Some t c =
    let takes = named_takes _ _ c.requires.0 c.args.cost (omega (arith, ap capacity c.config_at-config.ensures)) in
    rw (c.with_own.ensures, c.ask_chain.ensures, c.own_wait-own.ensures)
    (answer_goes_up _ _ _ _ _ _ c.if-allowed-eq0.false takes (sym c.in-Some.ensures))
