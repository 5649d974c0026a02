-- `pass` asks the chain, and goes by its answer.
use mathlib.Core.Path.{refl}
use Rattle.class_calls.proofs.PassLaws.{classes_fit, chain_may_be_asked, chain_has_answered, over_is_told}
use Rattle.class_calls.proofs.pass.Goals as goal

pub classes_at-first-requires : goal.classes_at-first-requires
classes_at-first-requires c = classes_fit c.requires c.args.ws.now refl

pub ask_chain-requires : goal.ask_chain-requires
ask_chain-requires c = chain_may_be_asked c.requires _ c.classes_at-first.ensures

pub pass_chain-requires : goal.pass_chain-requires
pass_chain-requires c = chain_has_answered c.requires _ c.classes_at-first.ensures c.ask_chain.ensures c.in-Wait.is

pub returns-in-Over : goal.returns-in-Over
returns-in-Over c = over_is_told c.requires _ c.classes_at-first.ensures c.ask_chain.ensures c.in-Over.is

pub returns-in-Wait : goal.returns-in-Wait
returns-in-Wait c = c.pass_chain.ensures
