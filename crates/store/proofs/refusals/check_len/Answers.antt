-- `check_len` checks what set-up checks, and then whether the total is over the room.
use mathlib.Core.Path.{sym, ◌∙◌}
use native.Mathlib.Omega.{arith}
use Rattle.settings.proofs.RefusalLaws.{first_refuses, second_decides}
use Rattle.store.proofs.LendingLaws.{accepted_shape}
use Rattle.store.proofs.RefusalLaws.{set_up_not_refused}
use borrow.Author.Rules.{rules}
use Rattle.store.proofs.refusals.check_len.Goals as goal

pub returns-in_err-check_set_up : goal.returns-in_err-check_set_up
returns-in_err-check_set_up c = first_refuses c.from_residual.result _ _ c.from_residual.ensures.1 c.in_err-check_set_up.ensures

pub room_in-requires : goal.room_in-requires
room_in-requires c = let accepted = set_up_not_refused c.args.settings c.args.ws.now (sym c.in_ok-check_set_up.ensures) in
    accepted_shape c.args.settings accepted.settings (search rules) c.shape.ensures

pub bounds-ws-0 : goal.bounds-ws-0
bounds-ws-0 c = let accepted = set_up_not_refused c.args.settings c.args.ws.now (sym c.in_ok-check_set_up.ensures) in omega (arith, accepted.size)

pub returns : goal.returns
returns c = second_decides c.in_ok-check_set_up.ensures (rw (c.room_in.ensures, c.shape.ensures) at c.check_total.ensures)
