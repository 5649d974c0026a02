-- `lend` looks at the length, then at the counts of the shard and the total, in the part that then lies in the memory, then at the further check.
use mathlib.Core.Path.{◌≡◌, sym, ap, ◌∙◌}
use native.Mathlib.Omega.{arith}
use lib.ListN.{length}
use Rattle.settings.proofs.RefusalLaws.{stands, second_decides}
use Rattle.store.specs.Lending.{number_in}
use Rattle.store.specs.Memory.{Placed, words_in}
use Rattle.store.proofs.RefusalLaws.{length_not_refused}
use Rattle.store.proofs.LendingLaws.{part_is_placed, counts_refuse, lent_starts, lent_length, refusal_lends_nothing, own_refusal_lends_nothing}
use Rattle.store.proofs.lending.lend.Goals as goal

pub returns-in_err-check_memory : goal.returns-in_err-check_memory
returns-in_err-check_memory g c = let number = rw c.words_in.ensures at c.in_err-check_memory.ensures in
    refusal_lends_nothing g.E.Numbered.number c.from_residual.result _ _ c.from_residual.ensures.1 (g.met.E.Numbered.keeps _) (stands _ _ (stands _ _ number))

pub offset_bounds-ws-part : goal.offset_bounds-ws-part
offset_bounds-ws-part g c = let size = length_not_refused _ _ (sym c.in_ok-check_memory.ensures) ∙ c.words_in.ensures in
    let placed = part_is_placed c.args.hash c.args.ws.now c.requires size c.part_of-part.ensures in
    record { fits = omega (arith, placed.within, lent_starts placed) }

pub slice_bounds-check_counts-end : goal.slice_bounds-check_counts-end
slice_bounds-check_counts-end g c = let size = length_not_refused _ _ (sym c.in_ok-check_memory.ensures) ∙ c.words_in.ensures in
    (part_is_placed c.args.hash c.args.ws.now c.requires size c.part_of-part.ensures).within

pub room_in-requires : goal.room_in-requires
room_in-requires g c = c.requires

pub returns-in_err-check_counts : goal.returns-in_err-check_counts
returns-in_err-check_counts g c = let a = c.args in
    let size = length_not_refused _ _ (sym c.in_ok-check_memory.ensures) ∙ c.words_in.ensures in
    let number = counts_refuse a.hash a.ws.now c.requires size c.part_of-part.ensures c.room_in.ensures c.in_err-check_counts.ensures in
    let handed = c.from_residual-in_err-check_counts in
    refusal_lends_nothing g.E.Numbered.number handed.result _ _ handed.ensures.1 (g.met.E.Numbered.keeps _) (stands _ _ number)

pub returns-in_err-further : goal.returns-in_err-further
returns-in_err-further g c = let a = c.args in
    let size = length_not_refused _ _ (sym c.in_ok-check_memory.ensures) ∙ c.words_in.ensures in
    let passed = counts_refuse a.hash a.ws.now c.requires size c.part_of-part.ensures c.room_in.ensures c.in_ok-check_counts.ensures in
    let handed = c.from_residual-in_err-further in
    own_refusal_lends_nothing g.E.Numbered.number handed.result _ _ handed.ensures.1
    (second_decides passed (sym (ap (number_in g.E.Numbered.number) c.in_err-further.was)))

pub returns : goal.returns
returns g c = let a = c.args in
    let size = length_not_refused _ _ (sym c.in_ok-check_memory.ensures) ∙ c.words_in.ensures in
    let passed = counts_refuse a.hash a.ws.now c.requires size c.part_of-part.ensures c.room_in.ensures c.in_ok-check_counts.ensures in
    (sym (second_decides passed (sym (ap (number_in g.E.Numbered.number) c.in_ok-further.was))), c.part_of-part.ensures)
