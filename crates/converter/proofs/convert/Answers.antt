-- `convert` refuses before it writes, then stores the total, then moves the shards.
use mathlib.Core.Path.{sym, ap, ◌∙◌}
use Rattle.converter.specs.Layouts.{slots_of}
use Rattle.settings.specs.Refusal.{numbered}
use Rattle.settings.specs.Settings.{shard_count, cap_of}
use Rattle.settings.proofs.RefusalLaws.{has_a_number}
use Rattle.rules.proofs.RefusedLaws.{number_is_told}
use Rattle.converter.proofs.MoveLaws.{total_in_shards, conversion_done}
use Rattle.converter.proofs.RefusalLaws.{not_refused_is_accepted, source_undamaged, target_in_shards}
use Rattle.converter.proofs.convert.Goals as goal

pub returns-in-Err : goal.returns-in-Err
returns-in-Err c = rw c.into.ensures (number_is_told _ _ _ (rw c.in-Err.is at c.check.ensures) (has_a_number _))

pub store_total-requires : goal.store_total-requires
store_total-requires c = let a = c.args in
    let accepted = not_refused_is_accepted a.from a.settings a.source.now a.target.now (sym c.check.ensures ∙ ap numbered c.in_default.is) in
    rw c.shape-shape.ensures (source_undamaged accepted, target_in_shards accepted)

pub move_all-requires : goal.move_all-requires
move_all-requires c = let a = c.args in
    let shape' = c.shape-shape.ensures in
    let accepted = not_refused_is_accepted a.from a.settings a.source.now a.target.now (sym c.check.ensures ∙ ap numbered c.in_default.is) in
    let shards = shard_count a.settings in
    let cap = cap_of a.settings in
    rw shape' (
      source_undamaged accepted,
      total_in_shards a.from shards cap (slots_of a.from shards cap a.source.now) a.target.now (target_in_shards accepted)
          (rw shape' at c.store_total.ensures),
    )

pub returns : goal.returns
returns c = let a = c.args in
    let shape' = c.shape-shape.ensures in
    let accepted = not_refused_is_accepted a.from a.settings a.source.now a.target.now (sym c.check.ensures ∙ ap numbered c.in_default.is) in
    conversion_done a.from a.settings a.source.now a.target.now accepted (rw shape' at c.store_total.ensures) (rw shape' at c.move_all.ensures)
