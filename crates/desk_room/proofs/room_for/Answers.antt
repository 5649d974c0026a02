use mathlib.Core.Path.{◌≡◌, refl, sym, ◌∙◌}
use native.Mathlib.Omega.{arith}
use Rattle.settings.specs.Settings.{most_keys}
use Rattle.desk_room.proofs.RoomLaws.{one_more, one_too_many_lem, none_left}
use Rattle.desk_room.proofs.room_for.Goals as goal

pub loop-keys-init : goal.loop-keys-init
loop-keys-init c = refl

pub returns-then-not-fits : goal.returns-then-not-fits
returns-then-not-fits c = let a = c.args in
    let loop' = c.loop-keys in
    one_too_many_lem loop'.keys a.words a.shards (omega arith) (sym c.fits.ensures ∙ c.if-not-fits.true) ∙ loop'.invariant

pub loop-keys-preserved : goal.loop-keys-preserved
loop-keys-preserved c = let a = c.args in
    let loop' = c.loop-keys in
    one_more loop'.keys a.words a.shards (omega arith) (sym c.fits.ensures ∙ c.if-not-fits.false) ∙ loop'.invariant

pub returns : goal.returns
returns c = let a = c.args in
    let loop' = c.loop-keys in
    let end : loop'.keys ≡ most_keys = omega arith in
    sym end ∙ none_left loop'.keys a.words a.shards (omega arith) ∙ loop'.invariant
