-- `limiter_reserve` tells what the attempt told, else what `finish` tells of what the attempt left.
use mathlib.Core.Path.{refl, ap, ◌∙◌}
use Rattle.units.specs.declared.Nanos.{Nanos}
use Rattle.units.specs.Units.{nanos_of}
use Rattle.bucket.specs.declared.Request.{Request}
use Rattle.bucket.specs.declared.Request.TheVariants.{Reserve}
use Rattle.settings.specs.declared.Settings.{Settings}
use Rattle.shard.specs.declared.Identity.{Identity}
use Rattle.rules.specs.Replies as Replies
use Rattle.rules.proofs.RuleLaws.{outcome_is_told}
use Rattle.requests.proofs.FinishLaws.{attempt_is_told, left_may_be_finished, finished_is_told}
use Rattle.limiter.specs.Exported.{settings_of, identity_of}
use borrow.Author.Rules.{rules}
use Rattle.limiter.proofs.limiter_reserve.Goals as goal

-- What is asked, and what the numbers are: the settings, the moment, the key.
abbrev request : goal.After-finish-arg-1 → Request
request c = Reserve (nanos_of c.args.max_wait)

-- What is asked, and what the numbers are: the settings, the moment, the key.
abbrev request_2 : goal.After-told → Request
request_2 c = Reserve (nanos_of c.args.max_wait)

-- What is asked, and what the numbers are: the settings, the moment, the key.
abbrev request_3 : goal.After-slice_known-in-Left-1 → Request
request_3 c = Reserve (nanos_of c.args.max_wait)

abbrev settings : goal.After-finish-arg-1 → Settings
settings c = settings_of c.args.settings

abbrev settings_2 : goal.After-told → Settings
settings_2 c = settings_of c.args.settings

abbrev settings_3 : goal.After-slice_known-in-Left-1 → Settings
settings_3 c = settings_of c.args.settings

abbrev moment : goal.After-finish-arg-1 → Nanos
moment c = nanos_of c.args.at

abbrev moment_2 : goal.After-told → Nanos
moment_2 c = nanos_of c.args.at

abbrev moment_3 : goal.After-slice_known-in-Left-1 → Nanos
moment_3 c = nanos_of c.args.at

abbrev key : goal.After-finish-arg-1 → Identity
key c = identity_of c.args.hash c.args.key

abbrev key_2 : goal.After-told → Identity
key_2 c = identity_of c.args.hash c.args.key

abbrev key_3 : goal.After-slice_known-in-Left-1 → Identity
key_3 c = identity_of c.args.hash c.args.key

pub finish-told-requires : goal.finish-told-requires
finish-told-requires c = let settled = c.settings_of.ensures in
    left_may_be_finished (request c) (settings c) (moment c) (key c) c.args.cost c.args.ws.now _ settled c.attempt_reserve.ensures
    c.in-Left.is

pub returns-in-Answered : goal.returns-in-Answered
returns-in-Answered c = let settled = c.settings_of.ensures in
    let told = attempt_is_told (request_2 c) (settings_2 c) (moment_2 c) (key_2 c) c.args.cost c.args.ws.now _ settled c.attempt_reserve.ensures
    c.in-Answered.is in
    outcome_is_told told c.told.ensures

pub returns-in-Left : goal.returns-in-Left
returns-in-Left c = let settled = c.settings_of.ensures in
    let same =
    finished_is_told (request_3 c) (settings_3 c) (moment_3 c) (key_3 c) c.args.cost c.args.ws.now _ settled c.attempt_reserve.ensures
    c.in-Left.is refl in
    c.finish-told.ensures ∙ ap Replies.told same
