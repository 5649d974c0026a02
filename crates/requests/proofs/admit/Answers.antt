-- `admit` lets the new key into its shard's part. A closed limiter has no new key.
use mathlib.Core.Path.{◌≡◌, ap, ◌∙◌}
use Rattle.settings.specs.declared.Shape.{Shape}
use Rattle.store.specs.Memory.{part_in, part_of}
use Rattle.requests.proofs.FinishLaws.{new_key_has_shape, new_key_asks, new_key_is_told}
use Rattle.requests.proofs.RequestLaws.{new_may_be_asked}
use native.Mathlib.Omega.{arith}
use borrow.Author.Rules.{rules}
use Rattle.requests.proofs.admit.Goals as goal

is_part : (c : goal.After-policy) → c.part_of-part.result ≡ part_of c.args.settings c.args.id.hash
is_part c = c.part_of-part.ensures ∙ ap (λ (shape : Shape). part_in shape c.args.id.hash) c.shape.ensures

is_part_2 : (c : goal.After-slice_known-in-Open-1) → c.part_of-part.result ≡ part_of c.args.settings c.args.id.hash
is_part_2 c = c.part_of-part.ensures ∙ ap (λ (shape : Shape). part_in shape c.args.id.hash) c.shape.ensures

pub part_of-part-requires : goal.part_of-part-requires
part_of-part-requires c = new_key_has_shape c.requires (omega (arith, c.well_formed)) c.shape.ensures

pub admit-requires : goal.admit-requires
admit-requires c = new_may_be_asked (new_key_asks c.requires c.in-Open.is (is_part c)) c.policy.ensures

pub returns-in-Open : goal.returns-in-Open
returns-in-Open c = new_key_is_told c.requires c.in-Open.is (is_part_2 c) c.policy.ensures c.admit.ensures
