-- `pass_key` hands the wait of the chain to the store, and charges the chain where the store grants.
use native.Mathlib.Omega.{arith}
use Rattle.class_calls.proofs.PassLaws.{bucket_may_be_asked, buckets_fit, chain_may_be_charged, denied_is_told, granted_is_told}
use Rattle.class_calls.proofs.pass_key.Goals as goal

pub ask-requires : goal.ask-requires
ask-requires c = bucket_may_be_asked c.requires

pub classes_at-first-requires : goal.classes_at-first-requires
classes_at-first-requires c = buckets_fit c.requires c.ask.auto.ws c.ask.ensures

pub offset_bounds-ws-first : goal.offset_bounds-ws-first
offset_bounds-ws-first c = record { fits = omega (arith, c.classes_at-first.ensures, c.ask.auto.ws, c.well_formed) }

pub charge-requires : goal.charge-requires
charge-requires c = chain_may_be_charged c.requires c.ask.auto.ws c.ask.ensures _ c.classes_at-first.ensures

pub returns-in-Allowed : goal.returns-in-Allowed
returns-in-Allowed c = let charge' = c.charge in
    granted_is_told c.requires c.ask.auto.ws c.ask.ensures _ c.classes_at-first.ensures c.in-Allowed.is _
    charge'.auto.buckets charge'.ensures

pub returns-in-Denied : goal.returns-in-Denied
returns-in-Denied c = denied_is_told c.requires c.ask.auto.ws c.ask.ensures c.in-Denied.is
