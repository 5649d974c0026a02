-- One call of the list, under the rules: the state of the memory stands after it, with what it did to the key, for any bound by the line.
use Prim.Native.Nat.{ℕ, ◌≤◌, ◌<◌, ◌^◌}
use mathlib.Core.Path.{◌≡◌, refl, sym, ap, subst}
use mathlib.Core.Bool.{true, false}
use mathlib.Core.List.{List}
use native.Mathlib.Omega.{arith}
use lib.Dec.{ltb}
use borrow.Author.Tests.{lt-ltb, le-ltb, eq-eqb, ne_eqb}
use Rattle.arith.proofs.Cases.{by_test, by_eq, by_le}
use Rattle.rows.specs.Outcome.{Outcome, outcome}
use Rattle.units.specs.declared.Nanos.{Nanos}
use Rattle.bucket.specs.declared.BucketConfig.{BucketConfig}
use Rattle.bucket.specs.declared.Request.{Request}
use Rattle.bucket.specs.Bucket.{Accepted, longest_wait}
use Rattle.settings.specs.declared.Limit.{Limit}
use Rattle.settings.specs.declared.Limit.TheVariants.{Open}
use Rattle.settings.specs.declared.Settings.{Settings}
use Rattle.settings.specs.declared.rate.Rate.{Rate}
use Rattle.settings.specs.Rate.{burst_of, config_of}
use Rattle.settings.specs.Settings.{shape_of, shard_of}
use Rattle.settings.specs.declared.decision.Decision.TheVariants.{Impossible}
use Rattle.classes.specs.declared.Class.{Class}
use Rattle.classes.specs.Chains.{least_burst}
use Rattle.classes.specs.Layout.{classes_in}
use Rattle.shard_map.specs.Model as Shard
use Rattle.shard_map.proofs.KeptLaws.{Keeps}
use Rattle.shard.specs.declared.Identity.{Identity}
use Rattle.bucket.specs.declared.BucketDecision.{BucketDecision}
use Rattle.shard.specs.Model as OneShard
use Rattle.shard.proofs.ShardLaws.{SameRoom, ask_same_room, refund_same_room, remove_same_room}
use Rattle.store.specs.Memory.{shard_at, in_shard, buckets_at}
use Rattle.rules.specs.declared.Reply.{Reply}
use Rattle.rules.specs.declared.Reply.TheVariants.{Tried}
use Rattle.rules.specs.Asks.{Ask, requests, looks, undoes, passes, Undo, refunds, removes, clock_after_ask, manner_of, too_much, at_once, reply_to, policy_of}
use Rattle.rules.specs.Asks.{known_reply}
use Rattle.rules.specs.Asks.{Look, clock_after_look, looked_in, in_force, further_of, asked_in, undone_in, chain_of, through_chain, passed_in, in_its_shard}
use Rattle.rules.specs.Calls.{Call, keyed, whole, clock_after_whole, Terms, rules, Answered, settings_of, clock_after, OfKey, OfUndone, accepted}
use Rattle.demands.specs.Demands.{clock}
use Rattle.demands.proofs.LineBound.{LineBound, BoundOf}
use Rattle.demands.proofs.RequestLaws.{invariant_keeps, own_request, other_request, other_refund, other_removal}
use Rattle.demands.proofs.RefundLaws.{refund_adds, own_refund}
use Rattle.rules.proofs.KeyedLaws.{ask_not_refused, request_in_time, pass_in_time, in_shard_unchanged}
use Rattle.store.proofs.RefusalLaws as Store
use Rattle.rules.proofs.CallLaws.{refusal_of, not_refused_is_ruled, keyed_not_refused, looks_at_all, looks_change_nothing}
use Rattle.rules.proofs.CallLaws.{accepted_not_refused, unaccepted_refused}
use Rattle.demands.proofs.OwnBucket.{ruled}
use Rattle.demands.proofs.TryLaws.{store_grants_as_asked}
use Rattle.demands.proofs.StampLaws.{StampsBy, ask_keeps_stamps, refund_keeps_stamps, remove_keeps_stamps}
use Rattle.demands.proofs.StandingLaws.{moment, Bounds, Standing, standing_later, stored_stands, operation_stands}
use Rattle.demands.proofs.GivenLaws.{if_own, told_known, granting, ask_gave, given}
use Rattle.demands.proofs.GivenLaws.{own_call, other_hash, same_either_way, refusal_gives_nothing, reply_grants, too_much_grants_nothing, at_once_grants}
use Rattle.demands.proofs.GivenLaws.{known_is_told}

-- What is asked of the undoing of what the key spent: a bound may allow for refunds; none allows for removals.
module _ {A P C : ℕ} (B : LineBound A P C) (k : Identity) where
  abbrev allows : Undo → Type 0
  allows (refunds cost) = B.Refundable
  allows removes = ⊥

  abbrev UndoneSo : Identity → Ask → Type 0
  UndoneSo id (requests r at cost) = Unit {0}
  UndoneSo id (looks l) = Unit {0}
  UndoneSo id (undoes u) = id.hash ≡ k.hash → id.key ≡ k.key → allows u
  UndoneSo id (passes table class at cost) = Unit {0}

  module _ {S N : Type 0} (terms : Terms S N) where
    abbrev pub UndoneAsAllowed : Call S N → Type 0
    UndoneAsAllowed (keyed s n ask) = UndoneSo (terms.identity n) ask
    UndoneAsAllowed (whole s what) = Unit {0}

    pub never_undone_is_as_allowed : (c : Call S N) → OfUndone terms (λ id. id.hash ≡ k.hash → id.key ≡ k.key → ⊥) c → UndoneAsAllowed c
    never_undone_is_as_allowed (keyed s n (requests r at cost)) never = tt
    never_undone_is_as_allowed (keyed s n (looks l)) never = tt
    never_undone_is_as_allowed (keyed s n (undoes u)) never = λ hash key. absurd (never hash key)
    never_undone_is_as_allowed (keyed s n (passes table class at cost)) never = tt
    never_undone_is_as_allowed (whole s what) never = tt

module _ (s : Settings) (rate : Rate) (k : Identity) (B : BoundOf (config_of rate)) (a : Accepted (config_of rate))
    (never : (policy_of s rate).forget_debt ≡ false) where
  abbrev Stands : ℕ → List ℕ → B.History → Type 0
  Stands n ws g = Standing s rate k B n ws g

  -- An operation for a key, in the shard of its hash. The key's own has to keep the bound; one for another hash has to lose nothing.
  keyed_stands : {R : Type 0} (id : Identity) (n : ℕ) (ws : List ℕ) {g : B.History} → Stands n ws g
      → (o : Outcome R Shard.Shard) → SameRoom (shard_at s id.hash ws) o.after
      → (StampsBy n (shard_at s id.hash ws) → StampsBy n o.after)
      → (id.hash ≡ k.hash → id.key ≡ k.key) → (next : B.History)
      → (id.hash ≡ k.hash → id.key ≡ k.key → Bounds s rate k B n (shard_at s id.hash ws) g → Bounds s rate k B n o.after next)
      → ((id.hash ≡ k.hash → ⊥) → Keeps (config_of rate) k.hash k.key (moment n) (shard_at s id.hash ws) o.after)
      → Stands n (in_shard s id.hash ws o).after (if_own k id next g)
  keyed_stands id n ws {g} v o room stamps alone next own other =
      by_eq id.hash k.hash
      (λ hash.
      rw (own_call k id next g hash (alone hash))
      (operation_stands s rate k B id.hash n ws v o room stamps next (λ same b. own hash (alone hash) b)
      (λ apart. absurd (apart (ap (shard_of s) (sym hash))))))
      (λ differs.
      rw (other_hash k id next g differs)
      (operation_stands s rate k B id.hash n ws v o room stamps g
      (λ same b. invariant_keeps (config_of rate) B k.hash k.key (moment n) _ _ (other differs) b) (λ apart. refl)))

  -- A request of any kind, put to the store.
  module _ (r : Request) (at : Nanos) (id : Identity) (cost : ℕ) (ws : List ℕ) (g : B.History) (early : at.0 ≤ 2 ^ 62)
      (patient : longest_wait r ≤ 2 ^ 46) (accepted : Store.Accepted s id.hash ws) (alone : id.hash ≡ k.hash → id.key ≡ k.key)
      (v : Stands at.0 ws g) where
    sound : Shard.Sound (shard_at s id.hash ws)
    sound = accepted.sound

    -- What the store gives in the shard of the call's key.
    abbrev answered : Outcome BucketDecision Shard.Shard
    answered = OneShard.with_or_insert (policy_of s rate) id r cost at (shard_at s id.hash ws)

    request_stands : 1 ≤ cost → cost ≤ burst_of rate
        → Stands at.0 (in_shard s id.hash ws answered).after (if_own k id (granting B (manner_of r) at cost g (reply_to (manner_of r) answered.answer)) g)
    request_stands least most =
        let shard : Shard.Shard = shard_at s id.hash ws in
        rw (reply_grants B r at cost g answered.answer (store_grants_as_asked (policy_of s rate) id r cost at shard))
        (keyed_stands id at.0 ws v answered (ask_same_room shard sound (policy_of s rate) id r cost at)
        (ask_keeps_stamps (policy_of s rate) id r cost at shard a sound) alone _
        (λ hash key b.
        own_request (policy_of s rate) id r cost at shard a early never sound (rw hash v.complete) (rw hash v.past) B k.hash
        k.key hash key least most patient b)
        (λ differs. other_request (policy_of s rate) id r cost at shard a early never sound k.hash k.key differs))

    -- A grant of no tokens keeps the bound.
    nothing_granted_stands : cost ≡ 0 → Stands at.0 ws (if_own k id (B.grant at.0 0 cost g) g)
    nothing_granted_stands none =
        by_eq id.hash k.hash
        (λ hash.
        rw (own_call k id (B.grant at.0 0 cost g) g hash (alone hash), none)
        (record {
          size = v.size;
          sound = v.sound;
          complete = v.complete;
          past = v.past;
          bounds = record { one = v.bounds.one; bound = B.granted_none at.0 _ v.bounds.bound };
        }))
        (λ differs. rw (other_hash k id (B.grant at.0 0 cost g) g differs) v)

    -- What a request gives and leaves, whatever its cost. Only one from 1 to the burst reaches the bucket; any other leaves the words as they are.
    any_request_stands :
        let o = asked_in r (Open rate) s at id cost (shard_at s id.hash ws) in
        Stands at.0 (in_shard s id.hash ws o).after (if_own k id (granting B (manner_of r) at cost g o.answer) g)
    unfolding asked_in
    any_request_stands =
        let same : (reply : Reply) → (in_shard s id.hash ws (outcome reply (shard_at s id.hash ws))).after ≡ ws =
        λ reply. ap (λ (o : Outcome Reply (List ℕ)). o.after) (in_shard_unchanged s id.hash ws accepted reply) in
        by_le cost (burst_of rate)
        (λ most. by_eq cost 0
        (λ zero.
        rw (le-ltb (burst_of rate) cost most, eq-eqb cost 0 zero, same (at_once (manner_of r) at), at_once_grants B (manner_of r) at cost g)
        (nothing_granted_stands zero))
        (λ some. rw (le-ltb (burst_of rate) cost most, ne_eqb cost 0 some) (request_stands (omega (arith, some)) most)))
        (λ more.
        rw (lt-ltb (burst_of rate) cost more, same (too_much (manner_of r)), too_much_grants_nothing B (manner_of r) at cost g, same_either_way k id g) v)

  -- Refunds and removals, put to the store. The key's own refund has to be allowed for, and it is not removed.
  module _ (id : Identity) (n : ℕ) (ws : List ℕ) (g : B.History) (sound : Shard.Sound (shard_at s id.hash ws))
      (alone : id.hash ≡ k.hash → id.key ≡ k.key) (v : Stands n ws g) where
    refund_stands : (cost : ℕ) → (id.hash ≡ k.hash → id.key ≡ k.key → B.Refundable) →
        let o = OneShard.refunded (config_of rate) id cost (shard_at s id.hash ws) in
        Stands n (in_shard s id.hash ws o).after (if_own k id (refund_adds B cost (told_known (known_reply o.answer)) g) g)
    refund_stands cost allowed =
        let c : BucketConfig = config_of rate in
        let shard : Shard.Shard = shard_at s id.hash ws in
        rw (known_is_told (OneShard.refunded c id cost shard).answer)
        (keyed_stands id n ws v (OneShard.refunded c id cost shard) (refund_same_room shard sound c id cost)
        (λ past. refund_keeps_stamps n id shard sound past c cost) alone _
        (λ hash key b. own_refund c B (allowed hash key) cost (moment n) shard sound id k.hash k.key hash key b)
        (λ differs. other_refund c k.hash k.key (moment n) shard sound id differs cost))

    removal_stands : (id.hash ≡ k.hash → id.key ≡ k.key → ⊥) → Stands n (in_shard s id.hash ws (OneShard.removed id (shard_at s id.hash ws))).after g
    removal_stands not_own =
        let c : BucketConfig = config_of rate in
        let shard : Shard.Shard = shard_at s id.hash ws in
        rw (same_either_way k id g) at
        (keyed_stands id n ws v (OneShard.removed id shard) (remove_same_room shard sound id)
        (λ past. remove_keeps_stamps n id shard sound past) alone g
        (λ hash key b. absurd (not_own hash key))
        (λ differs. other_removal c k.hash k.key (moment n) shard sound id differs))

  -- What is asked of a key, where it is not refused: the settings are those of set_up_lem, time does not fall, the key shares no hash with the key in question,
  -- and what that key spent is undone only as the bound allows.
  module _ (rated : s.limit ≡ Open rate) (id : Identity) (n : ℕ) (ws : List ℕ) (g : B.History) (v : Stands n ws g)
      (alone : id.hash ≡ k.hash → id.key ≡ k.key)
      (accepted : Store.Accepted s id.hash ws) where
    abbrev own : Shard.Shard
    own = shard_at s id.hash ws

    abbrev AfterWith : Ask → Outcome Reply Shard.Shard → Type 0
    AfterWith ask o = Stands (clock_after_ask ask n) (in_shard s id.hash ws o).after (ask_gave B k id ask o.answer g)

    abbrev After : Ask → Type 0
    After ask = AfterWith ask (in_its_shard s id ask (buckets_at (shape_of s) ws) own)

    look_stands : (l : Look) → n ≤ clock_after_look l n → After (looks l)
    look_stands l later =
        let reply = looked_in l s.limit id (shard_at s id.hash ws) in
        rw (ap (λ (o : Outcome Reply (List ℕ)). o.after) (in_shard_unchanged s id.hash ws accepted reply))
        (standing_later s rate k B n (clock_after_look l n) ws later v)

    -- A try through a class: a cost over a burst on the chain changes nothing; else it is a request that waits for the chain too.
    pass_stands : (table : List ℕ) (class : ℕ) (at : Nanos) (cost : ℕ) → at.0 ≤ 2 ^ 62 → Stands at.0 ws g → After (passes table class at cost)
    unfolding passed_in
    pass_stands table class at cost early now' =
        let cs : List Class = classes_in table in
        let ask : Ask = passes table class at cost in
        let through : Request = through_chain cs class at cost (buckets_at (shape_of s) ws) in
        by_test (ltb (least_burst cs (chain_of cs class)) cost)
        (λ over.
        rw (over, ap (λ (o : Outcome Reply (List ℕ)). o.after) (in_shard_unchanged s id.hash ws accepted (Tried Impossible)), same_either_way k id g) now')
        (λ within.
        rw within
        (subst (λ (limit : Limit). AfterWith ask (asked_in through limit s at id cost own)) (sym rated)
        (any_request_stands through at id cost ws g early (omega arith) accepted alone now')))

    ask_stands : (ask : Ask) → further_of ask ≡ 0 → n ≤ clock_after_ask ask n → UndoneSo B k id ask → After ask
    ask_stands (requests r at cost) none later undone =
        let timely = request_in_time r at none in
        let later' = standing_later s rate k B n at.0 ws later v in
        subst (λ (limit : Limit). AfterWith (requests r at cost) (asked_in r limit s at id cost own)) (sym rated)
        (any_request_stands r at id cost ws g timely.0 timely.1 accepted alone later')
    ask_stands (looks l) none later undone = look_stands l later
    ask_stands (undoes (refunds cost)) none later undone =
        subst (λ (limit : Limit). AfterWith (undoes (refunds cost)) (undone_in (refunds cost) limit id own)) (sym rated)
        (refund_stands id n ws g accepted.sound alone v cost undone)
    ask_stands (undoes removes) none later undone = removal_stands id n ws g accepted.sound alone v undone
    ask_stands (passes table class at cost) none later undone =
        pass_stands table class at cost (pass_in_time (classes_in table) class at none).early (standing_later s rate k B n at.0 ws later v)

  -- Accepted calls, with the settings of set_up_lem.
  module _ {S N : Type 0} (terms : Terms S N) (rated : s.limit ≡ Open rate) where
    -- What is asked of an accepted call.
    pub record Fair (n : ℕ) (c : Call S N) : Type 0 where
      pub settings : settings_of terms c ≡ s
      pub later : n ≤ clock_after c n
      pub alone : OfKey terms (λ id. id.hash ≡ k.hash → id.key ≡ k.key) c
      pub undone : UndoneAsAllowed B k terms c

    module _ (n : ℕ) (ws : List ℕ) (g : B.History) (v : Stands n ws g) where
      accepted_stands : (c : Call S N) → refusal_of terms c ws ≡ 0 → Fair n c
          → Stands (clock_after c n) (rules terms c ws).after (given B terms k c (rules terms c ws).answer g)
      accepted_stands (keyed s' name ask) none fair =
          let id = terms.identity name in
          let asked = ask_not_refused (in_force ask (terms.settings s')) id ask ws (keyed_not_refused terms s' name ask ws none).1 in
          let reply = (in_its_shard s id ask (buckets_at (shape_of s) ws) (shard_at s id.hash ws)).answer in
          rw (not_refused_is_ruled terms (keyed s' name ask) ws none, fair.settings)
          (stored_stands s rate k B (clock_after_ask ask n) ask reply _
          (ask_stands rated id n ws g v fair.alone (rw fair.settings at asked.0) ask asked.1 fair.later fair.undone))
      accepted_stands (whole s' what) none fair =
          rw (looks_change_nothing terms (whole s' what) ws looks_at_all) (standing_later s rate k B n (clock_after_whole what n) ws fair.later v)

      -- Every call: accepted ones as above; refused ones change nothing.
      pub call_stands : (c : Call S N) → (accepted terms (ruled terms c ws) ≡ true → Fair n c)
          → Stands (clock terms n (ruled terms c ws)) (rules terms c ws).after (given B terms k c (rules terms c ws).answer g)
      call_stands c fair =
          by_test (accepted terms (ruled terms c ws))
          (λ t. rw t (accepted_stands c (accepted_not_refused terms (ruled terms c ws) t) (fair t)))
          (λ t. rw (t, unaccepted_refused terms (ruled terms c ws) t, refusal_gives_nothing B terms k c (refusal_of terms c ws) g) v)
