-- Of the shards a call on a key that is not refused works in its key's own alone, and there it does what `in_its_shard` says; a try through a class also leaves
-- the class buckets of `buckets_after`. On two shards that are alike to a view, that
-- gives the same answer, and leaves shards that are alike. Two instances: slots and debts found in place order, and shards that are equal but for the counts
-- of tries turned away.
use Prim.Native.Nat.{ℕ}
use mathlib.Core.Path.{◌≡◌, refl, sym, ap, ◌∙◌}
use mathlib.Core.Bool.{true, false, false≢true}
use mathlib.Core.List.{List}
use lib.Dec.{ltb, eqb}
use lib.ListN.{length}
use Rattle.arith.proofs.Cases.{by_test}
use Rattle.rows.specs.Outcome.{Outcome, outcome}
use Rattle.units.specs.declared.Nanos.{Nanos}
use Rattle.bucket.specs.declared.BucketCore.{BucketCore}
use Rattle.bucket.specs.declared.Request.{Request}
use Rattle.settings.specs.declared.Limit.{Limit}
use Rattle.settings.specs.declared.Limit.TheVariants.{Closed, Open}
use Rattle.settings.specs.declared.Settings.{Settings}
use Rattle.settings.specs.Rate.{config_of}
use Rattle.settings.specs.Settings.{cap_of, shape_of, shard_of}
use Rattle.classes.specs.declared.Class.{Class}
use Rattle.classes.specs.Chains.{least_burst}
use Rattle.classes.specs.Layout.{classes_in}
use Rattle.held.proofs.AlikeLaws.{SameOutcome, alike_by_test}
use Rattle.shard_map.specs.Model.{Shard, Sound, uncounted}
use Rattle.shard_map.proofs.ReadBack.{Sized}
use Rattle.shard_map.proofs.RoomLaws.{same_room}
use Rattle.shard_map.proofs.AlikeLaws.{View, AlikeShards}
use Rattle.shard_map.proofs.PlaceOrderLaws.{FindsEach, found_is_sound, place_order, in_place_order_alike, alike_is_in_place_order}
use Rattle.shard_map.proofs.TurnAwayLaws.{countless, uncounted_alike}
use Rattle.shard.specs.declared.Identity.{Identity}
use Rattle.shard.specs.Model.{turn_aways as count_of}
use Rattle.shard.proofs.ShardLaws.{SameRoom, ask_same_room, refund_same_room, remove_same_room}
use Rattle.shard.proofs.AlikeLaws.{EveryOperationAlike}
use Rattle.shard.proofs.TurnAwayLaws.{every_operation_without_turn_aways}
use Rattle.shard.proofs.PlaceOrderLaws.{SameAsPlaceOrder, every_operation_in_place_order, count_in_place_order}
use Rattle.store.specs.Memory.{total_of, total_after, memory_words, shard_at, in_shard, buckets_at}
use Rattle.store.proofs.MemoryLaws.{same_room_sized, in_shard_length, in_shard_total, in_shard_reads_back_for, in_shard_leaves_others}
use Rattle.store.proofs.ClassLaws.{buckets_at_length, with_buckets_leaves_total, in_shard_leaves_buckets}
use Rattle.store.proofs.RefusalLaws.{Accepted}
use Rattle.rules.proofs.StoredLaws.{buckets_after_length, classes_are_stored}
use Rattle.rules.specs.declared.Reply.{Reply}
use Rattle.rules.specs.declared.Reply.TheVariants.{Count}
use Rattle.rules.specs.Asks.{Look, peeks, tokens, turn_aways, Undo, refunds, removes, Ask, requests, looks, undoes, passes, manner_of, reply_to, known_reply}
use Rattle.rules.specs.Asks.{policy_of, replied_as, asked_in, peeked_in, looked_in, undone_in, chain_of, through_chain, passed_in, in_its_shard, buckets_after}
use Rattle.rules.specs.Rules.{classes_stored, keyed_outcome}
use Rattle.demands.specs.TurnAways.{reads_turn_aways}

-- What a call gives on words is what an operation gives in the shard of a hash: its answer, and the shard that it leaves. The total moves with its slots. The
-- other shards stay as they are, the class buckets are those that the ask leaves, and the memory keeps its length.
pub record WorksInOneShard (s : Settings) (hash : ℕ) (ask : Ask) (ws : List ℕ) (gives : Outcome Reply (List ℕ)) (operation : Outcome Reply Shard)
    : Type 0 where
  pub size : length gives.after ≡ memory_words s
  pub answer : gives.answer ≡ operation.answer
  pub total : total_of gives.after ≡ total_after (total_of ws) (shard_at s hash ws) operation.after
  pub own : (other : ℕ) → shard_of s other ≡ shard_of s hash → shard_at s other gives.after ≡ operation.after
  pub others : (other : ℕ) → (shard_of s other ≡ shard_of s hash → ⊥) → shard_at s other gives.after ≡ shard_at s other ws
  pub buckets : buckets_at (shape_of s) gives.after ≡ buckets_after ask operation.answer (buckets_at (shape_of s) ws)

-- What is asked of a key leaves the room of its shard as it is.
module _ (s : Settings) (id : Identity) (own : Shard) (u : Sound own) where
  request_keeps_room : (r : Request) (limit : Limit) (at : Nanos) (cost : ℕ) → SameRoom own (asked_in r limit s at id cost own).after
  unfolding asked_in
  request_keeps_room r Closed at cost = same_room own u
  request_keeps_room r (Open rate) at cost =
      by_test (ltb (config_of rate).capacity cost)
      (λ more. rw more (same_room own u))
      (λ most.
      by_test (eqb cost 0)
      (λ none. rw (most, none) (same_room own u))
      (λ some. rw (most, some) (ask_same_room own u (policy_of s rate) id r cost at)))

  undoing_keeps_room : (undo : Undo) (limit : Limit) → SameRoom own (undone_in undo limit id own).after
  undoing_keeps_room (refunds cost) Closed = same_room own u
  undoing_keeps_room (refunds cost) (Open rate) = refund_same_room own u (config_of rate) id cost
  undoing_keeps_room removes limit = remove_same_room own u id

  pass_keeps_room : (cs : List Class) (class : ℕ) (at : Nanos) (cost : ℕ) (buckets : List BucketCore)
      → SameRoom own (passed_in s id cs class at cost buckets own).after
  unfolding passed_in
  pass_keeps_room cs class at cost buckets =
      by_test (ltb (least_burst cs (chain_of cs class)) cost)
      (λ over. rw over (same_room own u))
      (λ within. rw within (request_keeps_room (through_chain cs class at cost buckets) s.limit at cost))

  ask_keeps_room : (ask : Ask) (buckets : List BucketCore) → SameRoom own (in_its_shard s id ask buckets own).after
  ask_keeps_room (requests r at cost) buckets = request_keeps_room r s.limit at cost
  ask_keeps_room (looks l) buckets = same_room own u
  ask_keeps_room (undoes undo) buckets = undoing_keeps_room undo s.limit
  ask_keeps_room (passes table class at cost) buckets = pass_keeps_room (classes_in table) class at cost buckets

-- The class buckets that an ask stores leave the total as it is.
stored_classes_leave_total : (s : Settings) (ask : Ask) (reply : Reply) (ws : List ℕ) → length ws ≡ memory_words s
    → total_of (classes_stored (shape_of s) ask reply ws) ≡ total_of ws
stored_classes_leave_total s (requests r at cost) reply ws size = refl
stored_classes_leave_total s (looks l) reply ws size = refl
stored_classes_leave_total s (undoes u) reply ws size = refl
stored_classes_leave_total s (passes table class at cost) reply ws size =
    let bs = buckets_after (passes table class at cost) reply (buckets_at (shape_of s) ws) in
    with_buckets_leaves_total s ws size bs
    (buckets_after_length (passes table class at cost) reply (buckets_at (shape_of s) ws) ∙ buckets_at_length s ws size)

-- So it works in one shard.
module _ (s : Settings) (id : Identity) (ws : List ℕ) (accepted : Accepted s id.hash ws) where
  abbrev own : Shard
  own = shard_at s id.hash ws

  abbrev buckets : List BucketCore
  buckets = buckets_at (shape_of s) ws

  pub ask_sized : (ask : Ask) → Sized (cap_of s) (in_its_shard s id ask buckets own).after
  ask_sized ask = same_room_sized s id.hash ws accepted.set_up_lem.size (ask_keeps_room s id own accepted.sound ask buckets)

  pub asks_work_in_one_shard : (ask : Ask)
      → WorksInOneShard s id.hash ask ws (keyed_outcome (shape_of s) s id ask ws) (in_its_shard s id ask buckets own)
  asks_work_in_one_shard ask =
      let o = in_its_shard s id ask buckets own in
      let size = accepted.set_up_lem.size in
      let sized = ask_sized ask in
      let left : List ℕ = (in_shard s id.hash ws o).after in
      let stored = classes_are_stored s ask o.answer left (in_shard_length s id.hash ws o size sized) in
      record {
        size = stored.size;
        answer = refl;
        total = stored_classes_leave_total s ask o.answer left (in_shard_length s id.hash ws o size sized) ∙ in_shard_total s id.hash ws o size sized;
        own = λ other same. stored.shards other ∙ in_shard_reads_back_for s id.hash ws o size sized other same;
        others = λ other apart. stored.shards other ∙ in_shard_leaves_others s id.hash ws o size sized other apart;
        buckets = stored.buckets ∙ ap (buckets_after ask o.answer) (in_shard_leaves_buckets s ws size id.hash o sized);
      }

-- Each call on two shards that are alike.
module _ (v : View) {a b : Shard} (like : AlikeShards v a b) (every : EveryOperationAlike v a b) where
  abbrev Alike : Outcome Reply Shard → Outcome Reply Shard → Type 0
  Alike = SameOutcome (AlikeShards v)

  unchanged_alike : {x y : Reply} → x ≡ y → Alike (outcome x a) (outcome y b)
  unchanged_alike told = record { answer = told; after = like }

  told_alike : {A : Type 0} (reply : A → Reply) {o q : Outcome A Shard} → SameOutcome (AlikeShards v) o q → Alike (replied_as reply o) (replied_as reply q)
  told_alike reply same = record { answer = ap reply same.answer; after = same.after }

  request_alike : (r : Request) (limit : Limit) (s : Settings) (at : Nanos) (id : Identity) (cost : ℕ)
      → Alike (asked_in r limit s at id cost a) (asked_in r limit s at id cost b)
  unfolding asked_in
  request_alike r Closed s at id cost = unchanged_alike refl
  request_alike r (Open rate) s at id cost =
      alike_by_test Alike (ltb (config_of rate).capacity cost) refl (unchanged_alike refl)
      (alike_by_test Alike (eqb cost 0) refl (unchanged_alike refl)
      (told_alike (reply_to (manner_of r)) (every.asks (policy_of s rate) id r cost at)))

  look_alike : (l : Look) (limit : Limit) (id : Identity) → (reads_turn_aways (looks l) ≡ true → count_of id a ≡ count_of id b)
      → looked_in l limit id a ≡ looked_in l limit id b
  unfolding peeked_in
  look_alike (peeks at cost) Closed id counts = refl
  look_alike (peeks at cost) (Open rate) id counts = rw (every.views (config_of rate) id at)
  look_alike (tokens at) Closed id counts = refl
  look_alike (tokens at) (Open rate) id counts = rw (every.views (config_of rate) id at)
  look_alike turn_aways limit id counts = ap Count (counts refl)

  undo_alike : (u : Undo) (limit : Limit) (id : Identity) → Alike (undone_in u limit id a) (undone_in u limit id b)
  undo_alike (refunds cost) Closed id = unchanged_alike refl
  undo_alike (refunds cost) (Open rate) id = told_alike known_reply (every.refunds (config_of rate) id cost)
  undo_alike removes limit id = told_alike known_reply (every.removes id)

  pass_alike : (s : Settings) (id : Identity) (cs : List Class) (class : ℕ) (at : Nanos) (cost : ℕ) (buckets : List BucketCore)
      → Alike (passed_in s id cs class at cost buckets a) (passed_in s id cs class at cost buckets b)
  unfolding passed_in
  pass_alike s id cs class at cost buckets =
      alike_by_test Alike (ltb (least_burst cs (chain_of cs class)) cost) refl (unchanged_alike refl)
      (request_alike (through_chain cs class at cost buckets) s.limit s at id cost)

  pub ask_alike : (s : Settings) (id : Identity) (ask : Ask) (buckets : List BucketCore) → (reads_turn_aways ask ≡ true → count_of id a ≡ count_of id b)
      → Alike (in_its_shard s id ask buckets a) (in_its_shard s id ask buckets b)
  ask_alike s id (requests r at cost) buckets counts = request_alike r s.limit s at id cost
  ask_alike s id (looks l) buckets counts = unchanged_alike (look_alike l s.limit id counts)
  ask_alike s id (undoes u) buckets counts = undo_alike u s.limit id
  ask_alike s id (passes table class at cost) buckets counts = pass_alike s id (classes_in table) class at cost buckets

-- Where slots and debts are found in place order. Lookup finds each of them in the shard that is left.
pub call_same_as_place_order : (own : Shard) → FindsEach own → (s : Settings) (id : Identity) (ask : Ask) (buckets : List BucketCore)
    → SameAsPlaceOrder (in_its_shard s id ask buckets) own
call_same_as_place_order own each s id ask buckets =
    let same = ask_alike place_order (in_place_order_alike own each) (every_operation_in_place_order own each) s id ask buckets
    (λ looks_at_it. count_in_place_order own each id) in
    record {
      answer = sym same.answer;
      after = alike_is_in_place_order same.after;
      finds_each = (ask_keeps_room s id own (found_is_sound each) ask buckets).finds_each each;
    }

-- Without counts, where the call does not look at one.
pub call_same_without_turn_aways : (own : Shard) (s : Settings) (id : Identity) (ask : Ask) (buckets : List BucketCore) → reads_turn_aways ask ≡ false
    → SameOutcome (AlikeShards countless) (in_its_shard s id ask buckets (uncounted own)) (in_its_shard s id ask buckets own)
call_same_without_turn_aways own s id ask buckets no_look =
    ask_alike countless (uncounted_alike own) (every_operation_without_turn_aways own) s id ask buckets
    (λ looks_at_it. absurd (false≢true (sym no_look ∙ looks_at_it)))
