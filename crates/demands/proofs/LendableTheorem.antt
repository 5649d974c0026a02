-- Under the rules, words that can be lent stay words that can be lent: neither a call nor set_up_lem leaves a word that does not fit 64 bits.
use Prim.Native.Nat.{ℕ, ◌≤◌, ◌^◌}
use mathlib.Core.Path.{◌≡◌, refl, sym, ap, ◌∙◌}
use mathlib.Core.Bool.{true, ◌&&◌}
use mathlib.Core.List.{List, ◌++◌}
use native.Mathlib.Omega.{arith}
use lib.ListN.{take, drop, length, replicate, length-replicate}
use lib.Dec.{ltb, eqb}
use borrow.Author.Tests.{ltb-true, ltb-false}
use Rattle.arith.proofs.Cases.{by_test, by_eq}
use Rattle.rows.specs.Outcome.{Outcome, outcome}
use Rattle.units.specs.declared.Nanos.{Nanos}
use Rattle.bucket.specs.declared.BucketCore.{BucketCore}
use Rattle.bucket.specs.declared.Request.{Request}
use Rattle.settings.specs.declared.Limit.{Limit}
use Rattle.settings.specs.declared.Limit.TheVariants.{Closed, Open}
use Rattle.settings.specs.declared.Settings.{Settings}
use Rattle.settings.specs.declared.rate.Rate.{Rate}
use Rattle.settings.specs.Rate.{burst_of, config_of}
use Rattle.settings.specs.Settings.{limit_refusal, most_keys_in_shard, cap_of, shape_of}
use Rattle.settings.proofs.RateLaws.{accepted_rate}
use Rattle.settings.proofs.SettingsLaws.{accepted_parts, cap_most}
use Rattle.classes.specs.declared.Class.{Class}
use Rattle.classes.specs.Classes.{longest_chain, table_refusal}
use Rattle.classes.specs.Chains.{least_burst}
use Rattle.classes.specs.Layout.{classes_in, words_of_buckets}
use Rattle.classes.proofs.WholeChain.{accepted_chain_takes}
use Rattle.shard_map.specs.Model.{Shard}
use Rattle.shard_map.specs.Layout as Layout
use Rattle.shard.specs.declared.Identity.{Identity}
use Rattle.shard.specs.Model as OneShard
use Rattle.shard.proofs.ShardLaws.{SameRoom, ask_same_room, refund_same_room, remove_same_room}
use Rattle.store.specs.Memory.{with_segment, total_at, total_of, total_after, part_start, shard_at, in_shard, classes_at, class_words, buckets_at, with_buckets}
use Rattle.store.specs.Refusals.{set_up_refusal}
use Rattle.store.proofs.MemoryLaws.{shard_at_cap, room_small, same_room_sized, in_shard_length}
use Rattle.store.proofs.ClassLaws.{buckets_at_length, with_buckets_length}
use Rattle.store.proofs.RefusalLaws.{Accepted}
use Rattle.rules.specs.declared.Reply.{Reply}
use Rattle.rules.specs.declared.Reply.TheVariants.{Nothing}
use Rattle.rules.specs.Asks.{Ask, requests, looks, undoes, passes, Undo, refunds, removes, in_force, further_of, manner_of, reply_to, replied_as, policy_of}
use Rattle.rules.specs.Asks.{known_reply, asked_in, undone_in, chain_of, through_chain, passed_in, in_its_shard, grants_some, buckets_after}
use Rattle.rules.specs.Rules.{keyed_outcome, set_up_for}
use Rattle.rules.specs.Widths.{fits64, key_fits, lendable}
use Rattle.rules.specs.Calls.{Call, keyed, whole, len, debts, Terms, rules, fits, Every}
use Rattle.rules.proofs.RefusedLaws.{settings_refusal_is_told, table_refusal_is_told, table_set_up_zeroes}
use Rattle.rules.proofs.KeyedLaws.{ask_not_refused, request_in_time, pass_in_time, in_shard_unchanged}
use Rattle.rules.proofs.PassLaws.{granted_pass}
use Rattle.rules.proofs.StoredLaws.{buckets_after_length}
use Rattle.rules.proofs.CallLaws.{refusal_of, rule_of, not_refused_is_ruled, refused_is_told, keyed_not_refused}
use Rattle.demands.proofs.WidthLaws.{both_true, name_of_call_fits, NamesFit}
use Rattle.demands.proofs.EveryLaws.{of_either, every_taken, every_left, every_joined, every_set, every_copy, every_in_part}
use Rattle.demands.proofs.WordFits.{Word, lendable_length, lendable_words, words_are_lendable}
use Rattle.demands.proofs.BucketFits.{BucketFits}
use Rattle.demands.proofs.ClassFits.{buckets_read_fit, bucket_words_fit, charged_buckets_fit, chain_takes_each}
use Rattle.demands.proofs.OneShardLaws.{ask_sized}
use Rattle.demands.proofs.ShardFits.{ShardFits}
use Rattle.demands.proofs.LayoutFits.{shard_read_fits, shard_words_fit}
use Rattle.demands.proofs.StoreFits.{ask_fits_lem, refund_fits, removal_fits}
use Rattle.shard_map.specs.Layout.{shard_words}
use Rattle.store.specs.Memory.{memory_words}

-- Words that fit in the place of a part of words that fit.
part_replaced_fits : (a n : ℕ) (ws new : List ℕ) → Every Word ws → Every Word new → Every Word (with_segment a n ws new)
part_replaced_fits a n ws new every more =
    every_joined Word (take a ws) (new ++ drop n (drop a ws)) (every_taken Word a ws every)
    (every_joined Word new (drop n (drop a ws)) more (every_left Word n (drop a ws) (every_left Word a ws every)))

-- An operation on the shard of a hash, in words that can be lent.
module _ (s : Settings) (hash : ℕ) (ws : List ℕ) (lent : lendable ws ≡ true) (accepted : Accepted s hash ws) where
  shard_fits : ShardFits (shard_at s hash ws)
  shard_fits =
      let few : cap_of s ≤ most_keys_in_shard = cap_most s (accepted_parts s accepted.set_up_lem.settings).1 in
      shard_read_fits (cap_of s) _ (omega (arith, few)) (every_in_part Word (part_start (shape_of s) hash) (shard_words (cap_of s)) ws (lendable_words ws lent))

  -- The total fits: it was no more than there is room for, and the slots of one shard come to it at most.
  total_fits : {A : Type 0} (o : Outcome A Shard) → SameRoom (shard_at s hash ws) o.after → Word (total_after (total_of ws) (shard_at s hash ws) o.after)
  total_fits o room =
      let sizes = (accepted_parts s accepted.set_up_lem.settings).1 in
      let few : o.after.slots.count ≤ cap_of s = rw (room.cap ∙ shard_at_cap s hash ws) at room.sound.count_fits in
      omega (arith, few, cap_most s sizes, accepted.within, room_small s sizes)

  operation_leaves_lendable : {A : Type 0} (o : Outcome A Shard) → SameRoom (shard_at s hash ws) o.after → ShardFits o.after
      → lendable (in_shard s hash ws o).after ≡ true
  operation_leaves_lendable o room f =
      let same : length (in_shard s hash ws o).after ≡ memory_words s =
      in_shard_length s hash ws o accepted.set_up_lem.size (same_room_sized s hash ws accepted.set_up_lem.size room) in
      let new : Every Word (Layout.words_of o.after) = shard_words_fit o.after f in
      words_are_lendable (in_shard s hash ws o).after
      (omega (arith, same, accepted.set_up_lem.size, lendable_length ws lent))
      (every_set Word (with_segment (part_start (shape_of s) hash) (shard_words (cap_of s)) ws (Layout.words_of o.after)) total_at _ (total_fits o room)
      (part_replaced_fits (part_start (shape_of s) hash) (shard_words (cap_of s)) ws (Layout.words_of o.after) (lendable_words ws lent) new))

-- Other class buckets in words that can be lent.
buckets_stored_are_lendable : (s : Settings) (ws : List ℕ) (bs : List BucketCore) → length ws ≡ memory_words s → length bs ≡ s.classes → lendable ws ≡ true
    → Every BucketFits bs → lendable (with_buckets (shape_of s) ws bs) ≡ true
buckets_stored_are_lendable s ws bs size each lent fit =
    let same = with_buckets_length s ws size bs each in
    words_are_lendable (with_buckets (shape_of s) ws bs)
    (omega (arith, same, size, lendable_length ws lent))
    (part_replaced_fits (classes_at (shape_of s)) (class_words (shape_of s)) ws (words_of_buckets bs) (lendable_words ws lent) (bucket_words_fit bs fit))

-- The class buckets in words that can be lent fit.
buckets_at_fit : (s : Settings) (ws : List ℕ) → lendable ws ≡ true → Every BucketFits (buckets_at (shape_of s) ws)
buckets_at_fit s ws lent = buckets_read_fit _ (every_in_part Word (classes_at (shape_of s)) (class_words (shape_of s)) ws (lendable_words ws lent))

-- What is asked of a key, where it is not refused.
module _ (s : Settings) (id : Identity) (ws : List ℕ) (lent : lendable ws ≡ true) (accepted : Accepted s id.hash ws) where
  abbrev own : Shard
  own = shard_at s id.hash ws

  abbrev LeavesLendable : Outcome Reply Shard → Type 0
  LeavesLendable o = lendable (in_shard s id.hash ws o).after ≡ true

  -- A look, cost 0, a cost over the burst and a closed limiter change no word.
  unchanged_leaves_lendable : LeavesLendable (outcome Nothing own)
  unchanged_leaves_lendable = ap (λ (o : Outcome Reply (List ℕ)). lendable o.after) (in_shard_unchanged s id.hash ws accepted Nothing) ∙ lent

  rate_not_refused : limit_refusal s.limit ≡ 0
  rate_not_refused = (accepted_parts s accepted.set_up_lem.settings).0

  -- A request by a key that fits, at a moment that is not too late.
  module _ (r : Request) (at : Nanos) (cost : ℕ) (early : at.0 ≤ 2 ^ 62) (key : key_fits id ≡ true) where
    asked_leaves_lendable : (rate : Rate) → limit_refusal (Open rate) ≡ 0 → cost ≤ burst_of rate
        → LeavesLendable (replied_as (reply_to (manner_of r)) (OneShard.with_or_insert (policy_of s rate) id r cost at own))
    asked_leaves_lendable rate passed within =
        let sound = accepted.sound in
        let parts = both_true (fits64 id.hash) (fits64 id.key) key in
        let asked = OneShard.with_or_insert (policy_of s rate) id r cost at own in
        operation_leaves_lendable s id.hash ws lent accepted asked (ask_same_room _ sound (policy_of s rate) id r cost at)
        (ask_fits_lem (policy_of s rate) id r cost at (accepted_rate rate passed) early within (ltb-true _ _ parts.0) (ltb-true _ _ parts.1) _ sound
        (shard_fits s id.hash ws lent accepted))

    request_leaves_lendable : (limit : Limit) → limit_refusal limit ≡ 0 → LeavesLendable (asked_in r limit s at id cost own)
    unfolding asked_in
    request_leaves_lendable Closed passed = unchanged_leaves_lendable
    request_leaves_lendable (Open rate) passed =
        by_test (ltb (burst_of rate) cost)
        (λ more. rw more (unchanged_leaves_lendable))
        (λ most.
        by_test (eqb cost 0)
        (λ none. rw (most, none) (unchanged_leaves_lendable))
        (λ some. rw (most, some) (asked_leaves_lendable rate passed (ltb-false _ _ most))))

  undone_leaves_lendable : (u : Undo) (limit : Limit) → LeavesLendable (undone_in u limit id own)
  undone_leaves_lendable (refunds cost) Closed = unchanged_leaves_lendable
  undone_leaves_lendable (refunds cost) (Open rate) =
      operation_leaves_lendable s id.hash ws lent accepted (OneShard.refunded (config_of rate) id cost own)
      (refund_same_room _ accepted.sound (config_of rate) id cost) (refund_fits (config_of rate) id cost _ (shard_fits s id.hash ws lent accepted))
  undone_leaves_lendable removes limit =
      operation_leaves_lendable s id.hash ws lent accepted (OneShard.removed id own)
      (remove_same_room _ accepted.sound id) (removal_fits id _ (shard_fits s id.hash ws lent accepted))

  pass_leaves_lendable : (cs : List Class) (class : ℕ) (at : Nanos) (cost : ℕ) → at.0 ≤ 2 ^ 62 → key_fits id ≡ true
      → LeavesLendable (passed_in s id cs class at cost (buckets_at (shape_of s) ws) own)
  unfolding passed_in
  pass_leaves_lendable cs class at cost early key =
      by_test (ltb (least_burst cs (chain_of cs class)) cost)
      (λ over. rw over unchanged_leaves_lendable)
      (λ within.
      rw within (request_leaves_lendable (through_chain cs class at cost (buckets_at (shape_of s) ws)) at cost early key s.limit rate_not_refused))

  ask_leaves_lendable : (ask : Ask) → further_of ask ≡ 0 → key_fits id ≡ true → LeavesLendable (in_its_shard s id ask (buckets_at (shape_of s) ws) own)
  ask_leaves_lendable (requests r at cost) none key = request_leaves_lendable r at cost (request_in_time r at none).0 key s.limit rate_not_refused
  ask_leaves_lendable (looks l) none key = unchanged_leaves_lendable
  ask_leaves_lendable (undoes u) none key = undone_leaves_lendable u s.limit
  ask_leaves_lendable (passes table class at cost) none key =
      pass_leaves_lendable (classes_in table) class at cost (pass_in_time (classes_in table) class at none).early key

  -- Then the class buckets are stored: those that a granted try charges fit.
  pass_charges_fit : (table : List ℕ) (class : ℕ) (at : Nanos) (cost : ℕ) → further_of (passes table class at cost) ≡ 0 → (bs : List BucketCore)
      → Every BucketFits bs →
      let reply = (in_its_shard s id (passes table class at cost) (buckets_at (shape_of s) ws) own).answer in
      Every BucketFits (buckets_after (passes table class at cost) reply bs)
  pass_charges_fit table class at cost none bs fit =
      let cs : List Class = classes_in table in
      let timely = pass_in_time cs class at none in
      let buckets : List BucketCore = buckets_at (shape_of s) ws in
      let reply = (passed_in s id cs class at cost buckets own).answer in
      by_test (grants_some cost reply)
      (λ grants.
      let within = (granted_pass s id cs class at cost buckets own grants).within in
      let takes = accepted_chain_takes cs longest_chain class cost timely.accepted timely.named within in
      rw grants (charged_buckets_fit cs cost at timely.early (chain_of cs class) (chain_takes_each cs cost longest_chain class takes) bs fit))
      (λ denied. rw denied fit)

  stored_leaves_lendable : (ask : Ask) → further_of ask ≡ 0 → key_fits id ≡ true → lendable (keyed_outcome (shape_of s) s id ask ws).after ≡ true
  stored_leaves_lendable (requests r at cost) none key = ask_leaves_lendable (requests r at cost) none key
  stored_leaves_lendable (looks l) none key = ask_leaves_lendable (looks l) none key
  stored_leaves_lendable (undoes u) none key = ask_leaves_lendable (undoes u) none key
  stored_leaves_lendable (passes table class at cost) none key =
      let ask : Ask = passes table class at cost in
      let o = in_its_shard s id ask (buckets_at (shape_of s) ws) own in
      let left : List ℕ = (in_shard s id.hash ws o).after in
      let size = in_shard_length s id.hash ws o accepted.set_up_lem.size (ask_sized s id ws accepted ask) in
      let lent' = ask_leaves_lendable ask none key in
      buckets_stored_are_lendable s left (buckets_after ask o.answer (buckets_at (shape_of s) left)) size
      (buckets_after_length ask o.answer (buckets_at (shape_of s) left) ∙ buckets_at_length s left size) lent'
      (pass_charges_fit table class at cost none (buckets_at (shape_of s) left) (buckets_at_fit s left lent'))

-- What an equal outcome leaves.
equal_leaves_lendable : {o given : Outcome Reply (List ℕ)} → o ≡ given → lendable given.after ≡ true → lendable o.after ≡ true
equal_leaves_lendable same lent = ap (λ (o : Outcome Reply (List ℕ)). lendable o.after) same ∙ lent

-- Every call, refused or not, where names mean numbers that fit.
module _ {S N : Type 0} (terms : Terms S N) (names : NamesFit terms) where
  rule_leaves_words_lendable : (c : Call S N) (ws : List ℕ) → refusal_of terms c ws ≡ 0 → fits terms c ≡ true → lendable ws ≡ true
      → lendable (rule_of terms c ws).after ≡ true
  rule_leaves_words_lendable (keyed s n ask) ws none fit lent =
      let settings = in_force ask (terms.settings s) in
      let id = terms.identity n in
      let free = keyed_not_refused terms s n ask ws none in
      let asked = ask_not_refused settings id ask ws free.1 in
      stored_leaves_lendable settings id ws lent asked.0 ask asked.1 (names n (name_of_call_fits terms s n ask fit) free.0)
  rule_leaves_words_lendable (whole s len) ws none fit lent = lent
  rule_leaves_words_lendable (whole s (debts at i room)) ws none fit lent = lent

  pub rules_leave_words_lendable : (c : Call S N) (ws : List ℕ) → fits terms c ≡ true → lendable ws ≡ true → lendable (rules terms c ws).after ≡ true
  rules_leave_words_lendable c ws fit lent =
      by_eq (refusal_of terms c ws) 0
      (λ none. equal_leaves_lendable (not_refused_is_ruled terms c ws none) (rule_leaves_words_lendable c ws none fit lent))
      (λ some. equal_leaves_lendable (refused_is_told terms c ws some) lent)

-- Set-up, and clear, which is the same.
zeros_are_lendable : (n : ℕ) → Word n → lendable (replicate n 0) ≡ true
zeros_are_lendable n few = words_are_lendable (replicate n 0) (rw (length-replicate {A = ℕ} n 0) few) (every_copy Word n 0 (omega arith))

pub set_up_leaves_words_lendable : (s : Settings) (table ws : List ℕ) → lendable ws ≡ true → lendable (set_up_for s table ws).after ≡ true
set_up_leaves_words_lendable s table ws lent =
    by_eq (set_up_refusal s ws) 0
    (λ none.
    by_eq (table_refusal (classes_in table)) 0
    (λ sound. equal_leaves_lendable (sym (table_set_up_zeroes s table ws none sound)) (zeros_are_lendable (length ws) (lendable_length ws lent)))
    (λ unsound. equal_leaves_lendable (sym (table_refusal_is_told s table ws none refl unsound)) lent))
    (λ some. equal_leaves_lendable (sym (settings_refusal_is_told s table ws refl some)) lent)
