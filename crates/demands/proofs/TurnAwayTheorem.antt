-- The counts of tries turned away decide nothing: the claims of specs/TurnAways.antt, of the rules and of every limiter that meets demand 2.
use Prim.Native.Nat.{ℕ, ◌<◌}
use mathlib.Core.Path.{◌≡◌, refl, sym, ap, ◌∙◌}
use mathlib.Core.Bool.{true, false, cond}
use mathlib.Core.List.{List, [], ◌∷◌}
use lib.Dec.{eqb}
use lib.ListN.{length}
use Rattle.arith.proofs.Cases.{by_eq}
use Rattle.rows.specs.Outcome.{Outcome}
use Rattle.bucket.specs.declared.BucketCore.{BucketCore}
use Rattle.settings.specs.declared.Settings.{Settings}
use Rattle.settings.specs.Settings.{first_refusal, settings_refusal, shape_of, cap_of, shard_count, shard_of}
use Rattle.ledger.specs.Model.{Ledger}
use Rattle.classes.specs.Classes.{table_refusal}
use Rattle.classes.specs.Layout.{classes_in}
use Rattle.shard_map.specs.Model.{Shard, uncounted}
use Rattle.shard_map.proofs.TurnAwayLaws.{equal_but_for_turn_aways}
use Rattle.shard.specs.declared.Identity.{Identity}
use Rattle.store.specs.Memory.{total_of, total_after, memory_words, room_in, shard_at, buckets_at}
use Rattle.store.specs.Refusals.{memory_refusal, moment_refusal, total_refusal, count_refusal, counts_refusal, set_up_refusal}
use Rattle.rules.specs.declared.Reply.{Reply}
use Rattle.rules.specs.declared.Reply.TheVariants.{Count}
use Rattle.rules.specs.Asks.{Ask, requests, looks, undoes, passes, in_force, further_of, in_its_shard, buckets_after}
use Rattle.rules.specs.Rules.{ask_refusal, table_set_up_refusal_in, set_up_in, set_up_for}
use Rattle.rules.specs.Widths.{lendable}
use Rattle.rules.specs.Debts.{listed, shard_numbered, ledger_refusal}
use Rattle.rules.specs.Calls.{Call, keyed, whole, len, debts, Terms, rules, settings_of, Every}
use Rattle.rules.proofs.RefusedLaws.{unless_refused_accepts, unless_refused_refuses}
use Rattle.rules.proofs.KeyedLaws.{ask_not_refused}
use Rattle.rules.proofs.DebtLaws.{of_such_a_shard, debts_not_refused}
use Rattle.rules.proofs.CallLaws.{refusal_of, rule_of, not_refused_is_ruled, refused_is_told, keyed_not_refused}
use Rattle.demands.specs.Demands.{Table, table_words, Limiter, settings_by, Demand2}
use Rattle.demands.specs.PlaceOrder.{Turn, calls, clears, by_rules, run, OfStore, AllOf}
use Rattle.demands.specs.TurnAways.{reads_turn_aways, call_reads_turn_aways, turn_reads_turn_aways, EqualButForTurnAways, DecidedAlike, ListDecidedAlike}
use Rattle.demands.proofs.OneShardLaws.{WorksInOneShard, asks_work_in_one_shard, call_same_without_turn_aways}
use Rattle.demands.proofs.GrownLaws.{of_every_shard}
use Rattle.demands.proofs.WidthLaws.{NamesFit}
use Rattle.demands.proofs.PlaceOrderTheorem.{by_limiter, TurnFits, runs_alike}

-- In one shard: the answer of a call that reads no such count, and what any call leaves.
module _ (s : Settings) (id : Identity) (ask : Ask) (buckets : List BucketCore) (a b : Shard) (same : uncounted a ≡ uncounted b) where
  pub answer_decided_alike : reads_turn_aways ask ≡ false → (in_its_shard s id ask buckets a).answer ≡ (in_its_shard s id ask buckets b).answer
  answer_decided_alike blind =
      sym (call_same_without_turn_aways a s id ask buckets blind).answer ∙ ap (λ t. (in_its_shard s id ask buckets t).answer) same
      ∙ (call_same_without_turn_aways b s id ask buckets blind).answer

  blind_leaves_alike : reads_turn_aways ask ≡ false → uncounted (in_its_shard s id ask buckets a).after ≡ uncounted (in_its_shard s id ask buckets b).after
  blind_leaves_alike blind =
      sym (equal_but_for_turn_aways (call_same_without_turn_aways a s id ask buckets blind).after)
      ∙ ap (λ t. uncounted (in_its_shard s id ask buckets t).after) same
      ∙ equal_but_for_turn_aways (call_same_without_turn_aways b s id ask buckets blind).after

pub leaves_alike : (s : Settings) (id : Identity) (ask : Ask) (buckets : List BucketCore) (a b : Shard) → uncounted a ≡ uncounted b
    → uncounted (in_its_shard s id ask buckets a).after ≡ uncounted (in_its_shard s id ask buckets b).after
leaves_alike s id (requests r at cost) buckets a b same = blind_leaves_alike s id (requests r at cost) buckets a b same refl
leaves_alike s id (looks l) buckets a b same = same
leaves_alike s id (undoes u) buckets a b same = blind_leaves_alike s id (undoes u) buckets a b same refl
leaves_alike s id (passes table class at cost) buckets a b same = blind_leaves_alike s id (passes table class at cost) buckets a b same refl

-- The class buckets after an ask: where they depend on the answer, the ask reads no such count.
pub buckets_alike : (ask : Ask) {r q : Reply} (buckets : List BucketCore) → (reads_turn_aways ask ≡ false → r ≡ q)
    → buckets_after ask r buckets ≡ buckets_after ask q buckets
buckets_alike (requests r at cost) buckets same = refl
buckets_alike (looks l) buckets same = refl
buckets_alike (undoes u) buckets same = refl
buckets_alike (passes table class at cost) buckets same =
    ap (λ (reply : Reply). buckets_after (passes table class at cost) reply buckets) (same refl)

-- Refusals look at no count of tries.
module _ (s : Settings) (ws vs : List ℕ) (like : EqualButForTurnAways s ws vs) where
  length_refused_alike : memory_refusal (memory_words s) ws ≡ memory_refusal (memory_words s) vs
  unfolding memory_refusal
  length_refused_alike = ap (λ (n : ℕ). cond (eqb n (memory_words s)) 0 5) like.size

  counts_refused_alike : (hash : ℕ) → counts_refusal (shape_of s) hash ws ≡ counts_refusal (shape_of s) hash vs
  unfolding count_refusal
  counts_refused_alike hash = λ j. count_refusal (cap_of s) (room_in (shape_of s)) (like.total j) (like.shards hash j)

  set_up_refused_alike : set_up_refusal s ws ≡ set_up_refusal s vs
  set_up_refused_alike = ap (first_refusal (settings_refusal s)) length_refused_alike

  ask_refused_alike : (id : Identity) (ask : Ask) → ask_refusal s id ask ws ≡ ask_refusal s id ask vs
  ask_refused_alike id ask = λ j. first_refusal (first_refusal (set_up_refused_alike j) (counts_refused_alike id.hash j)) (further_of ask)

-- What is asked of a key, and not refused.
keyed_decided_alike : (s : Settings) (id : Identity) (ask : Ask) (ws vs : List ℕ) → EqualButForTurnAways s ws vs
    → {o q : Outcome Reply (List ℕ)} → WorksInOneShard s id.hash ask ws o (in_its_shard s id ask (buckets_at (shape_of s) ws) (shard_at s id.hash ws))
    → WorksInOneShard s id.hash ask vs q (in_its_shard s id ask (buckets_at (shape_of s) vs) (shard_at s id.hash vs))
    → DecidedAlike s (reads_turn_aways ask) o q
keyed_decided_alike s id ask ws vs like first second =
    let a = shard_at s id.hash ws in
    let b = shard_at s id.hash vs in
    let same = like.shards id.hash in
    let buckets : List BucketCore = buckets_at (shape_of s) ws in
    let own_buckets : in_its_shard s id ask buckets b ≡ in_its_shard s id ask (buckets_at (shape_of s) vs) b =
    ap (λ (bs : List BucketCore). in_its_shard s id ask bs b) like.buckets in
    let answers : reads_turn_aways ask ≡ false
    → (in_its_shard s id ask buckets a).answer ≡ (in_its_shard s id ask (buckets_at (shape_of s) vs) b).answer =
    λ blind. answer_decided_alike s id ask buckets a b same blind ∙ ap (λ (o : Outcome Reply Shard). o.answer) own_buckets in
    let left : uncounted (in_its_shard s id ask buckets a).after ≡ uncounted (in_its_shard s id ask (buckets_at (shape_of s) vs) b).after =
    leaves_alike s id ask buckets a b same ∙ ap (λ (o : Outcome Reply Shard). uncounted o.after) own_buckets in
    let moved : total_after (total_of ws) a (in_its_shard s id ask buckets a).after
    ≡ total_after (total_of vs) b (in_its_shard s id ask (buckets_at (shape_of s) vs) b).after = λ j. total_after (like.total j) (same j) (left j) in
    record {
      answer = λ blind. first.answer ∙ answers blind ∙ sym second.answer;
      after = record {
        size = first.size ∙ sym second.size;
        total = first.total ∙ moved ∙ sym second.total;
        shards = λ other.
            by_eq (shard_of s other) (shard_of s id.hash)
            (λ own. rw (first.own other own, second.own other own) left)
            (λ apart. rw (first.others other apart, second.others other apart) (like.shards other));
        buckets = first.buckets ∙ buckets_alike ask buckets answers ∙ ap (buckets_after ask _) like.buckets ∙ sym second.buckets;
      };
    }

-- The ledgers are the same, shard by shard: no count of tries turned away stands in a ledger.
same_ledgers : (s : Settings) (ws vs : List ℕ) → EqualButForTurnAways s ws vs → (i : ℕ) → i < shard_count s
    → (shard_numbered (shape_of s) i ws).ledger ≡ (shard_numbered (shape_of s) i vs).ledger
same_ledgers s ws vs like =
    of_every_shard s (λ i. (shard_numbered (shape_of s) i ws).ledger ≡ (shard_numbered (shape_of s) i vs).ledger)
    (λ hash. ap (λ (own : Shard). own.ledger) (like.shards hash))

module _ {S N : Type 0} (terms : Terms S N) where
  refused_alike : (c : Call S N) (ws vs : List ℕ) → EqualButForTurnAways (settings_of terms c) ws vs → refusal_of terms c ws ≡ refusal_of terms c vs
  refused_alike (keyed s n ask) ws vs like =
      ap (first_refusal (terms.refusal n)) (ask_refused_alike (in_force ask (terms.settings s)) ws vs like (terms.identity n) ask)
  refused_alike (whole s len) ws vs like =
      let settings = terms.settings s in
      λ j. first_refusal (set_up_refused_alike settings ws vs like j) (total_refusal (room_in (shape_of settings)) (like.total j))
  refused_alike (whole s (debts at i room)) ws vs like =
      let settings = terms.settings s in
      let further = ap (first_refusal (moment_refusal at))
      (of_such_a_shard (shape_of settings) i _ _ (λ below. ap (ledger_refusal (cap_of settings) at room) (same_ledgers settings ws vs like i below))) in
      λ j. first_refusal (set_up_refused_alike settings ws vs like j) (further j)

  ruled_alike : (c : Call S N) (ws vs : List ℕ) → EqualButForTurnAways (settings_of terms c) ws vs → refusal_of terms c ws ≡ 0 → refusal_of terms c vs ≡ 0
      → DecidedAlike (settings_of terms c) (call_reads_turn_aways c) (rule_of terms c ws) (rule_of terms c vs)
  ruled_alike (keyed s n ask) ws vs like none also =
      let settings = in_force ask (terms.settings s) in
      let id = terms.identity n in
      let accepted = (ask_not_refused settings id ask ws (keyed_not_refused terms s n ask ws none).1).0 in
      let accepted_too = (ask_not_refused settings id ask vs (keyed_not_refused terms s n ask vs also).1).0 in
      keyed_decided_alike settings id ask ws vs like (asks_work_in_one_shard settings id ws accepted ask)
      (asks_work_in_one_shard settings id vs accepted_too ask)
  ruled_alike (whole s len) ws vs like none also =
      record { answer = λ blind. ap Count like.total; after = like }
  ruled_alike (whole s (debts at i room)) ws vs like none also =
      let settings = terms.settings s in
      let below = (debts_not_refused settings at i room ws none).shard in
      record { answer = λ blind. ap (λ (l : Ledger). Count (length (listed at l))) (same_ledgers settings ws vs like i below); after = like }

  -- A call, refused or not.
  pub turn_aways_decide_no_call : (c : Call S N) (ws vs : List ℕ) → EqualButForTurnAways (settings_of terms c) ws vs
      → DecidedAlike (settings_of terms c) (call_reads_turn_aways c) (rules terms c ws) (rules terms c vs)
  turn_aways_decide_no_call c ws vs like =
      let same = refused_alike c ws vs like in
      by_eq (refusal_of terms c vs) 0
      (λ none. rw (not_refused_is_ruled terms c ws (same ∙ none), not_refused_is_ruled terms c vs none) (ruled_alike c ws vs like (same ∙ none) none))
      (λ some. rw (refused_is_told terms c ws (λ none. some (sym same ∙ none)), refused_is_told terms c vs some, same)
      (record { answer = λ blind. refl; after = like }))

  module _ (s : Settings) where
    clear_alike : (table ws vs : List ℕ) → EqualButForTurnAways s ws vs → DecidedAlike s false (set_up_for s table ws) (set_up_for s table vs)
    unfolding set_up_in
    clear_alike table ws vs like =
        let same : table_set_up_refusal_in (shape_of s) s table ws ≡ table_set_up_refusal_in (shape_of s) s table vs =
        ap (λ (n : ℕ). first_refusal n (table_refusal (classes_in table))) (set_up_refused_alike s ws vs like) in
        by_eq (table_set_up_refusal_in (shape_of s) s table vs) 0
        (λ none. rw (unless_refused_accepts _ ws _ (same ∙ none), unless_refused_accepts _ vs _ none)
        (record { answer = λ blind. refl; after = record { size = refl; total = refl; shards = λ hash. refl; buckets = refl } }))
        (λ some. rw (unless_refused_refuses _ ws _ (λ none. some (sym same ∙ none)), unless_refused_refuses _ vs _ some, same)
        (record { answer = λ blind. refl; after = like }))

    turn_decided_alike : (t : Turn S N) (ws vs : List ℕ) → OfStore terms s t → EqualButForTurnAways s ws vs
        → DecidedAlike s (turn_reads_turn_aways t) (by_rules terms s t ws) (by_rules terms s t vs)
    turn_decided_alike (calls c) ws vs same like = rw same at (turn_aways_decide_no_call c ws vs (rw same like))
    turn_decided_alike (clears table) ws vs same like = clear_alike (table_words table) ws vs like

    -- A list of calls, all with the settings of the store, and clears.
    pub turn_aways_decide_no_list : (ts : List (Turn S N)) (ws vs : List ℕ) → AllOf terms s ts → EqualButForTurnAways s ws vs
        → ListDecidedAlike s ts (run (by_rules terms s) ts ws) (run (by_rules terms s) ts vs)
    unfolding run
    turn_aways_decide_no_list [] ws vs all like = record { answers = tt; after = like }
    turn_aways_decide_no_list (t ∷ ts) ws vs all like =
        let first = turn_decided_alike t ws vs all.0 like in
        let rest = turn_aways_decide_no_list ts (by_rules terms s t ws).after (by_rules terms s t vs).after all.1 first.after in
        record { answers = (first.answer, rest.answers); after = rest.after }

  -- So with every limiter that meets demand 2, whose calls can be made.
  module _ (names : NamesFit terms) (l : Limiter S N) (meets : Demand2 terms l) (written : S) (fit : terms.settings_fit written ≡ true) (first : Table) where
    abbrev store : Settings
    store = settings_by terms first written

    pub limiter_decides_alike : (ts : List (Turn S N)) (ws vs : List ℕ) → Every (TurnFits terms) ts → AllOf terms store ts
        → lendable ws ≡ true → lendable vs ≡ true → EqualButForTurnAways store ws vs
        → ListDecidedAlike store ts (run (by_limiter l written) ts ws) (run (by_limiter l written) ts vs)
    limiter_decides_alike ts ws vs fits' all lent lent_too like =
        rw (runs_alike terms names l meets written fit first ts ws fits' all lent, runs_alike terms names l meets written fit first ts vs fits' all lent_too)
        (turn_aways_decide_no_list store ts ws vs all like)
