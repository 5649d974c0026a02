-- A whole list of calls under the rules, from a fresh store, for any bound by the line: the bound holds of what happened to the key.
use Prim.Native.Nat.{ℕ}
use mathlib.Core.Path.{◌≡◌}
use mathlib.Core.Bool.{true, false}
use mathlib.Core.List.{List, [], ◌∷◌}
use lib.ListN.{replicate, length-replicate}
use native.Mathlib.Omega.{arith}
use Rattle.arith.proofs.Cases.{by_test}
use Rattle.bucket.specs.Bucket.{Accepted}
use Rattle.settings.specs.declared.Limit.TheVariants.{Open}
use Rattle.settings.specs.declared.Settings.{Settings}
use Rattle.settings.specs.declared.rate.Rate.{Rate}
use Rattle.settings.specs.Rate.{config_of}
use Rattle.shard.specs.declared.Identity.{Identity}
use Rattle.store.proofs.MemoryLaws.{fresh_shards_are_empty, fresh_shards_are_complete, fresh_sound}
use Rattle.rules.specs.Asks.{policy_of}
use Rattle.rules.specs.Calls.{Call, Terms, rules, Answered, replies, accepted, Every}
use Rattle.demands.specs.Demands.{SameSettings, clock, TimesNeverFall, NoSharedHash}
use Rattle.demands.proofs.LineBound.{LineBound, BoundOf}
use Rattle.demands.proofs.RequestLaws.{invariant_empty}
use Rattle.demands.proofs.StandingLaws.{moment, Standing}
use Rattle.demands.proofs.GivenLaws.{given, happened}
use Rattle.demands.proofs.CallSteps.{UndoneAsAllowed, Fair, call_stands}
use Rattle.demands.proofs.OwnBucket.{ruled}
use Rattle.demands.proofs.AppearsLaws.{Alone, appears, appearing_is_alone, nothing_happens_to_the_absent}
use Rattle.store.specs.Memory.{memory_words}

-- A bound holds by some line.
pub record HoldsBySomeLine {A P C : ℕ} (B : LineBound A P C) (g : B.History) : Type 0 where
  pub line : ℕ
  pub holds : B.Holds line g

-- No accepted call undoes what the key spent but as the bound allows.
abbrev pub AlwaysAsAllowed : {S N : Type 0} (terms : Terms S N) → {A P C : ℕ} → LineBound A P C → Identity → List (Answered S N) → Type 0
AlwaysAsAllowed terms B k = Every (λ a. accepted terms a ≡ true → UndoneAsAllowed B k terms a.call)

module _ {S N : Type 0} (terms : Terms S N) (s : Settings) (rate : Rate) (k : Identity) (B : BoundOf (config_of rate)) (a : Accepted (config_of rate))
    (never : (policy_of s rate).forget_debt ≡ false) (rated : s.limit ≡ Open rate) where
  abbrev Stands : ℕ → List ℕ → B.History → Type 0
  Stands n ws g = Standing s rate k B n ws g

  -- A fresh memory, before anything happened.
  fresh_stands : Stands 0 (replicate (memory_words s) 0) B.start
  fresh_stands =
      let empty = fresh_shards_are_empty s k.hash in
      record {
        size = length-replicate (memory_words s) 0;
        sound = fresh_sound s k.hash;
        complete = fresh_shards_are_complete s k.hash;
        past = λ i below. absurd (omega (arith, empty.slots));
        bounds = invariant_empty (config_of rate) B k.hash k.key (moment 0) _ empty.slots empty.debts;
      }

  -- The whole list, call by call.
  run : (cs : List (Call S N)) (n : ℕ) (ws : List ℕ) (g : B.History) → SameSettings terms s (replies terms (rules terms) cs ws ws)
      → TimesNeverFall terms n (replies terms (rules terms) cs ws ws)
      → Every (Alone terms k) (replies terms (rules terms) cs ws ws) → AlwaysAsAllowed terms B k (replies terms (rules terms) cs ws ws) → Stands n ws g
      → HoldsBySomeLine B (happened B terms k (replies terms (rules terms) cs ws ws) g)
  unfolding replies TimesNeverFall happened
  run [] n ws g same rising alone undone v = record { line = _; holds = v.bounds.bound }
  run (c ∷ cs) n ws g same rising alone undone v =
      let fair : accepted terms (ruled terms c ws) ≡ true → Fair s rate k B a never terms rated n c = λ taken.
      record { settings = same.0 taken; later = rw taken at rising.0; alone = alone.0 taken; undone = undone.0 taken } in
      let next = call_stands s rate k B a never terms rated n ws g v c fair in
      run cs (clock terms n (ruled terms c ws)) (rules terms c ws).after (given B terms k c (rules terms c ws).answer g) same.1 rising.1 alone.1
      undone.1 next

  -- From a fresh memory. Nothing happens to a key that no accepted call names; of any other it holds that no accepted call names another key of its hash.
  module _ (cs : List (Call S N)) where
    abbrev answered : List (Answered S N)
    answered = replies terms (rules terms) cs (replicate (memory_words s) 0) (replicate (memory_words s) 0)

    pub bound_holds_from_fresh : SameSettings terms s answered → TimesNeverFall terms 0 answered → NoSharedHash terms answered
        → AlwaysAsAllowed terms B k answered
        → HoldsBySomeLine B (happened B terms k answered B.start)
    bound_holds_from_fresh same rising apart undone =
        by_test (appears terms k answered)
        (λ there. run cs 0 (replicate (memory_words s) 0) B.start same rising (appearing_is_alone terms k answered there apart) undone fresh_stands)
        (λ absent. rw (nothing_happens_to_the_absent terms B k cs (replicate (memory_words s) 0) B.start absent) (record { line = 0; holds = B.at_start 0 }))
