-- `check_chains`: from this class on the first refusal is that from class 0 on, and the lengths that are kept are right.
use Rattle.classes.specs.Layout.{classes_in}
use Rattle.classes.specs.declared.Class.{Class}
use Rattle.classes.specs.Classes.{chain_refusal, first_from, chains_refused}
use Rattle.classes.specs.code.Lengths.{Kept}
use lib.ListN.{length}
use mathlib.Core.List.{List}
use mathlib.Core.Path.{◌≡◌}
use Prim.Native.Nat.{ℕ, ◌-◌}
use Rattle.classes.proofs.check_chains.Given as goal

pub record SoFar (cs : List Class) (lengths : List ℕ) (class : ℕ) : Type 0 where
  pub none_refused : chains_refused cs ≡ first_from (chain_refusal cs) class (length cs - class)
  pub kept : Kept cs lengths

abbrev pub invariant-loop-class : goal.invariant-loop-class
invariant-loop-class l = SoFar (classes_in l.table) l.lengths l.class
