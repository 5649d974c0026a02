-- Settings that were accepted when there could be 4,096 keys have the shape that they had, so as many words; and at that shape the rules of every call give
-- what they give now. This says that the rules know the number of shards through the shape alone, and no more: the rules of before are not in it.
use Prim.Native.Nat.{ℕ}
use mathlib.Core.Path.{◌≡◌, ap, ◌∙◌}
use mathlib.Core.Bool.{true}
use mathlib.Core.List.{List}
use Rattle.settings.specs.declared.Settings.{Settings}
use Rattle.settings.specs.declared.Shape.{Shape}
use Rattle.settings.specs.Settings.{shape_of}
use Rattle.settings.specs.Before as Before
use Rattle.settings.proofs.BeforeLaws.{accepted_before_is_as_before}
use Rattle.store.specs.Memory.{words_in, memory_words}
use Rattle.rules.specs.Asks.{in_force}
use Rattle.rules.specs.Rules.{set_up_in, set_up_for, unless_refused, keyed_rule_in, len_in}
use Rattle.rules.specs.Calls.{Call, keyed, whole, whole_rule_in, Terms, settings_of, rules_in, rules, fits}
use Rattle.rules.specs.Widths.{lendable}
use Rattle.demands.specs.Demands.{Limiter, Demand2}

-- Shards and cap, how many words the settings ask for, what set_up_lem makes of any words, and what every call answers and leaves: all as at the shape of
-- before.
pub record AsAtTheShapeOfBefore {S N : Type 0} (terms : Terms S N) (s : Settings) : Type 0 where
  pub shape : shape_of s ≡ Before.shape_of s
  pub words : memory_words s ≡ words_in (Before.shape_of s)
  pub set_up_lem : (table ws : List ℕ) → set_up_for s table ws ≡ set_up_in (Before.shape_of s) s table ws
  pub answers : (c : Call S N) (ws : List ℕ) → settings_of terms c ≡ s → rules terms c ws ≡ rules_in terms Before.shape_of c ws

module _ {S N : Type 0} (terms : Terms S N) where
  -- A call, where its settings have the same shape by both functions.
  answers_by_shape : (c : Call S N) (ws : List ℕ) → Before.settings_refusal (settings_of terms c) ≡ 0 → rules terms c ws ≡ rules_in terms Before.shape_of c ws
  answers_by_shape (keyed s n ask) ws accepted =
      let settings = in_force ask (terms.settings s) in
      ap (λ (shape : Shape). unless_refused (terms.refusal n) ws (keyed_rule_in shape settings (terms.identity n) ask ws))
      (accepted_before_is_as_before settings accepted).shape
  answers_by_shape (whole s what) ws accepted =
      let settings = terms.settings s in
      ap (λ (shape : Shape). whole_rule_in shape settings what ws) (accepted_before_is_as_before settings accepted).shape

  pub accepted_before_is_as_at_the_shape_of_before : (s : Settings) → Before.settings_refusal s ≡ 0 → AsAtTheShapeOfBefore terms s
  accepted_before_is_as_at_the_shape_of_before s accepted =
      let shape = (accepted_before_is_as_before s accepted).shape in
      record {
        shape = shape;
        words = ap words_in shape;
        set_up_lem = λ table ws. ap (λ (shape : Shape). set_up_in shape s table ws) shape;
        answers = λ c ws same. answers_by_shape c ws (rw same accepted);
      }

  -- So it is with every limiter that meets demand 2, and so with the exports.
  pub limiter_answers_as_at_the_shape_of_before : (l : Limiter S N) → Demand2 terms l → (c : Call S N) (ws : List ℕ) → fits terms c ≡ true → lendable ws ≡ true
      → Before.settings_refusal (settings_of terms c) ≡ 0 → l.answers c ws ≡ rules_in terms Before.shape_of c ws
  limiter_answers_as_at_the_shape_of_before l equal c ws fit lent accepted = equal.answers c ws fit lent ∙ answers_by_shape c ws accepted
