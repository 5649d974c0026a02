-- A line by its fields, as the code comes to it.
use Rattle.std.proofs.Common.{Option}
use Prim.Native.Nat.{ℕ, ◌+◌, ◌-◌, ◌≤◌, ◌<◌}
use native.Mathlib.Omega.{arith}
use mathlib.Core.Path.{◌≡◌, refl, sym, ap, ◌∙◌}
use mathlib.Core.List.{List, [], ◌∷◌, ◌++◌}
use lib.ListN.{length, get_or, take, length-append}
use lib.Seq.{take_all, length-take-le}
use Rattle.arith.proofs.Cases.{by_le}
use Rattle.rows.specs.Segments.{segment}
use Rattle.rows.proofs.SegmentLaws.{segment_length}
use Rattle.rows.proofs.RowLaws.{segment_word}
use Rattle.units.specs.declared.Nanos.{Nanos}
use Rattle.settings.specs.declared.Limit.TheVariants.{Open}
use Rattle.settings.specs.declared.eviction.Eviction.{Eviction}
use Rattle.settings.specs.declared.rate.Rate.{Rate}
use Rattle.settings.specs.Eviction.{bounds, when_full_of}
use Rattle.desk_lines.specs.declared.Line.TheVariants.{SetUp, Malformed}
use Rattle.desk_lines.specs.Fields.{field_end, fields_from}
use Rattle.desk_lines.specs.Lines as Lines
use Rattle.desk_lines.specs.Lines.{Reading, left, Taken, taken, taken_idle, taken_rate, finished}
use Rattle.desk_lines.specs.Lines.{most64, most_rule, longest_line, line_of_letter, line_of_fields, line_of}
use Rattle.desk_lines.proofs.FieldLaws.{field_ends_inside, first_field}
use borrow.Author.Tests.{le-leb, lt-leb}

-- Settings: what is left after all fields, and the line that they are. Each premise is what `Tells` says of a part that was taken, of any reading.
module _ (r r₁ r₂ r₃ r₄ r₅ : Reading) {rate : Rate} {keys shards : ℕ} {idle : Option Nanos} {rule : ℕ}
    (e₁ : taken_rate r ≡ record { value = rate; rest = r₁ }) (e₂ : taken most64 r₁ ≡ record { value = keys; rest = r₂ })
    (e₃ : taken most64 r₂ ≡ record { value = shards; rest = r₃ }) (e₄ : taken_idle r₃ ≡ record { value = idle; rest = r₄ })
    (e₅ : taken most_rule r₄ ≡ record { value = rule; rest = r₅ }) where
  abbrev keys_taken : Taken ℕ
  keys_taken = taken most64 (taken_rate r).rest

  abbrev shards_taken : Taken ℕ
  shards_taken = taken most64 keys_taken.rest

  abbrev idle_taken : Taken (Option Nanos)
  idle_taken = taken_idle shards_taken.rest

  abbrev rule_taken : Taken ℕ
  rule_taken = taken most_rule idle_taken.rest

  rate_taken_lem : record { value = rate; rest = r₁ } ≡ taken_rate r
  rate_taken_lem = sym e₁

  keys_taken_lem : record { value = keys; rest = r₂ } ≡ keys_taken
  keys_taken_lem = sym e₂ ∙ ap (λ (t : Taken Rate). taken most64 t.rest) rate_taken_lem

  shards_taken_lem : record { value = shards; rest = r₃ } ≡ shards_taken
  shards_taken_lem = sym e₃ ∙ ap (λ (t : Taken ℕ). taken most64 t.rest) keys_taken_lem

  idle_taken_lem : record { value = idle; rest = r₄ } ≡ idle_taken
  idle_taken_lem = sym e₄ ∙ ap (λ (t : Taken ℕ). taken_idle t.rest) shards_taken_lem

  rule_taken_lem : record { value = rule; rest = r₅ } ≡ rule_taken
  rule_taken_lem = sym e₅ ∙ ap (λ (t : Taken (Option Nanos)). taken most_rule t.rest) idle_taken_lem

  pub set_up_rest : r₅ ≡ rule_taken.rest
  set_up_rest = ap (λ (t : Taken ℕ). t.rest) rule_taken_lem

  pub set_up_line : {e : Eviction} → e ≡ bounds keys idle (when_full_of rule)
      → SetUp (record { limit = Open rate; eviction = e; shards = shards; classes = 0 })
      ≡ SetUp (record {
        limit = Open (taken_rate r).value;
        eviction = bounds keys_taken.value idle_taken.value (when_full_of rule_taken.value);
        shards = shards_taken.value;
        classes = 0;
      })
  set_up_line is =
      let taken' : bounds keys idle (when_full_of rule) ≡ bounds keys_taken.value idle_taken.value (when_full_of rule_taken.value) =
      λ j. bounds (keys_taken_lem j).value (idle_taken_lem j).value (when_full_of (rule_taken_lem j).value) in
      let bounded = is ∙ taken' in
      λ j. SetUp (record { limit = Open (rate_taken_lem j).value; eviction = bounded j; shards = (shards_taken_lem j).value; classes = 0 })

  -- The line as a whole: the settings where none is left after the last field, and malformed otherwise.
  pub set_up_whole : {e : Eviction} → e ≡ bounds keys idle (when_full_of rule)
      → finished r₅ (SetUp (record { limit = Open rate; eviction = e; shards = shards; classes = 0 })) ≡ Lines.set_up r
  set_up_whole is = let line = set_up_line is in λ j. finished (set_up_rest j) (line j)

-- The first field: one letter, or the line is malformed.
one_letter_lem : (f : List ℕ) (fs : List (List ℕ)) → length f ≡ 1 → line_of_fields (f ∷ fs) ≡ line_of_letter (get_or f 0 0) (left fs)
one_letter_lem [] fs one = absurd (omega arith)
one_letter_lem (b ∷ []) fs one = refl
one_letter_lem (b ∷ c ∷ bs) fs one = absurd (omega arith)

other_first : (f : List ℕ) (fs : List (List ℕ)) → (length f ≡ 1 → ⊥) → line_of_fields (f ∷ fs) ≡ Malformed
other_first [] fs other = refl
other_first (b ∷ []) fs other = absurd (other refl)
other_first (b ∷ c ∷ bs) fs other = refl

module _ (line : List ℕ) where
  pub too_long : longest_line < length line → Malformed ≡ line_of line
  unfolding line_of
  too_long long = rw (lt-leb (length line) longest_line long)

  module _ (short : length line ≤ longest_line) where
    line_of_first : line_of line ≡ line_of_fields (segment 0 (field_end line 0) line ∷ fields_from line (field_end line 0 + 1))
    unfolding line_of fields_from
    line_of_first =
        let whole : field_end line 0 - 0 ≡ field_end line 0 = omega arith in
        rw (le-leb (length line) longest_line short)
        (ap line_of_fields (rw (le-leb 0 (length line) (omega arith), whole) at (first_field line 0 (omega arith))))

    first_length : length (segment 0 (field_end line 0) line) ≡ field_end line 0
    first_length = segment_length 0 (field_end line 0) line (omega (arith, field_ends_inside line 0 (omega arith)))

    pub no_letter_lem : (field_end line 0 ≡ 1 → ⊥) → Malformed ≡ line_of line
    no_letter_lem other =
        sym (line_of_first ∙ other_first (segment 0 (field_end line 0) line) (fields_from line (field_end line 0 + 1)) (λ one. other (sym first_length ∙ one)))

    pub letter_inside : field_end line 0 ≡ 1 → 0 < length line
    letter_inside one = omega (arith, one, field_ends_inside line 0 (omega arith))

    pub by_letter_lem : field_end line 0 ≡ 1 → line_of_letter (get_or line 0 0) (left (fields_from line 2)) ≡ line_of line
    by_letter_lem one =
        let byte = segment_word 0 (field_end line 0) line 0 (omega (arith, one)) in
        sym (line_of_first ∙ one_letter_lem (segment 0 (field_end line 0) line) (fields_from line (field_end line 0 + 1)) (first_length ∙ one) ∙ rw (byte, one))

-- Of the bytes before a place one more than a line may have is enough, whatever follows: all of a short beginning is kept, and a longer one is
-- malformed with that many bytes already.
pub kept_is_enough : (line more : List ℕ) → line_of (take (longest_line + 1) line ++ more) ≡ line_of (line ++ more)
kept_is_enough line more =
    let kept = take (longest_line + 1) line in
    by_le (length line) (longest_line + 1) (λ short. rw (take_all (longest_line + 1) line short))
    (λ long. sym (too_long (kept ++ more) (omega (arith, length-append kept more, length-take-le (longest_line + 1) line (omega (arith, long)))))
    ∙ too_long (line ++ more) (omega (arith, long, length-append line more)))
