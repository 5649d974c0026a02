-- Every line that is written is read by the desk as what the meaning names.
use Rattle.std.proofs.Common.{Option, Some, None, Result, Ok, Err}
use Prim.Native.Nat.{ℕ, zero, suc, ◌+◌, ◌≤◌, ◌<◌}
use native.Mathlib.Omega.{arith}
use mathlib.Core.Path.{◌≡◌, refl, sym, ap, ◌∙◌}
use mathlib.Core.Bool.{true, false, true≢false}
use mathlib.Core.List.{List, [], ◌∷◌, ◌++◌, append_assoc, append-nil}
use lib.ListN.{length}
use Rattle.decimal.specs.Decimal.{is_digit, all_digits, digits_of}
use Rattle.decimal.proofs.ReadBackLaws.{digits_are_digits}
use Rattle.desk_lines.specs.Fields.{fields}
use Rattle.desk_lines.specs.Lines.{left, taken_idle, is_dash, most64, most32, most_rule, longest_line, line_of_letter, line_of}
use Rattle.desk_lines.specs.declared.Line.{Line}
use Rattle.desk_lines.specs.declared.Line.TheVariants.{SetUp}
use Rattle.desk_writer.specs.declared.DeskCall.{DeskCall}
use Rattle.desk_writer.specs.Writer.{field, spaced, Fits}
use Rattle.desk_writer.proofs.ReadBackLaws.{digits_are_a_field, number_is_taken, written_line_reads_back}
use Rattle.exercise_lines.specs.Repeats.{call_on}
use Rattle.lesson_lines.specs.declared.Limits.{Limits}
use Rattle.std.specs.Result.{IfOk}
use Rattle.lesson_lines.specs.declared.Wrong.{Wrong}
use Rattle.lesson_lines.specs.declared.Meaning.{Meaning}
use Rattle.lesson_lines.specs.declared.Meaning.TheVariants as meaning
use Rattle.lesson_lines.specs.Written.{idle_field, limits_bytes, idle_time, settings_of}
use Rattle.lesson_writer.specs.Lines.{calls_from, all_bytes, all_read, lines_of, named_by, IdleFits, LimitsFit}
use borrow.Author.Tests.{le-leb, ne_eqb}

-- A number with a space in front is a field more.
field_is_more : (n : ℕ) (bs : List ℕ) (fs : List (List ℕ)) → fields bs ≡ [] ∷ fs → fields (field n ++ bs) ≡ [] ∷ digits_of n ∷ fs
unfolding fields
field_is_more n bs fs rest = ap (λ (x : List (List ℕ)). [] ∷ x) (digits_are_a_field (digits_of n) bs fs (digits_are_digits 20 n) rest)

spaced_are_more : (n : ℕ) (ns bs : List ℕ) (fs : List (List ℕ)) → fields (spaced ns ++ bs) ≡ [] ∷ fs → fields (spaced (n ∷ ns) ++ bs) ≡ [] ∷ digits_of n ∷ fs
unfolding spaced
spaced_are_more n ns bs fs rest = rw (append_assoc (field n) (spaced ns) bs) (field_is_more n (spaced ns ++ bs) fs rest)

-- An idle time as a field.
abbrev idle_digits : Option ℕ → List ℕ
idle_digits (Some n) = digits_of n
idle_digits None = 45 ∷ []

idle_is_more : (idle : Option ℕ) (bs : List ℕ) (fs : List (List ℕ)) → fields bs ≡ [] ∷ fs → fields (idle_field idle ++ bs) ≡ [] ∷ idle_digits idle ∷ fs
unfolding fields
idle_is_more (Some n) bs fs rest = field_is_more n bs fs rest
idle_is_more None bs fs rest = rw rest

last_field : (n : ℕ) → fields (field n) ≡ [] ∷ digits_of n ∷ []
unfolding fields
last_field n = sym (ap fields (append-nil (field n))) ∙ field_is_more n [] [] refl

six_fields : (a b c d e f : ℕ) (bs : List ℕ) (fs : List (List ℕ)) → fields bs ≡ [] ∷ fs
    → fields (spaced (a ∷ b ∷ c ∷ d ∷ e ∷ f ∷ []) ++ bs) ≡ [] ∷ digits_of a ∷ digits_of b ∷ digits_of c ∷ digits_of d ∷ digits_of e ∷ digits_of f ∷ fs
unfolding spaced
six_fields a b c d e f bs fs rest =
    spaced_are_more a (b ∷ c ∷ d ∷ e ∷ f ∷ []) bs _ (spaced_are_more b (c ∷ d ∷ e ∷ f ∷ []) bs _ (spaced_are_more c (d ∷ e ∷ f ∷ []) bs _
    (spaced_are_more d (e ∷ f ∷ []) bs _ (spaced_are_more e (f ∷ []) bs _ (spaced_are_more f [] bs fs rest)))))

abbrev fields_of : Limits → List (List ℕ)
fields_of l =
    digits_of l.amount ∷ digits_of l.period ∷ digits_of l.burst ∷ digits_of l.initial ∷ digits_of l.modems ∷ digits_of l.shards
    ∷ idle_digits l.idle ∷ digits_of l.when_full ∷ []

limits_fields : (l : Limits) → fields (limits_bytes l) ≡ (115 ∷ []) ∷ fields_of l
unfolding fields
limits_fields l =
    let tail = idle_is_more l.idle (field l.when_full) _ (last_field l.when_full) in
    rw (six_fields l.amount l.period l.burst l.initial l.modems l.shards (idle_field l.idle ++ field l.when_full) _ tail)

-- Digits are no dash.
digits_are_no_dash : (ds : List ℕ) → all_digits ds ≡ true → is_dash ds ≡ false
unfolding is_dash all_digits is_digit
digits_are_no_dash [] digits = refl
digits_are_no_dash (d ∷ []) digits = ne_eqb d 45 (λ e. true≢false (sym digits ∙ rw e))
digits_are_no_dash (d ∷ e ∷ ds) digits = rw (ne_eqb (length (d ∷ e ∷ ds)) 1 (λ h. omega arith))

idle_is_taken : (idle : Option ℕ) (fs : List (List ℕ)) → IdleFits idle
    → taken_idle (left (idle_digits idle ∷ fs)) ≡ record { value = idle_time idle; rest = left fs }
unfolding is_dash
idle_is_taken (Some n) fs fits =
    rw (digits_are_no_dash (digits_of n) (digits_are_digits 20 n), number_is_taken most64 n fs (omega arith) fits)
idle_is_taken None fs fits = refl

-- The settings are read back.
settings_are_read : (l : Limits) → LimitsFit l → line_of_letter 115 (left (fields_of l)) ≡ SetUp (settings_of l)
unfolding line_of_letter
settings_are_read l fits =
    rw (
      number_is_taken most32 l.amount _ (omega arith) fits.amount_fits,
      number_is_taken most64 l.period _ (omega arith) fits.period_fits,
      number_is_taken most32 l.burst _ (omega arith) fits.burst_fits,
      number_is_taken most32 l.initial _ (omega arith) fits.initial_fits,
      number_is_taken most64 l.modems _ (omega arith) fits.modems_fit,
      number_is_taken most64 l.shards _ (omega arith) fits.shards_fit,
      idle_is_taken l.idle _ fits.idle_fits_met,
      number_is_taken most_rule l.when_full [] (omega arith) fits.rule_fits,
    )

pub written_settings_read_back : (l : Limits) → LimitsFit l → length (limits_bytes l) ≤ longest_line → line_of (limits_bytes l) ≡ SetUp (settings_of l)
unfolding line_of
written_settings_read_back l fits short = rw (le-leb (length (limits_bytes l)) longest_line short, limits_fields l) (settings_are_read l fits)

-- All lines of a meaning.
unfoldable pub read_all : List (List ℕ) → List Line
read_all [] = []
read_all (line ∷ lines) = line_of line ∷ read_all lines

-- Every call of some from a place on is within its widths.
abbrev pub EachFits : DeskCall → ℕ → ℕ → ℕ → Type 0
EachFits call spacing place many = (i : ℕ) → place ≤ i → i < place + many → Fits (call_on spacing i call)

calls_read_back : (call : DeskCall) (spacing place many : ℕ) → EachFits call spacing place many
    → read_all (all_bytes (calls_from call spacing place many)) ≡ all_read (calls_from call spacing place many)
unfolding calls_from all_bytes all_read read_all
calls_read_back call spacing place zero fit = refl
calls_read_back call spacing place (suc many) fit =
    rw (
      written_line_reads_back (call_on spacing place call) (fit place (omega arith) (omega arith)),
      calls_read_back call spacing (suc place) many (λ i low high. fit i (omega arith) (omega arith)),
    )

abbrev pub MeaningFits : Meaning → Type 0
MeaningFits meaning.Blank = Unit {0}
MeaningFits (meaning.SetUp l) = LimitsFit l × (length (limits_bytes l) ≤ longest_line)
MeaningFits (meaning.Calls call count spacing) = EachFits call spacing 0 count

pub written_lines_read_back : (m : Result Meaning Wrong) → IfOk m MeaningFits → read_all (lines_of m) ≡ named_by m
unfolding read_all
written_lines_read_back (Ok meaning.Blank) fits = refl
written_lines_read_back (Ok (meaning.SetUp l)) fits = rw (written_settings_read_back l fits.0 fits.1)
written_lines_read_back (Ok (meaning.Calls call count spacing)) fits = calls_read_back call spacing 0 count fits
written_lines_read_back (Err w) fits = refl
