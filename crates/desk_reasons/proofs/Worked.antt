-- Worked examples: a line of each reason.
use Rattle.std.proofs.Common.{Some, None}
use mathlib.Core.Path.{◌≡◌, refl}
use mathlib.Core.Bool.{true, false}
use mathlib.Core.List.{[], ◌∷◌}
use Rattle.scan.specs.Bytes.{index_after, index_of}
use Rattle.decimal.specs.Decimal.{is_digit, all_digits, decimal_from, number_of}
use Rattle.desk_lines.specs.Fields.{fields}
use Rattle.desk_lines.specs.Lines.{taken, is_dash, line_of_letter, line_of, most32}
use Rattle.desk_reasons.specs.declared.Fault.TheVariants as fault
use Rattle.desk_reasons.specs.declared.Reason.TheVariants.{Blank, Field, Early}
use Rattle.desk_reasons.specs.Reasons.{kinds_of, letter_in, has, seen, is_marked, number_fault, fields_reason, reason_of, reason_at}

-- "a 0 7 4"
pub fine_line : reason_at false (97 ∷ 32 ∷ 48 ∷ 32 ∷ 55 ∷ 32 ∷ 52 ∷ []) ≡ None
unfolding fields taken is_dash line_of_letter line_of is_digit all_digits decimal_from number_of kinds_of letter_in fields_reason reason_of reason_at
fine_line = refl

-- The same as line 1.
pub fine_line_too_early : reason_at true (97 ∷ 32 ∷ 48 ∷ 32 ∷ 55 ∷ 32 ∷ 52 ∷ []) ≡ Some Early
unfolding fields taken is_dash line_of_letter line_of is_digit all_digits decimal_from number_of kinds_of letter_in fields_reason reason_of reason_at
fine_line_too_early = refl

-- ""
pub blank_line : reason_of [] ≡ Some Blank
unfolding reason_of
blank_line = refl

-- "a 0 7"
pub missing_cost : reason_of (97 ∷ 32 ∷ 48 ∷ 32 ∷ 55 ∷ []) ≡ Some (Field 4 fault.Missing)
unfolding fields is_digit all_digits decimal_from number_of kinds_of letter_in fields_reason reason_of
missing_cost = refl

-- "d 7 8"
pub one_too_many_lem : reason_of (100 ∷ 32 ∷ 55 ∷ 32 ∷ 56 ∷ []) ≡ Some (Field 3 fault.Extra)
unfolding index_after index_of fields is_digit all_digits decimal_from number_of kinds_of letter_in has seen fields_reason reason_of
one_too_many_lem = refl

-- "f 7  4"
pub two_spaces : reason_of (102 ∷ 32 ∷ 55 ∷ 32 ∷ 32 ∷ 52 ∷ []) ≡ Some (Field 3 fault.Empty)
unfolding fields is_digit all_digits decimal_from number_of kinds_of letter_in seen fields_reason reason_of
two_spaces = refl

-- "f 7 4\r"
pub carriage_return : reason_of (102 ∷ 32 ∷ 55 ∷ 32 ∷ 52 ∷ 13 ∷ []) ≡ Some (Field 3 fault.Return)
unfolding index_after index_of fields is_digit all_digits decimal_from number_of kinds_of letter_in has seen fields_reason reason_of
carriage_return = refl

-- "d\t7"
pub tab : reason_of (100 ∷ 9 ∷ 55 ∷ []) ≡ Some (Field 1 fault.Tab)
unfolding index_after index_of fields kinds_of letter_in has seen is_marked reason_of
tab = refl

-- A byte order mark, and "d 7".
pub byte_order_mark : reason_of (239 ∷ 187 ∷ 191 ∷ 100 ∷ 32 ∷ 55 ∷ []) ≡ Some (Field 1 fault.Mark)
unfolding fields kinds_of letter_in is_marked reason_of
byte_order_mark = refl

-- "A 7"
pub unknown_letter : reason_of (65 ∷ 32 ∷ 55 ∷ []) ≡ Some (Field 1 fault.Letter)
unfolding index_after index_of fields kinds_of letter_in has seen is_marked reason_of
unknown_letter = refl

-- "d -1"
pub no_number : reason_of (100 ∷ 32 ∷ 45 ∷ 49 ∷ []) ≡ Some (Field 2 fault.Digits)
unfolding index_after index_of fields is_digit all_digits decimal_from number_of kinds_of letter_in has seen number_fault fields_reason reason_of
no_number = refl

-- "f 7 4294967296"
pub too_large : reason_of (102 ∷ 32 ∷ 55 ∷ 32 ∷ 52 ∷ 50 ∷ 57 ∷ 52 ∷ 57 ∷ 54 ∷ 55 ∷ 50 ∷ 57 ∷ 54 ∷ []) ≡ Some (Field 3 (fault.Large most32))
unfolding index_after index_of fields is_digit all_digits decimal_from number_of kinds_of letter_in has seen number_fault fields_reason reason_of
too_large = refl
