-- Worked examples: lines of 01's example and others of every kind, and two printed lines.
use Rattle.std.proofs.Common.{Some, None}
use Prim.Native.Nat.{ℕ}
use mathlib.Core.Path.{◌≡◌, refl}
use mathlib.Core.List.{[], ◌∷◌}
use Rattle.settings.specs.declared.Limit.TheVariants.{Open}
use Rattle.settings.specs.declared.Settings.{Settings}
use Rattle.settings.specs.declared.eviction.WhenFull.TheVariants.{RefuseNew}
use Rattle.settings.specs.Eviction.{when_full_of}
use Rattle.decimal.specs.Decimal.{is_digit, all_digits, decimal_from, number_of, digits_from}
use Rattle.desk_lines.specs.declared.Request.{Request}
use Rattle.desk_lines.specs.declared.Line.TheVariants.{SetUp, Try, Peek, Reserve, Refund, Remove, Malformed}
use Rattle.desk_lines.specs.Fields.{fields}
use Rattle.desk_lines.specs.Lines.{taken, is_dash, line_of_letter, line_of}
use Rattle.units.specs.Units.{nanos_of}
use Rattle.desk_lines.specs.Printed.{printed}

abbrev request : ℕ → ℕ → ℕ → Request
request at key cost = record { at = nanos_of at; key = key; cost = cost }

-- Two tokens a second, up to four, for two keys in one shard.
abbrev two_keys : Settings
two_keys = record {
  limit = Open (record { amount = 2; period = nanos_of 1000000000; burst = Some 4; initial = Some 4 });
  eviction = record { max_keys = 2; idle_ttl = None; when_full = RefuseNew };
  shards = 1;
  classes = 0;
}

-- "s 2 1000000000 4 4 2 1 - 0"
pub settings_line : line_of
    (115 ∷ 32 ∷ 50 ∷ 32 ∷ 49 ∷ 48 ∷ 48 ∷ 48 ∷ 48 ∷ 48 ∷ 48 ∷ 48 ∷ 48 ∷ 48 ∷ 32 ∷ 52 ∷ 32 ∷ 52 ∷ 32 ∷ 50 ∷ 32 ∷ 49 ∷ 32 ∷ 45 ∷ 32 ∷ 48 ∷ []) ≡ SetUp two_keys
unfolding fields taken is_dash when_full_of line_of_letter line_of is_digit all_digits decimal_from number_of
settings_line = refl

-- "a 0 7 4"
pub try_line : line_of (97 ∷ 32 ∷ 48 ∷ 32 ∷ 55 ∷ 32 ∷ 52 ∷ []) ≡ Try (request 0 7 4)
unfolding fields taken is_dash when_full_of line_of_letter line_of is_digit all_digits decimal_from number_of
try_line = refl

-- "p 500000000 7 1"
pub peek_line : line_of (112 ∷ 32 ∷ 53 ∷ 48 ∷ 48 ∷ 48 ∷ 48 ∷ 48 ∷ 48 ∷ 48 ∷ 48 ∷ 32 ∷ 55 ∷ 32 ∷ 49 ∷ []) ≡ Peek (request 500000000 7 1)
unfolding fields taken is_dash when_full_of line_of_letter line_of is_digit all_digits decimal_from number_of
peek_line = refl

-- "r 500000000 7 3 1000000000"
pub reserve_line : line_of
    (114 ∷ 32 ∷ 53 ∷ 48 ∷ 48 ∷ 48 ∷ 48 ∷ 48 ∷ 48 ∷ 48 ∷ 48 ∷ 32 ∷ 55 ∷ 32 ∷ 51 ∷ 32 ∷ 49 ∷ 48 ∷ 48 ∷ 48 ∷ 48 ∷ 48 ∷ 48 ∷ 48 ∷ 48 ∷ 48 ∷ [])
    ≡ Reserve (request 500000000 7 3) (nanos_of 1000000000)
unfolding fields taken is_dash when_full_of line_of_letter line_of is_digit all_digits decimal_from number_of
reserve_line = refl

-- "f 7 1"
pub refund_line : line_of (102 ∷ 32 ∷ 55 ∷ 32 ∷ 49 ∷ []) ≡ Refund 7 1
unfolding fields taken is_dash when_full_of line_of_letter line_of is_digit all_digits decimal_from number_of
refund_line = refl

-- "d 7"
pub remove_line : line_of (100 ∷ 32 ∷ 55 ∷ []) ≡ Remove 7
unfolding fields taken is_dash when_full_of line_of_letter line_of is_digit all_digits decimal_from number_of
remove_line = refl

-- "a 0 7  4"
pub two_spaces : line_of (97 ∷ 32 ∷ 48 ∷ 32 ∷ 55 ∷ 32 ∷ 32 ∷ 52 ∷ []) ≡ Malformed
unfolding fields taken is_dash when_full_of line_of_letter line_of is_digit all_digits decimal_from number_of
two_spaces = refl

-- "a 0 7 4 "
pub space_at_the_end : line_of (97 ∷ 32 ∷ 48 ∷ 32 ∷ 55 ∷ 32 ∷ 52 ∷ 32 ∷ []) ≡ Malformed
unfolding fields taken is_dash when_full_of line_of_letter line_of is_digit all_digits decimal_from number_of
space_at_the_end = refl

-- "a 0 7 4\r"
pub carriage_return : line_of (97 ∷ 32 ∷ 48 ∷ 32 ∷ 55 ∷ 32 ∷ 52 ∷ 13 ∷ []) ≡ Malformed
unfolding fields taken is_dash when_full_of line_of_letter line_of is_digit all_digits decimal_from number_of
carriage_return = refl

-- ""
pub empty_line : line_of [] ≡ Malformed
unfolding fields taken is_dash when_full_of line_of_letter line_of is_digit all_digits decimal_from number_of
empty_line = refl

-- "a 0 7 4294967296"
pub cost_of_33_bits : line_of (97 ∷ 32 ∷ 48 ∷ 32 ∷ 55 ∷ 32 ∷ 52 ∷ 50 ∷ 57 ∷ 52 ∷ 57 ∷ 54 ∷ 55 ∷ 50 ∷ 57 ∷ 54 ∷ []) ≡ Malformed
unfolding fields taken is_dash when_full_of line_of_letter line_of is_digit all_digits decimal_from number_of
cost_of_33_bits = refl

-- "d 000000000000000000001"
pub twenty_one_digits : line_of (100 ∷ 32 ∷ 48 ∷ 48 ∷ 48 ∷ 48 ∷ 48 ∷ 48 ∷ 48 ∷ 48 ∷ 48 ∷ 48 ∷ 48 ∷ 48 ∷ 48 ∷ 48 ∷ 48 ∷ 48 ∷ 48 ∷ 48 ∷ 48 ∷ 48 ∷ 49 ∷ [])
    ≡ Malformed
unfolding fields taken is_dash when_full_of line_of_letter line_of is_digit all_digits decimal_from number_of
twenty_one_digits = refl

-- "s 2 1000000000 4 4 2 1 - 2"
pub rule_2 : line_of (115 ∷ 32 ∷ 50 ∷ 32 ∷ 49 ∷ 48 ∷ 48 ∷ 48 ∷ 48 ∷ 48 ∷ 48 ∷ 48 ∷ 48 ∷ 48 ∷ 32 ∷ 52 ∷ 32 ∷ 52 ∷ 32 ∷ 50 ∷ 32 ∷ 49 ∷ 32 ∷ 45 ∷ 32 ∷ 50 ∷ [])
    ≡ Malformed
unfolding fields taken is_dash when_full_of line_of_letter line_of is_digit all_digits decimal_from number_of
rule_2 = refl

-- "s 2 1000000000 - 4 2 1 - 0"
pub dash_for_a_burst : line_of
    (115 ∷ 32 ∷ 50 ∷ 32 ∷ 49 ∷ 48 ∷ 48 ∷ 48 ∷ 48 ∷ 48 ∷ 48 ∷ 48 ∷ 48 ∷ 48 ∷ 32 ∷ 45 ∷ 32 ∷ 52 ∷ 32 ∷ 50 ∷ 32 ∷ 49 ∷ 32 ∷ 45 ∷ 32 ∷ 48 ∷ []) ≡ Malformed
unfolding fields taken is_dash when_full_of line_of_letter line_of is_digit all_digits decimal_from number_of
dash_for_a_burst = refl

-- "x 7"
pub unknown_letter : line_of (120 ∷ 32 ∷ 55 ∷ []) ≡ Malformed
unfolding fields taken is_dash when_full_of line_of_letter line_of is_digit all_digits decimal_from number_of
unknown_letter = refl

-- A NUL ends no line and parts no fields, and a byte from 128 on is not taken for the one that is 128 less.
-- "a 0 7 4" and a NUL
pub nul_at_the_end : line_of (97 ∷ 32 ∷ 48 ∷ 32 ∷ 55 ∷ 32 ∷ 52 ∷ 0 ∷ []) ≡ Malformed
unfolding fields taken is_dash when_full_of line_of_letter line_of is_digit all_digits decimal_from number_of
nul_at_the_end = refl

-- "d 7" with a NUL for the space
pub nul_for_a_space : line_of (100 ∷ 0 ∷ 55 ∷ []) ≡ Malformed
unfolding fields taken is_dash when_full_of line_of_letter line_of is_digit all_digits decimal_from number_of
nul_for_a_space = refl

-- a NUL alone
pub nul_alone : line_of (0 ∷ []) ≡ Malformed
unfolding fields taken is_dash when_full_of line_of_letter line_of is_digit all_digits decimal_from number_of
nul_alone = refl

-- "d 7", the 7 with 128 added
pub digit_from_128_on : line_of (100 ∷ 32 ∷ 183 ∷ []) ≡ Malformed
unfolding fields taken is_dash when_full_of line_of_letter line_of is_digit all_digits decimal_from number_of
digit_from_128_on = refl

-- "d 7", the letter with 128 added
pub letter_from_128_on : line_of (228 ∷ 32 ∷ 55 ∷ []) ≡ Malformed
unfolding fields taken is_dash when_full_of line_of_letter line_of is_digit all_digits decimal_from number_of
letter_from_128_on = refl

-- "d 7", the space with 128 added
pub space_from_128_on : line_of (100 ∷ 160 ∷ 55 ∷ []) ≡ Malformed
unfolding fields taken is_dash when_full_of line_of_letter line_of is_digit all_digits decimal_from number_of
space_from_128_on = refl

-- "d 7" and the byte 255
pub byte_255_at_the_end : line_of (100 ∷ 32 ∷ 55 ∷ 255 ∷ []) ≡ Malformed
unfolding fields taken is_dash when_full_of line_of_letter line_of is_digit all_digits decimal_from number_of
byte_255_at_the_end = refl

-- 5 1 1000000000
pub printed_retry : printed 5 1 1000000000 ≡ (53 ∷ 32 ∷ 49 ∷ 32 ∷ 49 ∷ 48 ∷ 48 ∷ 48 ∷ 48 ∷ 48 ∷ 48 ∷ 48 ∷ 48 ∷ 48 ∷ 10 ∷ [])
unfolding digits_from
printed_retry = refl

-- 1 0 0
pub printed_grant : printed 1 0 0 ≡ (49 ∷ 32 ∷ 48 ∷ 32 ∷ 48 ∷ 10 ∷ [])
unfolding digits_from
printed_grant = refl
