-- The number that a word of a lesson stands for, by what it has to be, or what is wrong with it.
use Rattle.std.specs.Prelude.{ℕ, ◌+◌, cond, List, eqb, leb, drop, get_or, Result, Ok, Err, ok_or}
use Rattle.std.specs.Option.{option_or}
use Rattle.decimal.specs.Decimal.{all_digits, number_of}
use Rattle.lesson_words.specs.declared.Kind.{Kind}
use Rattle.lesson_words.specs.declared.Kind.TheVariants as kind
use Rattle.lesson_words.specs.declared.Fault.{Fault}
use Rattle.lesson_words.specs.declared.Fault.TheVariants as fault
use Rattle.lesson_words.specs.Steps.{◌>>=◌}
use Rattle.lesson_words.specs.Times.{most64, time_of}
use Rattle.lesson_words.specs.Addresses.{address_of}

-- A number of at most `most`. What is no number is digits that make more, or has another byte.
unfoldable pub number_fault : ℕ → List ℕ → Fault
number_fault most word = cond (all_digits word) (fault.Large most) fault.Number

abbrev pub plain_of : ℕ → List ℕ → Result ℕ Fault
plain_of most word = ok_or (number_of most word) (number_fault most word)

-- How often a call is made: at most 65,536 times, and once at least.
abbrev pub most_calls : ℕ
most_calls = 65536

abbrev pub at_least_once : ℕ → Result ℕ Fault
at_least_once n = cond (eqb n 0) (Err fault.Zero) (Ok n)

abbrev pub count_of : List ℕ → Result ℕ Fault
count_of word = plain_of most_calls word >>= at_least_once

-- A modem: its number, or its address.
abbrev pub modem_of : List ℕ → Result ℕ Fault
modem_of word = ok_or (option_or (number_of most64 word) (address_of word)) fault.Modem

-- A moment: a time; or after a plus sign (43) how much later it is than the clock.
abbrev pub later : ℕ → ℕ → Result ℕ Fault
later clock n = cond (leb (clock + n) most64) (Ok (clock + n)) (Err fault.Far)

unfoldable pub moment_of : ℕ → List ℕ → Result ℕ Fault
moment_of clock word = cond (eqb (get_or word 0 0) 43) (time_of (drop 1 word) >>= later clock) (time_of word)

abbrev pub value_of : Kind → ℕ → List ℕ → Result ℕ Fault
value_of (kind.Number most) clock word = plain_of most word
value_of kind.Count clock word = count_of word
value_of kind.Time clock word = time_of word
value_of kind.Moment clock word = moment_of clock word
value_of kind.Modem clock word = modem_of word
