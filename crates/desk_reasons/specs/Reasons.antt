-- Why a line of the desk is answered with 9: the first of its fields that is at fault, and what is wrong with it.
use Rattle.std.specs.Prelude.{ℕ, ◌+◌, Bool, true, false, cond, List, [], ◌∷◌, eqb, leb, ltb, length, get_or, drop, is_some, Option, Some, None}
use Rattle.scan.specs.Bytes.{index_of}
use Rattle.decimal.specs.Decimal.{all_digits, number_of}
use Rattle.desk_lines.specs.declared.Line.{Line}
use Rattle.desk_lines.specs.declared.Line.TheVariants.{SetUp, Try, Peek, Reserve, Refund, Remove, Malformed}
use Rattle.desk_lines.specs.Fields.{fields}
use Rattle.desk_lines.specs.Lines.{longest_line, most32, most64, most_rule, is_dash, line_of}
use Rattle.desk_reasons.specs.declared.Fault.{Fault}
use Rattle.desk_reasons.specs.declared.Fault.TheVariants as fault
use Rattle.desk_reasons.specs.declared.Reason.{Reason}
use Rattle.desk_reasons.specs.declared.Reason.TheVariants.{Blank, Long, Field, Early, Late}
use Rattle.desk_reasons.specs.declared.kinds.Kind.{Kind}
use Rattle.desk_reasons.specs.declared.kinds.Kind.TheVariants.{Number, Idle}

-- What the fields after a letter have to be. `a` and `p`: now, key, cost; `r`: max wait besides; `f`: key, cost; `d`: key.
abbrev pub request_kinds : List Kind
request_kinds = Number most64 ∷ Number most64 ∷ Number most32 ∷ []

abbrev pub reserve_kinds : List Kind
reserve_kinds = Number most64 ∷ Number most64 ∷ Number most32 ∷ Number most64 ∷ []

abbrev pub refund_kinds : List Kind
refund_kinds = Number most64 ∷ Number most32 ∷ []

abbrev pub remove_kinds : List Kind
remove_kinds = Number most64 ∷ []

-- `s`: amount, period, burst, initial, then max keys, shards, idle time, rule when full.
abbrev pub set_up_kinds : List Kind
set_up_kinds =
    Number most32 ∷ Number most64 ∷ Number most32 ∷ Number most32 ∷ Number most64 ∷ Number most64 ∷ Idle ∷ Number most_rule ∷ []

-- By the letters `a`, `p`, `r`, `f`, `d`, `s`. No other byte is a letter of the desk, and it has no field after it.
unfoldable pub kinds_of : ℕ → List Kind
kinds_of letter =
    cond (eqb letter 97) request_kinds
    (cond (eqb letter 112) request_kinds
    (cond (eqb letter 114) reserve_kinds
    (cond (eqb letter 102) refund_kinds
    (cond (eqb letter 100) remove_kinds
    (cond (eqb letter 115) set_up_kinds [])))))

abbrev pub first_kind : List Kind → Option Kind
first_kind [] = None
first_kind (k ∷ ks) = Some k

-- The letter that a field is, if it is one: a field comes after it.
abbrev pub known : ℕ → Option Kind → Option ℕ
known letter None = None
known letter (Some k) = Some letter

unfoldable pub letter_in : List ℕ → Option ℕ
letter_in f = cond (eqb (length f) 1) (known (get_or f 0 0) (first_kind (kinds_of (get_or f 0 0)))) None

-- Whether a field is of a kind. No field is of none.
abbrev pub is_number : ℕ → List ℕ → Bool
is_number most f = is_some (number_of most f)

abbrev pub is_idle : List ℕ → Bool
is_idle f = cond (is_dash f) true (is_number most64 f)

abbrev pub accepts : Option Kind → List ℕ → Bool
accepts None f = false
accepts (Some (Number most)) f = is_number most f
accepts (Some Idle) f = is_idle f

-- What is wrong with a field at sight: no byte, a CR (13), a tab (9). Else what is given.
unfoldable pub has : ℕ → List ℕ → Bool
has b f = ltb (index_of b f) (length f)

unfoldable pub seen : List ℕ → Fault → Fault
seen f otherwise = cond (eqb (length f) 0) fault.Empty (cond (has 13 f) fault.Return (cond (has 9 f) fault.Tab otherwise))

-- A first field that is no letter of the desk. The three bytes of a byte order mark are looked for first.
unfoldable pub is_marked : List ℕ → Bool
is_marked f = cond (leb 3 (length f)) (cond (eqb (get_or f 0 0) 239) (cond (eqb (get_or f 1 0) 187) (eqb (get_or f 2 0) 191) false) false) false

abbrev pub letter_fault : List ℕ → Fault
letter_fault f = cond (is_marked f) fault.Mark (seen f fault.Letter)

-- A field that is not of its kind. Digits that are no number are more than 20, or make more than a number may be.
unfoldable pub number_fault : ℕ → List ℕ → Fault
number_fault most f = cond (all_digits f) (cond (leb (length f) 20) (fault.Large most) fault.Long) fault.Digits

abbrev pub kind_fault : Option Kind → List ℕ → Fault
kind_fault None f = fault.Extra
kind_fault (Some (Number most)) f = number_fault most f
kind_fault (Some Idle) f = number_fault most64 f

abbrev pub field_fault : Option Kind → List ℕ → Fault
field_fault k f = seen f (kind_fault k f)

-- The first fault among the fields after the letter, from place i among them on. The letter is field 1, so the field at place i is field i + 2.
abbrev pub end_reason : Option Kind → ℕ → Option Reason
end_reason None i = None
end_reason (Some k) i = Some (Field (i + 2) fault.Missing)

unfoldable pub fields_reason : ℕ → List Kind → List (List ℕ) → Option Reason
fields_reason i ks [] = end_reason (first_kind ks) i
fields_reason i ks (f ∷ fs) =
    cond (accepts (first_kind ks) f) (fields_reason (i + 1) (drop 1 ks) fs) (Some (Field (i + 2) (field_fault (first_kind ks) f)))

-- Why a line is malformed, whichever line it is.
abbrev pub reason_by_letter : Option ℕ → List ℕ → List (List ℕ) → Option Reason
reason_by_letter None f fs = Some (Field 1 (letter_fault f))
reason_by_letter (Some letter) f fs = fields_reason 0 (kinds_of letter) fs

abbrev pub reason_of_fields : List (List ℕ) → Option Reason
reason_of_fields [] = Some Blank
reason_of_fields (f ∷ fs) = reason_by_letter (letter_in f) f fs

unfoldable pub reason_of : List ℕ → Option Reason
reason_of bytes = cond (eqb (length bytes) 0) (Some Blank) (cond (leb (length bytes) longest_line) (reason_of_fields (fields bytes)) (Some Long))

-- Whether there is no reason.
abbrev pub is_fine : Option Reason → Bool
is_fine None = true
is_fine (Some reason) = false

-- Line 1 sets the store up, and no other line does.
abbrev pub is_set_up : Line → Bool
is_set_up (SetUp s) = true
is_set_up (Try q) = false
is_set_up (Peek q) = false
is_set_up (Reserve q longest) = false
is_set_up (Refund key cost) = false
is_set_up (Remove key) = false
is_set_up Malformed = false

abbrev pub out_of_place : Bool → Bool → Option Reason
out_of_place true true = None
out_of_place true false = Some Early
out_of_place false true = Some Late
out_of_place false false = None

-- Why a line is answered with 9, as line 1 or as another.
unfoldable pub reason_at : Bool → List ℕ → Option Reason
reason_at first bytes = cond (is_fine (reason_of bytes)) (out_of_place first (is_set_up (line_of bytes))) (reason_of bytes)
