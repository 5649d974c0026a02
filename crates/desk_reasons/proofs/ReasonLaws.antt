-- A line has a reason exactly if the reader says that it is malformed.
use Rattle.std.proofs.Common.{Option, Some, None}
use Rattle.std.specs.Option.{is_some}
use Prim.Native.Nat.{ℕ, ◌+◌}
use native.Mathlib.Omega.{arith}
use mathlib.Core.Path.{◌≡◌, refl, sym, ◌∙◌}
use mathlib.Core.Bool.{Bool, true, false, cond}
use mathlib.Core.List.{List, [], ◌∷◌}
use lib.Dec.{leb}
use lib.ListN.{length}
use Rattle.arith.proofs.Cases.{by_test, by_eq}
use Rattle.decimal.specs.Decimal.{number_of}
use Rattle.desk_lines.specs.declared.Line.{Line}
use Rattle.desk_lines.specs.declared.Line.TheVariants.{SetUp, Try, Peek, Reserve, Refund, Remove, Malformed}
use Rattle.desk_lines.specs.Fields.{fields}
use Rattle.desk_lines.specs.Lines.{Reading, failed, left, taken, taken_number, taken_idle, is_dash, is_finished, finished}
use Rattle.desk_lines.specs.Lines.{most64, longest_line, line_of_letter, line_of_fields, line_of}
use borrow.Author.Tests.{ne_eqb}
use Rattle.desk_reasons.specs.declared.kinds.Kind.{Kind}
use Rattle.desk_reasons.specs.declared.kinds.Kind.TheVariants.{Number, Idle}
use Rattle.desk_reasons.specs.Reasons.{request_kinds, reserve_kinds, refund_kinds, remove_kinds, set_up_kinds, kinds_of, first_kind, known, reason_by_letter}
use Rattle.desk_reasons.specs.Reasons.{is_idle, accepts, letter_in, fields_reason, reason_of_fields, reason_of, is_fine}

-- Whether the reader takes a line for a call.
abbrev pub is_well_formed : Line → Bool
is_well_formed (SetUp s) = true
is_well_formed (Try q) = true
is_well_formed (Peek q) = true
is_well_formed (Reserve q longest) = true
is_well_formed (Refund key cost) = true
is_well_formed (Remove key) = true
is_well_formed Malformed = false

-- How the reading stands after a field of a kind, and after some.
abbrev taken_kind : Kind → Reading → Reading
taken_kind (Number most) r = (taken most r).rest
taken_kind Idle r = (taken_idle r).rest

abbrev taken_kinds : List Kind → Reading → Reading
taken_kinds [] r = r
taken_kinds (k ∷ ks) r = taken_kinds ks (taken_kind k r)

-- A reading that has failed stays so, and it fails where a field is missing.
kind_of_failed : (k : Kind) → taken_kind k failed ≡ failed
unfolding taken
kind_of_failed (Number most) = refl
kind_of_failed Idle = refl

failed_stays : (ks : List Kind) → taken_kinds ks failed ≡ failed
failed_stays [] = refl
failed_stays (k ∷ ks) = rw (kind_of_failed k) (failed_stays ks)

missing_fails : (k : Kind) → taken_kind k (left []) ≡ failed
unfolding taken
missing_fails (Number most) = refl
missing_fails Idle = refl

-- A field is taken exactly if it is of its kind.
number_taken : (fs : List (List ℕ)) (o : Option ℕ) → (taken_number fs o).rest ≡ cond (is_some o) (left fs) failed
number_taken fs None = refl
number_taken fs (Some n) = refl

idle_taken_lem : (f : List ℕ) (fs : List (List ℕ)) → (taken_idle (left (f ∷ fs))).rest ≡ cond (is_idle f) (left fs) failed
unfolding taken
idle_taken_lem f fs = by_test (is_dash f) (λ t. rw t refl) (λ t. rw t (number_taken fs (number_of most64 f)))

kind_taken : (k : Kind) (f : List ℕ) (fs : List (List ℕ)) → taken_kind k (left (f ∷ fs)) ≡ cond (accepts (Some k) f) (left fs) failed
unfolding taken
kind_taken (Number most) f fs = number_taken fs (number_of most f)
kind_taken Idle f fs = idle_taken_lem f fs

-- So the fields have no fault exactly if the reading is finished with them.
field_agrees : (i : ℕ) (k : Kind) (ks : List Kind) (f : List ℕ) (fs : List (List ℕ))
    → is_fine (fields_reason (i + 1) ks fs) ≡ is_finished (taken_kinds ks (left fs))
    → is_fine (fields_reason i (k ∷ ks) (f ∷ fs)) ≡ is_finished (taken_kinds ks (taken_kind k (left (f ∷ fs))))
unfolding fields_reason
field_agrees i k ks f fs others = rw (kind_taken k f fs) (by_test (accepts (Some k) f) (λ t. rw t others) (λ t. rw (t, failed_stays ks)))

fields_agree : (i : ℕ) (ks : List Kind) (fs : List (List ℕ)) → is_fine (fields_reason i ks fs) ≡ is_finished (taken_kinds ks (left fs))
unfolding fields_reason
fields_agree i [] [] = refl
fields_agree i [] (f ∷ fs) = refl
fields_agree i (Number most ∷ ks) [] = rw (missing_fails (Number most), failed_stays ks)
fields_agree i (Idle ∷ ks) [] = rw (missing_fails Idle, failed_stays ks)
fields_agree i (Number most ∷ ks) (f ∷ fs) = field_agrees i (Number most) ks f fs (fields_agree (i + 1) ks fs)
fields_agree i (Idle ∷ ks) (f ∷ fs) = field_agrees i Idle ks f fs (fields_agree (i + 1) ks fs)

-- A line is what its fields say once the reading is finished.
finished_well : (r : Reading) (line : Line) → is_well_formed line ≡ true → is_well_formed (finished r line) ≡ is_finished r
finished_well r line well = by_test (is_finished r) (λ t. rw t well) (λ t. rw t)

-- By the letter.
letter_agrees : (letter : ℕ) (f : List ℕ) (fs : List (List ℕ))
    → is_fine (reason_by_letter (known letter (first_kind (kinds_of letter))) f fs) ≡ is_well_formed (line_of_letter letter (left fs))
unfolding kinds_of line_of_letter
letter_agrees letter f fs =
    by_eq letter 97 (λ is. rw is (fields_agree 0 request_kinds fs ∙ sym (finished_well (taken_kinds request_kinds (left fs)) _ refl)))
    (λ a. by_eq letter 112 (λ is. rw is (fields_agree 0 request_kinds fs ∙ sym (finished_well (taken_kinds request_kinds (left fs)) _ refl)))
    (λ p. by_eq letter 114 (λ is. rw is (fields_agree 0 reserve_kinds fs ∙ sym (finished_well (taken_kinds reserve_kinds (left fs)) _ refl)))
    (λ r. by_eq letter 102 (λ is. rw is (fields_agree 0 refund_kinds fs ∙ sym (finished_well (taken_kinds refund_kinds (left fs)) _ refl)))
    (λ f'. by_eq letter 100 (λ is. rw is (fields_agree 0 remove_kinds fs ∙ sym (finished_well (taken_kinds remove_kinds (left fs)) _ refl)))
    (λ d. by_eq letter 115 (λ is. rw is (fields_agree 0 set_up_kinds fs ∙ sym (finished_well (taken_kinds set_up_kinds (left fs)) _ refl)))
    (λ s. rw (ne_eqb _ _ a, ne_eqb _ _ p, ne_eqb _ _ r, ne_eqb _ _ f', ne_eqb _ _ d, ne_eqb _ _ s)))))))

-- By the first field.
first_agrees : (f : List ℕ) (fs : List (List ℕ)) → is_fine (reason_of_fields (f ∷ fs)) ≡ is_well_formed (line_of_fields (f ∷ fs))
unfolding letter_in
first_agrees [] fs = refl
first_agrees (b ∷ []) fs = letter_agrees b (b ∷ []) fs
first_agrees (b ∷ b' ∷ bs) fs = rw (ne_eqb (length (b ∷ b' ∷ bs)) 1 (λ one. omega arith))

fields_or_blank : (fs : List (List ℕ)) → is_fine (reason_of_fields fs) ≡ is_well_formed (line_of_fields fs)
fields_or_blank [] = refl
fields_or_blank (f ∷ fs) = first_agrees f fs

pub has_reason_exactly_if_malformed : (bytes : List ℕ) → is_fine (reason_of bytes) ≡ is_well_formed (line_of bytes)
unfolding reason_of line_of fields
has_reason_exactly_if_malformed [] = refl
has_reason_exactly_if_malformed (b ∷ bs) =
    let some = ne_eqb (length (b ∷ bs)) 0 (λ none. omega arith) in
    by_test (leb (length (b ∷ bs)) longest_line) (λ short. rw (some, short) (fields_or_blank (fields (b ∷ bs)))) (λ long. rw (some, long))
