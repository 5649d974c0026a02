-- A settings line is put number by number, and what is put is the line of the definition.
use Rattle.std.proofs.Common.{Option, Some, None}
use Prim.Native.Nat.{ℕ, ◌+◌, ◌≤◌}
use native.Mathlib.Omega.{arith}
use native.Mathlib.Numerals.{add-one}
use mathlib.Core.Path.{◌≡◌, refl, sym, ap, ◌∙◌}
use mathlib.Core.List.{List, [], ◌∷◌, ◌++◌, append_assoc}
use lib.ListN.{length, set, length-append}
use Rattle.rows.specs.Outcome.{outcome}
use Rattle.decimal.specs.Decimal.{digits_of}
use Rattle.desk_lines.specs.Fields.{space}
use Rattle.desk_lines.specs.Printed.{line_feed, printed_field, written_over}
use Rattle.desk_lines.proofs.PrintLaws.{field_short}
use Rattle.desk_writer.specs.Writer.{field, spaced}
use Rattle.lesson_lines.specs.declared.Limits.{Limits}
use Rattle.lesson_lines.specs.Written.{idle_field, six_numbers}
use Rattle.lesson_writer.specs.Lines.{idle_printed, four_printed, room_printed, limits_line}

-- Two bytes put one after the other.
pub two_bytes : (bytes : List ℕ) (at x y : ℕ) → outcome (at + 2) (set (set bytes at x) (at + 1) y) ≡ written_over (x ∷ y ∷ []) at bytes
two_bytes bytes at x y = rw add-one

-- How many bytes the parts have.
pub idle_short : (idle : Option ℕ) → length (idle_printed idle) ≤ 21
idle_short (Some n) = field_short n space
idle_short None = omega arith

pub four_short : (a b c d : ℕ) → length (four_printed a b c d) ≤ 84
four_short a b c d =
    omega (
      arith,
      field_short a space,
      field_short b space,
      field_short c space,
      field_short d space,
      length-append (printed_field a space) (printed_field b space ++ (printed_field c space ++ printed_field d space)),
      length-append (printed_field b space) (printed_field c space ++ printed_field d space),
      length-append (printed_field c space) (printed_field d space),
    )

-- A field with the space behind it, and one with the space in front.
shifted : (n : ℕ) (bs : List ℕ) → space ∷ (printed_field n space ++ bs) ≡ field n ++ (space ∷ bs)
shifted n bs = ap (λ (x : List ℕ). space ∷ x) (append_assoc (digits_of n) (space ∷ []) bs)

idle_shifted : (idle : Option ℕ) (bs : List ℕ) → space ∷ (idle_printed idle ++ bs) ≡ idle_field idle ++ (space ∷ bs)
idle_shifted (Some n) bs = shifted n bs
idle_shifted None bs = refl

-- What is put is the line.
spaced_then : (n : ℕ) (ns bs : List ℕ) → spaced (n ∷ ns) ++ bs ≡ field n ++ (spaced ns ++ bs)
unfolding spaced
spaced_then n ns bs = append_assoc (field n) (spaced ns) bs

spaced_none : (bs : List ℕ) → spaced [] ++ bs ≡ bs
unfolding spaced
spaced_none bs = refl

four_shifted : (a b c d : ℕ) (bs : List ℕ) → space ∷ (four_printed a b c d ++ bs) ≡ field a ++ (field b ++ (field c ++ (field d ++ (space ∷ bs))))
four_shifted a b c d bs =
    let second = printed_field b space ++ (printed_field c space ++ printed_field d space) in
    ap (λ (x : List ℕ). space ∷ x) (append_assoc (printed_field a space) second bs)
    ∙ shifted a (second ++ bs)
    ∙ ap (λ (x : List ℕ). field a ++ x)
    (ap (λ (x : List ℕ). space ∷ x) (append_assoc (printed_field b space) (printed_field c space ++ printed_field d space) bs)
    ∙ shifted b ((printed_field c space ++ printed_field d space) ++ bs)
    ∙ ap (λ (x : List ℕ). field b ++ x) (ap (λ (x : List ℕ). space ∷ x) (append_assoc (printed_field c space) (printed_field d space) bs)
    ∙ shifted c (printed_field d space ++ bs)
    ∙ ap (λ (x : List ℕ). field c ++ x) (shifted d bs)))

room_shifted : (modems shards : ℕ) (idle : Option ℕ) (rule : ℕ)
    → space ∷ room_printed modems shards idle rule ≡ field modems ++ (field shards ++ (idle_field idle ++ (field rule ++ (line_feed ∷ []))))
room_shifted modems shards idle rule =
    shifted modems (printed_field shards space ++ (idle_printed idle ++ printed_field rule line_feed))
    ∙ ap (λ (x : List ℕ). field modems ++ x) (shifted shards (idle_printed idle ++ printed_field rule line_feed)
    ∙ ap (λ (x : List ℕ). field shards ++ x) (idle_shifted idle (printed_field rule line_feed)))

six_spaced : (a b c d e f : ℕ) (bs : List ℕ) → spaced (a ∷ b ∷ c ∷ d ∷ e ∷ f ∷ []) ++ bs
    ≡ field a ++ (field b ++ (field c ++ (field d ++ (field e ++ (field f ++ bs)))))
six_spaced a b c d e f bs =
    rw (
      spaced_then a (b ∷ c ∷ d ∷ e ∷ f ∷ []) bs,
      spaced_then b (c ∷ d ∷ e ∷ f ∷ []) bs,
      spaced_then c (d ∷ e ∷ f ∷ []) bs,
      spaced_then d (e ∷ f ∷ []) bs,
      spaced_then e (f ∷ []) bs,
      spaced_then f [] bs,
      spaced_none bs,
    )

pub put_is_the_line : (l : Limits) → (115 ∷ space ∷ []) ++ (four_printed l.amount l.period l.burst l.initial
    ++ room_printed l.modems l.shards l.idle l.when_full) ≡ limits_line l
put_is_the_line l =
    let tail = idle_field l.idle ++ field l.when_full in
    let room = room_printed l.modems l.shards l.idle l.when_full in
    let ends : tail ++ (line_feed ∷ []) ≡ idle_field l.idle ++ (field l.when_full ++ (line_feed ∷ [])) =
    append_assoc (idle_field l.idle) (field l.when_full) (line_feed ∷ []) in
    let right : limits_line l ≡ 115 ∷ (spaced (six_numbers l) ++ (tail ++ (line_feed ∷ []))) =
    ap (λ (x : List ℕ). 115 ∷ x) (append_assoc (spaced (six_numbers l)) tail (line_feed ∷ [])) in
    ap (λ (x : List ℕ). 115 ∷ x) (four_shifted l.amount l.period l.burst l.initial room
    ∙ ap (λ (x : List ℕ). field l.amount ++ (field l.period ++ (field l.burst ++ (field l.initial ++ x))))
    (room_shifted l.modems l.shards l.idle l.when_full ∙ ap (λ (x : List ℕ). field l.modems ++ (field l.shards ++ x)) (sym ends))
    ∙ sym (six_spaced l.amount l.period l.burst l.initial l.modems l.shards (tail ++ (line_feed ∷ []))))
    ∙ sym right
