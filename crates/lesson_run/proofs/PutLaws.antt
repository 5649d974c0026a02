-- What a writer left in the buffer.
use Rattle.std.proofs.Common.{◌≡◌, ℕ, ◌<◌, ◌≤◌, List, [], ◌∷◌, ◌++◌, length, take, drop, ap, ◌∙◌, zero-add, arith, length-append, le-leb, Option, Some, None}
use lib.Seq.{sets-eq, take-append_seam}
use Rattle.rows.specs.Outcome.{outcome}
use Rattle.rows.proofs.OutcomeLaws.{answer_is, after_is}
use Rattle.decimal.proofs.WriteLaws.{digits_count}
use Rattle.desk_lines.specs.Printed.{written_over, line_feed}
use Rattle.desk_writer.specs.declared.DeskCall.{DeskCall}
use Rattle.desk_writer.specs.declared.DeskCall.TheVariants.{Try, Peek, Reserve, Refund, Remove}
use Rattle.desk_writer.specs.declared.Written.{Written}
use Rattle.desk_writer.specs.Writer.{spaced, request_numbers, written_line, written}
use Rattle.desk_writer.proofs.SizeLaws.{spaced_none_size, spaced_size, spaced_append_size, line_size}
use Rattle.desk_writer.proofs.ReadBackLaws.{buffer_begins_with_the_line}
use Rattle.lesson_lines.specs.declared.Limits.{Limits}
use Rattle.lesson_lines.specs.Written.{idle_field, limits_bytes}
use Rattle.lesson_lines.proofs.SizeLaws.{limits_size_is}
use Rattle.lesson_writer.specs.Lines.{limits_line}

-- A line has at most 86 bytes, whatever its numbers are.
three_short : (a b c : ℕ) → length (spaced (a ∷ b ∷ c ∷ [])) ≤ 63
three_short a b c =
    omega (arith, spaced_size a (b ∷ c ∷ []), spaced_size b (c ∷ []), spaced_size c [], spaced_none_size, digits_count a, digits_count b, digits_count c)

pub line_short : (call : DeskCall) → length (written_line call) ≤ 86
line_short (Try q) = omega (arith, line_size (Try q), three_short q.at.0 q.key q.cost)
line_short (Peek q) = omega (arith, line_size (Peek q), three_short q.at.0 q.key q.cost)
line_short (Reserve q w) =
    omega (
      arith,
      line_size (Reserve q w),
      spaced_append_size (request_numbers q) (w.0 ∷ []),
      three_short q.at.0 q.key q.cost,
      spaced_size w.0 [],
      spaced_none_size,
      digits_count w.0,
    )
line_short (Refund key cost) =
    omega (arith, line_size (Refund key cost), spaced_size key (cost ∷ []), spaced_size cost [], spaced_none_size, digits_count key, digits_count cost)
line_short (Remove key) = omega (arith, line_size (Remove key), spaced_size key [], spaced_none_size, digits_count key)

-- A call's line.
module _ (call : DeskCall) (out : List ℕ) {r : Written} {out' : List ℕ} (room : 170 ≤ length out) (gave : outcome r out' ≡ written call out) where
  has_room : length (written_line call) ≤ length out
  has_room = omega (arith, line_short call)

  size_is : (written call out).answer.size ≡ length (written_line call)
  unfolding written
  size_is = rw (le-leb (length (written_line call)) (length out) has_room)

  pub line_size_is : r.size ≡ length (written_line call)
  line_size_is = ap (λ (w : Written). w.size) (answer_is gave) ∙ size_is

  pub line_is_put : take r.size out' ≡ written_line call
  line_is_put = rw (line_size_is, after_is gave) (buffer_begins_with_the_line call out has_room)

  pub line_is_some : 0 < r.size
  line_is_some = omega (arith, line_size_is, line_size call)

  pub line_is_inside : r.size ≤ length out
  line_is_inside = omega (arith, line_size_is, has_room)

-- A settings line.
idle_short : (idle : Option ℕ) → length (idle_field idle) ≤ 21
idle_short (Some n) = omega (arith, digits_count n)
idle_short None = omega arith

pub limits_short : (l : Limits) → length (limits_line l) ≤ 170
limits_short l =
    omega (
      arith,
      length-append (limits_bytes l) (line_feed ∷ []),
      limits_size_is l,
      digits_count l.amount,
      digits_count l.period,
      digits_count l.burst,
      digits_count l.initial,
      digits_count l.modems,
      digits_count l.shards,
      idle_short l.idle,
      digits_count l.when_full,
    )

module _ (l : Limits) (out : List ℕ) {r : ℕ} {out' : List ℕ} (room : 170 ≤ length out) (gave : outcome r out' ≡ written_over (limits_line l) 0 out) where
  limits_room : length (limits_line l) ≤ length out
  limits_room = omega (arith, limits_short l)

  pub limits_size_is_length : r ≡ length (limits_line l)
  limits_size_is_length = omega (arith, answer_is gave)

  pub limits_are_put : take r out' ≡ limits_line l
  limits_are_put =
      let left : out' ≡ limits_line l ++ drop (length (limits_line l)) out =
      after_is gave ∙ rw zero-add at (sets-eq (limits_line l) out 0 (rw zero-add limits_room)) in
      rw (limits_size_is_length, left) (take-append_seam (limits_line l) (drop (length (limits_line l)) out))

  pub limits_are_some : 0 < r
  limits_are_some = omega (arith, limits_size_is_length, length-append (limits_bytes l) (line_feed ∷ []))

  pub limits_are_inside : r ≤ length out
  limits_are_inside = omega (arith, limits_size_is_length, limits_room)
