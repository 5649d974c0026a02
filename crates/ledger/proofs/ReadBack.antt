-- The words of a ledger read back as the ledger, and the ledger that lies in zeros.
use Prim.Native.Nat.{ℕ, ◌+◌, ◌≤◌}
use native.Mathlib.Omega.{arith}
use mathlib.Core.Path.{◌≡◌, refl, ap, ◌∙◌}
use mathlib.Core.List.{List, [], ◌∷◌, ◌++◌}
use lib.ListN.{length, get_or, replicate, length-append}
use lib.Seq.{take_at, drop_at}
use Rattle.rows.specs.Segments.{segment}
use Rattle.rows.proofs.SegmentLaws.{segment_length}
use Rattle.rows.proofs.ZeroLaws.{zeros_segment, zeros_to_the_end}
use Rattle.index.specs.Layout.{places_for, places_of}
use Rattle.held.specs.Held.{by_index}
use Rattle.held.specs.Layout.{index_words}
use Rattle.held.proofs.FindingLaws.{indexed, kind_of, indexed_by_words}
use Rattle.held.proofs.ReadBack.{between_length, table_of_words}
use Rattle.held.proofs.LayoutLaws.{zeros_head, zeros_item}
use Rattle.ledger.specs.Model.{Ledger, cap_of, no_debt, debt_at}
use Rattle.ledger.specs.Layout.{count_at, cursor_at, debts_at, debt_width, others_at, index_at, ledger_words, debt_of, debt_words, ledger_of, ledger, words_of}
use Rattle.ledger.proofs.LayoutLaws.{others_read, finding_read}

-- A ledger with room for cap debts.
module _ (cap : ℕ) (l : Ledger) (room : cap_of l ≡ cap) where
  abbrev past : List ℕ
  past = l.others ++ index_words l.debts.finding

  -- Its words are those of its debts, the others, and the index.
  pub words_length : length (words_of l) ≡ others_at cap + length l.others + length (index_words l.debts.finding)
  unfolding words_of
  words_length =
      let all = between_length debt_words debt_width (λ d. refl) l.debts.places (l.debts.count ∷ l.cursor ∷ []) past room refl in
      all ∙ rw length-append (omega arith)

  -- Nothing of a ledger is lost when it is written as words and read again, where its index and the others have the places that they should have.
  pub ledger_of_words : length l.others ≡ places_for cap → kind_of l.debts.finding ≡ indexed (places_for cap) → ledger cap (words_of l) ≡ l
  unfolding ledger words_of
  ledger_of_words others kind =
      ap (ledger_of cap) (table_of_words debt_words debt_width (λ d. refl) l.debts.places (l.debts.count ∷ l.cursor ∷ []) past room refl debt_of (λ d. refl))
      ∙ rw (
        take_at l.others (index_words l.debts.finding) (places_for cap) others,
        drop_at l.others (index_words l.debts.finding) (places_for cap) others,
        indexed_by_words l.debts.finding (places_for cap) kind,
      )

-- The ledger in words that are all 0 holds no debt, and its cursor stands at the first place. The words past its debts are zeros.
module _ (cap : ℕ) (ws : List ℕ) (zeros : (i : ℕ) → get_or ws i 0 ≡ 0) where
  pub zeros_no_debts : (ledger cap ws).debts.count ≡ 0
  unfolding ledger
  zeros_no_debts = zeros_head debt_of debt_width cap debts_at ws zeros count_at

  pub zeros_are_free_debts : (i : ℕ) → debt_at (ledger cap ws) i ≡ no_debt
  unfolding ledger
  zeros_are_free_debts =
      zeros_item debt_of debt_width cap debts_at ws zeros (λ row blank. λ j. record { hash = blank 0 j; settles = record { 0 = blank 1 j } })

  pub zeros_cursor : (ledger cap ws).cursor ≡ 0
  unfolding ledger
  zeros_cursor = zeros_head debt_of debt_width cap debts_at ws zeros cursor_at

  zeros_part : (a n : ℕ) → a + n ≤ length ws → segment a n ws ≡ replicate n 0
  zeros_part a n inside =
      let long = segment_length a n ws inside in
      zeros_to_the_end (segment a n ws) n n long (omega arith) (λ j below. zeros_segment a n ws zeros j)

  module _ (size : length ws ≡ ledger_words cap) where
    pub zeros_others : (ledger cap ws).others ≡ replicate (places_for cap) 0
    zeros_others = others_read cap ws ∙ zeros_part (others_at cap) (places_for cap) (omega arith)

    pub zeros_finding : (ledger cap ws).debts.finding ≡ by_index (replicate (places_for cap) 0)
    unfolding places_of
    zeros_finding = finding_read cap ws size ∙ ap by_index (zeros_part (index_at cap) (places_for cap) (omega arith))
