-- The window with refunds (request 11 of document 02) as it reads for hardware addresses. `Refunds` of crate demands has it for identities, in lists that may
-- mix calls by key and by address. Here every call names a modem by the bytes of its address. No two accepted calls name different addresses of one hash, and
-- the calls that count for k are those that name the bytes k (`same_bytes`). The counts and the bound are those of `Refunds`. The claim that allows
-- reservations (`SpanWindow` of `demands`) is not restated here.
--
-- Theorems, in proofs/: `rules_keep_the_address_refund_window`, `demand2_keeps_the_address_refund_window`, `contracts_keep_the_address_refund_window`,
-- `exports_keep_the_address_refund_window`.
use Rattle.std.specs.Prelude.{ℕ, ◌≤◌, Bool, List}
use Rattle.settings.specs.declared.Settings.{Settings}
use Rattle.settings.specs.declared.rate.Rate.{Rate}
use Rattle.rules.specs.Calls.{Answered}
use Rattle.demands.specs.Demands.{Limiter, SameSettings, TimesNeverFall}
use Rattle.demands.specs.Refunds.{NeverReserved, NeverRemoved, called_of, refunded_of, WithinRefunds, OfFreshLists}
use Rattle.demands_modems.specs.AddressDemands.{same_bytes, addressed, NoSharedHash}

module _ {S : Type 0} (means : S → Settings) (fit : S → Bool) where
  -- One list stays within the window with refunds, for every address.
  abbrev pub WithinAddressRefundWindow : Settings → Rate → List (Answered S (List ℕ)) → Type 0
  WithinAddressRefundWindow s rate answered =
      let terms = addressed means fit in
      SameSettings terms s answered → TimesNeverFall terms 0 answered → NoSharedHash means fit answered →
      (k : List ℕ) →
      let own : List ℕ → Bool = λ bytes. same_bytes bytes k in
      NeverRemoved terms own answered → NeverReserved terms own answered →
      (t u : ℕ) → t ≤ u → WithinRefunds rate (refunded_of own) (called_of own t u) t u answered

  -- Every list does that starts from a fresh store, with a rate set, under RefuseNew.
  abbrev pub AddressRefundWindow : Limiter S (List ℕ) → Type 0
  AddressRefundWindow l = OfFreshLists (addressed means fit) WithinAddressRefundWindow l
