-- What is proved of a band beside its contract: the contract fixes the reply; at every scaling between the two the gas root lies between the two answered;
-- and 13 is told exactly where the scalings are not allowed. Assumes nothing.
use mathlib.Core.Path.{◌≡◌, refl, sym, ap, ap₂, ◌∙◌}
use mathlib.Core.Logic.{◌⊎◌, inl, inr, ◌↔◌}
use Prim.Native.Nat.{ℕ, ◌≤◌}
use native.Mathlib.Nat.{le_refl, le_antisymm}
use Rattle.std.specs.Prelude.{Result, Ok, Err}
use Rattle.refusals.specs.Checks.{NoneOf, FirstOf}
use Rattle.refusals.specs.declared.Refusal.{Refusal}
use Rattle.refusals.specs.declared.Refusal.TheVariants.{ScalingOutOfRange}
use Rattle.refusals.specs.Numbers.{number_of_refusal}
use Rattle.refusals.proofs.Lists.{none_behind}
use Rattle.refusals.proofs.Theorems.{number_determines_refusal, never_zero, First, first_or_none, tells_once, not_answered_is_refused, zero_is_answered}
use Rattle.cubic.proofs.Theorems.{gas_root_exists}
use Rattle.cubic.proofs.Attraction.{gas_falls_as_a_grows}
use Rattle.fluid.specs.Checks.{state_checks}
use Rattle.fluid.proofs.Accepting.{state_decided}
use Rattle.fluid.proofs.Theorems.{reached_once, reached_exists}
use Rattle.bands.specs.declared.replies.Band.{Band}
use Rattle.bands.specs.declared.replies.BandFigures.{BandFigures}
use Rattle.bands.specs.Scalings.{scaled, ScaledGasRoot, NotAllowed, scaling_checks, all_checks, Allowed}
use Rattle.bands.specs.Replies.{answered_with, refused_with, figures_of, Answered, Replies}
use Rattle.bands.proofs.Scaling.{allowed_or_not, scaled_rises}
use Rattle.bands.proofs.Banding.{tells_of_state, tells_of_scalings, tells_ends}

abbrev number_in : BandFigures → ℕ
number_in figures = figures.number

abbrev lower_in : BandFigures → ℕ
lower_in figures = figures.at_lower

abbrev upper_in : BandFigures → ℕ
upper_in figures = figures.at_upper

abbrev band_of : (at_lower at_upper : ℕ) → Band
band_of at_lower at_upper = record { at_lower = at_lower; at_upper = at_upper }

made : (number at_lower at_upper : ℕ) → BandFigures
made number at_lower at_upper = record { number = number; at_lower = at_lower; at_upper = at_upper }

-- figures have one reply, and a reply one set of figures
pub figures_determine_band_reply : (r s : Result Band Refusal) → figures_of r ≡ figures_of s → r ≡ s
figures_determine_band_reply (Ok band) (Ok band') same = ap₂ (λ at_lower at_upper. Ok (band_of at_lower at_upper)) (ap lower_in same) (ap upper_in same)
figures_determine_band_reply (Ok band) (Err refusal) same = absurd (never_zero refusal (sym (ap number_in same)))
figures_determine_band_reply (Err refusal) (Ok band) same = absurd (never_zero refusal (ap number_in same))
figures_determine_band_reply (Err refusal) (Err refusal') same = ap Err (number_determines_refusal refusal refusal' (ap number_in same))

pub band_figures_determined : (reply : Result Band Refusal) {f g : BandFigures} → f ≡ figures_of reply → g ≡ figures_of reply → f ≡ g
band_figures_determined reply p q = p ∙ sym q

module _ (number millikelvin pascals : ℕ) where
  -- more attraction, no larger gas root
  pub gas_falls_as_scaling_grows : {lower upper at_lower at_upper : ℕ} → lower ≤ upper → ScaledGasRoot number millikelvin pascals lower at_lower → ScaledGasRoot number millikelvin pascals upper at_upper → at_upper ≤ at_lower
  gas_falls_as_scaling_grows in_order p q =
      let same : p.reached ≡ q.reached = reached_once number millikelvin pascals p.reached q.reached p.reaches q.reaches in
      gas_falls_as_a_grows q.reached.reduced.b (scaled_rises q.reached.reduced.a in_order) (rw same at p.is_gas) q.is_gas

  -- so at each scaling there is one at most, and an accepted state has one
  pub scaled_gas_root_unique : {thousandths gas gas' : ℕ} → ScaledGasRoot number millikelvin pascals thousandths gas → ScaledGasRoot number millikelvin pascals thousandths gas' → gas ≡ gas'
  scaled_gas_root_unique {thousandths} p q = le_antisymm (gas_falls_as_scaling_grows (le_refl thousandths) q p) (gas_falls_as_scaling_grows (le_refl thousandths) p q)

  pub scaled_gas_root_exists : NoneOf (state_checks number millikelvin pascals) → (thousandths : ℕ) → (gas : ℕ) × ScaledGasRoot number millikelvin pascals thousandths gas
  scaled_gas_root_exists none thousandths =
      let state = reached_exists number millikelvin pascals none in
      let gas = gas_root_exists (scaled state.0.reduced.a thousandths) state.0.reduced.b in
      (gas.0, record { reached = state.0; reaches = state.1; is_gas = gas.1 })

  module _ (lower upper : ℕ) where
    answered_once : (f g : BandFigures) → Answered number millikelvin pascals lower upper f → Answered number millikelvin pascals lower upper g → f ≡ g
    unfolding made
    answered_once f g p q =
        let same_number : f.number ≡ g.number = p.is_answered ∙ sym q.is_answered in
        let same_lower : f.at_lower ≡ g.at_lower = scaled_gas_root_unique p.is_at_lower q.is_at_lower in
        let same_upper : f.at_upper ≡ g.at_upper = scaled_gas_root_unique p.is_at_upper q.is_at_upper in
        let fields : made f.number f.at_lower f.at_upper ≡ made g.number g.at_lower g.at_upper = cc in
        fields

    pub told_once : (f g : BandFigures) → Replies number millikelvin pascals lower upper f → Replies number millikelvin pascals lower upper g → f ≡ g
    told_once = tells_once (all_checks number millikelvin pascals lower upper) (λ refusal f g p q. p ∙ sym q) answered_once

    pub band_determined : (r s : Result Band Refusal) → Replies number millikelvin pascals lower upper (figures_of r) → Replies number millikelvin pascals lower upper (figures_of s) → r ≡ s
    band_determined r s p q = figures_determine_band_reply r s (told_once (figures_of r) (figures_of s) p q)

    -- every band has a reply
    pub every_band_has_a_reply : (reply : Result Band Refusal) × Replies number millikelvin pascals lower upper (figures_of reply)
    every_band_has_a_reply = by_checks (first_or_none (state_checks number millikelvin pascals) (state_decided number millikelvin pascals)) (allowed_or_not lower upper)
      where
        by_checks : First (state_checks number millikelvin pascals) ⊎ NoneOf (state_checks number millikelvin pascals) → Allowed lower upper ⊎ NotAllowed lower upper → (reply : Result Band Refusal) × Replies number millikelvin pascals lower upper (figures_of reply)
        by_checks (inl first) scalings = (Err first.0, tells_of_state number millikelvin pascals lower upper (number_of_refusal first.0) first.1)
        by_checks (inr none) (inr not_allowed) = (Err ScalingOutOfRange, tells_of_scalings number millikelvin pascals lower upper none not_allowed)
        by_checks (inr none) (inl allowed) =
            let at_lower = scaled_gas_root_exists none lower in
            let at_upper = scaled_gas_root_exists none upper in
            (Ok (band_of at_lower.0 at_upper.0), tells_ends number millikelvin pascals lower upper none allowed at_lower.1 at_upper.1)

    module _ (figures : BandFigures) (replies : Replies number millikelvin pascals lower upper figures) where
      answered : figures.number ≡ 0 → Allowed lower upper × Answered number millikelvin pascals lower upper figures
      answered is_0 =
          let told = zero_is_answered number_in (all_checks number millikelvin pascals lower upper) refl (λ refusal told. ap number_in told) is_0 replies in
          (passed (none_behind (state_checks number millikelvin pascals) (scaling_checks lower upper) told.0).0 (allowed_or_not lower upper), told.1)
        where
          passed : (NotAllowed lower upper → ⊥) → Allowed lower upper ⊎ NotAllowed lower upper → Allowed lower upper
          passed none (inl allowed) = allowed
          passed none (inr not_allowed) = absurd (none not_allowed)

      -- at every scaling from the lower to the upper, the ends included, the gas root lies between the two answered
      pub every_scaling_lies_between : figures.number ≡ 0 → {thousandths gas : ℕ} → lower ≤ thousandths → thousandths ≤ upper → ScaledGasRoot number millikelvin pascals thousandths gas → (figures.at_upper ≤ gas) × (gas ≤ figures.at_lower)
      every_scaling_lies_between is_0 from_lower to_upper at_scaling =
          let ends = (answered is_0).1 in
          (gas_falls_as_scaling_grows to_upper at_scaling ends.is_at_upper, gas_falls_as_scaling_grows from_lower ends.is_at_lower at_scaling)

      -- so the root at the lower scaling is not the smaller one
      pub ends_in_order : figures.number ≡ 0 → figures.at_upper ≤ figures.at_lower
      ends_in_order is_0 =
          let told = answered is_0 in
          gas_falls_as_scaling_grows told.0.in_order told.1.is_at_lower told.1.is_at_upper

      -- the state's own refusals come first, with zeros
      pub state_is_told_first : (refusal : ℕ) → FirstOf (state_checks number millikelvin pascals) refusal → figures ≡ refused_with refusal
      state_is_told_first refusal first = told_once figures (refused_with refusal) replies (tells_of_state number millikelvin pascals lower upper refusal first)

      -- and then 13, exactly where the scalings are out of order or range
      module _ (none : NoneOf (state_checks number millikelvin pascals)) where
        pub not_allowed_is_told : NotAllowed lower upper → figures ≡ refused_with 13
        not_allowed_is_told not_allowed = told_once figures (refused_with 13) replies (tells_of_scalings number millikelvin pascals lower upper none not_allowed)

        pub ends_are_told : {at_lower at_upper : ℕ} → Allowed lower upper → ScaledGasRoot number millikelvin pascals lower at_lower → ScaledGasRoot number millikelvin pascals upper at_upper → figures ≡ answered_with at_lower at_upper
        ends_are_told {at_lower} {at_upper} allowed is_at_lower is_at_upper =
            told_once figures (answered_with at_lower at_upper) replies (tells_ends number millikelvin pascals lower upper none allowed is_at_lower is_at_upper)

        pub answered_exactly : figures.number ≡ 0 ↔ Allowed lower upper
        answered_exactly = (λ is_0. (answered is_0).0, λ allowed. ap number_in (ends_are_told allowed (scaled_gas_root_exists none lower).1 (scaled_gas_root_exists none upper).1))

      pub refused_band_carries_zeros : (figures.number ≡ 0 → ⊥) → figures ≡ refused_with figures.number
      refused_band_carries_zeros refused =
          let told : figures ≡ refused_with _ = (not_answered_is_refused (λ given. refused given.is_answered) replies).1 in
          told ∙ ap refused_with (sym (ap number_in told))

  -- a band of scalings that lie within those of another lies within that band
  pub narrower_band_lies_within : {lower upper from to : ℕ} (wide narrow : BandFigures) → Replies number millikelvin pascals lower upper wide → Replies number millikelvin pascals from to narrow → wide.number ≡ 0 → narrow.number ≡ 0 → lower ≤ from → to ≤ upper → (wide.at_upper ≤ narrow.at_upper) × (narrow.at_lower ≤ wide.at_lower)
  narrower_band_lies_within {lower} {upper} {from} {to} wide narrow told told' is_0 is_0' from_lower to_upper =
      let ends = (answered lower upper wide told is_0).1 in
      let inner = (answered from to narrow told' is_0').1 in
      (gas_falls_as_scaling_grows to_upper inner.is_at_upper ends.is_at_upper, gas_falls_as_scaling_grows from_lower ends.is_at_lower inner.is_at_lower)
