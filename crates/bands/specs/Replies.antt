-- docs/RULES.md, "The band": what comes back of a band, and when. A refusal brings its number and zeros.
use Rattle.std.specs.Prelude.{◌≡◌, ℕ, Result, Ok, Err}
use Rattle.refusals.specs.Checks.{Tells}
use Rattle.refusals.specs.Numbers.{number_of_refusal}
use Rattle.refusals.specs.declared.Refusal.{Refusal}
use Rattle.bands.specs.declared.replies.Band.{Band}
use Rattle.bands.specs.declared.replies.BandFigures.{BandFigures}
use Rattle.bands.specs.Scalings.{ScaledGasRoot, all_checks}

abbrev pub answered_with : (at_lower at_upper : ℕ) → BandFigures
answered_with at_lower at_upper = record { number = 0; at_lower = at_lower; at_upper = at_upper }

abbrev pub refused_with : (refusal : ℕ) → BandFigures
refused_with refusal = record { number = refusal; at_lower = 0; at_upper = 0 }

abbrev pub figures_of : Result Band Refusal → BandFigures
figures_of (Ok band) = answered_with band.at_lower band.at_upper
figures_of (Err refusal) = refused_with (number_of_refusal refusal)

abbrev pub NumberAndZeros : (refusal : ℕ) → BandFigures → Type 0
NumberAndZeros refusal figures = figures ≡ refused_with refusal

-- the gas root at each end
pub record Answered (number millikelvin pascals lower upper : ℕ) (figures : BandFigures) : Type 0 where
  pub is_answered : figures.number ≡ 0
  pub is_at_lower : ScaledGasRoot number millikelvin pascals lower figures.at_lower
  pub is_at_upper : ScaledGasRoot number millikelvin pascals upper figures.at_upper

abbrev pub Replies : (number millikelvin pascals lower upper : ℕ) → BandFigures → Type 0
Replies number millikelvin pascals lower upper =
    Tells (all_checks number millikelvin pascals lower upper) NumberAndZeros (Answered number millikelvin pascals lower upper)
