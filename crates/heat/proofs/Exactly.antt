-- What every reply to a temperature is: the double of its range's row where it is in range, and the refusal where it is not.
-- Assumes nothing.
use mathlib.Core.Path.{◌≡◌, refl, ap, ◌∙◌}
use lib.Ieee.{Float}
use lib.Ieee.Positive.{num, den}
use Rattle.heat.specs.declared.replies.HeatCapacity.{HeatCapacity}
use Rattle.heat.specs.declared.replies.HeatCapacity.TheVariants.{KilojoulesPerKilogramKelvin, OutOfRange}
use Rattle.heat.specs.Printed.{Range}
use Rattle.heat.specs.Table.{Holds, coefficients_of}
use Rattle.heat.specs.Evaluation.{evaluated}
use Rattle.heat.specs.Replies.{comes_back}
use Rattle.heat.specs.Promise.{InRange, Answers}
use Rattle.heat.proofs.Ranges.{one_range}

module _ (kelvin : Float) (inside : InRange kelvin) (range : Range) (holds : Holds range kelvin) where
  pub in_range_is_answered : (reply : HeatCapacity) → Answers kelvin (comes_back reply) → reply ≡ KilojoulesPerKilogramKelvin (evaluated (coefficients_of range) kelvin)
  in_range_is_answered (KilojoulesPerKilogramKelvin heat) answers =
      ap KilojoulesPerKilogramKelvin
      (answers.is_evaluated ∙ ap (λ (other : Range). evaluated (coefficients_of other) kelvin) (one_range (num kelvin) (den kelvin) answers.range range answers.holds holds))
  in_range_is_answered OutOfRange answers = absurd (answers.out_of_range inside)

pub out_of_range_is_refused : (kelvin : Float) → (InRange kelvin → ⊥) → (reply : HeatCapacity) → Answers kelvin (comes_back reply) → reply ≡ OutOfRange
out_of_range_is_refused kelvin outside (KilojoulesPerKilogramKelvin heat) answers = absurd (outside answers.in_range)
out_of_range_is_refused kelvin outside OutOfRange answers = refl
