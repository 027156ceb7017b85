-- docs/RULES.md, "Hydrogen's ideal heat capacity": what a reply says of the temperature asked for, which is any double at all.
use Rattle.std.specs.Prelude.{◌≡◌, ℕ, ◌*◌, ◌≤◌, T, Float}
use Rattle.std.specs.Float.Ieee.Positive.{positive, num, den}
use Rattle.heat.specs.Printed.{Range}
use Rattle.heat.specs.Table.{Holds, coefficients_of}
use Rattle.heat.specs.Evaluation.{evaluated}
use Rattle.heat.specs.Replies.{Reply, double, refusal}

-- a number in 14 to 1000, ends included: no NaN and no infinity, and num / den is the exact number
pub record InRange (kelvin : Float) : Type 0 where
  pub is_number : T (positive kelvin)
  pub from_14 : 14 * den kelvin ≤ num kelvin
  pub to_1000 : num kelvin ≤ 1000 * den kelvin

pub record Answered (kelvin heat : Float) : Type 0 where
  pub in_range : InRange kelvin
  pub range : Range
  pub holds : Holds range kelvin
  pub is_evaluated : heat ≡ evaluated (coefficients_of range) kelvin

pub record Refused (kelvin : Float) (number : ℕ) : Type 0 where
  pub is_5 : number ≡ 5
  pub out_of_range : InRange kelvin → ⊥

abbrev pub Answers : Float → Reply → Type 0
Answers kelvin (double heat) = Answered kelvin heat
Answers kelvin (refusal number) = Refused kelvin number
