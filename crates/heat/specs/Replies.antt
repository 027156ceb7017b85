-- docs/RULES.md, "Replies": what comes back for each case of the answer, the double, or the number 5 and no double.
use Rattle.std.specs.Prelude.{ℕ, Float}
use Rattle.heat.specs.declared.replies.HeatCapacity.{HeatCapacity}
use Rattle.heat.specs.declared.replies.HeatCapacity.TheVariants.{KilojoulesPerKilogramKelvin, OutOfRange}

pub data Reply : Type 0 where
  double : Float → Reply
  refusal : ℕ → Reply

abbrev pub comes_back : HeatCapacity → Reply
comes_back (KilojoulesPerKilogramKelvin heat) = double heat
comes_back OutOfRange = refusal 5

abbrev pub number_in : Reply → ℕ
number_in (double heat) = 0
number_in (refusal number) = number

abbrev pub number_of : HeatCapacity → ℕ
number_of heat = number_in (comes_back heat)
