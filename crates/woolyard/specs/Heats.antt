-- docs/RULES.md, "Hydrogen's ideal heat capacity": what `woolyard_heat` leaves with its caller: the number, and the 64 bits of the double where there is one.
use Rattle.std.specs.Prelude.{◌≡◌, ℕ, Float}
use Rattle.std.specs.Float.{binary64}
use Rattle.std.specs.Float.Ieee.{to_bits}
use Rattle.heat.specs.declared.replies.HeatCapacity.{HeatCapacity}
use Rattle.heat.specs.declared.replies.HeatCapacity.TheVariants.{KilojoulesPerKilogramKelvin, OutOfRange}
use Rattle.heat.specs.Replies.{comes_back, number_of}
use Rattle.heat.specs.Promise.{Answers}

-- 5 brings no double, so every bit of the caller's own stays
abbrev pub bits_after : (before : ℕ) → HeatCapacity → ℕ
bits_after before (KilojoulesPerKilogramKelvin heat) = to_bits binary64 heat
bits_after before OutOfRange = before

pub record HeatAnswers (kelvin : Float) (before number after : ℕ) : Type 0 where
  pub reply : HeatCapacity
  pub answers : Answers kelvin (comes_back reply)
  pub is_number : number ≡ number_of reply
  pub leaves : after ≡ bits_after before reply
