-- The parts of a density: what stands above the bar over the gas constant, which fits in 64 bits, and that one rounding is enough.
-- Assumes nothing.
use mathlib.Core.Path.{◌≡◌}
use Prim.Native.Nat.{ℕ, ◌+◌, ◌*◌, ◌/◌, ◌%◌, ◌≤◌, ◌<◌}
use native.Mathlib.Nat.{le_of_lt, mod-lt, mul-le-mul, mul-le-mul_right, mul_assoc, div-div-eq-div-mul}
use native.Mathlib.Omega.{arith}
use Rattle.fluid.specs.declared.choice.Fluid.{Fluid}
use Rattle.fluid.specs.Figures.{highest}
use Rattle.densities.specs.Densities.{gas_constant, factor_of_molar_mass, density_factor}
use Rattle.fluid.proofs.Fluids.{heaviest}
use Rattle.fluid.proofs.Theorems.{molar_mass_at_most}
use Rattle.numbers.proofs.Quotients.{quotient_rises, in_parts}

-- above every fluid's
abbrev pub largest_factor : ℕ
largest_factor = heaviest * factor_of_molar_mass

pub factor_fits : (fluid : Fluid) → density_factor fluid ≤ largest_factor
factor_fits fluid = omega (arith, molar_mass_at_most fluid)

-- The factor's quotient and remainder over the gas constant, each times the pressure: what is carried on, and that the parts make the whole.
pub record Parts (whole rest pascals quotient : ℕ) : Type 0 where
  pub carried : rest * pascals ≤ gas_constant * pascals
  pub sum : whole * pascals + rest * pascals / gas_constant ≡ quotient
  pub fits : quotient ≤ largest_factor * highest / gas_constant

pub parts : (fluid : Fluid) (pascals : ℕ) → pascals ≤ highest → Parts (density_factor fluid / gas_constant) (density_factor fluid % gas_constant) pascals (density_factor fluid * pascals / gas_constant)
parts fluid pascals few =
    let some : 0 < gas_constant = omega arith in
    record {
      carried = mul-le-mul_right pascals (le_of_lt (mod-lt (density_factor fluid) some));
      sum = in_parts (density_factor fluid) pascals gas_constant some;
      fits = quotient_rises gas_constant (mul-le-mul (factor_fits fluid) few);
    }

-- one rounding down after the other is one
pub one_rounding : (above constant root millikelvin : ℕ) → above / constant / (root * millikelvin) ≡ above / (constant * root * millikelvin)
one_rounding above constant root millikelvin =
    rw (mul_assoc constant root millikelvin) (div-div-eq-div-mul above constant (root * millikelvin))
