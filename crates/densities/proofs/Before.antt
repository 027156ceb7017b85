-- The gas constant oversells no order: no density is above the one with the memorandum's, 8314. Assumes nothing.
use mathlib.Core.Path.{◌≡◌}
use Prim.Native.Nat.{ℕ, ◌*◌, ◌/◌, ◌≤◌}
use native.Mathlib.Nat.{le_refl, mul-div-mul_left}
use native.Mathlib.Omega.{arith}
use Rattle.fluid.specs.declared.choice.Fluid.{Fluid}
use Rattle.fluid.specs.declared.choice.Fluid.TheVariants.{Hydrogen, Oxygen}
use Rattle.fluid.specs.Figures.{molar_mass}
use Rattle.densities.specs.Densities.{gas_constant, density_factor, density}
use Rattle.densities.proofs.Parts.{one_rounding}
use Rattle.numbers.proofs.Quotients.{quotient_grows, quotient_rises}

unfoldable pub density_before : Fluid → (millikelvin pascals root : ℕ) → ℕ
density_before fluid millikelvin pascals root =
    molar_mass fluid * 1000000 * pascals / (8314 * root * millikelvin)

-- as it was written: half of the molar mass over half of 8314
halved : (half millikelvin pascals root : ℕ) → 2 * half * pascals / (8314 * root * millikelvin) ≡ half * pascals / (4157 * root * millikelvin)
halved half millikelvin pascals root =
    let above : 2 * half * pascals ≡ 2 * (half * pascals) = omega arith in
    let below : 8314 * root * millikelvin ≡ 2 * (4157 * root * millikelvin) = omega arith in
    rw (above, below) (mul-div-mul_left (half * pascals) (4157 * root * millikelvin) (omega arith))

module _ (millikelvin pascals root : ℕ) where
  pub hydrogen_as_written : density_before Hydrogen millikelvin pascals root ≡ 100797 * 1000000 * pascals / (4157 * root * millikelvin)
  unfolding density_before
  hydrogen_as_written = halved (100797 * 1000000) millikelvin pascals root

  pub oxygen_as_written : density_before Oxygen millikelvin pascals root ≡ 159994 * 10000000 * pascals / (4157 * root * millikelvin)
  unfolding density_before
  oxygen_as_written = halved (159994 * 10000000) millikelvin pascals root

-- over the gas constant alone, by whatever else it is divided then
less_over_constant : (fluid : Fluid) (pascals : ℕ) → density_factor fluid * pascals / gas_constant ≤ molar_mass fluid * 1000000 * pascals / 8314
less_over_constant fluid pascals =
    let above : density_factor fluid * pascals ≡ 1000000 * (molar_mass fluid * 1000000 * pascals) = omega arith in
    let in_millionths = mul-div-mul_left {m = 1000000} (molar_mass fluid * 1000000 * pascals) 8314 (omega arith) in
    rw (above, ← in_millionths) (quotient_grows (omega arith) (omega arith) (le_refl _))

pub never_above_before : (fluid : Fluid) (millikelvin pascals root : ℕ) → density fluid millikelvin pascals root ≤ density_before fluid millikelvin pascals root
unfolding density density_before
never_above_before fluid millikelvin pascals root =
    let new = one_rounding (density_factor fluid * pascals) gas_constant root millikelvin in
    let old = one_rounding (molar_mass fluid * 1000000 * pascals) 8314 root millikelvin in
    rw (← new, ← old) (quotient_rises (root * millikelvin) (less_over_constant fluid pascals))
