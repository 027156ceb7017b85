-- docs/RULES.md, "Densities": P x M x 1,000,000 over the gas constant x z x T, with M in hundred-thousandths; one division, one rounding down,
-- in grams per cubic metre.
use Rattle.std.specs.Prelude.{ℕ, ◌*◌, ◌/◌}
use Rattle.fluid.specs.declared.choice.Fluid.{Fluid}
use Rattle.fluid.specs.Figures.{molar_mass}

-- 8314.462618 J/(kmol K), taken as exact, in millionths
abbrev pub gas_constant : ℕ
gas_constant = 8314462618

-- one million is a thousand each for millikelvin and grams, and one is for the gas constant's millionths
abbrev pub factor_of_molar_mass : ℕ
factor_of_molar_mass = 1000000 * 1000000

-- What stands above the bar but for the pressure. The molar mass in hundred-thousandths is M x N.
abbrev pub density_factor : Fluid → ℕ
density_factor fluid = molar_mass fluid * factor_of_molar_mass

unfoldable pub density : Fluid → (millikelvin pascals root : ℕ) → ℕ
density fluid millikelvin pascals root =
    density_factor fluid * pascals / (gas_constant * root * millikelvin)
