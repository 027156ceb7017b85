-- docs/RULES.md, "Fluids": the number, the constants and the range of each fluid.
use Rattle.std.specs.Prelude.{ℕ, ◌+◌, ◌*◌, ◌/◌, ◌≤◌}
use Rattle.fluid.specs.declared.choice.Fluid.{Fluid}
use Rattle.fluid.specs.declared.choice.Fluid.TheVariants.{Hydrogen, Oxygen, Nitrogen}

abbrev pub number_of : Fluid → ℕ
number_of Hydrogen = 0
number_of Oxygen = 1
number_of Nitrogen = 2

-- 2.01594, 31.9988 and 28.0134, in hundred-thousandths
abbrev pub molar_mass : Fluid → ℕ
molar_mass Hydrogen = 201594
molar_mass Oxygen = 3199880
molar_mass Nitrogen = 2801340

-- The one form of (2.1-15) and (2.1-16) in TM-564: what comes to `hot` in hot hydrogen is lower in cold.
unfoldable pub lowered : (hot shift millikelvin : ℕ) → ℕ
lowered hot shift millikelvin =
    let m : ℕ = molar_mass Hydrogen * millikelvin in
    hot * m / (m + shift)

-- Hydrogen's depend on the temperature (43.6 K and 21.8 K; 20.2 atm and 44.2 K), oxygen's are those of TM-564's Table 1 and
-- nitrogen's those of JAXA-RM-13-019's Table 2.
abbrev pub critical_millikelvin : Fluid → (millikelvin : ℕ) → ℕ
critical_millikelvin Hydrogen millikelvin = lowered 43600 2180000000 millikelvin
critical_millikelvin Oxygen millikelvin = 154576
critical_millikelvin Nitrogen millikelvin = 126192

abbrev pub critical_pascals : Fluid → (millikelvin : ℕ) → ℕ
critical_pascals Hydrogen millikelvin = lowered 2046765 4420000000 millikelvin
critical_pascals Oxygen millikelvin = 5042000
critical_pascals Nitrogen millikelvin = 3395800

-- the ranges, their ends included
abbrev pub coldest : Fluid → ℕ
coldest Hydrogen = 14000
coldest Oxygen = 56000
coldest Nitrogen = 64000

abbrev pub hottest : ℕ
hottest = 1000000

abbrev pub lowest : ℕ
lowest = 10000

abbrev pub highest : ℕ
highest = 50000000

pub record Accepted (fluid : Fluid) (millikelvin pascals : ℕ) : Type 0 where
  pub from_coldest : coldest fluid ≤ millikelvin
  pub to_hottest : millikelvin ≤ hottest
  pub from_lowest : lowest ≤ pascals
  pub to_highest : pascals ≤ highest
