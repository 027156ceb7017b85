-- docs/RULES.md, "Densities": what `density_of` promises.
use Rattle.std.specs.Prelude.{◌≡◌, ℕ, ◌≤◌, ◌<◌, Option, Some, None}
use Rattle.fluid.specs.declared.choice.Fluid.{Fluid}
use Rattle.fluid.specs.Figures.{hottest, highest}
use Rattle.densities.specs.Densities.{density}

-- the largest root there is: N + b, for the largest b that the cubic takes
abbrev pub largest_root : ℕ
largest_root = 1100000

-- Where 64 bits suffice for the parts of a density and its divisor is not 0. Every root of an accepted state lies within.
pub record Weighable (millikelvin pascals root : ℕ) : Type 0 where
  pub some_temperature : 0 < millikelvin
  pub temperature_fits : millikelvin ≤ hottest
  pub pressure_fits : pascals ≤ highest
  pub some_root : 0 < root
  pub root_fits : root ≤ largest_root

pub record Weighed (fluid : Fluid) (millikelvin pascals root grams : ℕ) : Type 0 where
  pub weighable : Weighable millikelvin pascals root
  pub is_density : grams ≡ density fluid millikelvin pascals root

abbrev pub Weighs : (fluid : Fluid) (millikelvin pascals root : ℕ) → Option ℕ → Type 0
Weighs fluid millikelvin pascals root (Some grams) = Weighed fluid millikelvin pascals root grams
Weighs fluid millikelvin pascals root None = Weighable millikelvin pascals root → ⊥
