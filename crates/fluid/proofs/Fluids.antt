-- The fluids one by one: which number is whose, and the bounds that the figures of each keep. Assumes nothing.
use mathlib.Core.Path.{◌≡◌, refl, sym, ap, ◌∙◌}
use Prim.Native.Nat.{ℕ, zero, suc, ◌≤◌, ◌<◌}
use native.Mathlib.Omega.{arith}
use Rattle.fluid.specs.declared.choice.Fluid.{Fluid}
use Rattle.fluid.specs.declared.choice.Fluid.TheVariants.{Hydrogen, Oxygen, Nitrogen}
use Rattle.fluid.specs.Figures.{number_of, molar_mass, coldest, hottest}

abbrev pub last_number : ℕ
last_number = 2

-- a round bound, for whoever works with molar masses in 64 bits
abbrev pub heaviest : ℕ
heaviest = 4000000

-- the same for temperatures
abbrev pub cold : ℕ
cold = 10000

pub record Fits (fluid : Fluid) : Type 0 where
  pub number_fits : number_of fluid ≤ last_number
  pub mass_fits : molar_mass fluid ≤ heaviest
  pub from_cold : cold ≤ coldest fluid
  pub some_range : coldest fluid < hottest

pub fits : (fluid : Fluid) → Fits fluid
fits Hydrogen = omega arith
fits Oxygen = omega arith
fits Nitrogen = omega arith

-- the fluid of a number up to the last
abbrev pub fluid_of : (number : ℕ) → Fluid
fluid_of zero = Hydrogen
fluid_of (suc zero) = Oxygen
fluid_of (suc (suc number)) = Nitrogen

fluid_of_number : (fluid : Fluid) → fluid_of (number_of fluid) ≡ fluid
fluid_of_number Hydrogen = refl
fluid_of_number Oxygen = refl
fluid_of_number Nitrogen = refl

pub number_of_fluid : (number : ℕ) → number ≤ last_number → number ≡ number_of (fluid_of number)
number_of_fluid zero up_to_last = refl
number_of_fluid (suc zero) up_to_last = refl
number_of_fluid (suc (suc number)) up_to_last = omega arith

-- no two fluids have one number, and none has one above the last
pub number_determines_fluid : (f g : Fluid) → number_of f ≡ number_of g → f ≡ g
number_determines_fluid f g same = sym (fluid_of_number f) ∙ ap fluid_of same ∙ fluid_of_number g

pub no_fluid : {number : ℕ} → last_number < number → (fluid : Fluid) → number ≡ number_of fluid → ⊥
no_fluid above fluid is_number = omega (arith, (fits fluid).number_fits)
