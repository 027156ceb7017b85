-- docs/RULES.md, "Replies": what a state is checked for before it is answered, in the order of its table.
use Rattle.std.specs.Prelude.{◌≡◌, List, [], ◌∷◌, ◌++◌, ℕ, ◌<◌}
use Rattle.refusals.specs.Checks.{Check, ◌if◌}
use Rattle.fluid.specs.declared.choice.Fluid.{Fluid}
use Rattle.fluid.specs.Figures.{number_of, coldest, hottest, lowest, highest}

-- the number is a fluid's, and of that fluid something holds
pub record OfFluid (number : ℕ) (Holds : Fluid → Type 0) : Type 0 where
  pub fluid : Fluid
  pub is_number : number ≡ number_of fluid
  pub holds : Holds fluid

abbrev pub fluid_checks : (number : ℕ) → List Check
fluid_checks number = 1 if ((fluid : Fluid) → number ≡ number_of fluid → ⊥) ∷ []

-- each side of a range has its number
abbrev pub temperature_checks : (number millikelvin : ℕ) → List Check
temperature_checks number millikelvin =
    21 if OfFluid number (λ fluid. millikelvin < coldest fluid) ∷ 22 if (hottest < millikelvin) ∷ []

abbrev pub pressure_checks : (pascals : ℕ) → List Check
pressure_checks pascals = 31 if (pascals < lowest) ∷ 32 if (highest < pascals) ∷ []

abbrev pub range_checks : (number millikelvin pascals : ℕ) → List Check
range_checks number millikelvin pascals = temperature_checks number millikelvin ++ pressure_checks pascals

abbrev pub state_checks : (number millikelvin pascals : ℕ) → List Check
state_checks number millikelvin pascals = fluid_checks number ++ range_checks number millikelvin pascals
