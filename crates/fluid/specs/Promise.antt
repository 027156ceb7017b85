-- docs/RULES.md, "From a state to the cubic": what the public calls promise, of what their answers come back as.
use Rattle.std.specs.Prelude.{◌≡◌, ℕ}
use Rattle.refusals.specs.Checks.{Outcome, Gives}
use Rattle.fluid.specs.declared.choice.Fluid.{Fluid}
use Rattle.fluid.specs.declared.coefficients.Reached.{Reached}
use Rattle.fluid.specs.Figures.{number_of}
use Rattle.fluid.specs.Checks.{fluid_checks, state_checks}
use Rattle.fluid.specs.Reduced.{Reduces}

abbrev pub Numbers : (number : ℕ) → Outcome Fluid → Type 0
Numbers number = Gives (fluid_checks number) (λ fluid. number ≡ number_of fluid)

pub record Reaches (number millikelvin pascals : ℕ) (reached : Reached) : Type 0 where
  pub is_number : number ≡ number_of reached.fluid
  pub reduces : Reduces reached.fluid millikelvin pascals reached.reduced

abbrev pub ReducesTo : (number millikelvin pascals : ℕ) → Outcome Reached → Type 0
ReducesTo number millikelvin pascals = Gives (state_checks number millikelvin pascals) (Reaches number millikelvin pascals)
