-- docs/RULES.md, "Crossings, roots and kinds": what `find` promises of a state, of what its answer comes back as. No starting point occurs here.
use Rattle.std.specs.Prelude.{◌≡◌, ℕ}
use Rattle.refusals.specs.Checks.{Outcome, Gives}
use Rattle.cubic.specs.Cubic.{GasRoot, DenseRoot}
use Rattle.fluid.specs.declared.coefficients.Reduced.{Reduced}
use Rattle.fluid.specs.Figures.{number_of}
use Rattle.fluid.specs.Checks.{state_checks}
use Rattle.fluid.specs.Reduced.{Reduces}
use Rattle.roots.specs.declared.Found.{Found}

pub record HasRoots (number millikelvin pascals : ℕ) (found : Found) : Type 0 where
  pub is_number : number ≡ number_of found.fluid
  pub reduced : Reduced
  pub reduces : Reduces found.fluid millikelvin pascals reduced
  pub is_gas : GasRoot reduced.a reduced.b found.gas
  pub is_dense : DenseRoot reduced.a reduced.b found.dense

abbrev pub Finds : (number millikelvin pascals : ℕ) → Outcome Found → Type 0
Finds number millikelvin pascals = Gives (state_checks number millikelvin pascals) (HasRoots number millikelvin pascals)
