-- `viscosity::excess_factor` tells the formula's factor of a density in range. Assumes nothing.
use mathlib.Core.Path.{refl}
use native.Mathlib.Omega.{arith}
use Rattle.viscosity.specs.Replies.{answers}
use Rattle.viscosity.proofs.Factors.{factor_of}
use Rattle.viscosity.proofs.excess_factor.Goals as goal

pub returns : goal.returns
returns c =
    answers _ (omega arith) (factor_of _ c.quartic-y.ensures c.squared-square.ensures c.squared-fourth_power.ensures) refl
