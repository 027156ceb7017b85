-- `fluid::choice::ratios_of` meets its contract: each fluid's own constants, or hydrogen's at the temperature, are the definition's, and the
-- quotient of the pressure is the logic's (`is_the_quotient`). Assumes nothing.
use borrow.Author.Rules.{rules}
use native.Mathlib.Omega.{arith}
use Rattle.quotients.proofs.Theorems.{is_the_quotient}
use Rattle.fluid.proofs.Ranges.{hydrogen_spans}
use Rattle.fluid.proofs.choice.ratios_of.Goals as goal

pub ratio-requires : goal.ratio-requires
ratio-requires c =
    omega (arith, c.critical_millikelvin.ensures, c.requires, hydrogen_spans _ _ (rw c.in-Hydrogen.is at c.requires))

pub overflow_cast-critical_pascals : goal.overflow_cast-critical_pascals
overflow_cast-critical_pascals c =
    omega (arith, c.critical_pascals.ensures, hydrogen_spans _ _ (rw c.in-Hydrogen.is at c.requires))

pub returns-in-Hydrogen : goal.returns-in-Hydrogen
returns-in-Hydrogen c = search (rules, is_the_quotient)
