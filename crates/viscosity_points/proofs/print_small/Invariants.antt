-- `viscosity_points::print_small` meets its contract. The loop's invariant: as many densities were asked for as were passed. Assumes nothing.
use mathlib.Core.Path.{◌≡◌}
use Rattle.viscosity_points.proofs.print_small.Given as goal

abbrev pub invariant-loop-thousandths : goal.invariant-loop-thousandths
invariant-loop-thousandths g l = l.asked ≡ l.thousandths
