-- `heat::table_4` meets its contract: all twenty literals are the nearest doubles of the printed decimals, by computing the roundings.
-- Assumes nothing.
use mathlib.Core.Path.{refl}
use lib.Ieee.{of_bits, round}
use Rattle.heat.specs.Printed.{printed}
use Rattle.heat.specs.Table.{nearest_double, coefficients_of}
use Rattle.heat.proofs.table.table_4.Goals as goal

pub returns : goal.returns
unfolding of_bits round printed nearest_double coefficients_of
returns c = refl
