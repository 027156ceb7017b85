-- `searches::sides::plus` meets its contract: its body is the definition, and its products are bounded. Assumes nothing.
use mathlib.Core.Path.{refl}
use Rattle.cubic.specs.Sides.{plus}
use Rattle.searches.proofs.sides.plus.Goals as goal

pub returns : goal.returns
unfolding plus
returns c = refl
