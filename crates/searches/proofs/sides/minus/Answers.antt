-- `searches::sides::minus` meets its contract: its body is the definition, and its products are bounded. Assumes nothing.
use mathlib.Core.Path.{refl}
use Rattle.cubic.specs.Sides.{minus}
use Rattle.searches.proofs.sides.minus.Goals as goal

pub returns : goal.returns
unfolding minus
returns c = refl
