-- `searches::sides::rise` meets its contract: its two sums are the steps of the halves, and their products are bounded. Assumes nothing.
use Rattle.cubic.specs.Sides.{rise, plus_step, minus_step}
use Rattle.searches.proofs.sides.rise.Goals as goal

pub returns : goal.returns
unfolding rise plus_step minus_step
returns c = c.saturating_sub.ensures
