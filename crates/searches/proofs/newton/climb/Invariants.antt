-- `searches::newton::climb` meets its contract. The loop's invariant: the search stands at `low`, before the bend. The measure is the way
-- left to the bend. What a turn may conclude is in `Climbs.antt` of `cubic`. Assumes nothing.
use Prim.Native.Nat.{◌-◌}
use Rattle.cubic.specs.Sides.{bend, ClimbsFrom}
use Rattle.searches.proofs.newton.climb.Given as goal

abbrev pub invariant-loop-cubic : goal.invariant-loop-cubic
invariant-loop-cubic l = ClimbsFrom l.cubic.a l.cubic.b l.low

abbrev pub decreases-loop-cubic : goal.decreases-loop-cubic
decreases-loop-cubic l = bend - l.low
