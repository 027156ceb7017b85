-- `searches::newton::fall` meets its contract. The loop's invariant: the search may begin at the place, and the place has its values. The measure is how
-- high it is. What a turn may conclude is in `Falls.antt` of `cubic`. Assumes nothing.
use Rattle.cubic.specs.Sides.{Falling}
use Rattle.searches.proofs.newton.fall.Given as goal

abbrev pub invariant-loop-cubic : goal.invariant-loop-cubic
invariant-loop-cubic l = Falling l.cubic.a l.cubic.b l.place.high l.place.room l.place.slope

abbrev pub decreases-loop-cubic : goal.decreases-loop-cubic
decreases-loop-cubic l = l.place.high
