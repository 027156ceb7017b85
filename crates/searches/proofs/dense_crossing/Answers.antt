-- `searches::dense_crossing` meets its contract: a start or a guess that is a crossing below the bend is where the search would end. Assumes nothing.
use Rattle.cubic.specs.Sides.{ClimbsTo}
use Rattle.cubic.proofs.Climbs.{ends_at_crossing}
use Rattle.searches.proofs.Ends.{of_cubic}
use Rattle.searches.proofs.dense_crossing.Goals as goal

pub returns-then-crosses : goal.returns-then-crosses
returns-then-crosses c =
    of_cubic ClimbsTo c.in_ok-cubic.ensures
    (ends_at_crossing _ _ (c.on_dense_side.ensures c.if-on_dense_side.true) (c.crosses.ensures c.if-crosses.true))

pub returns-then-crosses-2 : goal.returns-then-crosses-2
returns-then-crosses-2 c =
    of_cubic ClimbsTo c.in_ok-cubic.ensures (ends_at_crossing _ _ c.nearer_dense-tried.ensures (c.crosses-2.ensures c.if-crosses-2.true))
