-- `searches::gas_crossing` meets its contract: a start that is a crossing on the gas side is where the search would end, and so is the
-- place below the bend where g is positive from the bend on. Assumes nothing.
use Rattle.cubic.specs.Sides.{FallsTo}
use Rattle.cubic.proofs.Falls.{ends_at_crossing}
use Rattle.searches.proofs.Ends.{of_cubic}
use Rattle.searches.proofs.gas_crossing.Goals as goal

pub returns-then-crosses : goal.returns-then-crosses
returns-then-crosses c =
    of_cubic FallsTo c.in_ok-cubic.ensures
    (ends_at_crossing _ _ (c.on_gas_side.ensures c.if-on_gas_side.true).from_bend (c.crosses.ensures c.if-crosses.true))
