-- `woolyard::woolyard_heat_table` meets its contract: it lays down what the reply's own figures tell. Assumes nothing.
use Rattle.woolyard.proofs.woolyard_heat_table.Goals as goal

pub returns : goal.returns
returns c = rw c.from-told.ensures c.ideal_heat_capacity-reply.ensures
