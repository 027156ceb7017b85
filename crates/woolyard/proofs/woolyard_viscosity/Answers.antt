-- `woolyard::woolyard_viscosity` meets its contract: it lays down what the reply's own figures tell. Assumes nothing.
use Rattle.woolyard.proofs.woolyard_viscosity.Goals as goal

pub returns : goal.returns
returns c = rw c.from-told.ensures c.excess_factor-reply.ensures
