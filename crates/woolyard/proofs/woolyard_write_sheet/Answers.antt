-- `woolyard::woolyard_write_sheet` meets its contract: it lays down what the reply's own figures tell. Assumes nothing.
use Rattle.woolyard.proofs.woolyard_write_sheet.Goals as goal

pub returns : goal.returns
returns c = rw c.from-told.ensures c.write-reply.ensures
