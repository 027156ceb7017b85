use Rattle.reports.proofs.Going.{one_added}
use Rattle.reports.proofs.take.Goals as goal

pub loop-line-preserved : goal.loop-line-preserved
loop-line-preserved c = one_added c.loop-line.invariant c.take-told.result c.take-told.ensures _ c.in-Some.is c.add_line.ensures
