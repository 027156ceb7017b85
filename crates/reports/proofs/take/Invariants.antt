-- `reports::take` meets its contract. The loop's invariant is `Gone`: the states brought so far are added, and the rest is still to come. The measure
-- is how many bytes that has. Assumes nothing.
use lib.ListN.{length}
use Rattle.reports.proofs.Going.{Gone}
use Rattle.reports.proofs.take.Given as goal

abbrev pub invariant-loop-line : goal.invariant-loop-line
invariant-loop-line l = Gone l.initial.reporting.reader l.initial.reporting.running l.part l.reporting.reader l.reporting.running l.rest

abbrev pub decreases-loop-line : goal.decreases-loop-line
decreases-loop-line l = length l.rest
