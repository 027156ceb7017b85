-- `reports::report` meets its contract. The loop's invariant is `Walked`: the state lines passed are added, and the reading from where the cursor is makes
-- with them the reading from the start. The measure is how many bytes of the sheet are left. Assumes nothing.
use Prim.Native.Nat.{◌-◌}
use lib.ListN.{length}
use Rattle.reports.proofs.Whole.{Walked}
use Rattle.reports.proofs.report.Given as goal

abbrev pub invariant-loop-line : goal.invariant-loop-line
invariant-loop-line l = Walked l.sheet l.cursor l.running

abbrev pub decreases-loop-line : goal.decreases-loop-line
decreases-loop-line l = length l.sheet - l.cursor.place
