-- `printing::gather` meets its contract. The loop's invariant is `Gathered`: the buffer holds a line for each state line passed, and these and
-- the reading from where the cursor is make the reading from the start. The measure is how many bytes of the sheet are left. Assumes nothing.
use Prim.Native.Nat.{◌-◌}
use lib.ListN.{length}
use Rattle.printing.proofs.Gathered.{Gathered}
use Rattle.printing.proofs.gather.Given as goal

abbrev pub invariant-loop-line : goal.invariant-loop-line
invariant-loop-line l = Gathered l.sheet l.initial.buffer l.cursor l.buffer l.end

abbrev pub decreases-loop-line : goal.decreases-loop-line
decreases-loop-line l = length l.sheet - l.cursor.place
