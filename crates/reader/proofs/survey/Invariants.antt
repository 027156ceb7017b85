-- `reader::survey` meets its contract. The loop's invariant is `Walked`: the state lines passed, and then the reading from where the cursor is,
-- make the reading from the start; they were counted, and line k is kept if it was among them. The measure is how many bytes are left.
-- Assumes nothing.
use Prim.Native.Nat.{◌-◌}
use lib.ListN.{length}
use Rattle.reader.proofs.Surveys.{Walked}
use Rattle.reader.proofs.survey.Given as goal

abbrev pub invariant-loop-line : goal.invariant-loop-line
invariant-loop-line l = Walked l.sheet l.k l.cursor l.state_lines l.wanted

abbrev pub decreases-loop-line : goal.decreases-loop-line
decreases-loop-line l = length l.sheet - l.cursor.place
