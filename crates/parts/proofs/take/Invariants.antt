-- `parts::take` meets its contract. The loop's invariant is `Gone`: the bytes taken so far brought nothing and left the reader. The measure is how
-- many bytes are left. Assumes nothing.
use Prim.Native.Nat.{◌-◌}
use lib.ListN.{length}
use Rattle.parts.proofs.Turns.{Gone}
use Rattle.parts.proofs.take.Given as goal

abbrev pub invariant-loop-from : goal.invariant-loop-from
invariant-loop-from l = Gone l.initial.now l.part l.from l.now

abbrev pub decreases-loop-from : goal.decreases-loop-from
decreases-loop-from l = length l.part - l.from
