-- `measures::sizes::width` meets its contract. The loop's invariant is `Grown`: the number needs each digit that was counted. The measure is how far
-- `above` is from the largest that it can become. Assumes nothing.
use Prim.Native.Nat.{◌-◌}
use Rattle.measures.proofs.Lengths.{Grown}
use Rattle.measures.proofs.sizes.width.Given as goal

abbrev pub invariant-loop-above : goal.invariant-loop-above
invariant-loop-above l = Grown l.number l.width l.above

abbrev pub decreases-loop-above : goal.decreases-loop-above
decreases-loop-above l = 100000000000 - l.above
