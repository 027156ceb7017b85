-- `slow_engine::walk` meets its contract. The loop's invariant: g is positive everywhere above z, and each place from N + b down to there has been
-- counted. The measure is z. What a turn may conclude is in `Way.antt`. Assumes nothing.
use Rattle.slow_engine.proofs.Way.{Walking}
use Rattle.slow_engine.proofs.walk.Given as goal

abbrev pub invariant-loop-values : goal.invariant-loop-values
invariant-loop-values l = Walking l.cubic.a l.cubic.b l.limit l.z l.values

abbrev pub decreases-loop-values : goal.decreases-loop-values
decreases-loop-values l = l.z
