-- `engine::solve` meets its contract: the ends of the two searches are the roots (`Ends.antt` of `cubic`). Assumes nothing.
use native.Mathlib.Omega.{arith}
use Rattle.cubic.specs.Bounded.{IsCubic}
use Rattle.cubic.proofs.Ends.{one_alone, one_below, one_above, one_each}
use Rattle.engine.proofs.solve.Goals as goal

pub returns-then-alone : goal.returns-then-alone
returns-then-alone c =
    let is : IsCubic c.args.a c.args.b c.in_ok-cubic.cubic = c.in_ok-cubic.ensures in
    one_alone is.within c.in_ok-high.ensures.1 (rw (is.is_a, is.is_b) at (c.alone.ensures c.if-alone.true))

pub returns-then-high-lt-BEND : goal.returns-then-high-lt-BEND
returns-then-high-lt-BEND c = one_below c.in_ok-high.ensures.0 c.in_ok-high.ensures.1 c.in_ok-low.ensures.1 (omega arith)

pub returns-then-low-ge-BEND : goal.returns-then-low-ge-BEND
returns-then-low-ge-BEND c = one_above c.in_ok-high.ensures.0 c.in_ok-high.ensures.1 c.in_ok-low.ensures.1 (omega arith) (omega arith)

pub returns : goal.returns
returns c = one_each c.in_ok-high.ensures.0 c.in_ok-high.ensures.1 c.in_ok-low.ensures.1 (omega arith) (omega arith)
