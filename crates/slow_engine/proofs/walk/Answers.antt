use Prim.Native.Nat.{◌<◌}
use native.Mathlib.Omega.{arith}
use Rattle.cubic.specs.Bounded.{IsCubic}
use Rattle.slow_engine.proofs.Room.{test_taken, test_left}
use Rattle.slow_engine.proofs.Way.{begins, stops_short, arrives, not_at_end, goes_on}
use Rattle.slow_engine.proofs.walk.Goals as goal

pub loop-values-init : goal.loop-values-init
loop-values-init c = begins

pub returns-then-limit-values : goal.returns-then-limit-values
returns-then-limit-values c =
    let is : IsCubic c.args.a c.args.b c.in_ok-cubic.cubic = rw c.in_ok-cubic.ensures.ok_part at c.new.ensures in
    rw (is.is_a, is.is_b) at (stops_short c.loop-values.invariant c.in_ok-cubic.cubic.within (omega (arith, c.loop-values.invariant)))

pub overflow_sub-z : goal.overflow_sub-z
overflow_sub-z c = not_at_end _ _ _ (test_left c.in_ok-cubic.cubic.within (omega (arith, c.loop-values.invariant)) c.g.ensures (cc))

pub loop-values-smaller : goal.loop-values-smaller
loop-values-smaller c =
    let some : 0 < c.loop-values.z = not_at_end _ _ _ (test_left c.in_ok-cubic.cubic.within (omega (arith, c.loop-values.invariant)) c.g.ensures (cc)) in
    omega arith

pub loop-values-preserved : goal.loop-values-preserved
loop-values-preserved c =
    goes_on c.loop-values.invariant (omega (arith, c.loop-values.invariant))
    (test_left c.in_ok-cubic.cubic.within (omega (arith, c.loop-values.invariant)) c.g.ensures (cc))

pub returns : goal.returns
returns c =
    let is : IsCubic c.args.a c.args.b c.in_ok-cubic.cubic = rw c.in_ok-cubic.ensures.ok_part at c.new.ensures in
    rw (is.is_a, is.is_b) at
    (arrives c.loop-values.invariant c.in_ok-cubic.cubic.within (omega (arith, c.loop-values.invariant))
    (test_taken c.in_ok-cubic.cubic.within (omega (arith, c.loop-values.invariant)) c.g.ensures (cc)))
