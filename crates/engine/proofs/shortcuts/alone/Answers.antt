-- `engine::shortcuts::alone` meets its contract: past its tests lies what shows a crossing alone (`Spared.antt` of `cubic`). A crossing lies on the
-- grid, which bounds the products. Assumes nothing.
use Prim.Native.Nat.{◌≤◌}
use native.Mathlib.Nat.{mul-le-mul}
use native.Mathlib.Omega.{arith}
use borrow.Author.Tests.{leb-true}
use Rattle.cubic.specs.Cubic.{N}
use Rattle.cubic.specs.Sides.{farthest}
use Rattle.cubic.proofs.Spared.{on_grid, not_positive_below}
use Rattle.engine.proofs.shortcuts.alone.Goals as goal

small : (c : goal.After-saturating_sub-sum) → c.saturating_sub-sum.result ≤ N
small c = omega (arith, c.saturating_sub-sum.ensures)

-- the search from above found a crossing, which lies on the grid
reach : (c : goal.After-saturating_sub-sum) → c.args.gas ≤ farthest
reach c = omega (arith, on_grid _ _ _ (c.requires.found c.if-gas-lt-BEND.false), c.args.cubic.within)

pub overflow_mul-result-2 : goal.overflow_mul-result-2
overflow_mul-result-2 c = omega (arith, mul-le-mul (mul-le-mul (small c) (small c)) (reach c))

pub returns : goal.returns
returns c said =
    record {
      from_bend = c.if-gas-lt-BEND.false;
      not_positive =
          not_positive_below c.args.cubic.a c.args.cubic.b c.args.gas c.saturating_sub-sum.result
          (omega (arith, c.saturating_sub-sum.ensures)) (omega (arith, leb-true)) (omega arith) (c.requires.found c.if-gas-lt-BEND.false);
    }
