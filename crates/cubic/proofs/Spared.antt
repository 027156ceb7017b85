-- What the test that spares the search from below shows: that a crossing is alone. Assumes nothing.
use mathlib.Core.Path.{◌≡◌}
use Prim.Native.Nat.{ℕ, ◌+◌, ◌*◌, ◌-◌, ◌≤◌, ◌<◌}
use native.Mathlib.Nat.{mul-le-mul_left, mul-le-mul_right, le_of_mul-le-mul_left}
use native.Mathlib.Omega.{arith, by_contra}
use Rattle.numbers.proofs.Squares.{twice_product}
use Rattle.cubic.specs.Cubic.{N}
use Rattle.cubic.specs.Sides.{plus, minus, NotPositiveTo}
use Rattle.cubic.proofs.Shape.{above_grid}

-- nothing above N + b is a crossing
pub on_grid : (a b z : ℕ) → plus a z ≤ minus a b z → z ≤ N + b
on_grid a b z not_positive = by_contra z (N + b) (λ h. omega (arith, above_grid a b z h))

-- A crossing G that is alone. With d = G - z, G g(z) = z g(G) - d (G z z - (N - G) G z + N a b). Where the square of N - G, times G, is at most
-- 4 N a b, the bracket is not negative, as the square of 2 z - (N - G) is not. So g(G) not being positive makes g(z) not positive.

module _ (a b gas sum : ℕ) (enough : N ≤ gas + sum) (small : sum * sum * gas ≤ 4 * N * a * b) where
  -- the bracket is not negative
  bracket : (z : ℕ) → N * gas * z ≤ gas * gas * z + gas * z * z + N * a * b
  bracket z =
      omega (arith, mul-le-mul_right (gas * z) enough, mul-le-mul_left gas (twice_product (2 * z) sum), small)

  -- the identity, over naturals
  identity : (z d : ℕ) → z + d ≡ gas → gas * minus a b z + z * plus a gas + d * (N * gas * z) ≡ gas * plus a z + z * minus a b gas + d * (gas * gas * z + gas * z * z + N * a * b)
  unfolding plus minus
  identity z d same = rw (← same) (omega arith)

  pub not_positive_below : 0 < gas → plus a gas ≤ minus a b gas → NotPositiveTo a b gas
  unfolding NotPositiveTo
  not_positive_below some not_positive z below =
      le_of_mul-le-mul_left
      (omega (arith, identity z (gas - z) (omega arith), mul-le-mul_left (gas - z) (bracket z), mul-le-mul_left z not_positive))
      some
