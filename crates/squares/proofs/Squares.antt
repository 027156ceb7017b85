-- Whole square roots: squares keep the order. Assumes nothing.
use Prim.Native.Nat.{ℕ, ◌+◌, ◌*◌, ◌≤◌, ◌<◌}
use native.Mathlib.Nat.{lt_of_not-le, mul-le-mul}
use native.Mathlib.Omega.{arith}
use Rattle.squares.specs.SquareRoot.{SquareRoot}

-- a smaller square is that of a smaller number
pub root_below : (x y : ℕ) → x * x < y * y → x < y
root_below x y less = lt_of_not-le (λ above. omega (arith, mul-le-mul above above))

pub square_root : {n root : ℕ} → root * root ≤ n → n < (root + 1) * (root + 1) → SquareRoot n root
square_root {n} {root} square next =
    record { square = square; largest = λ k at_most. omega (arith, root_below k (root + 1) (omega arith)) }

pub next_square : {n root : ℕ} → SquareRoot n root → n < (root + 1) * (root + 1)
next_square {n} {root} is_root = lt_of_not-le (λ more. omega (arith, is_root.largest (root + 1) more))
