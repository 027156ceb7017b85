-- The quartic lies above 1 and grows with the density. Assumes nothing.
use Prim.Native.Nat.{ℕ, zero, suc, ◌+◌, ◌*◌, ◌-◌, ◌≤◌, ◌<◌}
use native.Mathlib.Nat.{mul-le-mul_right, add-sub_of_le, add-suc, add-zero}
use native.Mathlib.Omega.{arith}
use Rattle.numbers.proofs.Squares.{twice_product}
use Rattle.viscosity.specs.Quartic.{denominator}
use Rattle.viscosity.specs.Factor.{million}
use Rattle.viscosity.specs.Inside.{added, taken}
use Rattle.viscosity.proofs.Halves.{taken_fits, Between}

-- the square of 610 x - 1080000 is not negative
slope : (x : ℕ) → 1222740000 * (x * x) + 1222740000 * x ≤ 373296 * (x * x * x) + 1170660000000 * x
slope x = omega (arith, mul-le-mul_right x (twice_product (610 * x) 1080000))

-- a thousandth more of density is a millionth more of the quartic, at least
step : (x : ℕ) → added x + taken (suc x) + denominator ≤ added (suc x) + taken x
unfolding added taken
step x = omega (arith, slope x)

steps : (x more : ℕ) → added x + taken (suc x + more) + denominator ≤ added (suc x + more) + taken x
steps x zero = rw (add-zero (suc x)) (step x)
steps x (suc more) = rw (add-suc (suc x) more) (omega (arith, steps x more, step (suc x + more)))

pub above_one : {x y : ℕ} → Between x y → million < y
above_one {x} between = omega (arith, taken_fits x)

pub quartic_grows : {x z y w : ℕ} → x < z → Between x y → Between z w → y < w
quartic_grows {x} {z} less at_x at_z = omega (arith, rw (add-sub_of_le less) at (steps x (z - suc x)))
