-- The squares in millionths of a number above 1: they are above 1, and they grow with it. Assumes nothing.
use Prim.Native.Nat.{ℕ, ◌*◌, ◌≤◌, ◌<◌}
use native.Mathlib.Nat.{mul-le-mul, div-mul-le_self, le_refl}
use native.Mathlib.Omega.{arith}
use Rattle.numbers.proofs.Quotients.{quotient_from, quotient_rises}
use Rattle.viscosity.specs.Factor.{million, squared}

pub squared_grows : {y z : ℕ} → million ≤ y → y < z → squared y < squared z
unfolding squared
squared_grows {y} {z} above more = quotient_from (omega arith) (omega (arith, div-mul-le_self (y * y) million, mul-le-mul more more))

pub squared_above_one : {y : ℕ} → million < y → million < squared y
unfolding squared
squared_above_one above = squared_grows (le_refl million) above

pub squared_at_most : {y z : ℕ} → y ≤ z → squared y ≤ squared z
unfolding squared
squared_at_most less = quotient_rises million (mul-le-mul less less)
