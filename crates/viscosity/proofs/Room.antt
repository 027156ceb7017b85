-- Up to the largest density 64 bits hold every term of the quartic, and the two squares. Assumes nothing.
use Prim.Native.Nat.{ℕ, ◌*◌, ◌≤◌}
use native.Mathlib.Nat.{mul-le-mul}
use native.Mathlib.Omega.{arith}
use Rattle.viscosity.specs.Factor.{densest, squared}
use Rattle.viscosity.specs.Inside.{added, quotient, largest_to_square}
use Rattle.viscosity.proofs.Squares.{squared_at_most}

pub record Powers (x : ℕ) : Type 0 where
  pub square : x * x ≤ 9000000
  pub cube : x * x * x ≤ 27000000000
  pub fourth : x * x * x * x ≤ 81000000000000

pub powers : {x : ℕ} → x ≤ densest → Powers x
powers low =
    let square = mul-le-mul low low in
    let cube = mul-le-mul square low in
    record { square = square; cube = cube; fourth = mul-le-mul cube low }

-- the quartic is at most what is added, which at the largest density is 14.551134
quotient_at_most : {x : ℕ} → x ≤ densest → quotient x ≤ 14551134
unfolding added
quotient_at_most low = omega (arith, powers low)

pub squares_fit : (x : ℕ) → x ≤ densest → (quotient x ≤ largest_to_square) × (squared (quotient x) ≤ largest_to_square)
unfolding squared
squares_fit x low = (omega (arith, quotient_at_most low), omega (arith, squared_at_most (quotient_at_most low)))
