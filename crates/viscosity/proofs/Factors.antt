-- Every density has a factor by the formula, in the range or not, and one only; it is what the halves and two squares come to. Assumes nothing.
use mathlib.Core.Path.{◌≡◌, ap, ◌∙◌}
use Prim.Native.Nat.{ℕ, ◌-◌, ◌<◌}
use native.Mathlib.Omega.{arith}
use Rattle.viscosity.specs.Factor.{million, squared, Factor}
use Rattle.viscosity.specs.Inside.{quotient}
use Rattle.viscosity.proofs.Halves.{taken_fits, Between, between, rounded_down}
use Rattle.viscosity.proofs.Growth.{above_one}
use Rattle.viscosity.proofs.Squares.{squared_above_one}

pub quotient_between : (x : ℕ) → Between x (quotient x)
quotient_between x = omega (arith, taken_fits x)

pub fourth_above_one : {x y : ℕ} → Between x y → million < squared (squared y)
fourth_above_one at_x = squared_above_one (squared_above_one (above_one at_x))

-- as the code works it out
module _ (x : ℕ) {y square fourth : ℕ} (is_y : y ≡ quotient x) (is_square : square ≡ squared y) (is_fourth : fourth ≡ squared square) where
  at_x : Between x y
  at_x = rw is_y (quotient_between x)

  pub fourth_is_above_one : million < fourth
  fourth_is_above_one = rw (is_fourth, is_square) (fourth_above_one at_x)

  pub factor_of : Factor x (fourth - million)
  factor_of = record { y = y; is_y = rounded_down at_x; is_factor = omega (arith, is_fourth ∙ ap squared is_square, fourth_is_above_one) }

-- what is rounded down is one number
same_y : {x y z : ℕ} → Between x y → Between x z → y ≡ z
same_y at_x also = omega arith

pub factor_once : {x factor other : ℕ} → Factor x factor → Factor x other → factor ≡ other
factor_once p q =
    let same = ap (λ (y : ℕ). squared (squared y)) (same_y (between p.is_y) (between q.is_y)) in
    omega (arith, p.is_factor, q.is_factor)
