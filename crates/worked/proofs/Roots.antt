-- Tests of g and of its roots, without a scan of the grid. A crossing from the bend on is the gas root, and one up to the bend the dense
-- root; the gas root is the dense root too where the line along the step of g at b is not above 0 at the bend. Assumes nothing.
use mathlib.Core.Path.{◌≡◌, subst, ap}
use Prim.Native.Nat.{ℕ, ◌+◌, ◌*◌, ◌-◌, ◌≤◌}
use native.Mathlib.Nat.{mul-le-mul_right, not-le_of_lt}
use native.Mathlib.Omega.{arith}
use native.Mathlib.Decide.{dec_le}
use lib.IntN.{ℤ, pos, negsuc}
use Rattle.cubic.specs.Cubic.{g, Positive, Crossing, GasRoot, DenseRoot, Kind, ONE, SPLIT, IsKind}
use Rattle.cubic.specs.Sides.{plus, minus, plus_step, minus_step, rise, bend, NotPositiveTo}
use Rattle.cubic.proofs.Shape.{to_b, upwards}
use Rattle.cubic.proofs.Lines.{line}
use Rattle.cubic.proofs.Roots.{gas_from_bend, dense_to_bend, dense_is_gas}
use Rattle.worked.proofs.Tests.{Tested, by, ◌with◌, never, equal, differ, at_most, below}

abbrev pub same : (i j : ℤ) → Tested (i ≡ j)
same (pos m) (pos n) = by (ap pos) with equal m n
same (pos m) (negsuc n) = never
same (negsuc m) (pos n) = never
same (negsuc m) (negsuc n) = by (ap negsuc) with equal m n

abbrev pub positive : (i : ℤ) → Tested (Positive i)
positive (pos n) = below 0 n
positive (negsuc n) = never

abbrev pub not_positive : (i : ℤ) → Tested (Positive i → ⊥)
not_positive (pos n) = by (λ low high. not-le_of_lt high low) with at_most n 0
not_positive (negsuc n) = by (λ impossible. impossible)

step_at_most : (a b z : ℕ) → plus_step a z ≤ minus_step b z + rise a b z
unfolding rise
step_at_most a b z = omega arith

module _ (a b : ℕ) where
  abbrev pub LineBelow : Type 0
  LineBelow = plus a b + (bend - b) * rise a b b ≤ minus a b b

  not_positive_to_bend : LineBelow → NotPositiveTo a b bend
  unfolding NotPositiveTo
  not_positive_to_bend low y before = by_order (dec_le y b)
    where
      by_order : Dec (y ≤ b) → plus a y ≤ minus a b y
      by_order (yes h) = to_b a b y h
      by_order (no f) =
          let steps : y - b ≤ bend - b = omega arith in
          omega (
            arith,
            low,
            mul-le-mul_right (rise a b b) steps,
            line a b (rise a b b) b b y (omega arith) (λ w from to. upwards from (omega arith)) (step_at_most a b b),
          )

  abbrev pub crossing : (z : ℕ) → Tested (Crossing a b z)
  crossing z =
      by (λ low high. record { not_positive = low; then_positive = high }) with not_positive (g a b z) with positive (g a b (z + 1))

  abbrev pub gas_root : (z : ℕ) → Tested (GasRoot a b z)
  gas_root z = by (gas_from_bend a b) with at_most _ _ with crossing z

  abbrev pub dense_root : (z : ℕ) → Tested (DenseRoot a b z)
  dense_root z = by (dense_to_bend a b) with at_most _ _ with crossing z

-- two roots and their kind
pub record Roots (a b : ℕ) (kind : Kind) (gas dense : ℕ) : Type 0 where
  pub is_gas : GasRoot a b gas
  pub is_dense : DenseRoot a b dense
  pub is_kind : IsKind gas dense kind

module _ (a b gas dense : ℕ) where
  pub one : GasRoot a b gas → LineBelow a b → gas ≡ dense → Roots a b ONE gas dense
  one is_gas low is_kind =
      let is_dense = dense_is_gas a b (not_positive_to_bend a b low) is_gas in
      record { is_gas = is_gas; is_dense = subst (λ (z : ℕ). DenseRoot a b z) is_kind is_dense; is_kind = is_kind }

  abbrev pub roots : (kind : Kind) → Tested (Roots a b kind gas dense)
  roots ONE = by one with gas_root a b gas with at_most _ _ with equal _ _
  roots SPLIT =
      by (λ above below apart. record { is_gas = above; is_dense = below; is_kind = apart })
      with gas_root a b gas with dense_root a b dense with differ _ _
