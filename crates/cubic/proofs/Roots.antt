-- Crossings and roots, said by the two halves of g: where crossings can lie, what shows that a number is the gas root or the dense root,
-- and that a crossing from the bend on is the one and a crossing up to the bend the other. Assumes nothing.
use Prim.Native.Nat.{ℕ, suc, ◌+◌, ◌≤◌, ◌<◌}
use native.Mathlib.Nat.{lt_of_not-le, not-le_of_lt}
use native.Mathlib.Numerals.{add-one}
use native.Mathlib.Omega.{arith, by_contra}
use Rattle.cubic.specs.Cubic.{Crossing, GasRoot, DenseRoot}
use Rattle.cubic.specs.Sides.{plus, minus, plus_step, minus_step, bend, PositiveFrom, NotPositiveTo, Crosses}
use Rattle.cubic.proofs.Signed.{to_positive, of_positive}
use Rattle.cubic.proofs.Shape.{plus_grows, minus_grows}
use Rattle.cubic.proofs.Lines.{positive_from, not_positive_to}

module _ (a b : ℕ) where
  to_crossing : {z : ℕ} → Crosses a b z → Crossing a b z
  to_crossing {z} c =
      record {
        not_positive = λ p. not-le_of_lt (of_positive a b z p) c.not_positive;
        then_positive = rw add-one (to_positive a b (suc z) c.then_positive);
      }

  of_crossing : {z : ℕ} → Crossing a b z → Crosses a b z
  of_crossing {z} c =
      record {
        not_positive = by_contra (plus a z) (minus a b z) (λ h. c.not_positive (to_positive a b z h));
        then_positive = of_positive a b (suc z) (rw add-one at c.then_positive);
      }

  -- no crossing lies where g is positive for good, and none below where it has not been positive yet
  pub before_positive : {high y : ℕ} → PositiveFrom a b high → Crossing a b y → y < high
  unfolding PositiveFrom
  before_positive {high} {y} positive c = lt_of_not-le (λ h. omega (arith, of_crossing c, positive y h))

  pub after_not_positive : {low y : ℕ} → NotPositiveTo a b low → Crossing a b y → low ≤ y
  unfolding NotPositiveTo
  after_not_positive {low} {y} not_positive c = by_contra low y (λ h. omega (arith, of_crossing c, not_positive (suc y) h))

  pub gas_root : {z : ℕ} → plus a z ≤ minus a b z → PositiveFrom a b (z + 1) → GasRoot a b z
  unfolding PositiveFrom
  gas_root {z} not_positive positive =
      record {
        crossing = to_crossing (record { not_positive = not_positive; then_positive = positive (suc z) (omega arith) });
        largest = λ y c. omega (arith, before_positive positive c);
      }

  pub dense_root : {z : ℕ} → NotPositiveTo a b z → minus a b (z + 1) < plus a (z + 1) → DenseRoot a b z
  unfolding NotPositiveTo
  dense_root {z} not_positive positive =
      record {
        crossing = to_crossing (record { not_positive = not_positive z (omega arith); then_positive = rw add-one at positive });
        smallest = λ y. after_not_positive not_positive;
      }

  -- at a crossing the step rises
  rising : {z : ℕ} → Crosses a b z → minus_step b z < plus_step a z
  rising {z} c = omega (arith, plus_grows a z, minus_grows a b z)

  -- so above one from the bend on g is positive, and up to one before it g is not
  pub positive_above : {z : ℕ} → bend ≤ z → Crosses a b z → PositiveFrom a b (z + 1)
  positive_above {z} limit c = positive_from a b z (z + 1) limit (omega arith) (rising c) (rw add-one c.then_positive)

  pub not_positive_up_to : {z : ℕ} → z ≤ bend → Crosses a b z → NotPositiveTo a b z
  not_positive_up_to {z} limit c = not_positive_to a b z limit (rising c) c.not_positive

  pub gas_from_bend : {z : ℕ} → bend ≤ z → Crossing a b z → GasRoot a b z
  gas_from_bend {z} limit crossing =
      let c = of_crossing crossing in
      gas_root c.not_positive (positive_above limit c)

  pub dense_to_bend : {z : ℕ} → z ≤ bend → Crossing a b z → DenseRoot a b z
  dense_to_bend {z} limit crossing =
      let c = of_crossing crossing in
      dense_root (not_positive_up_to limit c) (rw add-one c.then_positive)

  -- where all is positive from the bend on the dense root is the gas root too, and where nothing is positive up to it the gas root the dense
  pub gas_is_dense : {z : ℕ} → PositiveFrom a b bend → DenseRoot a b z → GasRoot a b z
  gas_is_dense {z} positive dense =
      record {
        crossing = dense.crossing;
        largest = λ y c. (dense_to_bend (omega (arith, before_positive positive c)) c).smallest z dense.crossing;
      }

  pub dense_is_gas : {z : ℕ} → NotPositiveTo a b bend → GasRoot a b z → DenseRoot a b z
  dense_is_gas {z} not_positive gas =
      record {
        crossing = gas.crossing;
        smallest = λ y c. (gas_from_bend (after_not_positive not_positive c) c).largest z gas.crossing;
      }
