-- Each search has one end, and what the two ends say together: the roots, by the sides of the bend on which the searches ended.
-- Assumes nothing.
use mathlib.Core.Path.{◌≡◌}
use Prim.Native.Nat.{ℕ, ◌+◌, ◌≤◌, ◌<◌}
use native.Mathlib.Nat.{lt_of_not-le, le_antisymm}
use native.Mathlib.Omega.{arith, by_contra}
use Rattle.cubic.specs.Cubic.{GasRoot, DenseRoot}
use Rattle.cubic.specs.Promise.{Within, BothRoots}
use Rattle.cubic.specs.Sides.{bend, PositiveFrom, NotPositiveTo, FallsTo, Alone, ClimbsTo}
use Rattle.cubic.proofs.Roots.{gas_root, dense_root, gas_is_dense, dense_is_gas}

-- of two ends, the lower would have g positive where the higher has it not, or not yet positive where the higher has it
pub falls_once : {a b y z : ℕ} → FallsTo a b y → FallsTo a b z → y ≡ z
unfolding PositiveFrom
falls_once {a} {b} one other = le_antisymm (to other one) (to one other)
  where
    to : {y z : ℕ} → FallsTo a b y → FallsTo a b z → z ≤ y
    to {y} {z} low high = by_contra z y (λ h. omega (arith, low.to_bend, low.positive z (omega arith), high.found (omega (arith, low.to_bend))))

pub climbs_once : {a b y z : ℕ} → ClimbsTo a b y → ClimbsTo a b z → y ≡ z
unfolding NotPositiveTo
climbs_once {a} {b} one other = le_antisymm (to other one) (to one other)
  where
    to : {y z : ℕ} → ClimbsTo a b y → ClimbsTo a b z → z ≤ y
    to {y} {z} low high = by_contra z y (λ h. omega (arith, low.found (omega (arith, high.to_bend)), high.not_positive (y + 1) (omega arith)))

-- a crossing that is alone is both roots
pub one_alone : {a b z : ℕ} → Within a b → FallsTo a b z → Alone a b z → BothRoots a b z z
unfolding PositiveFrom
one_alone {a} {b} {z} within fallen alone =
    record {
      within = within;
      is_gas = gas_root a b (fallen.found alone.from_bend) fallen.positive;
      is_dense = dense_root a b alone.not_positive (fallen.positive (z + 1) (omega arith));
    }

module _ {a b high low : ℕ} (within : Within a b) (fallen : FallsTo a b high) (climbed : ClimbsTo a b low) where
  gas_found : bend ≤ high → GasRoot a b high
  gas_found h = gas_root a b (fallen.found h) fallen.positive

  dense_found : low < bend → DenseRoot a b low
  dense_found h = dense_root a b climbed.not_positive (climbed.found h)

  -- a fall that ends below the bend leaves a crossing there for the climb
  below_bend : high < bend → low < bend
  unfolding PositiveFrom NotPositiveTo
  below_bend missed = lt_of_not-le (λ h. omega (arith, fallen.positive bend (omega arith), climbed.not_positive bend h))

  pub one_below : high < bend → BothRoots a b low low
  unfolding PositiveFrom
  one_below missed =
      let dense = dense_found (below_bend missed) in
      record { within = within; is_gas = gas_is_dense a b (λ y above. fallen.positive y (omega arith)) dense; is_dense = dense }

  pub one_above : bend ≤ high → bend ≤ low → BothRoots a b high high
  unfolding NotPositiveTo
  one_above found missed =
      let gas = gas_found found in
      record { within = within; is_gas = gas; is_dense = dense_is_gas a b (λ y below. climbed.not_positive y (omega arith)) gas }

  pub one_each : bend ≤ high → low < bend → BothRoots a b high low
  one_each above below = record { within = within; is_gas = gas_found above; is_dense = dense_found below }
