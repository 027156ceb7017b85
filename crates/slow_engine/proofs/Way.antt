-- The way down from N + b: what holds at each place of it, and what that says where the walk ends. Assumes nothing.
use mathlib.Core.Path.{◌≡◌}
use Prim.Native.Nat.{ℕ, ◌+◌, ◌-◌, ◌≤◌, ◌<◌}
use native.Mathlib.Omega.{arith, by_contra}
use native.Mathlib.Decide.{dec_le}
use Rattle.cubic.specs.Cubic.{N, g, Positive}
use Rattle.cubic.specs.Promise.{Within}
use Rattle.cubic.specs.Sides.{plus, minus, PositiveFrom}
use Rattle.cubic.proofs.Signed.{to_positive, of_positive}
use Rattle.cubic.proofs.Shape.{to_b, above_grid}
use Rattle.cubic.proofs.Roots.{before_positive, gas_root}
use Rattle.slow_engine.specs.Promise.{Arrives, StopsShort}

-- g is positive everywhere above z, and each place from N + b down to there has been counted
pub record Walking (a b limit z values : ℕ) : Type 0 where
  pub positive : PositiveFrom a b (z + 1)
  pub counted : z + values ≡ N + b
  pub not_over : values ≤ limit

-- from b down no value is positive
pub not_at_end : (a b z : ℕ) → Positive (g a b z) → 0 < z
not_at_end a b z positive = by_contra 1 z (λ low. omega (arith, of_positive a b z positive, to_b a b z (omega arith)))

module _ {a b limit : ℕ} where
  pub begins : Walking a b limit (N + b) 0
  unfolding PositiveFrom
  begins = record { positive = λ y above. above_grid a b y (omega arith); counted = omega arith; not_over = omega arith }

  module _ {z values : ℕ} (walking : Walking a b limit z values) where
    -- every root lies at z or below, so the way to it is longer than what was counted
    pub stops_short : Within a b → values ≡ limit → StopsShort a b limit values
    stops_short within spent =
        record {
          within = within;
          too_few = λ gas root. omega (arith, walking.counted, before_positive a b walking.positive root.crossing);
          is_limit = spent;
        }

    pub arrives : Within a b → values < limit → (Positive (g a b z) → ⊥) → Arrives a b limit z (values + 1)
    arrives within left not_positive =
        record {
          within = within;
          is_gas = gas_root a b (by_contra (plus a z) (minus a b z) (λ h. not_positive (to_positive a b z h))) walking.positive;
          is_way = omega (arith, walking.counted);
          suffices = omega (arith, walking.counted);
        }

    pub goes_on : values < limit → Positive (g a b z) → Walking a b limit (z - 1) (values + 1)
    unfolding PositiveFrom
    goes_on left positive =
        let some : 0 < z = not_at_end a b z positive in
        record { positive = λ y above. by_place y above (dec_le (z + 1) y); counted = omega (arith, walking.counted); not_over = omega arith }
      where
        by_place : (y : ℕ) → z - 1 + 1 ≤ y → Dec (z + 1 ≤ y) → minus a b y < plus a y
        by_place y above (yes higher) = walking.positive y higher
        by_place y above (no f) =
            let here : y ≡ z = omega (arith, not_at_end a b z positive) in
            rw here (of_positive a b z positive)
