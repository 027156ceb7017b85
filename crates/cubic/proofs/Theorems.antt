-- What is proved of the definitions of `specs/Cubic.antt`, for every a and every b: where g is positive, that there is one gas root and
-- one dense root, and that no crossing goes unreported. The rules need it for b of at least 1; it holds for 0 too.
-- Last, that two roots have one kind, and that what `Cubic::new` promises fixes its answer. Assumes nothing.
use mathlib.Core.Path.{◌≡◌, refl, sym, ap, subst, ◌∙◌}
use mathlib.Core.Logic.{◌⊎◌, inl, inr}
use Prim.Native.Nat.{ℕ, ◌+◌, ◌≤◌, ◌<◌}
use native.Mathlib.Nat.{le_antisymm, le_of_lt, lt_of_not-le, not-le_of_lt}
use native.Mathlib.Omega.{arith}
use native.Mathlib.Decide.{dec_le, ℕ_discrete}
use native.Mathlib.Bridge.{le_prop}
use Rattle.std.specs.Prelude.{Option, Some, None}
use Rattle.cubic.specs.Cubic.{N, g, Positive, Crossing, GasRoot, DenseRoot, Kind, ONE, SPLIT, IsKind}
use Rattle.cubic.specs.Promise.{Within}
use Rattle.cubic.specs.Sides.{bend, PositiveFrom, NotPositiveTo}
use Rattle.cubic.specs.Bounded.{Bounded}
use Rattle.cubic.specs.declared.Cubic.{Cubic}
use Rattle.cubic.proofs.Signed.{to_positive, of_positive}
use Rattle.cubic.proofs.Shape.{to_b, above_grid}
use Rattle.cubic.proofs.Roots.{before_positive, after_not_positive, gas_from_bend, dense_to_bend}
use Rattle.cubic.proofs.Existence.{gas_exists, dense_exists}

module _ (a b : ℕ) where
  pub not_positive_to_b : (z : ℕ) → z ≤ b → Positive (g a b z) → ⊥
  not_positive_to_b z h p = not-le_of_lt (of_positive a b z p) (to_b a b z h)

  pub positive_above_grid : (z : ℕ) → N + b < z → Positive (g a b z)
  positive_above_grid z h = to_positive a b z (above_grid a b z h)

  pub gas_root_exists : (z : ℕ) × GasRoot a b z
  gas_root_exists = gas_exists a b

  pub dense_root_exists : (z : ℕ) × DenseRoot a b z
  dense_root_exists = dense_exists a b

  pub gas_root_unique : {y z : ℕ} → GasRoot a b y → GasRoot a b z → y ≡ z
  gas_root_unique {y} {z} r s = le_antisymm (s.largest y r.crossing) (r.largest z s.crossing)

  pub dense_root_unique : {y z : ℕ} → DenseRoot a b y → DenseRoot a b z → y ≡ z
  dense_root_unique {y} {z} r s = le_antisymm (r.smallest z s.crossing) (s.smallest y r.crossing)

  module _ (gas dense : ℕ) (is_gas : GasRoot a b gas) (is_dense : DenseRoot a b dense) where
    pub every_crossing_is_reported : (z : ℕ) → Crossing a b z → (z ≡ gas) ⊎ (z ≡ dense)
    every_crossing_is_reported z c = by_side (dec_le bend z)
      where
        by_side : Dec (bend ≤ z) → (z ≡ gas) ⊎ (z ≡ dense)
        by_side (yes h) = inl (gas_root_unique (gas_from_bend a b h c) is_gas)
        by_side (no f) = inr (dense_root_unique (dense_to_bend a b (le_of_lt (lt_of_not-le f)) c) is_dense)

    pub gas_is_largest : (z : ℕ) → Crossing a b z → z ≤ gas
    gas_is_largest = is_gas.largest

    pub dense_is_smallest : (z : ℕ) → Crossing a b z → dense ≤ z
    dense_is_smallest = is_dense.smallest

  -- every crossing lies from b to N + b; so a root is at least 1 where b is
  pub crossing_from_b : (z : ℕ) → Crossing a b z → b ≤ z
  unfolding NotPositiveTo
  crossing_from_b z c = after_not_positive a b {low = b} (to_b a b) c

  pub crossing_on_grid : (z : ℕ) → Crossing a b z → z ≤ N + b
  unfolding PositiveFrom
  crossing_on_grid z c = omega (arith, before_positive a b {high = N + b + 1} (λ y h. above_grid a b y (omega arith)) c)

-- every two roots have one kind
pub kind_exists : (gas dense : ℕ) → (k : Kind) × IsKind gas dense k
kind_exists gas dense = by_test (ℕ_discrete gas dense)
  where
    by_test : Dec (gas ≡ dense) → (k : Kind) × IsKind gas dense k
    by_test (yes same) = (ONE, same)
    by_test (no other) = (SPLIT, other)

pub kind_determined : (gas dense : ℕ) (k l : Kind) → IsKind gas dense k → IsKind gas dense l → k ≡ l
kind_determined gas dense ONE ONE p q = refl
kind_determined gas dense ONE SPLIT p q = absurd (q p)
kind_determined gas dense SPLIT ONE p q = absurd (p q)
kind_determined gas dense SPLIT SPLIT p q = refl

-- a cubic is told by its two coefficients: it is within the bounds in one way
pub same_cubic : (cubic other : Cubic) → cubic.a ≡ other.a → cubic.b ≡ other.b → cubic ≡ other
same_cubic cubic other same_a same_b =
    subst (λ (a : ℕ). (w : Within a other.b) → cubic ≡ of a other.b w) same_a
    (subst (λ (b : ℕ). (w : Within cubic.a b) → cubic ≡ of cubic.a b w) same_b (λ w. ap (of cubic.a cubic.b) (one_way cubic.within w)))
    other.within
  where
    of : (a b : ℕ) → Within a b → Cubic
    of a b w = record { a = a; b = b; within = w }

    one_way : {a b : ℕ} → IsProp (Within a b)
    one_way = hlevel le_prop

-- two answers that keep what `Cubic::new` promises are equal
pub new_determined : (a b : ℕ) (r s : Option Cubic) → Bounded a b r → Bounded a b s → r ≡ s
new_determined a b (Some cubic) (Some other) p q = ap Some (same_cubic cubic other (p.is_a ∙ sym q.is_a) (p.is_b ∙ sym q.is_b))
new_determined a b (Some cubic) None p q = absurd (q p.within)
new_determined a b None (Some cubic) p q = absurd (p q.within)
new_determined a b None None p q = refl
