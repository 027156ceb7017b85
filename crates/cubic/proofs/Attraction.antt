-- What more attraction does to the roots (docs/RULES.md, "The band"): for the same b, when a grows, neither the gas root nor the dense root grows.
-- With the larger a, g has N (a' - a) (z - b) more, which is not negative from b on, and no crossing lies below b. No bound is asked of a, a' or b,
-- and the law holds for b = 0 too. Assumes nothing.
use mathlib.Core.Path.{◌≡◌}
use Prim.Native.Nat.{ℕ, zero, suc, ◌+◌, ◌*◌, ◌-◌, ◌≤◌, ◌<◌}
use native.Mathlib.Nat.{add-zero, zero-add, add-suc, add-sub_of_le, mul-le-mul_left}
use native.Mathlib.Numerals.{add-one}
use native.Mathlib.Omega.{arith}
use native.Mathlib.Decide.{dec_lt}
use lib.IntN.{ℤ, pos, negsuc}
use Rattle.cubic.specs.Cubic.{N, g, Positive, Crossing, GasRoot, DenseRoot}
use Rattle.cubic.specs.Sides.{plus, minus}
use Rattle.cubic.proofs.Signed.{to_positive, of_positive}
use Rattle.cubic.proofs.Theorems.{not_positive_to_b, positive_above_grid, crossing_from_b, crossing_on_grid}

positive_or_not : (i : ℤ) → Dec (Positive i)
positive_or_not (pos n) = dec_lt 0 n
positive_or_not (negsuc n) = no (λ positive. positive)

pub record CrossingFrom (a b low high : ℕ) : Type 0 where
  pub at : ℕ
  pub crossing : Crossing a b at
  pub from_low : low ≤ at
  pub below_high : at < high

-- between a place where g is not positive and a later one where it is there lies a crossing: the last step up from the one kind to the other
crossing_between : (a b low steps : ℕ) → (Positive (g a b low) → ⊥) → Positive (g a b (low + steps)) → CrossingFrom a b low (low + steps)
crossing_between a b low zero not_yet positive = absurd (not_yet (rw add-zero at positive))
crossing_between a b low (suc steps) not_yet positive = by_test (positive_or_not (g a b (low + steps))) (crossing_between a b low steps not_yet)
  where
    by_test : Dec (Positive (g a b (low + steps))) → (Positive (g a b (low + steps)) → CrossingFrom a b low (low + steps)) → CrossingFrom a b low (low + suc steps)
    by_test (yes already) before =
        let found = before already in
        record { at = found.at; crossing = found.crossing; from_low = found.from_low; below_high = omega (arith, found.below_high) }
    by_test (no f) before =
        record {
          at = low + steps;
          crossing = record { not_positive = f; then_positive = rw add-one (rw add-suc at positive) };
          from_low = omega arith;
          below_high = omega arith;
        }

-- what g has more from b on is not negative
stays_positive : (a growth b z : ℕ) → b ≤ z → minus a b z < plus a z → minus (a + growth) b z < plus (a + growth) z
unfolding plus minus
stays_positive a growth b z from_b positive = omega (arith, mul-le-mul_left (N * growth) from_b)

module _ {a larger : ℕ} (b : ℕ) (grows : a ≤ larger) where
  pub positive_as_a_grows : {z : ℕ} → b ≤ z → Positive (g a b z) → Positive (g larger b z)
  positive_as_a_grows {z} from_b positive =
      to_positive larger b z (rw (add-sub_of_le grows) at (stays_positive a (larger - a) b z from_b (of_positive a b z positive)))

  -- The gas root with the larger a lies from b on, so with the smaller a too g is not positive there, and crosses there or above.
  pub gas_falls_as_a_grows : {gas gas' : ℕ} → GasRoot a b gas → GasRoot larger b gas' → gas' ≤ gas
  gas_falls_as_a_grows {gas} {gas'} is_gas is_gas' =
      let from_b = crossing_from_b larger b gas' is_gas'.crossing in
      let on_grid = crossing_on_grid larger b gas' is_gas'.crossing in
      let top : gas' + (N + b + 1 - gas') ≡ N + b + 1 = omega arith in
      let found = crossing_between a b gas' (N + b + 1 - gas') (λ positive. is_gas'.crossing.not_positive (positive_as_a_grows from_b positive)) (rw top (positive_above_grid a b (N + b + 1) (omega arith))) in
      omega (arith, found.from_low, is_gas.largest found.at found.crossing)

  -- The place above the dense root with the smaller a lies from b on, so with the larger a too g is positive there, and crosses below.
  pub dense_falls_as_a_grows : {dense dense' : ℕ} → DenseRoot a b dense → DenseRoot larger b dense' → dense' ≤ dense
  dense_falls_as_a_grows {dense} {dense'} is_dense is_dense' =
      let from_b : b ≤ dense + 1 = omega (arith, crossing_from_b a b dense is_dense.crossing) in
      let found = crossing_between larger b 0 (dense + 1) (not_positive_to_b larger b 0 (omega arith)) (rw zero-add (positive_as_a_grows from_b is_dense.crossing.then_positive)) in
      omega (arith, found.below_high, is_dense'.smallest found.at found.crossing)
