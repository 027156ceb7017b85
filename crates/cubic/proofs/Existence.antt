-- There is a gas root, the first place on the way down from N + b + 1 at which g is not positive, and a dense root, the last place before
-- the first on the way up at which it is. Assumes nothing.
use mathlib.Core.Path.{◌≡◌}
use Prim.Native.Nat.{ℕ, zero, suc, ◌+◌, ◌-◌, ◌≤◌, ◌<◌}
use native.Mathlib.Nat.{sub_self, lt_of_not-le}
use native.Mathlib.Numerals.{add-one}
use native.Mathlib.Omega.{arith}
use native.Mathlib.Decide.{dec_le, dec_lt}
use Rattle.numbers.proofs.Search.{Least, least}
use Rattle.cubic.specs.Cubic.{N, GasRoot, DenseRoot}
use Rattle.cubic.specs.Sides.{plus, minus, PositiveFrom, NotPositiveTo}
use Rattle.cubic.proofs.Shape.{to_b, above_grid}
use Rattle.cubic.proofs.Roots.{gas_root, dense_root}

module _ (a b : ℕ) where
  abbrev top : ℕ
  top = N + b + 1

  -- m steps below the top g is not positive
  abbrev NotPositiveBelowTop : ℕ → Type 0
  NotPositiveBelowTop m = plus a (top - m) ≤ minus a b (top - m)

  abbrev PositiveAt : ℕ → Type 0
  PositiveAt z = minus a b z < plus a z

  pub gas_exists : (z : ℕ) × GasRoot a b z
  unfolding PositiveFrom
  gas_exists = (top - down.at, gas_root a b down.holds (λ y above. by_grid y above (dec_le y (N + b))))
    where
      down : Least NotPositiveBelowTop
      down = least NotPositiveBelowTop (λ m. dec_le (plus a (top - m)) (minus a b (top - m))) top (rw sub_self (to_b a b 0 (omega arith)))

      by_grid : (y : ℕ) → top - down.at + 1 ≤ y → Dec (y ≤ N + b) → PositiveAt y
      by_grid y above (yes within) =
          let back : top - (top - y) ≡ y = omega arith in
          lt_of_not-le (rw back at (down.none_before (top - y) (omega arith)))
      by_grid y above (no f) = above_grid a b y (lt_of_not-le f)

  pub dense_exists : (z : ℕ) × DenseRoot a b z
  unfolding NotPositiveTo
  dense_exists = from up.at up.holds up.none_before
    where
      up : Least PositiveAt
      up = least PositiveAt (λ z. dec_lt (minus a b z) (plus a z)) top (above_grid a b top (omega arith))

      from : (m : ℕ) → PositiveAt m → ((y : ℕ) → y < m → PositiveAt y → ⊥) → (z : ℕ) × DenseRoot a b z
      from zero positive none = absurd (omega (arith, to_b a b 0 (omega arith)))
      from (suc z) positive none = (z, dense_root a b (λ y below. omega (arith, none y (omega arith))) (rw add-one positive))
