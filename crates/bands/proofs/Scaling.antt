-- Scalings: two are allowed or are not. And a scaled: it grows with the scaling, 1000 thousandths of it are a itself, and the largest scaling keeps it
-- within the cubic's bounds. Assumes nothing.
use mathlib.Core.Path.{◌≡◌}
use mathlib.Core.Logic.{◌⊎◌, inl, inr}
use Prim.Native.Nat.{ℕ, ◌*◌, ◌≤◌}
use native.Mathlib.Nat.{mul-le-mul_left, lt_of_not-le}
use native.Mathlib.Omega.{arith}
use native.Mathlib.Decide.{dec_le}
use Rattle.numbers.proofs.Quotients.{quotient_rises}
use Rattle.cubic.specs.Promise.{largest_a, Within}
use Rattle.bands.specs.Scalings.{scaled, least, most, NotAllowed, Allowed}
use Rattle.bands.specs.Inside.{Scalable}

pub allowed_is_not_refused : {lower upper : ℕ} → Allowed lower upper → NotAllowed lower upper → ⊥
allowed_is_not_refused allowed not_allowed = grind (arith, allowed, not_allowed)

pub allowed_or_not : (lower upper : ℕ) → Allowed lower upper ⊎ NotAllowed lower upper
allowed_or_not lower upper = by_tests (dec_le least lower) (dec_le lower upper) (dec_le upper most)
  where
    by_tests : Dec (least ≤ lower) → Dec (lower ≤ upper) → Dec (upper ≤ most) → Allowed lower upper ⊎ NotAllowed lower upper
    by_tests (yes from_least) (yes in_order) (yes to_most) = inl (record { from_least = from_least; in_order = in_order; to_most = to_most })
    by_tests (yes from_least) (yes in_order) (no f) = inr (inr (inl (inr (lt_of_not-le f))))
    by_tests (yes from_least) (no f) to_most = inr (inr (inr (lt_of_not-le f)))
    by_tests (no f) in_order to_most = inr (inl (inl (lt_of_not-le f)))

pub scaled_rises : (a : ℕ) {lower upper : ℕ} → lower ≤ upper → scaled a lower ≤ scaled a upper
unfolding scaled
scaled_rises a in_order = quotient_rises 1000 (mul-le-mul_left a in_order)

pub scaled_by_one : (a : ℕ) → scaled a 1000 ≡ a
unfolding scaled
scaled_by_one a = omega arith

module _ {a b thousandths : ℕ} (scalable : Scalable a b thousandths) where
  pub product_at_most : a * thousandths ≤ largest_a * 1000
  product_at_most = omega (arith, scalable.a_leaves_room, mul-le-mul_left a scalable.to_most)

  pub within_bounds : Within (scaled a thousandths) b
  unfolding scaled
  within_bounds = omega (arith, product_at_most, scalable.b_fits)
