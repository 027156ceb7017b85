-- 64 bits hold every number by which the signed g is worked out: each is the difference of two naturals (`Signed.antt` of `cubic`) that are below
-- 2^63. So what the machine reads back from its bits is the number itself, and the sign that it tests is the sign of g. Assumes nothing.
use mathlib.Core.Path.{◌≡◌, subst}
use mathlib.Core.Bool.{true, false}
use Prim.Native.Nat.{ℕ, ◌+◌, ◌*◌, ◌^◌, ◌≤◌, ◌<◌}
use native.Mathlib.Omega.{arith}
use borrow.Author.Tests.{leb-true, leb-false}
use lib.Dec.{T}
use lib.IntN.{ℤ, pos, negsuc}
use lib.Signed.{le_z}
use mir.Syntax.{w64}
use mir.Val.{SFits, of_z, to_z}
use mir.ValLaws.{to_z_pos, to_z-of_z}
use Rattle.cubic.specs.Cubic.{N, polynomial, g, Positive}
use Rattle.cubic.specs.Promise.{largest_b, Within}
use Rattle.cubic.proofs.Signed.{Less, whole, sum, opposite, scaled}
use Rattle.cubic.proofs.Widths.{Monomials, monomials}
use Rattle.slow_engine.specs.Inside.{Room}

fits : {i : ℤ} {x y : ℕ} → Less i x y → x < 2 ^ 63 → y < 2 ^ 63 → SFits w64 i
fits {i = pos n} less above below = omega arith
fits {i = negsuc n} less above below = omega arith

not_above_zero : (i : ℤ) → le_z i (pos 0) ≡ true → Positive i → ⊥
not_above_zero (pos n) test positive = omega (arith, leb-true n 0 test)
not_above_zero (negsuc n) test positive = positive

above_zero : (i : ℤ) → le_z i (pos 0) ≡ false → Positive i
above_zero (pos n) test = leb-false n 0 test
above_zero (negsuc n) test = absurd (subst T test tt)

module _ {a b z : ℕ} (within : Within a b) (near : z ≤ N + largest_b) where
  room : Room (pos N) (pos a) (pos b) (pos z)
  room =
      let bounds : Monomials a b z = monomials within (omega arith) in
      let cube = sum (whole (z * z * z)) (opposite (whole (N * z * z))) in
      let less_square = sum (whole (N * a)) (opposite (whole (b * b))) in
      let bracket = sum less_square (opposite (whole (N * b))) in
      let three_terms = sum cube (scaled z bracket) in
      record {
        zz = omega (arith, bounds);
        zzz = omega (arith, bounds);
        nz = omega arith;
        nzz = omega (arith, bounds);
        less_nzz = fits cube (omega (arith, bounds)) (omega (arith, bounds));
        na = omega arith;
        bb = omega (arith, bounds);
        less_bb = fits less_square (omega arith) (omega (arith, bounds));
        nb = omega arith;
        less_nb = fits bracket (omega arith) (omega (arith, bounds));
        times_z = fits (scaled z bracket) (omega (arith, bounds)) (omega (arith, bounds));
        with_times_z = fits three_terms (omega (arith, bounds)) (omega (arith, bounds));
        nab = omega (arith, bounds);
        less_nab = fits (sum three_terms (opposite (whole (N * a * b)))) (omega (arith, bounds)) (omega (arith, bounds));
      }

  -- of the numbers as they are handed over, in their bits
  pub room_as_read : Room (pos N) (to_z w64 a) (to_z w64 b) (to_z w64 z)
  room_as_read = rw (to_z_pos w64 a (omega arith), to_z_pos w64 b (omega arith), to_z_pos w64 z (omega arith)) room

  g_fits : SFits w64 (g a b z)
  unfolding g polynomial
  g_fits = room.less_nab

  pub g_as_read : {value : ℤ} → value ≡ polynomial (pos N) (to_z w64 a) (to_z w64 b) (to_z w64 z) → to_z w64 (of_z w64 value) ≡ g a b z
  unfolding g
  g_as_read {value} is_value =
      let is_g : value ≡ g a b z = rw (to_z_pos w64 a (omega arith), to_z_pos w64 b (omega arith), to_z_pos w64 z (omega arith)) at is_value in
      rw is_g (to_z-of_z w64 (g a b z) g_fits)

  module _ {value : ℤ} (is_g : value ≡ g a b z) where
    pub test_taken : le_z (to_z w64 (of_z w64 value)) (pos 0) ≡ true → Positive (g a b z) → ⊥
    test_taken test = not_above_zero (g a b z) (rw (is_g, to_z-of_z w64 (g a b z) g_fits) at test)

    pub test_left : le_z (to_z w64 (of_z w64 value)) (pos 0) ≡ false → Positive (g a b z)
    test_left test = above_zero (g a b z) (rw (is_g, to_z-of_z w64 (g a b z) g_fits) at test)
