-- Every product of a, b and a place z that the halves of g hold is bounded, so their sums stay below 2^64. Assumes nothing.
use Prim.Native.Nat.{ℕ, ◌*◌, ◌≤◌}
use native.Mathlib.Nat.{mul-le-mul}
use Rattle.cubic.specs.Promise.{largest_a, largest_b, Within}
use Rattle.cubic.specs.Sides.{farthest}

pub record Monomials (a b z : ℕ) : Type 0 where
  pub zz : z * z ≤ farthest * farthest
  pub zzz : z * (z * z) ≤ farthest * (farthest * farthest)
  pub za : z * a ≤ farthest * largest_a
  pub bb : b * b ≤ largest_b * largest_b
  pub ab : a * b ≤ largest_a * largest_b
  pub zb : z * b ≤ farthest * largest_b
  pub zbb : z * (b * b) ≤ farthest * (largest_b * largest_b)

pub monomials : {a b z : ℕ} → Within a b → z ≤ farthest → Monomials a b z
monomials w h =
    record {
      zz = mul-le-mul h h;
      zzz = mul-le-mul h (mul-le-mul h h);
      za = mul-le-mul h w.a_fits;
      bb = mul-le-mul w.b_fits w.b_fits;
      ab = mul-le-mul w.a_fits w.b_fits;
      zb = mul-le-mul h w.b_fits;
      zbb = mul-le-mul h (mul-le-mul w.b_fits w.b_fits);
    }
