-- What `Cubic::new` promises: the cubic with these two coefficients, or that they lie outside the bounds.
use Rattle.std.specs.Prelude.{◌≡◌, ℕ, Option, Some, None}
use Rattle.cubic.specs.Promise.{Within}
use Rattle.cubic.specs.declared.Cubic.{Cubic}

-- the cubic z^3 - N z^2 + .. with the coefficients a and b, within the bounds
pub record IsCubic (a b : ℕ) (cubic : Cubic) : Type 0 where
  pub within : Within a b
  pub is_a : cubic.a ≡ a
  pub is_b : cubic.b ≡ b

abbrev pub Bounded : (a b : ℕ) → Option Cubic → Type 0
Bounded a b (Some cubic) = IsCubic a b cubic
Bounded a b None = Within a b → ⊥
