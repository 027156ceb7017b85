-- What the private functions ask and promise. Nothing public is stated by this file.
use Rattle.std.specs.Prelude.{Bool, true, false, ℕ, ◌*◌, ◌≤◌}
use Rattle.cubic.specs.Promise.{largest_a, largest_b}
use Rattle.bands.specs.Scalings.{most, NotAllowed, Allowed}

-- whether the scalings are allowed
abbrev pub Stand : (lower upper : ℕ) → Bool → Type 0
Stand lower upper true = Allowed lower upper
Stand lower upper false = NotAllowed lower upper

-- a leaves room for the largest scaling within the cubic's bounds
pub record Scalable (a b thousandths : ℕ) : Type 0 where
  pub a_leaves_room : a * most ≤ largest_a * 1000
  pub b_fits : b ≤ largest_b
  pub to_most : thousandths ≤ most
