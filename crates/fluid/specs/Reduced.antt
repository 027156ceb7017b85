-- docs/RULES.md, "From a state to the cubic": t, p, s, a and b, in its order.
use Rattle.std.specs.Prelude.{◌≡◌, ℕ, ◌*◌, ◌/◌}
use Rattle.squares.specs.SquareRoot.{SquareRoot}
use Rattle.fluid.specs.declared.choice.Fluid.{Fluid}
use Rattle.fluid.specs.declared.coefficients.Reduced.{Reduced}
use Rattle.fluid.specs.Figures.{critical_millikelvin, critical_pascals}

pub record Reduces (fluid : Fluid) (millikelvin pascals : ℕ) (r : Reduced) : Type 0 where
  pub is_t : r.t ≡ 10000 * millikelvin / critical_millikelvin fluid millikelvin
  pub is_p : r.p ≡ 1000000 * pascals / critical_pascals fluid millikelvin
  pub is_s : SquareRoot (10000 * r.t) r.s
  pub is_a : r.a ≡ 42748000000 * r.p / (r.t * r.t * r.s)
  pub is_b : r.b ≡ 8664 * r.p / (100 * r.t)
