-- Every answer is a finite double. A coefficient is below 2 ^ 4 and a temperature in range below 2 ^ 10, so a step of the chain makes a number
-- larger by 11 binary digits at most, and four steps stay far below the largest double. Assumes nothing.
use Prim.Native.Nat.{ℕ, ◌+◌, ◌*◌, ◌^◌, ◌≤◌}
use native.Mathlib.Nat.{le_trans, le-add_right, mul-le-mul_right}
use native.Mathlib.Omega.{arith}
use mathlib.Core.Bool.{Bool, ◌&&◌}
use lib.Dec.{T, leb, leb→le, lit≤}
use lib.Pow.{pow_mono}
use lib.Ieee.{Float, binary64, emax, round}
use lib.Ieee.Fits.{and_l, and_r}
use lib.Ieee.Positive.{num, den, positive-finite}
use lib.Ieee.Scale.{finite}
use Rattle.heat.specs.declared.table.Coefficients.{Coefficients}
use Rattle.heat.specs.Printed.{Range, up_to_40, up_to_150, up_to_500, above_500, printed}
use Rattle.heat.specs.Table.{nearest_double, coefficients_of}
use Rattle.heat.specs.Evaluation.{step, evaluated}
use Rattle.heat.specs.Promise.{InRange, Answered}
use Rattle.heat.proofs.Sizes.{Bounded, mul_bounded, add_bounded}

weaken : (i k : ℕ) (x : Float) → i ≤ k → Bounded i x → Bounded k x
weaken i k x h bounded = record { is_finite = bounded.is_finite; is_small = le_trans bounded.is_small (mul-le-mul_right (den x) (pow_mono h)) }

step_bounded : (k : ℕ) (kelvin sum next : Float) → 4 ≤ k + 10 → k + 10 + 1 ≤ emax binary64 → Bounded 10 kelvin → Bounded 4 next → Bounded k sum → Bounded (k + 10 + 1) (step kelvin sum next)
unfolding step
step_bounded k kelvin sum next large room warm small so_far =
    add_bounded binary64 (k + 10) _ next room (mul_bounded binary64 k 10 sum kelvin (le_trans (le-add_right (k + 10) 1) room) so_far warm) (weaken 4 (k + 10) next large small)

small : Float → Bool
small x = finite x && leb (num x) (2 ^ 4 * den x)

small_bounded : (x : Float) → T (small x) → Bounded 4 x
unfolding small
small_bounded x t =
    let fits = leb (num x) (2 ^ 4 * den x) in
    record { is_finite = and_l (finite x) fits t; is_small = leb→le (num x) (2 ^ 4 * den x) (and_r (finite x) fits t) }

record Small (row : Coefficients) : Type 0 where
  pub a1_small : Bounded 4 row.a1
  pub a2_small : Bounded 4 row.a2
  pub a3_small : Bounded 4 row.a3
  pub a4_small : Bounded 4 row.a4
  pub a5_small : Bounded 4 row.a5

-- each by computation, at a row of numerals
all_small : (row : Coefficients) → T (small row.a1) → T (small row.a2) → T (small row.a3) → T (small row.a4) → T (small row.a5) → Small row
all_small row a1 a2 a3 a4 a5 =
    record {
      a1_small = small_bounded row.a1 a1;
      a2_small = small_bounded row.a2 a2;
      a3_small = small_bounded row.a3 a3;
      a4_small = small_bounded row.a4 a4;
      a5_small = small_bounded row.a5 a5;
    }

printed_are_small : (range : Range) → Small (coefficients_of range)
unfolding small printed nearest_double coefficients_of round
printed_are_small up_to_40 = all_small (coefficients_of up_to_40) tt tt tt tt tt
printed_are_small up_to_150 = all_small (coefficients_of up_to_150) tt tt tt tt tt
printed_are_small up_to_500 = all_small (coefficients_of up_to_500) tt tt tt tt tt
printed_are_small above_500 = all_small (coefficients_of above_500) tt tt tt tt tt

evaluated_bounded : (row : Coefficients) (kelvin : Float) → Small row → Bounded 10 kelvin → Bounded 48 (evaluated row kelvin)
unfolding evaluated
evaluated_bounded row kelvin s warm =
    step_bounded 37 kelvin _ row.a1 (lit≤ tt) (lit≤ tt) warm s.a1_small
    (step_bounded 26 kelvin _ row.a2 (lit≤ tt) (lit≤ tt) warm s.a2_small
    (step_bounded 15 kelvin _ row.a3 (lit≤ tt) (lit≤ tt) warm s.a3_small
    (step_bounded 4 kelvin _ row.a4 (lit≤ tt) (lit≤ tt) warm s.a4_small s.a5_small)))

warm_enough : (kelvin : Float) → InRange kelvin → Bounded 10 kelvin
warm_enough kelvin inside = record { is_finite = positive-finite kelvin inside.is_number; is_small = omega (arith, inside.to_1000) }

pub answer_is_finite : (kelvin heat : Float) → Answered kelvin heat → T (finite heat)
answer_is_finite kelvin heat answered =
    rw answered.is_evaluated (evaluated_bounded _ kelvin (printed_are_small answered.range) (warm_enough kelvin answered.in_range)).is_finite
