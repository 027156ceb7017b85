-- `fluid::coefficients::reduce_fluid` meets its contract: its tests are the ranges' ends, each value is the definition's quotient, and `Ranges.antt`
-- bounds what it is made of. Assumes nothing.
use mathlib.Core.Path.{refl, ap}
use native.Mathlib.Omega.{arith}
use Rattle.fluid.specs.declared.choice.Ratios.{Ratios}
use Rattle.fluid.specs.Figures.{critical_millikelvin, critical_pascals, Accepted}
use Rattle.fluid.proofs.Accepting.{passes}
use Rattle.fluid.proofs.Ranges.{Spanned, spanned, Bounds, bounds}
use Rattle.fluid.proofs.coefficients.reduce_fluid.Goals as goal

-- the state past its four tests
accepted : (c : goal.After-ratios_of-ratios) → let start = c.args in Accepted start.fluid start.millikelvin start.pascals
accepted c = omega (arith, c.coldest_millikelvin-coldest.ensures)

-- what is known of t and p of such a state, and of s too, once its root is found
known : (c : goal.After-ratios_of-ratios) → let start = c.args in Spanned (critical_millikelvin start.fluid start.millikelvin) (critical_pascals start.fluid start.millikelvin) c.ratios_of-ratios.result.t c.ratios_of-ratios.result.p
known c = rw c.ratios_of-ratios.ensures (spanned _ _ _ (accepted c))

found : (c : goal.After-square_root-s) → let ratios = c.ratios_of-ratios.result in Bounds ratios.t ratios.p c.square_root-s.result
found c = bounds (known c.before) c.square_root-s.ensures

pub overflow_cast-t : goal.overflow_cast-t
overflow_cast-t c = omega (arith, known c)

pub overflow_mul-a : goal.overflow_mul-a
overflow_mul-a c = omega (arith, found c)

pub overflow_mul-a-2 : goal.overflow_mul-a-2
overflow_mul-a-2 c = omega (arith, found c)

pub overflow_mul-a-3 : goal.overflow_mul-a-3
overflow_mul-a-3 c = omega (arith, found c)

pub nonzero_div-a : goal.nonzero_div-a
nonzero_div-a c = omega (arith, found c)

pub nonzero_div-b : goal.nonzero_div-b
nonzero_div-b c = omega (arith, found c)

pub returns : goal.returns
returns c =
    let start = c.args in (
      passes start.fluid refl _ _ (accepted c.before),
      record {
        is_t = ap (λ (r : Ratios). r.t) c.ratios_of-ratios.ensures;
        is_p = ap (λ (r : Ratios). r.p) c.ratios_of-ratios.ensures;
        is_s = c.square_root-s.ensures;
        is_a = refl;
        is_b = refl;
      },
    )
