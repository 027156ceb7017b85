-- `heat::ideal_heat_capacity` meets its contract. What lies between two doubles that are numbers is a number; what fails either test is none in
-- the range. Assumes nothing.
use mathlib.Core.Path.{refl, ◌∙◌, ap}
use native.Mathlib.Nat.{not-le_of_lt}
use Rattle.std.proofs.lemmas.Float.{T_from_true}
use lib.Ieee.{of_bits}
use lib.Ieee.Positive.{between}
use Rattle.heat.specs.declared.table.Coefficients.{Coefficients}
use Rattle.heat.specs.Evaluation.{evaluated}
use Rattle.heat.proofs.Limits.{at_least, at_most, below, above}
use Rattle.heat.proofs.ideal_heat_capacity.Goals as goal

pub coefficients_at-coefficients-requires : goal.coefficients_at-coefficients-requires
unfolding of_bits
coefficients_at-coefficients-requires c = between _ c.args.kelvin _ tt tt (T_from_true _ c.if-kelvin.true) (T_from_true _ c.if-kelvin-2.true)

pub returns-then-kelvin-2 : goal.returns-then-kelvin-2
unfolding of_bits
returns-then-kelvin-2 c =
    let kelvin = c.args.kelvin in
    let is_number = between _ kelvin _ tt tt (T_from_true _ c.if-kelvin.true) (T_from_true _ c.if-kelvin-2.true) in
    let row = c.coefficients_at-coefficients.ensures in
    record {
      in_range =
          record {
            is_number = is_number;
            from_14 = at_least 14 _ kelvin (tt, refl, refl) is_number c.if-kelvin.true;
            to_1000 = at_most 1000 _ kelvin (tt, refl, refl) is_number c.if-kelvin-2.true;
          };
      range = row.range;
      holds = row.holds;
      is_evaluated = c.evaluate.ensures ∙ ap (λ (chosen : Coefficients). evaluated chosen kelvin) row.is_row;
    }

pub returns-else-kelvin-2 : goal.returns-else-kelvin-2
unfolding of_bits
returns-else-kelvin-2 c =
    let kelvin = c.args.kelvin in
    record {
      is_5 = refl;
      out_of_range = λ inside. not-le_of_lt (above 1000 _ kelvin (tt, refl, refl) inside.is_number c.if-kelvin-2.false) inside.to_1000;
    }

pub returns-else-kelvin : goal.returns-else-kelvin
unfolding of_bits
returns-else-kelvin c =
    let kelvin = c.args.kelvin in
    record {
      is_5 = refl;
      out_of_range = λ inside. not-le_of_lt (below 14 _ kelvin (tt, refl, refl) inside.is_number c.if-kelvin.false) inside.from_14;
    }
