-- The table of docs/RULES.md, "Points worked through", holds of the definitions: `holds` is one test, which computes over the whole table, and
-- `sound` the one law that says what a row means that passes it. Assumes nothing.
use mathlib.Core.Bool.{Bool, true, ◌&&◌}
use mathlib.Core.List.{List, [], ◌∷◌}
use lib.Dec.{T}
use Rattle.cubic.specs.Cubic.{g, polynomial}
use Rattle.cubic.specs.Sides.{plus, minus, plus_step, minus_step, rise}
use Rattle.fluid.specs.Figures.{lowered}
use Rattle.densities.specs.Densities.{density}
use Rattle.worked.specs.Rows.{Row, answered, value, refused, Right, Every, none, next}
use Rattle.worked.specs.Table.{table}
use Rattle.worked.proofs.Tests.{Tested, apply}
use Rattle.worked.proofs.Roots.{same}
use Rattle.worked.proofs.Answers.{right_answer}
use Rattle.worked.proofs.Refusals.{right_refusal}

abbrev pub tested : (row : Row) → Tested (Right row)
tested (answered fluid millikelvin pascals critical_temperature critical_pressure reduced slots answer) =
    right_answer fluid millikelvin pascals critical_temperature critical_pressure reduced slots answer
tested (value a b z is) = same (g a b z) is
tested (refused number millikelvin pressures slots refusal) = right_refusal number millikelvin refusal pressures slots

abbrev pub holds : Row → Bool
holds row = (tested row).test

pub sound : (row : Row) → T (holds row) → Right row
sound row = (tested row).shows

abbrev pub all_hold : List Row → Bool
all_hold [] = true
all_hold (row ∷ rows) = holds row && all_hold rows

pub all_right : (rows : List Row) → T (all_hold rows) → Every Right rows
all_right [] passed = none
all_right (row ∷ rows) passed = apply (holds row) (all_hold rows) (λ held. next (sound row held)) (all_right rows) passed

pub starred_points : Every Right table
unfolding table g polynomial plus minus plus_step minus_step rise lowered density
starred_points = all_right table tt
