-- `heat::coefficients_at` meets its contract. The rows are the rules' (`table_4`), and each test that was taken or left is a limit of the range
-- that the row is for. Assumes nothing.
use mathlib.Core.Path.{refl}
use lib.Ieee.{Float, of_bits}
use Rattle.heat.specs.Printed.{Range, up_to_40, up_to_150, up_to_500, above_500}
use Rattle.heat.specs.Table.{Holds, coefficients_of}
use Rattle.heat.specs.Inside.{RowFor}
use Rattle.heat.proofs.Limits.{at_most, above}
use Rattle.heat.proofs.table.coefficients_at.Goals as goal

row_for : (kelvin : Float) (range : Range) → Holds range kelvin → RowFor kelvin (coefficients_of range)
row_for kelvin range holds = record { range = range; holds = holds; is_row = refl }

pub returns-then-kelvin : goal.returns-then-kelvin
unfolding of_bits
returns-then-kelvin c =
    let to = at_most 40 _ c.args.kelvin (tt, refl, refl) c.requires c.if-kelvin.true in
    rw c.table_4-rows.ensures (row_for c.args.kelvin up_to_40 to)

pub returns-then-kelvin-2 : goal.returns-then-kelvin-2
unfolding of_bits
returns-then-kelvin-2 c =
    let from = above 40 _ c.args.kelvin (tt, refl, refl) c.requires c.if-kelvin.false in
    let to = at_most 150 _ c.args.kelvin (tt, refl, refl) c.requires c.if-kelvin-2.true in
    rw c.table_4-rows.ensures (row_for c.args.kelvin up_to_150 (from, to))

pub returns-then-kelvin-3 : goal.returns-then-kelvin-3
unfolding of_bits
returns-then-kelvin-3 c =
    let from = above 150 _ c.args.kelvin (tt, refl, refl) c.requires c.if-kelvin-2.false in
    let to = at_most 500 _ c.args.kelvin (tt, refl, refl) c.requires c.if-kelvin-3.true in
    rw c.table_4-rows.ensures (row_for c.args.kelvin up_to_500 (from, to))

pub returns : goal.returns
unfolding of_bits
returns c =
    let from = above 500 _ c.args.kelvin (tt, refl, refl) c.requires c.if-kelvin-3.false in
    rw c.table_4-rows.ensures (row_for c.args.kelvin above_500 from)
