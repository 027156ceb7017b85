-- `pages::put_densities` meets its contract: its rows, one behind another. Assumes nothing.
use mathlib.Core.Path.{refl}
use Rattle.std.proofs.Common.{rules}
use Rattle.pages.proofs.Rows.{row_before, no_rows}
use Rattle.pages.proofs.put_densities.Goals as goal

pub returns : goal.returns
returns c =
    row_before c.put_row-smallest.ensures refl (λ section number is. search rules) (row_before c.put_row-smallest_line.ensures refl (λ section number is. search rules) (row_before c.put_row-largest.ensures refl (λ section number is. search rules) (row_before c.put_row-largest_line.ensures refl (λ section number is. search rules) (row_before c.put_row.ensures refl (λ section number is. search rules) (no_rows c.put_row.ensures.fills)))))
