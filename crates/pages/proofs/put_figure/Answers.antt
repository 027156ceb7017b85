-- `pages::put_figure` meets its contract: what is put into the cell are the digits that were written. Assumes nothing.
use mathlib.Core.Path.{ap}
use native.Mathlib.Omega.{arith}
use Rattle.pages.specs.Columns.{cell_columns, right_aligned}
use Rattle.pages.proofs.Filling.{same_fills}
use Rattle.pages.proofs.Figures.{writes}
use Rattle.pages.proofs.put_figure.Goals as goal

pub returns : goal.returns
returns c = same_fills c.put_cell.ensures (ap (right_aligned cell_columns) (writes _ (omega arith) c.put_number-width.ensures))
