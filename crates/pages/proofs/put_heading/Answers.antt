-- `pages::put_heading` meets its contract: its parts, one behind another. Assumes nothing.
use mathlib.Core.Path.{refl}
use native.Mathlib.Omega.{arith}
use Rattle.pages.specs.Pages.{heading}
use Rattle.pages.proofs.Filling.{line_fills}
use Rattle.pages.proofs.put_heading.Goals as goal

pub returns : goal.returns
unfolding heading
returns c =
    line_fills c.put_label-first.ensures c.put_cell-second.ensures c.put_cell-third.ensures c.put_cell-heading_end.ensures c.put.ensures refl (omega arith)
