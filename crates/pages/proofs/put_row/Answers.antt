-- `pages::put_row` meets its contract: its parts, one behind another. Assumes nothing.
use mathlib.Core.Path.{refl}
use native.Mathlib.Omega.{arith}
use Rattle.pages.specs.Pages.{row_text}
use Rattle.pages.proofs.Filling.{line_fills}
use Rattle.pages.proofs.put_row.Goals as goal

pub returns : goal.returns
unfolding row_text
returns g c =
    record {
      hydrogen = c.figure.result;
      oxygen = c.figure-2.result;
      nitrogen = c.figure-3.result;
      of_hydrogen = c.figure.ensures;
      of_oxygen = c.figure-2.ensures;
      of_nitrogen = c.figure-3.ensures;
      fills = line_fills c.put_label-first.ensures c.put_figure-second.ensures c.put_figure-third.ensures c.put_figure-row_end.ensures c.put.ensures refl (omega arith);
    }
