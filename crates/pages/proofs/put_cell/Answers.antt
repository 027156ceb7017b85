-- `pages::put_cell` meets its contract: the spaces that are left before the text, and the text. Assumes nothing.
use mathlib.Core.Path.{refl}
use native.Mathlib.Omega.{arith}
use Rattle.pages.proofs.Filling.{put_fills, right_fills}
use Rattle.pages.proofs.put_cell.Goals as goal

pub returns : goal.returns
returns c =
    right_fills c.requires.0 c.put_spaces-begin.ensures (put_fills _ (omega arith) refl c.put.ensures)
