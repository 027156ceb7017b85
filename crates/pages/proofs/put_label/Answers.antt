-- `pages::put_label` meets its contract: the label, and the spaces that are left behind it. Assumes nothing.
use mathlib.Core.Path.{refl}
use native.Mathlib.Omega.{arith}
use Rattle.pages.proofs.Filling.{put_fills, left_fills}
use Rattle.pages.proofs.put_label.Goals as goal

pub returns : goal.returns
returns c =
    left_fills c.requires.0 (put_fills _ (omega arith) refl c.put-end.ensures) c.put_spaces.ensures
