-- `pages::put_spaces` meets its contract: the first of the widest gap's spaces. Assumes nothing.
use lib.ListN.{length-replicate}
use Rattle.sheets.specs.Grammar.{space}
use Rattle.buffers.proofs.Holding.{puts_same}
use Rattle.pages.specs.Columns.{label_columns}
use Rattle.pages.proofs.Filling.{put_fills, first_spaces}
use Rattle.pages.proofs.put_spaces.Goals as goal

pub returns : goal.returns
returns c =
    put_fills c.args.many c.requires.1 (length-replicate c.args.many space) (puts_same (first_spaces c.args.many label_columns c.requires.0) c.put.ensures)
