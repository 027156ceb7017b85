-- `pages::put_page` meets its contract: the heading and the rows, one behind another. Assumes nothing.
use Rattle.pages.proofs.Filling.{both_fill}
use Rattle.pages.proofs.put_page.Goals as goal

pub returns : goal.returns
returns c =
    both_fill c.put_heading-kinds.ensures (both_fill c.put_kinds-refusals.ensures.fills (both_fill c.put_refusals-densities.ensures.fills c.put_densities.ensures.fills))
