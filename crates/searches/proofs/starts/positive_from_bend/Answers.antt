-- `searches::starts::positive_from_bend` meets its contract: its two tests are what keeps g positive. Assumes nothing.
use native.Mathlib.Omega.{arith}
use borrow.Author.Tests.{ltb-true}
use Rattle.cubic.proofs.Falls.{none_from_bend}
use Rattle.searches.proofs.starts.positive_from_bend.Goals as goal

pub returns : goal.returns
returns c said = none_from_bend _ _ c.rise.ensures (omega (arith, ltb-true)) (omega arith)
