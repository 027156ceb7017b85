-- `digests::go_on` meets its contract: a number goes on by its digits, and any other digest stays. Assumes nothing.
use Rattle.sheets.specs.declared.Digest.TheVariants.{First, Second}
use Rattle.digests.proofs.Runs.{first_grows, second_grows, goes_by_digits}
use Rattle.digests.proofs.go_on.Goals as goal

pub returns-in-First : goal.returns-in-First
returns-in-First c = rw c.in-First.is (goes_by_digits c.take_digits-run.result First first_grows c.take_digits-run.ensures)

pub returns-in-Second : goal.returns-in-Second
returns-in-Second c = rw c.in-Second.is (goes_by_digits c.take_digits-run-in-Second.result (Second _) (second_grows _) c.take_digits-run-in-Second.ensures)
