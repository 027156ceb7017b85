-- `heat_table::ideal_heat_capacity` refuses what is out of hydrogen's range. Assumes nothing.
use borrow.Author.Rules.{rules}
use Rattle.heat_table.proofs.Telling.{tells_too_low, tells_too_high}
use Rattle.heat_table.proofs.ideal_heat_capacity.Goals as goal

pub returns-then-millikelvin-lt-COLDEST_MILLIKELVIN : goal.returns-then-millikelvin-lt-COLDEST_MILLIKELVIN
returns-then-millikelvin-lt-COLDEST_MILLIKELVIN c = search (rules, tells_too_low)

pub returns-then-millikelvin-gt-HOTTEST_MILLIKELVIN : goal.returns-then-millikelvin-gt-HOTTEST_MILLIKELVIN
returns-then-millikelvin-gt-HOTTEST_MILLIKELVIN c = search (rules, tells_too_high)
