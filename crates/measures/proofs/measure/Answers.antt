-- `measures::measure` meets its contract: what is told is told by the first check that applies. Assumes nothing.
use borrow.Author.Rules.{rules}
use Rattle.measures.proofs.Measured.{measuring}
use Rattle.measures.proofs.measure.Goals as goal

pub returns-then-any_unfit : goal.returns-then-any_unfit
returns-then-any_unfit c = search (rules, measuring)

pub returns-then-any_over_ten_digits : goal.returns-then-any_over_ten_digits
returns-then-any_over_ten_digits c = search (rules, measuring)

pub section_length-hydrogen-requires : goal.section_length-hydrogen-requires
section_length-hydrogen-requires c = search (rules, measuring)

pub section_length-oxygen-requires : goal.section_length-oxygen-requires
section_length-oxygen-requires c = search (rules, measuring)

pub section_length-nitrogen-requires : goal.section_length-nitrogen-requires
section_length-nitrogen-requires c = search (rules, measuring)

pub returns-then-room-length : goal.returns-then-room-length
returns-then-room-length c = search (rules, measuring)

pub returns-then-length-gt-MOST_BYTES : goal.returns-then-length-gt-MOST_BYTES
returns-then-length-gt-MOST_BYTES c = search (rules, measuring)

pub returns : goal.returns
returns c = search (rules, measuring)
