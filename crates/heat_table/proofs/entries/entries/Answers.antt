-- `heat_table::entries::entries` meets its contract: the test is computed over the whole constant. Assumes nothing.
use mathlib.Core.Path.{refl}
use Rattle.heat.specs.Printed.{printed}
use Rattle.heat_table.specs.Entries.{polynomial}
use Rattle.heat_table.proofs.Table.{entry_holds, are_entries, every_entry_is_the_rule}
use Rattle.heat_table.proofs.entries.entries.Goals as goal

pub returns : goal.returns
unfolding are_entries entry_holds polynomial printed
returns c = every_entry_is_the_rule _ refl tt
