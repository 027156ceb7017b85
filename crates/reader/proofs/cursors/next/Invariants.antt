-- `reader::cursors::next` meets its contract. The loop's invariant: what comes next from where the cursor is comes next from where it
-- was. The measure is how many sections are still to begin. Assumes nothing.
use Prim.Native.Nat.{◌-◌}
use Rattle.sheets.specs.Grammar.{all_sections}
use Rattle.sheets.specs.Reading.{Next, Comes}
use Rattle.reader.proofs.cursors.next.Given as goal

abbrev pub invariant-loop-after : goal.invariant-loop-after
invariant-loop-after l = (next : Next) → Comes all_sections l.sheet l.cursor next → Comes all_sections l.sheet l.initial.cursor next

abbrev pub decreases-loop-after : goal.decreases-loop-after
decreases-loop-after l = all_sections - l.cursor.begun
