use mathlib.Core.Path.{sym, ◌∙◌}
use native.Mathlib.Omega.{arith}
use Rattle.sheets.specs.declared.Line.TheVariants.{Count, Told}
use Rattle.sheets.specs.Grammar.{all_sections}
use Rattle.sheets.specs.Reading.{CountLine, Here, behind_count, here}
use Rattle.sheets.proofs.Meets.{stands_as}
use Rattle.readings.proofs.Nexts.{long_next, told_next}
use Rattle.reader.proofs.cursors.next.Goals as goal

count_line : (c : goal.In-Count) → CountLine all_sections c.args.sheet.now c.loop-after.cursor c.in-Count.after
count_line c = stands_as _ _ _ (Count _) (sym c.in-Count.is ∙ c.line_at.ensures)

here_line : (c : goal.In-Told) → Here all_sections c.args.sheet.now c.loop-after.cursor c.in-Told.next
here_line c = stands_as _ _ _ (Told _) (sym c.in-Told.is ∙ c.line_at.ensures)

pub returns-then-sheet-gt-MOST_BYTES : goal.returns-then-sheet-gt-MOST_BYTES
returns-then-sheet-gt-MOST_BYTES c = long_next _ _ (omega arith)

pub loop-after-preserved : goal.loop-after-preserved
loop-after-preserved c = λ next comes. c.loop-after.invariant next (behind_count (count_line c) comes)

pub returns-in-Told : goal.returns-in-Told
returns-in-Told c =
    told_next _ _ c.in-Told.next (omega arith)
    (c.loop-after.invariant _ (here (here_line c)))
