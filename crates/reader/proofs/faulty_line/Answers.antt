-- `reader::faulty_line` meets its contract: a fault lies within the sheet, so the line from there to its end is a part of it. Assumes nothing.
use mathlib.Core.Path.{refl}
use native.Mathlib.Omega.{arith}
use Rattle.std.specs.Prelude.{Err}
use Rattle.sheets.specs.declared.Fault.TheVariants.{Malformed}
use Rattle.sheets.proofs.Faults.{Lies, lies, is_part}
use Rattle.readings.specs.Figures.{sheet_figures}
use Rattle.readings.proofs.Theorems.{fault_found}
use Rattle.reader.proofs.faulty_line.Goals as goal

places : (c : goal.After-scan-end) → Lies c.args.sheet.now c.in-Err-Malformed.place c.scan-end.result
places c = lies _ _ _ c.scan-end.ensures (fault_found _ _ (rw c.in-Err-Malformed.field-0-is at c.in-Err-Malformed.ensures))

pub slice_bounds-result-end-in-Err-Malformed : goal.slice_bounds-result-end-in-Err-Malformed
slice_bounds-result-end-in-Err-Malformed c = omega (arith, places c)

pub returns-in-Err-Malformed : goal.returns-in-Err-Malformed
returns-in-Err-Malformed c = (
  refl,
  record {
    figures = sheet_figures (Err (Malformed c.in-Err-Malformed.place));
    reads_as = rw c.in-Err-Malformed.field-0-is at c.in-Err-Malformed.ensures;
    lies = omega arith;
    is_line = is_part _ _ c.scan-end.result c.scan-end.ensures;
  },
)
