-- `woolyard::layout::faulty_line_length` meets its contract: only a sheet that is badly formed shows a line back. Assumes nothing.
use mathlib.Core.Path.{◌≡◌, ap}
use mathlib.Core.List.{List}
use Prim.Native.Nat.{ℕ}
use lib.ListN.{length}
use Rattle.readings.specs.declared.SheetFigures.{SheetFigures}
use Rattle.readings.specs.Figures.{Reading, sheet_figures}
use Rattle.readings.specs.Replies.{ReadsAs, shown, ShowsBack}
use Rattle.readings.proofs.Theorems.{figures_determined}
use Rattle.woolyard.proofs.layout.faulty_line_length.Goals as goal

-- the part of the sheet that is shown back belongs to the one reading there is
line_of_reading : (bytes : List ℕ) (sheet part : ℕ) (line : List ℕ) (reply : Reading) → ReadsAs bytes (sheet_figures reply) → ShowsBack bytes sheet part line → length line ≡ length (shown bytes (sheet_figures reply))
line_of_reading bytes sheet part line reply reads_as shows =
    rw shows.is_line (ap (λ (f : SheetFigures). length (shown bytes f)) (figures_determined bytes shows.figures (sheet_figures reply) shows.reads_as reads_as))

pub returns-in-Err-Malformed : goal.returns-in-Err-Malformed
returns-in-Err-Malformed c = line_of_reading _ _ _ _ c.args.reading c.requires c.faulty_line.ensures.1
