-- What the private function promises. Nothing public is stated by this file.
use Rattle.std.specs.Prelude.{List, ℕ, take, Result, Ok, Err}
use Rattle.io.specs.Counts.{IsPrefixLen}
use Rattle.sheets.specs.declared.Fault.{Fault}
use Rattle.readings.specs.Figures.{sheet_figures}
use Rattle.readings.specs.Replies.{ReadsAs}
use Rattle.printing.specs.Prints.{Prints}

-- the text of a good sheet, or the fault that the sheet is refused for
abbrev pub Gathers : (bytes buffer : List ℕ) → Result ℕ Fault → Type 0
Gathers bytes buffer (Ok end) = IsPrefixLen end buffer × Prints bytes (take end buffer)
Gathers bytes buffer (Err fault) = ReadsAs bytes (sheet_figures (Err fault))
