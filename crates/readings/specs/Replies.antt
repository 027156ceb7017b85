-- docs/RULES.md, "Sheets" and "A sheet walked": what is answered to any bytes at all, what readers of all sections tell, and the bytes that are
-- shown back.
use Rattle.std.specs.Prelude.{◌≡◌, cond, List, [], ℕ, ◌+◌, eqb, drop}
use Rattle.sheets.specs.declared.Cursor.{Cursor}
use Rattle.sheets.specs.Grammar.{all_sections}
use Rattle.sheets.specs.Reading.{line_of}
use Rattle.readings.specs.declared.SheetFigures.{SheetFigures}
use Rattle.readings.specs.declared.LineFigures.{LineFigures}
use Rattle.readings.specs.Figures.{NextFigures}
use Rattle.readings.specs.Readers.{TellsSheet, TellsLine, TellsNext}

abbrev pub ReadsAs : (bytes : List ℕ) → SheetFigures → Type 0
ReadsAs = TellsSheet all_sections

abbrev pub LineReadsAs : (bytes : List ℕ) (k : ℕ) → LineFigures → Type 0
LineReadsAs = TellsLine all_sections

abbrev pub NextIs : (bytes : List ℕ) (cursor : Cursor) → NextFigures → Type 0
NextIs = TellsNext all_sections

abbrev pub shown : (bytes : List ℕ) → SheetFigures → List ℕ
shown bytes figures = cond (eqb figures.number 6) (line_of (drop figures.place bytes)) []

-- `sheet` and `part` are where the sheet's bytes and those of the part begin
pub record ShowsBack (bytes : List ℕ) (sheet part : ℕ) (line : List ℕ) : Type 0 where
  pub figures : SheetFigures
  pub reads_as : ReadsAs bytes figures
  pub lies : part ≡ sheet + figures.place
  pub is_line : line ≡ shown bytes figures
