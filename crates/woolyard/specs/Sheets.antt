-- docs/RULES.md, "Sheets": what `woolyard_sheet` and `woolyard_sheet_line` leave with their caller. The sheet itself is only read.
use Rattle.std.specs.Prelude.{◌≡◌, List, ◌∷◌, [], ℕ, length}
use Rattle.readings.specs.declared.SheetFigures.{SheetFigures}
use Rattle.readings.specs.declared.LineFigures.{LineFigures}
use Rattle.readings.specs.Figures.{Reading, sheet_figures, LineReading, line_figures}
use Rattle.readings.specs.Replies.{ReadsAs, LineReadsAs, shown}

-- state lines, place, length of the faulty line
abbrev pub reading_of : SheetFigures → (line_length : ℕ) → List ℕ
reading_of figures line_length = figures.state_lines ∷ figures.place ∷ line_length ∷ []

pub record SheetAnswers (bytes : List ℕ) (number : ℕ) (reading : List ℕ) : Type 0 where
  pub reply : Reading
  pub reads_as : ReadsAs bytes (sheet_figures reply)
  pub is_number : number ≡ (sheet_figures reply).number
  pub is_reading : reading ≡ reading_of (sheet_figures reply) (length (shown bytes (sheet_figures reply)))

-- fluid, temperature, pressure
abbrev pub state_of : LineFigures → List ℕ
state_of figures = figures.fluid ∷ figures.millikelvin ∷ figures.pascals ∷ []

pub record LineAnswers (bytes : List ℕ) (k number : ℕ) (state : List ℕ) : Type 0 where
  pub reply : LineReading
  pub reads_as : LineReadsAs bytes k (line_figures reply)
  pub is_number : number ≡ (line_figures reply).number
  pub is_state : state ≡ state_of (line_figures reply)
