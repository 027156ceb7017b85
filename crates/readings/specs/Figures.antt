-- docs/RULES.md, "Replies": the number of each answer about a sheet, and its figures. A refusal has zeros for every figure, but 6 has the place
-- of the fault.
use Rattle.std.proofs.Math.Option.{Option, some, none}
use Rattle.std.specs.Prelude as Std
use Rattle.std.specs.Prelude.{ℕ, Result, Ok, Err, Some, None}
use Rattle.sheets.specs.declared.State.{State}
use Rattle.sheets.specs.declared.Cursor.{Cursor}
use Rattle.sheets.specs.Reading.{Next}
use Rattle.sheets.specs.declared.Fault.{Fault}
use Rattle.sheets.specs.declared.Fault.TheVariants.{Malformed, TooLong}
use Rattle.readings.specs.declared.SheetFigures.{SheetFigures}
use Rattle.readings.specs.declared.LineFigures.{LineFigures}

-- a whole sheet: how many state lines it has
abbrev pub Reading : Type 0
Reading = Result ℕ Fault

abbrev pub sheet_answered : (count : ℕ) → SheetFigures
sheet_answered count = record { number = 0; state_lines = count; place = 0 }

abbrev pub sheet_refused : (number place : ℕ) → SheetFigures
sheet_refused number place = record { number = number; state_lines = 0; place = place }

abbrev pub sheet_figures : Reading → SheetFigures
sheet_figures (Ok count) = sheet_answered count
sheet_figures (Err (Malformed place)) = sheet_refused 6 place
sheet_figures (Err TooLong) = sheet_refused 7 0

-- one of its state lines, or none
abbrev pub LineReading : Type 0
LineReading = Result (Std.Option State) Fault

abbrev pub line_answered : State → LineFigures
line_answered state = record { number = 0; fluid = state.fluid; millikelvin = state.millikelvin; pascals = state.pascals; place = 0 }

abbrev pub line_refused : (number place : ℕ) → LineFigures
line_refused number place = record { number = number; fluid = 0; millikelvin = 0; pascals = 0; place = place }

abbrev pub line_figures : LineReading → LineFigures
line_figures (Ok (Some state)) = line_answered state
line_figures (Ok None) = line_refused 16 0
line_figures (Err (Malformed place)) = line_refused 6 place
line_figures (Err TooLong) = line_refused 7 0

-- what comes next in it: a state line and the cursor behind it, or none
pub record NextFigures : Type 0 where
  pub number : ℕ
  pub line : Option (State × Cursor)
  pub place : ℕ

abbrev pub next_refused : (number place : ℕ) → NextFigures
next_refused number place = record { number = number; line = none; place = place }

abbrev pub next_figures : Next → NextFigures
next_figures (Ok (Some told)) = record { number = 0; line = some (told.state, told.after); place = 0 }
next_figures (Ok None) = record { number = 0; line = none; place = 0 }
next_figures (Err (Malformed place)) = next_refused 6 place
next_figures (Err TooLong) = next_refused 7 0
