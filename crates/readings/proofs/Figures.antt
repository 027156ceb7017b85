-- A reply has the figures of its own case only, so that figures tell the reply. Assumes nothing.
use mathlib.Core.Path.{◌≡◌, refl, sym, ap, ◌∙◌}
use mathlib.Core.Bool.{cond}
use mathlib.Core.Option.{Option, some, none}
use Prim.Native.Nat.{ℕ}
use lib.Dec.{eqb}
use Rattle.sheets.specs.declared.State.{State}
use Rattle.sheets.specs.declared.Cursor.{Cursor}
use Rattle.sheets.specs.Reading.{Next}
use Rattle.sheets.specs.declared.Fault.TheVariants.{Malformed, TooLong}
use Rattle.std.specs.Prelude.{Ok, Err, Some, None}
use Rattle.readings.specs.Figures.{Reading, LineReading, sheet_figures, line_figures, NextFigures, next_figures}
use Rattle.readings.specs.declared.SheetFigures.{SheetFigures}
use Rattle.readings.specs.declared.LineFigures.{LineFigures}

-- what has a number: an answer, a fault, a sheet that is too long, or a line that is not there
abbrev numbered : {Reply : Type 0} (number : ℕ) (answered malformed too_long missing : Reply) → Reply
numbered number answered malformed too_long missing =
    cond (eqb number 0) answered (cond (eqb number 6) malformed (cond (eqb number 7) too_long missing))

abbrev reading_of : SheetFigures → Reading
reading_of figures = numbered figures.number (Ok figures.state_lines) (Err (Malformed figures.place)) (Err TooLong) (Err TooLong)

abbrev line_reading_of : LineFigures → LineReading
line_reading_of figures =
    numbered figures.number
    (Ok (Some (record { fluid = figures.fluid; millikelvin = figures.millikelvin; pascals = figures.pascals }))) (Err (Malformed figures.place)) (Err TooLong) (Ok None)

abbrev next_with : Option (State × Cursor) → Next → Next
next_with (some line) other = Ok (Some (record { state = line.0; after = line.1 }))
next_with none other = other

abbrev next_of : NextFigures → Next
next_of figures = next_with figures.line (numbered figures.number (Ok None) (Err (Malformed figures.place)) (Err TooLong) (Err TooLong))

reading_back : (reading : Reading) → reading_of (sheet_figures reading) ≡ reading
reading_back (Ok count) = refl
reading_back (Err (Malformed place)) = refl
reading_back (Err TooLong) = refl

line_back : (reading : LineReading) → line_reading_of (line_figures reading) ≡ reading
line_back (Ok (Some state)) = refl
line_back (Ok None) = refl
line_back (Err (Malformed place)) = refl
line_back (Err TooLong) = refl

next_back : (next : Next) → next_of (next_figures next) ≡ next
next_back (Ok (Some line)) = refl
next_back (Ok None) = refl
next_back (Err (Malformed place)) = refl
next_back (Err TooLong) = refl

module _ {Reply Figures : Type 0} {figures_of : Reply → Figures} (reply_of : Figures → Reply) (back : (reply : Reply) → reply_of (figures_of reply) ≡ reply) where
  told_alike : (reply other : Reply) → figures_of reply ≡ figures_of other → reply ≡ other
  told_alike reply other same = sym (back reply) ∙ ap reply_of same ∙ back other

pub same_reading : (reading other : Reading) → sheet_figures reading ≡ sheet_figures other → reading ≡ other
same_reading = told_alike reading_of reading_back

pub same_line : (reading other : LineReading) → line_figures reading ≡ line_figures other → reading ≡ other
same_line = told_alike line_reading_of line_back

pub same_next : (next other : Next) → next_figures next ≡ next_figures other → next ≡ other
same_next = told_alike next_of next_back
