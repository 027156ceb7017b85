-- What the functions that put a page together promise one another: a text fills columns of a buffer. What a page is, is not said by this file.
use Rattle.std.specs.Prelude.{◌≡◌, List, [], ◌∷◌, ℕ, ◌+◌, ◌≤◌, length}
use Rattle.tallies.specs.declared.Section.{Section}
use Rattle.tallies.specs.declared.Report.{Report}
use Rattle.buffers.specs.Puts.{Holds}
use Rattle.pages.specs.Columns.{line_bytes}
use Rattle.pages.specs.Pages.{Row, row_text, rows_text}

-- the text takes just these columns, from a place on, and they lie within the buffer
pub record Fills (columns : ℕ) (text before : List ℕ) (at : ℕ) (after : List ℕ) (next : ℕ) : Type 0 where
  pub within : at + columns ≤ length before
  pub wide : length text ≡ columns
  pub holds : Holds text before at after next

-- a row of numbers, each of which is the figure of its section
pub record RowFills (IsFigure : Section → ℕ → Type 0) (label : List ℕ) (report : Report) (before : List ℕ) (at : ℕ) (after : List ℕ) (next : ℕ) : Type 0 where
  pub hydrogen : ℕ
  pub oxygen : ℕ
  pub nitrogen : ℕ
  pub of_hydrogen : IsFigure report.hydrogen hydrogen
  pub of_oxygen : IsFigure report.oxygen oxygen
  pub of_nitrogen : IsFigure report.nitrogen nitrogen
  pub fills : Fills line_bytes (row_text label hydrogen oxygen nitrogen) before at after next

abbrev pub rows_bytes : List Row → ℕ
rows_bytes [] = 0
rows_bytes (row ∷ rows) = line_bytes + rows_bytes rows

pub record RowsFill (report : Report) (rows : List Row) (before : List ℕ) (at : ℕ) (after : List ℕ) (next : ℕ) : Type 0 where
  pub fills : Fills (rows_bytes rows) (rows_text report rows) before at after next
