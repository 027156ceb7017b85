-- docs/RULES.md, "The report": what is left with a caller of a report on a sheet.
use Rattle.std.specs.Prelude.{◌≡◌, List, ℕ}
use Rattle.reports.specs.Sheets.{Reported, figures_of}
use Rattle.kept_reports.specs.Rows.{rows_of}

-- the number of a reply; its report, row by row, and the place of a fault go to the caller
pub record ReportLaid (reply : Reported) (number : ℕ) (rows : List (List ℕ)) (place : ℕ) : Type 0 where
  pub is_number : number ≡ (figures_of reply).number
  pub is_rows : rows ≡ rows_of (figures_of reply).report
  pub is_place : place ≡ (figures_of reply).place
