-- docs/RULES.md, "The report": what `woolyard_report`, `woolyard_report_take` and `woolyard_report_end` leave with their caller. The sheet and the part are only read.
use Rattle.std.specs.Prelude.{◌≡◌, List, ℕ}
use Rattle.parts.specs.Takes.{number_of_reader}
use Rattle.reports.specs.declared.Reporting.{Reporting}
use Rattle.reports.specs.Sheets.{Reported, figures_of, ReportsAs}
use Rattle.reports.specs.Parts.{TakesPart, over_here}
use Rattle.kept_reports.specs.Rows.{kept_rows, reporting_of}
use Rattle.laying.specs.Reports.{ReportLaid}

pub record ReportAnswers (bytes : List ℕ) (number : ℕ) (rows : List (List ℕ)) (place : ℕ) : Type 0 where
  pub reply : Reported
  pub reports_as : ReportsAs bytes (figures_of reply)
  pub laid : ReportLaid reply number rows place

pub record ReportTakeAnswers (before : List (List ℕ)) (part : List ℕ) (number : ℕ) (after : List (List ℕ)) : Type 0 where
  pub reporting : Reporting
  pub takes : TakesPart (reporting_of before) part reporting
  pub is_number : number ≡ number_of_reader reporting.reader
  pub is_after : after ≡ kept_rows reporting

abbrev pub ReportEndAnswers : (kept : List (List ℕ)) (number : ℕ) (rows : List (List ℕ)) (place : ℕ) → Type 0
ReportEndAnswers kept number rows place = ReportLaid (over_here (reporting_of kept)) number rows place
