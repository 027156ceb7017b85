-- docs/RULES.md, "What the programs print": what `report` prints for any bytes at all, the page of the report, or for a refused sheet what `sheet`
-- prints.
use Rattle.std.specs.Prelude.{◌≡◌, List, ℕ, Ok, Err}
use Rattle.wording.specs.Wording.{FaultText}
use Rattle.reports.specs.Sheets.{Reported, figures_of, ReportsAs}
use Rattle.pages.specs.Pages.{page_text}

abbrev pub ReportedText : Reported → (text : List ℕ) → Type 0
ReportedText (Ok report) text = text ≡ page_text report
ReportedText (Err fault) text = FaultText (Err fault) text

pub record PrintsReport (bytes text : List ℕ) : Type 0 where
  pub reported : Reported
  pub reports_as : ReportsAs bytes (figures_of reported)
  pub is_text : ReportedText reported text
