-- docs/RULES.md, "The report": what is told of any bytes at all, taken for a sheet. Of a good one each section is reported by itself; a refused one
-- has an empty report.
use Rattle.std.specs.Prelude.{◌≡◌, List, [], ◌∷◌, ℕ, suc, ◌+◌, length, Result, Ok, Err}
use Rattle.refusals.specs.Checks.{Tells}
use Rattle.replies.specs.declared.Figures.{Figures}
use Rattle.state.specs.Replies.{Replies}
use Rattle.sheets.specs.declared.Fault.{Fault}
use Rattle.sheets.specs.declared.Fault.TheVariants.{Malformed, TooLong}
use Rattle.sheets.specs.Grammar.{all_sections, Pair, Good}
use Rattle.readings.specs.Readers.{sheet_checks, Refused}
use Rattle.tallies.specs.declared.Section.{Section}
use Rattle.tallies.specs.declared.Report.{Report}
use Rattle.tallies.specs.Entries.{Entry, SectionOf}
use Rattle.tallies.specs.Steps.{empty_report}
use Rattle.reports.specs.declared.told.ReportFigures.{ReportFigures}

-- the replies to states of one fluid that stand on one line after another
abbrev pub Entered : (fluid line : ℕ) → List Pair → List Entry → Type 0
Entered fluid line [] entries = entries ≡ []
Entered fluid line (pair ∷ pairs) entries =
    (figures : Figures) × (others : List Entry) × Replies fluid pair.millikelvin pair.pascals figures × Entered fluid (suc line) pairs others × (entries ≡ record { line = line; figures = figures } ∷ others)

-- a section whose count line has this number: its states stand on the lines behind that
pub record Reports (fluid line : ℕ) (pairs : List Pair) (section : Section) : Type 0 where
  pub entries : List Entry
  pub entered : Entered fluid (suc line) pairs entries
  pub is_section : SectionOf entries section

-- the sections from one on, with the line of its count line; fluids are numbered on
abbrev pub Sections : (fluid line : ℕ) → List (List Pair) → List Section → Type 0
Sections fluid line [] sections = sections ≡ []
Sections fluid line (pairs ∷ lists) sections =
    (section : Section) × (others : List Section) × Reports fluid line pairs section × Sections (suc fluid) (suc line + length pairs) lists others × (sections ≡ section ∷ others)

abbrev pub sections_of : Report → List Section
sections_of report = report.hydrogen ∷ report.oxygen ∷ report.nitrogen ∷ []

-- the number of each answer, the report, and the place of a fault
abbrev pub report_answered : Report → ReportFigures
report_answered report = record { number = 0; report = report; place = 0 }

abbrev pub report_refused : (number place : ℕ) → ReportFigures
report_refused number place = record { number = number; report = empty_report; place = place }

-- a sheet's report, or its fault
abbrev pub Reported : Type 0
Reported = Result Report Fault

abbrev pub figures_of : Reported → ReportFigures
figures_of (Ok report) = report_answered report
figures_of (Err (Malformed place)) = report_refused 6 place
figures_of (Err TooLong) = report_refused 7 0

-- a good sheet: its lines are counted from 1, hydrogen's count line first
pub record OfGoodSheet (bytes : List ℕ) (figures : ReportFigures) : Type 0 where
  pub lists : List (List Pair)
  pub good : Good all_sections bytes lists
  pub report : Report
  pub reports : Sections 0 1 lists (sections_of report)
  pub is_told : figures ≡ report_answered report

-- 7 comes before 6, which has the place of the fault
abbrev pub ReportsAs : (bytes : List ℕ) → ReportFigures → Type 0
ReportsAs bytes = Tells (sheet_checks all_sections bytes) (Refused all_sections bytes report_refused) (OfGoodSheet bytes)
