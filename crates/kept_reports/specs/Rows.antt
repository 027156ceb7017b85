-- docs/RULES.md, "The report": a report as rows of eleven numbers, and what is kept of a sheet with one more before them; and the sheet that any
-- rows keep.
use Rattle.std.specs.Prelude.{List, [], ◌∷◌, ◌++◌, ℕ, get_or}
use Rattle.parts.specs.Bytes.{Reader}
use Rattle.kept.specs.Numbers.{numbers_of, reader_of}
use Rattle.tallies.specs.declared.Report.{Report}
use Rattle.tallies.specs.Rows.{row_of, report_at}
use Rattle.reports.specs.declared.Reporting.{Reporting}

-- hydrogen's first
abbrev pub rows_of : Report → List (List ℕ)
rows_of report = row_of report.hydrogen ∷ row_of report.oxygen ∷ row_of report.nitrogen ∷ []

-- the numbers of the reader, the state lines so far, and two that are not used
abbrev pub reader_row : Reader → (state_lines : ℕ) → List ℕ
reader_row reader state_lines = numbers_of reader ++ (state_lines ∷ 0 ∷ 0 ∷ [])

abbrev pub kept_rows : Reporting → List (List ℕ)
kept_rows reporting = reader_row reporting.reader reporting.running.state_lines ∷ rows_of reporting.running.report

abbrev pub reporting_of : List (List ℕ) → Reporting
reporting_of rows =
    record {
      reader = reader_of (get_or rows 0 []);
      running =
          record {
            state_lines = get_or (get_or rows 0 []) 8 0;
            report = report_at (get_or rows 1 []) (get_or rows 2 []) (get_or rows 3 []);
          };
    }
