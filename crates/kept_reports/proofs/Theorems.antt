-- What is proved of a report that is kept as numbers: nothing of it is lost, zeros are a sheet before its first byte, and each contract fixes its answer.
-- Assumes nothing.
use mathlib.Core.Path.{◌≡◌, refl, sym, ◌∙◌}
use mathlib.Core.List.{List}
use Prim.Native.Nat.{ℕ}
use lib.ListN.{get_or, replicate}
use Rattle.std.specs.Prelude.{Ok, Err}
use Rattle.sheets.specs.declared.Fault.TheVariants.{Malformed, TooLong}
use Rattle.parts.specs.Bytes.{Reader}
use Rattle.kept.specs.Numbers.{reader_of}
use Rattle.kept.proofs.Theorems as kept
use Rattle.tallies.specs.declared.Report.{Report}
use Rattle.reports.specs.declared.Reporting.{Reporting}
use Rattle.reports.specs.Parts.{at_start}
use Rattle.kept_reports.specs.Rows.{rows_of, reader_row, kept_rows, reporting_of}

-- the reader that a row keeps
reader_back : (reader : Reader) (state_lines : ℕ) → reader_of (reader_row reader state_lines) ≡ reader
reader_back (Ok standing) state_lines = kept.nothing_is_lost (Ok standing)
reader_back (Err (Malformed place)) state_lines = refl
reader_back (Err TooLong) state_lines = refl

-- and the state lines
lines_back : (reader : Reader) (state_lines : ℕ) → get_or (reader_row reader state_lines) 8 0 ≡ state_lines
lines_back (Ok standing) state_lines = refl
lines_back (Err (Malformed place)) state_lines = refl
lines_back (Err TooLong) state_lines = refl

-- What is kept comes back as it was.
pub nothing_is_lost : (reporting : Reporting) → reporting_of (kept_rows reporting) ≡ reporting
nothing_is_lost reporting =
    let running = reporting.running in
    rw (reader_back reporting.reader running.state_lines, lines_back reporting.reader running.state_lines) refl

pub zeros_are_the_start : reporting_of (replicate 4 (replicate 11 0)) ≡ at_start
zeros_are_the_start = refl

pub rows_determined : (report : Report) (rows rows' : List (List ℕ)) → rows ≡ rows_of report → rows' ≡ rows_of report → rows ≡ rows'
rows_determined report rows rows' is is' = is ∙ sym is'

pub kept_rows_determined : (reporting : Reporting) (rows rows' : List (List ℕ)) → rows ≡ kept_rows reporting → rows' ≡ kept_rows reporting → rows ≡ rows'
kept_rows_determined reporting rows rows' is is' = is ∙ sym is'

pub reporting_determined : (rows : List (List ℕ)) (reporting reporting' : Reporting) → reporting ≡ reporting_of rows → reporting' ≡ reporting_of rows → reporting ≡ reporting'
reporting_determined rows reporting reporting' is is' = is ∙ sym is'
