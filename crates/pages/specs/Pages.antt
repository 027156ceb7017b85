-- docs/RULES.md, "What the programs print": the page about a whole sheet, as the program `report` prints it.
use Rattle.std.specs.Prelude.{List, [], ◌∷◌, ◌++◌, ℕ, ◌*◌}
use Prim.Native.String.{String}
use Rattle.tallies.specs.declared.Section.{Section}
use Rattle.tallies.specs.declared.Report.{Report}
use Rattle.sheets.specs.Grammar.{digits}
use Rattle.buffers.specs.Puts.{most_digits}
use Rattle.pages.specs.Quoted.{ascii}
use Rattle.pages.specs.Columns.{line_text, line_bytes}

unfoldable pub heading : List ℕ
heading = line_text (ascii "gas densities in g/m3") (ascii "hydrogen") (ascii "oxygen") (ascii "nitrogen")

-- a label, and which figure of each section stands behind it
pub record Row : Type 0 where
  pub label : String
  pub figure : Section → ℕ

-- how many states have one root, and how many two
abbrev pub kinds : List Row
kinds =
    record { label = "ONE"; figure = λ section. section.one }
    ∷ record { label = "SPLIT"; figure = λ section. section.split }
    ∷ []

-- how many states are refused under each number
abbrev pub refusals : List Row
refusals =
    record { label = "NO 21, too cold"; figure = λ section. section.temperature_too_low }
    ∷ record { label = "NO 22, too hot"; figure = λ section. section.temperature_too_high }
    ∷ record { label = "NO 31, pressure too low"; figure = λ section. section.pressure_too_low }
    ∷ record { label = "NO 32, pressure too high"; figure = λ section. section.pressure_too_high }
    ∷ []

-- of the states that are answered
abbrev pub densities : List Row
densities =
    record { label = "sum of gas densities"; figure = λ section. section.sum }
    ∷ record { label = "smallest gas density"; figure = λ section. section.smallest.density }
    ∷ record { label = "first on line"; figure = λ section. section.smallest.line }
    ∷ record { label = "largest gas density"; figure = λ section. section.largest.density }
    ∷ record { label = "first on line"; figure = λ section. section.largest.line }
    ∷ []

-- numbers, in decimal
unfoldable pub row_text : (label : List ℕ) (hydrogen oxygen nitrogen : ℕ) → List ℕ
row_text label hydrogen oxygen nitrogen =
    line_text label (digits most_digits hydrogen) (digits most_digits oxygen) (digits most_digits nitrogen)

abbrev pub row_of : Report → Row → List ℕ
row_of report row =
    row_text (ascii row.label) (row.figure report.hydrogen) (row.figure report.oxygen) (row.figure report.nitrogen)

abbrev pub rows_text : Report → List Row → List ℕ
rows_text report [] = []
rows_text report (row ∷ rows) = row_of report row ++ rows_text report rows

abbrev pub page_text : Report → List ℕ
page_text report = heading ++ (rows_text report kinds ++ (rows_text report refusals ++ rows_text report densities))

-- the heading, and a line for each row
abbrev pub page_bytes : ℕ
page_bytes = 12 * line_bytes
