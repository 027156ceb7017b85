-- docs/RULES.md, "The report": a section's figures as a row of eleven numbers, in which C has them.
use Rattle.std.specs.Prelude.{List, [], ◌∷◌, ℕ, get_or}
use Rattle.tallies.specs.declared.Section.{Section}
use Rattle.tallies.specs.declared.Report.{Report}

-- ONE, SPLIT, 21, 22, 31, 32, sum, smallest, its line, largest, its line
abbrev pub row_of : Section → List ℕ
row_of section =
    section.one
    ∷ section.split
    ∷ section.temperature_too_low
    ∷ section.temperature_too_high
    ∷ section.pressure_too_low
    ∷ section.pressure_too_high
    ∷ section.sum
    ∷ section.smallest.density
    ∷ section.smallest.line
    ∷ section.largest.density
    ∷ section.largest.line
    ∷ []

abbrev pub section_at : List ℕ → Section
section_at row =
    record {
      one = get_or row 0 0;
      split = get_or row 1 0;
      temperature_too_low = get_or row 2 0;
      temperature_too_high = get_or row 3 0;
      pressure_too_low = get_or row 4 0;
      pressure_too_high = get_or row 5 0;
      sum = get_or row 6 0;
      smallest = record { density = get_or row 7 0; line = get_or row 8 0 };
      largest = record { density = get_or row 9 0; line = get_or row 10 0 };
    }

abbrev pub report_at : (hydrogen oxygen nitrogen : List ℕ) → Report
report_at hydrogen oxygen nitrogen = record { hydrogen = section_at hydrogen; oxygen = section_at oxygen; nitrogen = section_at nitrogen }
