-- The page of one sheet, that of crates/sheet/stdin, as it is printed. Assumes nothing.
use mathlib.Core.Path.{◌≡◌, refl}
use mathlib.Core.List.{List, [], ◌∷◌, ◌++◌}
use Prim.Native.Nat.{ℕ}
use Prim.Native.String.{String}
use Rattle.tallies.specs.declared.Reached.{Reached}
use Rattle.tallies.specs.declared.Section.{Section}
use Rattle.sheets.specs.Grammar.{line_end, digits}
use Rattle.pages.specs.Quoted.{ascii}
use Rattle.pages.specs.Columns.{left_aligned, right_aligned}
use Rattle.pages.specs.Pages.{heading, row_text, page_text}

abbrev nowhere : Reached
nowhere = record { density = 0; line = 0 }

-- one state, answered on line 2
abbrev hydrogen : Section
hydrogen =
    record {
      one = 1;
      split = 0;
      temperature_too_low = 0;
      temperature_too_high = 0;
      pressure_too_low = 0;
      pressure_too_high = 0;
      sum = 804;
      smallest = record { density = 804; line = 2 };
      largest = record { density = 804; line = 2 };
    }

-- two states that are answered, on lines 4 and 5, and one that is too cold
abbrev oxygen : Section
oxygen =
    record {
      one = 1;
      split = 1;
      temperature_too_low = 1;
      temperature_too_high = 0;
      pressure_too_low = 0;
      pressure_too_high = 0;
      sum = 30219;
      smallest = record { density = 12920; line = 4 };
      largest = record { density = 17299; line = 5 };
    }

abbrev nitrogen : Section
nitrogen =
    record {
      one = 0;
      split = 0;
      temperature_too_low = 0;
      temperature_too_high = 0;
      pressure_too_low = 0;
      pressure_too_high = 0;
      sum = 0;
      smallest = nowhere;
      largest = nowhere;
    }

abbrev lines_text : List String → List ℕ
lines_text [] = []
lines_text (line ∷ lines) = ascii line ++ (line_end ∷ lines_text lines)

pub page_as_printed :
    page_text (record { hydrogen = hydrogen; oxygen = oxygen; nitrogen = nitrogen })
    ≡ lines_text
    ("gas densities in g/m3                hydrogen               oxygen             nitrogen"
    ∷ "ONE                                         1                    1                    0"
    ∷ "SPLIT                                       0                    1                    0"
    ∷ "NO 21, too cold                             0                    1                    0"
    ∷ "NO 22, too hot                              0                    0                    0"
    ∷ "NO 31, pressure too low                     0                    0                    0"
    ∷ "NO 32, pressure too high                    0                    0                    0"
    ∷ "sum of gas densities                      804                30219                    0"
    ∷ "smallest gas density                      804                12920                    0"
    ∷ "first on line                               2                    4                    0"
    ∷ "largest gas density                       804                17299                    0"
    ∷ "first on line                               2                    5                    0"
    ∷ [])
unfolding heading row_text left_aligned right_aligned digits
page_as_printed = refl
