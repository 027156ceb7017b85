-- docs/RULES.md, "What the programs print": what `sheet` prints for any bytes at all, a line for each state line, or for a refused sheet only its own.
use Rattle.std.specs.Prelude.{◌≡◌, List, [], ◌∷◌, ◌++◌, ℕ, Ok, Err}
use Rattle.sheets.specs.declared.State.{State}
use Rattle.sheets.specs.Grammar.{all_sections, Pair, Good, states_from}
use Rattle.readings.specs.Replies.{ReadsAs}
use Rattle.readings.specs.Figures.{Reading, sheet_figures}
use Rattle.wording.specs.Wording.{LineText, FaultText}

-- one line a state, in the order of the sheet
abbrev pub LinesText : List State → (text : List ℕ) → Type 0
LinesText [] text = text ≡ []
LinesText (state ∷ states) text = (line : List ℕ) × (rest : List ℕ) × LineText state line × LinesText states rest × (text ≡ line ++ rest)

pub record AnswersText (bytes text : List ℕ) : Type 0 where
  pub lists : List (List Pair)
  pub good : Good all_sections bytes lists
  pub are_lines : LinesText (states_from 0 lists) text

abbrev pub ReadingText : (bytes : List ℕ) → Reading → (text : List ℕ) → Type 0
ReadingText bytes (Ok count) text = AnswersText bytes text
ReadingText bytes (Err fault) text = FaultText (Err fault) text

pub record Prints (bytes text : List ℕ) : Type 0 where
  pub reading : Reading
  pub reads_as : ReadsAs bytes (sheet_figures reading)
  pub is_text : ReadingText bytes reading text
