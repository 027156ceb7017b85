-- docs/RULES.md, "What the programs print": for a state its kind, gas root and gas density, and where the roots are two, dense root and dense
-- density behind them, or NO and the number; and for a refused sheet SHEET, the number and the place.
use Rattle.std.specs.Prelude.{cond, List, [], ◌∷◌, ◌++◌, ℕ, eqb, Result}
use Rattle.refusals.specs.declared.Refusal.{Refusal}
use Rattle.replies.specs.declared.Answer.{Answer}
use Rattle.replies.specs.declared.Figures.{Figures}
use Rattle.replies.specs.Figures.{figures_of}
use Rattle.state.specs.Replies.{Replies}
use Rattle.sheets.specs.declared.State.{State}
use Rattle.readings.specs.declared.SheetFigures.{SheetFigures}
use Rattle.readings.specs.Figures.{Reading, sheet_figures}
use Rattle.texts.specs.Texts.{Line}

-- the words, in ASCII
abbrev pub ONE : List ℕ
ONE = 79 ∷ 78 ∷ 69 ∷ []

abbrev pub SPLIT : List ℕ
SPLIT = 83 ∷ 80 ∷ 76 ∷ 73 ∷ 84 ∷ []

abbrev pub NO : List ℕ
NO = 78 ∷ 79 ∷ []

abbrev pub SHEET : List ℕ
SHEET = 83 ∷ 72 ∷ 69 ∷ 69 ∷ 84 ∷ []

-- the roots and densities that are printed, the gas side before the dense side
abbrev pub gas_side : Figures → List ℕ
gas_side figures = figures.gas_root ∷ figures.gas_density ∷ []

abbrev pub both_sides : Figures → List ℕ
both_sides figures = gas_side figures ++ (figures.dense_root ∷ figures.dense_density ∷ [])

-- the line of a reply, by its figures; kind 1 is ONE
abbrev pub FiguresText : Figures → (text : List ℕ) → Type 0
FiguresText figures text =
    cond (eqb figures.number 0)
    (cond (eqb figures.kind 1) (Line ONE (gas_side figures) text) (Line SPLIT (both_sides figures) text))
    (Line NO (figures.number ∷ []) text)

-- the line of a state is that of the reply to it
pub record LineText (state : State) (text : List ℕ) : Type 0 where
  pub reply : Result Answer Refusal
  pub replies : Replies state.fluid state.millikelvin state.pascals (figures_of reply)
  pub is_text : FiguresText (figures_of reply) text

-- what is printed of a fault, and its line
abbrev pub number_and_place : SheetFigures → List ℕ
number_and_place figures = figures.number ∷ figures.place ∷ []

abbrev pub FaultText : Reading → (text : List ℕ) → Type 0
FaultText reading text = Line SHEET (number_and_place (sheet_figures reading)) text
