-- The line of a state, and that of a fault, is fixed. Assumes nothing.
use mathlib.Core.Path.{◌≡◌, subst}
use mathlib.Core.List.{[], ◌∷◌}
use lib.Dec.{eqb}
use Rattle.std.specs.Prelude.{Result}
use Rattle.refusals.specs.declared.Refusal.{Refusal}
use Rattle.replies.specs.declared.Answer.{Answer}
use Rattle.replies.specs.declared.Figures.{Figures}
use Rattle.replies.specs.Figures.{figures_of}
use Rattle.state.proofs.Theorems.{reply_determined}
use Rattle.sheets.specs.declared.State.{State}
use Rattle.readings.specs.Figures.{Reading, sheet_figures}
use Rattle.texts.specs.declared.Text.{Text}
use Rattle.texts.specs.Buffer.{bytes_of, Written}
use Rattle.texts.proofs.Theorems.{Once, either_once, line_once}
use Rattle.wording.specs.Wording.{ONE, SPLIT, NO, SHEET, gas_side, both_sides, number_and_place, FiguresText, LineText, FaultText}

figures_once : (figures : Figures) → Once (FiguresText figures)
figures_once figures =
    either_once (eqb figures.number 0)
    (either_once (eqb figures.kind 1) (line_once ONE (gas_side figures)) (line_once SPLIT (both_sides figures)))
    (line_once NO (figures.number ∷ []))

pub state_once : (state : State) → Once (LineText state)
state_once state text text' one other =
    let same = reply_determined state.fluid state.millikelvin state.pascals one.reply other.reply one.replies other.replies in
    figures_once (figures_of other.reply) text text' (subst (λ (reply : Result Answer Refusal). FiguresText (figures_of reply) text) same one.is_text) other.is_text

pub fault_once : (fault : Reading) → Once (FaultText fault)
fault_once fault = line_once SHEET (number_and_place (sheet_figures fault))

pub state_text_determined : (state : State) (text text' : Text) → Written (LineText state) text → Written (LineText state) text' → bytes_of text ≡ bytes_of text'
state_text_determined state text text' one other = state_once state (bytes_of text) (bytes_of text') one.is_line other.is_line

pub fault_text_determined : (fault : Reading) (text text' : Text) → Written (FaultText fault) text → Written (FaultText fault) text' → bytes_of text ≡ bytes_of text'
fault_text_determined fault text text' one other = fault_once fault (bytes_of text) (bytes_of text') one.is_line other.is_line
