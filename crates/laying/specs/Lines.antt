-- docs/RULES.md, "A sheet in parts": what is left with a caller of a state line that ended in a part of a sheet.
use Rattle.std.specs.Prelude.{◌≡◌, List, ◌∷◌, ℕ, replicate, Option, Some, None}
use Rattle.sheets.specs.declared.State.{State}
use Rattle.laying.specs.States.{StateAnswers}

-- fluid, temperature, pressure, and then what `woolyard_state` answers
pub record LineAnswered (state : State) (answer : List ℕ) : Type 0 where
  pub number : ℕ
  pub figures : List ℕ
  pub answers : StateAnswers state.fluid state.millikelvin state.pascals number figures
  pub is_answer : answer ≡ state.fluid ∷ state.millikelvin ∷ state.pascals ∷ number ∷ figures

-- where no state line ended
abbrev pub nine_zeros : List ℕ
nine_zeros = replicate 9 0

abbrev pub AnswersBrought : Option State → (answer : List ℕ) → Type 0
AnswersBrought (Some state) answer = LineAnswered state answer
AnswersBrought None answer = answer ≡ nine_zeros
