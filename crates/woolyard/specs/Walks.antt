-- docs/RULES.md, "The walk": what `woolyard_walk` leaves with its caller: the number, the gas root and the count of the one reply.
use Rattle.std.specs.Prelude.{◌≡◌, List, ◌∷◌, [], ℕ}
use Rattle.walks.specs.declared.replies.WalkFigures.{WalkFigures}
use Rattle.walks.specs.Replies.{Replies}

-- gas root, how many values of g were worked out
abbrev pub walked_of : WalkFigures → List ℕ
walked_of figures = figures.gas_root ∷ figures.values ∷ []

pub record WalkAnswers (fluid millikelvin pascals limit number : ℕ) (walked : List ℕ) : Type 0 where
  pub figures : WalkFigures
  pub replies : Replies fluid millikelvin pascals limit figures
  pub is_number : number ≡ figures.number
  pub is_walked : walked ≡ walked_of figures
