-- docs/RULES.md, "The band": what `woolyard_band` leaves with its caller: the number and the two gas roots of the one reply.
use Rattle.std.specs.Prelude.{◌≡◌, List, ◌∷◌, [], ℕ}
use Rattle.bands.specs.declared.replies.BandFigures.{BandFigures}
use Rattle.bands.specs.Replies.{Replies}

-- at the lower scaling, at the upper
abbrev pub roots_of : BandFigures → List ℕ
roots_of figures = figures.at_lower ∷ figures.at_upper ∷ []

pub record BandAnswers (fluid millikelvin pascals lower upper number : ℕ) (roots : List ℕ) : Type 0 where
  pub figures : BandFigures
  pub replies : Replies fluid millikelvin pascals lower upper figures
  pub is_number : number ≡ figures.number
  pub is_roots : roots ≡ roots_of figures
