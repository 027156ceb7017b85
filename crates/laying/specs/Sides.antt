-- docs/RULES.md, "Sides": what `woolyard_side` and `woolyard_side_with_book` leave with their caller: the number of the reply, the side's root and density, and
-- the book.
use Rattle.std.specs.Prelude.{◌≡◌, List, ◌∷◌, [], ℕ, Result}
use Rattle.refusals.specs.declared.Refusal.{Refusal}
use Rattle.replies.specs.declared.sides.SideAnswer.{SideAnswer}
use Rattle.replies.specs.declared.sides.SideFigures.{SideFigures}
use Rattle.replies.specs.Sides.{side_figures_of}
use Rattle.state.specs.Replies.{RepliesForSide}
use Rattle.state.specs.Book.{CalledForSide}

-- root, density
abbrev pub two_of : SideFigures → List ℕ
two_of figures = figures.root ∷ figures.density ∷ []

pub record SideLaid (reply : Result SideAnswer Refusal) (number : ℕ) (figures : List ℕ) : Type 0 where
  pub is_number : number ≡ (side_figures_of reply).number
  pub is_figures : figures ≡ two_of (side_figures_of reply)

pub record SideAnswers (fluid millikelvin pascals side number : ℕ) (figures : List ℕ) : Type 0 where
  pub reply : Result SideAnswer Refusal
  pub replies : RepliesForSide fluid millikelvin pascals side (side_figures_of reply)
  pub laid : SideLaid reply number figures

pub record SideBookAnswers (fluid millikelvin pascals side slot : ℕ) (before : List ℕ) (number : ℕ) (figures after : List ℕ) : Type 0 where
  pub reply : Result SideAnswer Refusal
  pub called : CalledForSide fluid millikelvin pascals side slot before (side_figures_of reply) after
  pub laid : SideLaid reply number figures
