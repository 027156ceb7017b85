-- docs/RULES.md, "Replies" and "The book": what `woolyard_state` and `woolyard_state_with_book` leave with their caller: the number of the reply, its five figures in their
-- order, and the book.
use Rattle.std.specs.Prelude.{◌≡◌, List, ◌∷◌, [], ℕ, Result}
use Rattle.refusals.specs.declared.Refusal.{Refusal}
use Rattle.replies.specs.declared.Answer.{Answer}
use Rattle.replies.specs.declared.Figures.{Figures}
use Rattle.replies.specs.Figures.{figures_of}
use Rattle.state.specs.Replies.{Replies}
use Rattle.state.specs.Book.{Called}

-- kind, gas root, dense root, gas density, dense density
abbrev pub five_of : Figures → List ℕ
five_of figures = figures.kind ∷ figures.gas_root ∷ figures.dense_root ∷ figures.gas_density ∷ figures.dense_density ∷ []

pub record Laid (reply : Result Answer Refusal) (number : ℕ) (figures : List ℕ) : Type 0 where
  pub is_number : number ≡ (figures_of reply).number
  pub is_figures : figures ≡ five_of (figures_of reply)

pub record StateAnswers (fluid millikelvin pascals number : ℕ) (figures : List ℕ) : Type 0 where
  pub reply : Result Answer Refusal
  pub replies : Replies fluid millikelvin pascals (figures_of reply)
  pub laid : Laid reply number figures

pub record BookAnswers (fluid millikelvin pascals slot : ℕ) (before : List ℕ) (number : ℕ) (figures after : List ℕ) : Type 0 where
  pub reply : Result Answer Refusal
  pub called : Called fluid millikelvin pascals slot before (figures_of reply) after
  pub laid : Laid reply number figures
