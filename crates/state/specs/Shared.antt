-- docs/RULES.md, "The book": calls of both forms made one after another on one book, however it is laid out, and the same calls made each alone.
use Rattle.std.specs.Prelude.{◌≡◌, List, [], ◌∷◌, ℕ, Result}
use Rattle.refusals.specs.declared.Refusal.{Refusal}
use Rattle.books.specs.Layouts.{Layout}
use Rattle.calls.specs.declared.Form.{Form}
use Rattle.calls.specs.declared.Form.TheVariants.{Whole, Side}
use Rattle.replies.specs.declared.Answer.{Answer}
use Rattle.replies.specs.declared.sides.SideAnswer.{SideAnswer}
use Rattle.replies.specs.declared.Figures.{Figures}
use Rattle.replies.specs.Figures.{figures_of}
use Rattle.replies.specs.Sides.{figures_for, side_figures_of}
use Rattle.state.specs.Book.{CalledAs}

pub record Call : Type 0 where
  pub fluid : ℕ
  pub millikelvin : ℕ
  pub pascals : ℕ
  pub form : Form
  pub slot : ℕ

-- what comes back of a call, by its form: all figures of a reply, or those for a side
abbrev pub AnswerTo : Form → Type 0
AnswerTo Whole = Result Answer Refusal
AnswerTo (Side side) = Result SideAnswer Refusal

abbrev pub Shows : (form : Form) → AnswerTo form → Figures → Type 0
Shows Whole reply figures = figures_of reply ≡ figures
Shows (Side side) reply figures = side_figures_of reply ≡ figures_for side figures

-- a call on a book gets an answer, and leaves some book
pub record Gets (layout : Layout) (call : Call) (book : List ℕ) (answer : AnswerTo call.form) : Type 0 where
  pub figures : Figures
  pub after : List ℕ
  pub called : CalledAs layout call.form call.fluid call.millikelvin call.pascals call.slot book figures after
  pub shows : Shows call.form answer figures

-- an answer to each call
abbrev pub Answers : List Call → Type 0
Answers [] = Unit {0}
Answers (call ∷ calls) = AnswerTo call.form × Answers calls

-- each call finds the book as the one before it left it, and the last one leaves the book after
abbrev pub Shared : Layout → (book : List ℕ) (calls : List Call) → Answers calls → (after : List ℕ) → Type 0
Shared layout book [] answers after = after ≡ book
Shared layout book (call ∷ calls) answers after = (gets : Gets layout call book answers.0) × Shared layout gets.after calls answers.1 after

-- each call finds the book as given
abbrev pub Alone : Layout → (book : List ℕ) (calls : List Call) → Answers calls → Type 0
Alone layout book [] answers = Unit {0}
Alone layout book (call ∷ calls) answers = Gets layout call book answers.0 × Alone layout book calls answers.1
