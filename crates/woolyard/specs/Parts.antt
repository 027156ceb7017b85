-- docs/RULES.md, "A sheet in parts": what `woolyard_parts_take` and `woolyard_parts_end` leave with their caller. The part itself is only read.
use Rattle.std.specs.Prelude.{◌≡◌, List, ◌∷◌, [], ℕ}
use Rattle.readings.specs.declared.SheetFigures.{SheetFigures}
use Rattle.readings.specs.Figures.{sheet_figures}
use Rattle.parts.specs.declared.Taken.{Taken}
use Rattle.parts.specs.Takes.{Takes, number_of, over}
use Rattle.kept.specs.Numbers.{reader_of, numbers_of}
use Rattle.laying.specs.Lines.{AnswersBrought}

pub record TakeAnswers (before part : List ℕ) (number : ℕ) (after : List ℕ) (taken : ℕ) (answer : List ℕ) : Type 0 where
  pub reply : Taken
  pub takes : Takes (reader_of before) part reply
  pub is_number : number ≡ number_of reply.brought reply.reader
  pub is_after : after ≡ numbers_of reply.reader
  pub is_taken : taken ≡ reply.taken
  pub brings : AnswersBrought reply.brought answer

-- state lines, place
abbrev pub two_figures_of : SheetFigures → List ℕ
two_figures_of figures = figures.state_lines ∷ figures.place ∷ []

pub record EndAnswers (parts : List ℕ) (number : ℕ) (reading : List ℕ) : Type 0 where
  pub is_number : number ≡ (sheet_figures (over (reader_of parts))).number
  pub is_reading : reading ≡ two_figures_of (sheet_figures (over (reader_of parts)))
