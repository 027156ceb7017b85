-- docs/RULES.md, "Sides": a caller names a side, gas or dense, and gets what the whole reply has for it, its root and its density.
use Rattle.std.specs.Prelude.{◌≡◌, ℕ, zero, suc, Result, Ok, Err}
use Rattle.refusals.specs.declared.Refusal.{Refusal}
use Rattle.refusals.specs.Numbers.{number_of_refusal}
use Rattle.replies.specs.declared.Figures.{Figures}
use Rattle.replies.specs.declared.sides.SideAnswer.{SideAnswer}
use Rattle.replies.specs.declared.sides.SideFigures.{SideFigures}

-- the sides' numbers
abbrev pub gas : ℕ
gas = 0

abbrev pub dense : ℕ
dense = 1

-- Of two figures that for a side. A side that is neither gas nor dense is refused, and then both figures are zeros.
abbrev pub for_side : (side of_gas of_dense : ℕ) → ℕ
for_side zero of_gas of_dense = of_gas
for_side (suc side) of_gas of_dense = of_dense

-- what a whole reply has for a side
abbrev pub figures_for : (side : ℕ) → Figures → SideFigures
figures_for side whole =
    record {
      number = whole.number;
      root = for_side side whole.gas_root whole.dense_root;
      density = for_side side whole.gas_density whole.dense_density;
    }

-- a side is told what a whole reply, of which this holds, has for it
pub record SideOf (side : ℕ) (Holds : Figures → Type 0) (told : SideFigures) : Type 0 where
  pub whole : Figures
  pub holds : Holds whole
  pub is_told : told ≡ figures_for side whole

abbrev pub side_refused_with : (refusal : ℕ) → SideFigures
side_refused_with refusal = record { number = refusal; root = 0; density = 0 }

abbrev pub side_figures_of : Result SideAnswer Refusal → SideFigures
side_figures_of (Ok answer) = record { number = 0; root = answer.root; density = answer.density }
side_figures_of (Err refusal) = side_refused_with (number_of_refusal refusal)
