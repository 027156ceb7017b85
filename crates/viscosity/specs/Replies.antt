-- docs/RULES.md, "Excess viscosity": what comes back, the factor or refusal 15 with zero, and when.
use Rattle.std.specs.Prelude.{◌≡◌, ℕ, Result, Ok, Err}
use Rattle.viscosity.specs.declared.replies.OutOfRange.{OutOfRange}
use Rattle.viscosity.specs.declared.replies.ExcessFigures.{ExcessFigures}
use Rattle.viscosity.specs.Factor.{Factor, InRange}

abbrev pub answered : (factor : ℕ) → ExcessFigures
answered factor = record { number = 0; factor = factor }

abbrev pub refused : ExcessFigures
refused = record { number = 15; factor = 0 }

abbrev pub figures_of : Result ℕ OutOfRange → ExcessFigures
figures_of (Ok factor) = answered factor
figures_of (Err out_of_range) = refused

-- what a density is told
pub data Replies (thousandths : ℕ) (figures : ExcessFigures) : Type 0 where
  answers : (factor : ℕ) → InRange thousandths → Factor thousandths factor → figures ≡ answered factor → Replies thousandths figures
  refuses : (InRange thousandths → ⊥) → figures ≡ refused → Replies thousandths figures
