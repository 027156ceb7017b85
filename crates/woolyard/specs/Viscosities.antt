-- docs/RULES.md, "Excess viscosity": what `woolyard_viscosity` leaves with its caller: the number and the factor of the one reply, as they are.
use Rattle.std.specs.Prelude.{ℕ}
use Rattle.viscosity.specs.Replies.{Replies}

abbrev pub ViscosityAnswers : (thousandths number factor : ℕ) → Type 0
ViscosityAnswers thousandths number factor = Replies thousandths (record { number = number; factor = factor })
