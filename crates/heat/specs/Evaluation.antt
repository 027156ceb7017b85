-- docs/RULES.md, "Hydrogen's ideal heat capacity": start at A5 and, for A4 down to A1, multiply by T and then add, each operation rounded once.
use Rattle.std.specs.Prelude.{Float}
use Rattle.std.specs.Float.{binary64}
use Rattle.std.specs.Float.Ieee.{add, mul}
use Rattle.heat.specs.declared.table.Coefficients.{Coefficients}

unfoldable pub step : (kelvin sum next : Float) → Float
step kelvin sum next = add binary64 (mul binary64 sum kelvin) next

unfoldable pub evaluated : Coefficients → Float → Float
evaluated row kelvin = step kelvin (step kelvin (step kelvin (step kelvin row.a5 row.a4) row.a3) row.a2) row.a1
