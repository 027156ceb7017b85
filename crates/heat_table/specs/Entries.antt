-- docs/RULES.md, "The heat table": hydrogen's ideal heat capacity at each whole kelvin from 14 to 1000, a whole number of J/(kg K). An entry is said
-- by its rule; the table that holds them all is a constant of the program.
use Rattle.std.specs.Prelude.{ℕ, ◌^◌, ◌≤◌}
use Rattle.heat.specs.Printed.{Row, Range, Within, printed}
use Rattle.heat_table.specs.Fractions.{Fraction, exactly, ◌⊕◌, ◌⊗◌, RoundedDown}

-- the whole kelvins of the table
abbrev pub first : ℕ
first = 14

abbrev pub last : ℕ
last = 1000

-- A1 + A2 T + A3 T^2 + A4 T^3 + A5 T^4, in kJ/(kg K)
unfoldable pub polynomial : Row → (kelvin : ℕ) → Fraction
polynomial row kelvin =
    exactly row.a1
    ⊕ exactly row.a2 ⊗ kelvin
    ⊕ exactly row.a3 ⊗ kelvin ^ 2
    ⊕ exactly row.a4 ⊗ kelvin ^ 3
    ⊕ exactly row.a5 ⊗ kelvin ^ 4

-- the exact polynomial with the decimals as they are printed, times 1000, rounded down
pub record Entry (kelvin heat : ℕ) : Type 0 where
  pub from_first : first ≤ kelvin
  pub to_last : kelvin ≤ last
  pub range : Range
  pub within : Within range kelvin 1
  pub is_rounded : RoundedDown (polynomial (printed range) kelvin ⊗ 1000) heat
