-- TM-564, (2.12-2), and docs/RULES.md, "Excess viscosity": the quartic of the reduced density, worked out exactly and rounded down to millionths.
use Rattle.std.specs.Prelude.{ℕ, ◌+◌, ◌*◌, ℤ, pos, ◌+ℤ◌, ◌-ℤ◌, ◌*ℤ◌, ◌≤ℤ◌, ◌<ℤ◌}

-- 0.093324 x^4 - 0.40758 x^3 + 0.58533 x^2 + 0.23364 x + 1.0230 as it is printed, its coefficients in millionths, at the reduced density
-- x / n: times n^4, so that it is a whole number
unfoldable pub polynomial : ℤ → ℤ → ℤ
polynomial n x =
    pos 93324 *ℤ x *ℤ x *ℤ x *ℤ x
    -ℤ pos 407580 *ℤ n *ℤ x *ℤ x *ℤ x
    +ℤ pos 585330 *ℤ n *ℤ n *ℤ x *ℤ x
    +ℤ pos 233640 *ℤ n *ℤ n *ℤ n *ℤ x
    +ℤ pos 1023000 *ℤ n *ℤ n *ℤ n *ℤ n

-- a reduced density is in thousandths
abbrev pub thousand : ℕ
thousand = 1000

-- the exact quartic in millionths is this fraction
unfoldable pub numerator : (thousandths : ℕ) → ℤ
numerator thousandths = polynomial (pos thousand) (pos thousandths)

abbrev pub denominator : ℕ
denominator = thousand * thousand * thousand * thousand

-- y is that fraction rounded down: it is at most the fraction, and y + 1 is more
pub record RoundedDown (thousandths y : ℕ) : Type 0 where
  pub at_most : pos (y * denominator) ≤ℤ numerator thousandths
  pub next_is_more : numerator thousandths <ℤ pos ((y + 1) * denominator)
