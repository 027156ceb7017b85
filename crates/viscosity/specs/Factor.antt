-- docs/RULES.md, "Excess viscosity": the factor, what (2.12-2) has in braces, in millionths. The fourth power is two squares, each rounded down.
use Rattle.std.specs.Prelude.{◌≡◌, ℕ, ◌+◌, ◌*◌, ◌/◌, ◌≤◌}
use Rattle.viscosity.specs.Quartic.{RoundedDown}

-- 1 in millionths
abbrev pub million : ℕ
million = 1000000

-- the square, over 1,000,000 and rounded down
unfoldable pub squared : ℕ → ℕ
squared y = y * y / million

-- the fourth power of the quartic, less 1
pub record Factor (thousandths factor : ℕ) : Type 0 where
  pub y : ℕ
  pub is_y : RoundedDown thousandths y
  pub is_factor : factor + million ≡ squared (squared y)

-- where the formula is used, in thousandths, ends included
abbrev pub thinnest : ℕ
thinnest = 100

abbrev pub densest : ℕ
densest = 3000

pub record InRange (thousandths : ℕ) : Type 0 where
  pub not_thinner : thinnest ≤ thousandths
  pub not_denser : thousandths ≤ densest
