-- docs/RULES.md, "The heat table": exact fractions, rounded down. What is printed as a decimal is one, and so is what sums and products make of it.
use Rattle.std.specs.Prelude.{ℕ, ◌+◌, ◌*◌, ◌^◌, Bool, true, false, ℤ, pos, neg_ℤ, ◌+ℤ◌, ◌*ℤ◌, ◌≤ℤ◌, ◌<ℤ◌}
use Rattle.heat.specs.Printed.{Decimal}

-- numerator / denominator
pub record Fraction : Type 0 where
  pub numerator : ℤ
  pub denominator : ℕ

abbrev signed : (negative : Bool) (digits : ℕ) → ℤ
signed false digits = pos digits
signed true digits = neg_ℤ (pos digits)

abbrev pub exactly : Decimal → Fraction
exactly decimal = record { numerator = signed decimal.negative decimal.digits; denominator = 10 ^ decimal.places }

infixl 60 ◌⊕◌
abbrev pub ◌⊕◌ : Fraction → Fraction → Fraction
x ⊕ y =
    record {
      numerator = x.numerator *ℤ pos y.denominator +ℤ y.numerator *ℤ pos x.denominator;
      denominator = x.denominator * y.denominator;
    }

infixl 70 ◌⊗◌
abbrev pub ◌⊗◌ : Fraction → ℕ → Fraction
x ⊗ n = record { numerator = x.numerator *ℤ pos n; denominator = x.denominator }

-- n is at most the fraction, and n + 1 is more
pub record RoundedDown (x : Fraction) (n : ℕ) : Type 0 where
  pub at_most : pos (n * x.denominator) ≤ℤ x.numerator
  pub next_is_more : x.numerator <ℤ pos ((n + 1) * x.denominator)
