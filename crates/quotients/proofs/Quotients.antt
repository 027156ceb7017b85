-- When a number is the quotient: its product is at most n, and the next number's is above. Assumes nothing.
use Rattle.std.proofs.Common.{◌≡◌, ℕ, ◌/◌, ◌<◌, le-div_iff_mul-le, div-mul-le_self, arith}
use Rattle.quotients.specs.Quotient.{Quotient}

pub over_zero : {n divisor r : ℕ} → divisor ≡ 0 → r ≡ 0 → Quotient n divisor r
over_zero {n} {divisor} {r} none is_zero =
    record { product = rw is_zero (omega arith); largest = λ some k fits. omega arith; of_zero = λ same. is_zero }

module _ {n divisor : ℕ} (some : 0 < divisor) where
  pub divided : Quotient n divisor (n / divisor)
  divided = record {
    product = div-mul-le_self n divisor;
    largest = λ some k times. (le-div_iff_mul-le some).1 times;
    of_zero = λ none. omega arith;
  }
