-- Which digit comes next: the products rise with the digit, so it is 9 less the number of those that are too large. Assumes nothing.
use mathlib.Core.Path.{◌≡◌}
use Prim.Native.Nat.{ℕ, ◌+◌, ◌-◌, ◌*◌, ◌≤◌, ◌<◌}
use native.Mathlib.Nat.{lt_of_not-le, mul-le-mul}
use native.Mathlib.Omega.{arith}
use Rattle.squares.specs.Inside.{ForOneDigit, NextDigit, product}

rises : (root : ℕ) {k m : ℕ} → k ≤ m → product root k ≤ product root m
rises root {k} {m} less =
    let factor : 20 * root + k ≤ 20 * root + m = omega arith in
    mul-le-mul factor less

-- a digit that fits is below one that is too large
below : (root left k m : ℕ) → product root k ≤ left → left < product root m → k < m
below root left k m fits too_large = lt_of_not-le (λ above. omega (arith, rises root above))

pub next_digit : (root left digit : ℕ) → product root digit ≤ left → left < product root (digit + 1) → NextDigit root left digit
next_digit root left digit fits too_large =
    record { fits = fits; largest = λ k fits. omega (arith, below root left k (digit + 1) fits too_large) }

pub is_digit : {root left digit : ℕ} → ForOneDigit root left → NextDigit root left digit → digit ≤ 9
is_digit {root} {left} {digit} asked next = omega (arith, below root left digit 10 next.fits asked.below_ten)

-- Of the digits below `tried` those up to `last` fit and the others are too large; for each of these one is taken off 9.
pub record Counted (root left tried digit last : ℕ) : Type 0 where
  pub to : tried ≤ 10
  pub under : last < tried
  pub count : last + 10 ≡ tried + digit
  pub fits : product root last ≤ left
  pub largest : (k : ℕ) → k < tried → product root k ≤ left → k ≤ last

module _ {root left tried digit last : ℕ} (counted : Counted root left tried digit last) (more : tried < 10) where
  pub one_too_large : left < product root tried → Counted root left (tried + 1) (digit - 1) last
  one_too_large too_large = record {
    to = omega arith;
    under = omega (arith, counted.under);
    count = omega (arith, counted.under, counted.count);
    fits = counted.fits;
    largest = λ k few fits. counted.largest k (below root left k tried fits too_large) fits;
  }

  -- each digit below one that fits does too, so that none has been taken off
  pub one_fits : product root tried ≤ left → Counted root left (tried + 1) digit tried
  one_fits fits =
      let before : product root (tried - 1) ≤ left = omega (arith, rises root {k = tried - 1} {m = tried} (omega arith)) in
      let at_last : tried - 1 ≤ last = counted.largest (tried - 1) (omega (arith, counted.under)) before in
      record {
        to = omega arith;
        under = omega arith;
        count = omega (arith, counted.under, counted.count, at_last);
        fits = fits;
        largest = λ k few fits. omega arith;
      }
