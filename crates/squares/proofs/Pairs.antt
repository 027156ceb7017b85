-- Why the recursion is right: with each pair of n's digits the root gets a digit more, and stays the square root of the pairs taken. Assumes
-- nothing.
use mathlib.Core.Path.{◌≡◌}
use Prim.Native.Nat.{ℕ, ◌+◌, ◌-◌, ◌*◌, ◌/◌, ◌^◌, ◌≤◌, ◌<◌}
use native.Mathlib.Nat.{lt_of_not-le, div-le_self, div-one, div-div-eq-div-mul}
use native.Mathlib.Omega.{arith}
use lib.Pow.{pow-add}
use Rattle.squares.specs.SquareRoot.{SquareRoot}
use Rattle.squares.specs.Inside.{AfterPairs, ForOneDigit, NextDigit, all_pairs, largest_root, product}
use Rattle.squares.proofs.Squares.{root_below, square_root, next_square}

-- before a pair is taken
pub before_pairs : (n : ℕ) → n < 100 ^ all_pairs → AfterPairs n all_pairs 0
before_pairs n few =
    let none : n / 100 ^ all_pairs ≡ 0 = omega (arith, few) in
    record { of_all = omega arith; is_root = rw none (square_root (omega arith) (omega arith)) }

-- after the first
pub after_first : {n pair root : ℕ} → pair ≡ n / 100 ^ 4 → SquareRoot pair root → AfterPairs n 4 root
after_first is_pair is_root = record { of_all = omega arith; is_root = rw is_pair at is_root }

-- what the pairs up to the next one have more than the square of ten times the root
abbrev pub left_for : ℕ → ℕ → ℕ → ℕ
left_for n pairs_left root = n / 100 ^ pairs_left - (10 * root) * (10 * root)

pub shorter : (n pairs_left : ℕ) → n / 100 ^ pairs_left / 100 ≡ n / 100 ^ (pairs_left + 1)
shorter n pairs_left = rw (pow-add 100 pairs_left 1) (div-div-eq-div-mul n (100 ^ pairs_left) 100)

module _ (n pairs_left root : ℕ) (after : AfterPairs n (pairs_left + 1) root) where
  -- ten times a root has a hundred times its square
  pub tens_fit : (10 * root) * (10 * root) ≤ n / 100 ^ pairs_left
  tens_fit = omega (arith, shorter n pairs_left, after.is_root.square)

  -- too little is left for ten, or the root would not be the largest
  pub for_one_digit : n < (largest_root + 1) * (largest_root + 1) → ForOneDigit root (left_for n pairs_left root)
  for_one_digit small = record {
    root_to = omega (arith, root_below root (largest_root + 1) (omega (arith, after.is_root.square, div-le_self n (100 ^ (pairs_left + 1)))));
    below_ten = omega (arith, shorter n pairs_left, tens_fit, next_square after.is_root);
  }

  -- (10 r + d) (10 r + d) = 100 r r + (20 r + d) d
  pub after_pair : {digit : ℕ} → NextDigit root (left_for n pairs_left root) digit → AfterPairs n pairs_left (10 * root + digit)
  after_pair {digit} next =
      let too_large : left_for n pairs_left root < product root (digit + 1) = lt_of_not-le (λ fits. omega (arith, next.largest (digit + 1) fits)) in
      record {
        of_all = omega (arith, after.of_all);
        is_root = square_root (omega (arith, tens_fit, next.fits)) (omega (arith, tens_fit, too_large));
      }

-- after all of them
pub after_all : {n pairs_left root : ℕ} → pairs_left ≡ 0 → AfterPairs n pairs_left root → SquareRoot n root
after_all {n} none after = rw (div-one n) at (rw none at after.is_root)
