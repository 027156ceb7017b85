-- The same root as one works it out on paper, where the rest is carried and the next pair brought down beside it: that is what the code works
-- out by squaring. Assumes nothing.
use mathlib.Core.Path.{◌≡◌}
use Prim.Native.Nat.{ℕ, ◌+◌, ◌-◌, ◌*◌, ◌/◌, ◌%◌, ◌^◌, ◌<◌}
use native.Mathlib.Omega.{arith}
use Rattle.squares.specs.Inside.{AfterPairs, NextDigit, all_pairs, product}
use Rattle.squares.proofs.Pairs.{left_for, shorter, tens_fit, before_pairs, after_pair}

-- the root of the pairs taken, and the rest, which is what these have more than its square
pub record OnPaper (n pairs_left root rest : ℕ) : Type 0 where
  pub after : AfterPairs n pairs_left root
  pub is_rest : root * root + rest ≡ n / 100 ^ pairs_left

-- the next pair, brought down beside the rest
abbrev pub brought : ℕ → ℕ → ℕ → ℕ
brought n pairs_left rest = 100 * rest + n / 100 ^ pairs_left % 100

pub nothing_written : (n : ℕ) → n < 100 ^ all_pairs → OnPaper n all_pairs 0 0
nothing_written n few = record { after = before_pairs n few; is_rest = omega (arith, few) }

module _ (n pairs_left root rest : ℕ) (written : OnPaper n (pairs_left + 1) root rest) where
  pub beside_the_rest : brought n pairs_left rest ≡ left_for n pairs_left root
  beside_the_rest = omega (arith, shorter n pairs_left, written.is_rest)

  -- the digit's product is taken off what was left, and the rest is what then is
  pub next_line : {digit : ℕ} → NextDigit root (brought n pairs_left rest) digit → OnPaper n pairs_left (10 * root + digit) (brought n pairs_left rest - product root digit)
  next_line {digit} next = record {
    after = after_pair n pairs_left root written.after (rw beside_the_rest at next);
    is_rest = omega (arith, beside_the_rest, tens_fit n pairs_left root written.after, next.fits);
  }
