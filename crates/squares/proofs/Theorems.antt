-- Every number has one square root. Assumes nothing.
use mathlib.Core.Path.{◌≡◌}
use Prim.Native.Nat.{ℕ, zero, suc, ◌+◌, ◌*◌, ◌<◌}
use native.Mathlib.Nat.{le_antisymm}
use native.Mathlib.Omega.{arith}
use native.Mathlib.Decide.{dec_lt}
use Rattle.numbers.proofs.Search.{least}
use Rattle.squares.specs.SquareRoot.{SquareRoot}
use Rattle.squares.proofs.Squares.{square_root}

-- two answers that keep what `square_root` promises are equal
pub square_root_determined : {n r s : ℕ} → SquareRoot n r → SquareRoot n s → r ≡ s
square_root_determined {r = r} {s} p q = le_antisymm (q.largest r p.square) (p.largest s q.square)

-- a root is the least number whose successor's square is above n
module _ (n : ℕ) where
  abbrev Above : ℕ → Type 0
  Above k = n < (k + 1) * (k + 1)

  from_least : (k : ℕ) → Above k → ((y : ℕ) → y < k → Above y → ⊥) → (root : ℕ) × SquareRoot n root
  from_least zero above none = (zero, square_root (omega arith) above)
  from_least (suc k) above none = (suc k, square_root (omega (arith, none k (omega arith))) above)

  pub square_root_exists : (root : ℕ) × SquareRoot n root
  square_root_exists =
      let found = least Above (λ k. dec_lt n ((k + 1) * (k + 1))) n (omega arith) in
      from_least found.at found.holds found.none_before
