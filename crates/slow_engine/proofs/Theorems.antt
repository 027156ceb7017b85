-- What `walk` promises fixes its answer; and how long the way to a gas root is, at most. Assumes nothing.
use mathlib.Core.Path.{◌≡◌, refl, sym, ap, ap₂, ◌∙◌}
use Prim.Native.Nat.{ℕ, ◌+◌, ◌≤◌}
use native.Mathlib.Nat.{mul-le-mul_left}
use native.Mathlib.Omega.{arith}
use Rattle.numbers.proofs.Squares.{twice_product}
use Rattle.std.specs.Prelude.{Result, Ok, Err}
use Rattle.cubic.specs.Cubic.{N, GasRoot}
use Rattle.cubic.specs.Promise.{largest_a}
use Rattle.cubic.specs.Sides.{plus, minus, PositiveFrom}
use Rattle.cubic.proofs.Roots.{gas_root}
use Rattle.cubic.proofs.Theorems.{gas_root_unique, crossing_from_b, crossing_on_grid}
use Rattle.slow_engine.specs.declared.Walked.{Walked}
use Rattle.slow_engine.specs.declared.WalkError.{WalkError}
use Rattle.slow_engine.specs.declared.WalkError.TheVariants.{CutShort, OutOfBounds}
use Rattle.slow_engine.specs.Promise.{way, Walks}

-- the count and the place together are N + b + 1: nothing is lost in the difference
pub way_and_root : (a b gas : ℕ) → GasRoot a b gas → way b gas + gas ≡ N + b + 1
way_and_root a b gas root = omega (arith, crossing_on_grid a b gas root.crossing)

-- no gas root lies below b, so N + 1 values suffice for each
pub longest_way : (a b gas : ℕ) → GasRoot a b gas → way b gas ≤ N + 1
longest_way a b gas root = omega (arith, crossing_from_b a b gas root.crossing)

-- and fewer do not: here the gas root is b itself
pub no_fewer_suffice : GasRoot largest_a 1 1 × (way 1 1 ≡ N + 1)
unfolding plus minus PositiveFrom
no_fewer_suffice = (gas_root largest_a 1 (omega arith) (λ y above. omega (arith, mul-le-mul_left y (twice_product y 50000))), refl)

module _ (a b limit : ℕ) where
  pub walk_determined : (r s : Result Walked WalkError) → Walks a b limit r → Walks a b limit s → r ≡ s
  walk_determined (Ok walk) (Ok other) p q =
      let same : walk.gas ≡ other.gas = gas_root_unique a b p.is_gas q.is_gas in
      ap₂ (λ gas values. Ok (record { gas = gas; values = values })) same (p.is_way ∙ ap (way b) same ∙ sym q.is_way)
  walk_determined (Ok walk) (Err (CutShort values)) p q = absurd (omega (arith, p.suffices, q.too_few walk.gas p.is_gas))
  walk_determined (Ok walk) (Err OutOfBounds) p q = absurd (q p.within)
  walk_determined (Err (CutShort values)) (Ok walk) p q = absurd (omega (arith, q.suffices, p.too_few walk.gas q.is_gas))
  walk_determined (Err (CutShort values)) (Err (CutShort values')) p q = ap (λ n. Err (CutShort n)) (p.is_limit ∙ sym q.is_limit)
  walk_determined (Err (CutShort values)) (Err OutOfBounds) p q = absurd (q p.within)
  walk_determined (Err OutOfBounds) (Ok walk) p q = absurd (p q.within)
  walk_determined (Err OutOfBounds) (Err (CutShort values)) p q = absurd (p q.within)
  walk_determined (Err OutOfBounds) (Err OutOfBounds) p q = refl
